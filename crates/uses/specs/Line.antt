-- Texts with and without a line feed at their end.
use Rattle.std.specs.Prelude.{◌≡◌, ◌≢◌, ℕ, List, ◌++◌, ◌⊎◌, codes}
use Rattle.uses.specs.Common.{Cause, IsSentenceOf, IsRead, IsRefused, Rules}

abbrev pub with_line_feed : List ℕ → List ℕ
with_line_feed text = text ++ codes "\n"

-- The text is the line without the line feed at its end, or the whole line if it has none.
abbrev pub IsWithoutLineFeed : List ℕ → List ℕ → Type 0
IsWithoutLineFeed line text =
    (line ≡ with_line_feed text) ⊎ ((text ≡ line) × ((front : List ℕ) → line ≢ with_line_feed front))

-- By all rules, if the old text is read, the new one is read as the same value. If the old text is
-- an expression and is refused, the new one is refused for the same cause.
pub record IsReadAsBefore (old new : List ℕ) : Type 0 where
  pub value : (r : Rules) (nanos : ℕ) → IsRead r old nanos → IsRead r new nanos
  pub cause : (r : Rules) (lexemes : List (List ℕ)) (cause : Cause) → IsSentenceOf r lexemes old
      → IsRefused r old cause → IsRefused r new cause
