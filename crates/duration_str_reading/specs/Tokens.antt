-- The tokens of a text: the longest runs of digits and of unit letters, and other single characters
-- except blanks.
use Rattle.std.specs.Prelude.{ℕ, ◌+◌, Bool, false, ◌&&◌, ◌||◌, List, [], ◌∷◌, if◌then◌else◌, map}
use Rattle.duration_str_base.specs.declared.options.Options.{Options}
use Rattle.duration_str_base.specs.Text.{Characters, width, is_blank, is_digit, is_unit_letter}

-- a token: the byte at which it starts, and its characters
pub record Token : Type 0 where
  pub start : ℕ
  pub characters : Characters

-- whether both characters are digits, or both are unit letters
abbrev pub are_of_one_run : Options → ℕ → ℕ → Bool
are_of_one_run o c d = (is_digit c && is_digit d) || (is_unit_letter o c && is_unit_letter o d)

-- whether the run of the character c continues in the text after it
abbrev pub goes_on : Options → ℕ → Characters → Bool
goes_on o c [] = false
goes_on o c (d ∷ _) = are_of_one_run o c d

-- these tokens, the first of which now begins with the character c, at byte `at`. If there are
-- none, c is the only token
abbrev pub with_first_character : ℕ → ℕ → List Token → List Token
with_first_character at c [] = record { start = at; characters = c ∷ [] } ∷ []
with_first_character at c (token ∷ tokens) = record { start = at; characters = c ∷ token.characters } ∷ tokens

-- the tokens of a text that starts at byte `at`. A blank is in no token. A character whose run
-- continues is in the same token as the next character. Any other character is the last one of its
-- token
abbrev pub tokens_from : Options → ℕ → Characters → List Token
tokens_from o at [] = []
tokens_from o at (c ∷ text) =
    if is_blank c then tokens_from o (at + width c) text
    else if goes_on o c text then with_first_character at c (tokens_from o (at + width c) text)
    else record { start = at; characters = c ∷ [] } ∷ tokens_from o (at + width c) text

-- the tokens of a text
abbrev pub tokens_of : Options → Characters → List Token
tokens_of o text = tokens_from o 0 text

-- the characters of each token
abbrev pub lexemes_of : List Token → List Characters
lexemes_of tokens = map (λ token. token.characters) tokens
