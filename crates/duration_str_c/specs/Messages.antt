-- The message about a refused text, in a caller's buffer.
use Rattle.std.specs.Prelude.{◌≡◌, ℕ, ◌+◌, ◌^◌, ◌-◌, ◌<◌, ◌≤◌, List, [], ◌∷◌, ◌++◌, length, drop, min, codes}
use Rattle.duration_str_base.specs.declared.cause.Cause.{Cause}
use Rattle.duration_str_c.specs.Answers.{IsTold}

-- `len` is the number of the bytes, but at most 2^64 - 1. If there is room for the bytes and a
-- zero, they are at the start of the buffer, and the rest of the buffer is unchanged. Otherwise the
-- whole buffer is unchanged.
abbrev pub IsShown : List ℕ → List ℕ → ℕ → List ℕ → Type 0
IsShown bytes old len new =
    (len ≡ min (length bytes) (2 ^ 64 - 1))
    × (length bytes < length old → new ≡ bytes ++ (0 ∷ drop (length bytes + 1) old))
    × (length old ≤ length bytes → new ≡ old)

-- The buffer shows the text for the case that applies. If the bytes are refused for a cause, it is
-- the text that `shown` gives. If they are read, it is the empty text.
abbrev pub ShowsRefusal : (Cause → List ℕ) → ℕ → List ℕ → List ℕ → ℕ → List ℕ → Type 0
ShowsRefusal shown bits bytes old len new =
    IsTold (IsShown (codes "unknown option") old len new) (IsShown (codes "not UTF-8") old len new)
    (λ nanos. IsShown [] old len new) (λ cause. IsShown (shown cause) old len new) bits bytes

-- The last of the four cases does not apply. The line says that an option is unknown or that the
-- bytes are not UTF-8, or it is empty if the bytes are read.
abbrev pub IsSaidOf : ℕ → List ℕ → List ℕ → Type 0
IsSaidOf bits bytes line =
    IsTold (line ≡ codes "unknown option") (line ≡ codes "not UTF-8") (λ nanos. line ≡ []) (λ cause. ⊥) bits bytes
