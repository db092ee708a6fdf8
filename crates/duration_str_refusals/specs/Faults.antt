-- The place of a fault, and the token there.
use denote.Ref.{Bor}
use Rattle.std.specs.Prelude.{◌≡◌, ℕ, ◌+◌, ◌==◌, ◌↔◌, List, [], ◌∷◌, length, drop, find, Option, Some, None, IsNone, slice_range, chars}
use Rattle.std.specs.List.{take_while}
use Rattle.duration_str_base.specs.declared.options.Options.{Options}
use Rattle.duration_str_base.specs.Text.{Bytes, Characters, byte_len}
use Rattle.duration_str_reading.specs.Tokens.{Token, are_of_one_run, tokens_of}
use Rattle.duration_str_base.specs.Rules.{Rules}
use Rattle.duration_str_reading.specs.Reading.{IsRefused}
use Rattle.duration_str_base.specs.declared.cause.Expected.{Expected}
use Rattle.duration_str_base.specs.declared.cause.Cause.{Cause}
use Rattle.duration_str_base.specs.declared.cause.Cause.TheVariants.{Syntax}

abbrev pub token_at : ℕ → List Token → Option Token
token_at place tokens = find (λ p. p.start == place) tokens

-- the token that starts at the place of a syntax fault, if there is one
abbrev pub found_token : Options → Characters → Cause → Option Token
found_token o text (Syntax place expected) = token_at place (tokens_of o text)
found_token o text cause = None

-- the longest run of digits or of unit letters that the text begins with, or its first character
abbrev pub first_run : Options → Characters → Characters
first_run o [] = []
first_run o (c ∷ text) = c ∷ take_while (are_of_one_run o c) text

-- the run that starts at the place of a syntax fault, given the bytes of the text
abbrev pub run_at : Options → Bytes → Cause → Characters
run_at o text (Syntax place expected) = first_run o (chars (drop place text))
run_at o text cause = []

-- The result is this token as a slice of the bytes, or `None` if there is no token.
abbrev pub IsSliceOf : Bytes → Option Token → Option (Bor Bytes) → Type 0
IsSliceOf bytes token None = token ≡ None
IsSliceOf bytes token (Some slice) =
    (p : Token) × (token ≡ Some p) × (chars slice.now ≡ p.characters)
    × (slice.now ≡ slice_range bytes p.start (p.start + length slice.now))

-- If the bytes are refused for a syntax fault by any rules with these options, `token` is `None`
-- exactly if the fault's place is the end of the bytes.
abbrev pub IsMissingAtEnd : Options → Bytes → Cause → Option (Bor Bytes) → Type 0
IsMissingAtEnd o bytes cause token =
    (r : Rules) (place : ℕ) (expected : Expected) → cause ≡ Syntax place expected
    → IsRefused (record r { options = o }) (chars bytes) cause → (IsNone token ↔ (place ≡ length bytes))

-- how many bytes the token has, or 0 if there is none
abbrev pub token_len : Option Token → ℕ
token_len None = 0
token_len (Some token) = byte_len token.characters

-- If the bytes are refused by any rules with these options, `len` is the length of the token at the
-- fault's place.
abbrev pub IsTokenLen : Options → Bytes → Cause → ℕ → Type 0
IsTokenLen o bytes cause len =
    (r : Rules) → IsRefused (record r { options = o }) (chars bytes) cause
    → len ≡ token_len (found_token o (chars bytes) cause)
