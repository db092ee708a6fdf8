-- The error made from a fault.
use Rattle.std.specs.Prelude.{encode_utf8_all, string_bytes, ◌≡◌}
use Rattle.duration_str_base.specs.declared.cause.Cause.{Cause}
use Rattle.duration_str_base.specs.declared.cause.Cause.TheVariants.{Overflow}
use Rattle.duration_str_refusals.specs.declared.error.DError.{DError}
use Rattle.duration_str_refusals.specs.declared.error.DError.TheVariants.{ParseError, OverflowError}
use Rattle.duration_str_base.specs.Text.{Characters}
use Rattle.duration_str_base.specs.Causes.{line_of}

abbrev pub IsParseError : {A : Type 0} → Characters → DError A → Type 0
IsParseError line (ParseError text) = string_bytes text ≡ encode_utf8_all line
IsParseError line OverflowError = ⊥

-- The error is `OverflowError` if the cause is an overflow, and otherwise `ParseError` with the
-- line of the cause.
abbrev pub IsErrorOf : {A : Type 0} → Cause → DError A → Type 0
IsErrorOf (Overflow place) error = error ≡ OverflowError
IsErrorOf cause error = IsParseError (line_of cause) error
