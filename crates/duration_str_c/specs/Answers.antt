-- The answer that a caller in C gets for a text.
use Rattle.std.specs.Prelude.{◌≡◌, ℕ, ◌+◌, ◌-◌, ◌/◌, ◌^◌, ◌==◌, Bool, ◌&&◌, ◌||◌, IsTrue, not, List, length, nat_le, slice_get, ◌⊎◌, Option, Some, None, if◌then◌else◌, is_some, unwrap_or, IsUtf8, false}
use Rattle.std.specs.Int.Bits.{bit_and}
use Rattle.std.specs.Option.{ForSome}
use Rattle.std.specs.Str.{chars, IsCharBoundary}
use Rattle.duration_str_base.specs.declared.options.Options.{Options}
use Rattle.duration_str_base.specs.declared.operator.CondUnit.{CondUnit}
use Rattle.duration_str_base.specs.declared.operator.CondUnit.TheVariants.{Plus, Star}
use Rattle.duration_str_base.specs.declared.cause.Cause.{Cause}
use Rattle.duration_str_base.specs.declared.cause.Cause.TheVariants.{Empty, Syntax, NumberTooLarge, Overflow, Mixed, OutOfRange, NotText}
use Rattle.duration_str_base.specs.declared.cause.Expected.{Expected}
use Rattle.duration_str_base.specs.Text.{byte_len}
use Rattle.duration_str_reading.specs.Tokens.{Token}
use Rattle.duration_str_base.specs.Causes.{place_of}
use Rattle.duration_str_refusals.specs.Faults.{found_token}
use Rattle.duration_str_base.specs.declared.unit.TimeUnit.{TimeUnit}
use Rattle.duration_str_base.specs.declared.unit.TimeUnit.TheVariants.{Second}
use Rattle.duration_str_base.specs.Units.{units}
use Rattle.duration_str_base.specs.MoreNames.{more_rules}
use Rattle.duration_str_base.specs.Rules.{Rules, rules_with}
use Rattle.duration_str_reading.specs.Reading.{IsRead, IsRefused}
use Rattle.duration_str_c.specs.declared.answer.Answer.{Answer}

abbrev pub has_flag : ℕ → ℕ → Bool
has_flag bits flag = not (bit_and bits flag == 0)

-- the number in the bits from 2^16 on. In options it is 0, or the default unit's index in `units`
-- plus 1
abbrev pub unit_field : ℕ → ℕ
unit_field bits = bits / 2 ^ 16

-- whether the bits are options: the flags 1, 2, 4, 8 and 16, and a field of the four bits from 2^16
-- to 2^19. The field is 0, or a unit's index plus 1. If it is not 0, the flag 1 must be set, so
-- that no operators are read, and the flag 8, which requires a unit, must not be set
abbrev pub are_options : ℕ → Bool
are_options bits =
    bit_and bits 0xF001F == bits
    && (unit_field bits == 0
    || (nat_le (unit_field bits) (length units) && has_flag bits 1 && not (has_flag bits 8)))

abbrev pub AreOptions : ℕ → Type 0
AreOptions bits = IsTrue (are_options bits)

abbrev pub options_of_bits : ℕ → Options
options_of_bits bits = record { no_calc = has_flag bits 1; lowercase = has_flag bits 2; cn_unit = has_flag bits 4 }

abbrev pub default_unit_of_bits : ℕ → Option TimeUnit
default_unit_of_bits bits =
    if has_flag bits 8 then None
    else if unit_field bits == 0 then Some Second
    else slice_get units (unit_field bits - 1)

-- the rules that the bits stand for. The flag 16 is for more names
abbrev pub rules_of_bits : ℕ → Rules
rules_of_bits bits =
    if has_flag bits 16 then more_rules (options_of_bits bits) (default_unit_of_bits bits)
    else rules_with (options_of_bits bits) (default_unit_of_bits bits)

abbrev pub cause_number : Cause → ℕ
cause_number Empty = 1
cause_number (Syntax place expected) = 2
cause_number (NumberTooLarge place) = 3
cause_number (Overflow place) = 4
cause_number (Mixed first later) = 5
cause_number OutOfRange = 6
cause_number (NotText optional) = 7

abbrev pub bits_of : Expected → ℕ
bits_of e =
    (if e.number then 1 else 0) + (if e.unit_word then 2 else 0) + (if e.operator then 4 else 0)
    + (if e.text_end then 8 else 0)

abbrev pub expected_bits : Cause → ℕ
expected_bits (Syntax place expected) = bits_of expected
expected_bits _ = 0

-- the code of an operator's character
abbrev pub sign_code : CondUnit → ℕ
sign_code Plus = 43
sign_code Star = 42

abbrev pub first_sign : Cause → ℕ
first_sign (Mixed first later) = sign_code first
first_sign _ = 0

abbrev pub later_sign : Cause → ℕ
later_sign (Mixed first later) = sign_code later
later_sign _ = 0

abbrev pub token_length : Option Token → ℕ
token_length None = 0
token_length (Some token) = byte_len token.characters

abbrev pub value_answer : ℕ → Answer
value_answer nanos = record {
  nanos = nanos;
  place = 0;
  found_length = 0;
  cause = 0;
  expected = 0;
  has_place = 0;
  first_operator = 0;
  later_operator = 0;
}

abbrev pub unknown_option_answer : Answer
unknown_option_answer = record {
  nanos = 0;
  place = 0;
  found_length = 0;
  cause = 8;
  expected = 0;
  has_place = 0;
  first_operator = 0;
  later_operator = 0;
}

abbrev pub refusal_answer : Cause → ℕ → Answer
refusal_answer cause found_length = record {
  nanos = 0;
  place = unwrap_or (place_of cause) 0;
  found_length = found_length;
  cause = cause_number cause;
  expected = expected_bits cause;
  has_place = if is_some (place_of cause) then 1 else 0;
  first_operator = first_sign cause;
  later_operator = later_sign cause;
}

-- The answer says that the bytes are refused for this cause. The cause's place, if there is one, is
-- a character boundary.
abbrev pub TellsFault : Options → List ℕ → Cause → Answer → Type 0
TellsFault o bytes cause answer =
    (answer ≡ refusal_answer cause (token_length (found_token o (chars bytes) cause)))
    × ForSome (place_of cause) (IsCharBoundary bytes)

-- One of four cases applies, and the proposition for it holds.
abbrev pub IsTold : Type 0 → Type 0 → (ℕ → Type 0) → (Cause → Type 0) → ℕ → List ℕ → Type 0
IsTold Unknown NotUtf8 Value Refusal bits bytes =
    ((AreOptions bits → ⊥) × Unknown)
    ⊎ (AreOptions bits × (¬ (IsUtf8 bytes)) × NotUtf8)
    ⊎ (AreOptions bits × IsUtf8 bytes × (nanos : ℕ) × IsRead (rules_of_bits bits) (chars bytes) nanos × Value nanos)
    ⊎ (AreOptions bits × IsUtf8 bytes × (cause : Cause) × IsRefused (rules_of_bits bits) (chars bytes) cause × Refusal cause)

-- The answer says which of the four cases applies.
abbrev pub IsAnswerTo : ℕ → List ℕ → Answer → Type 0
IsAnswerTo bits bytes answer =
    IsTold (answer ≡ unknown_option_answer) (answer ≡ refusal_answer (NotText false) 0)
    (λ nanos. answer ≡ value_answer nanos) (λ cause. TellsFault (options_of_bits bits) bytes cause answer) bits bytes
