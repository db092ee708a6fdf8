-- How a text is read by the rules that bits stand for, and what is said of a refused one.
use Rattle.std.specs.Prelude.{◌≡◌, ℕ, ◌+◌, ◌-◌, ◌/◌, ◌^◌, ◌==◌, Bool, not, List, length, slice_get, ℤ, pos, negsuc, Option, Some, None, if◌then◌else◌, is_some, unwrap_or}
use Rattle.std.specs.Int.Bits.{bit_and}
use Rattle.std.specs.Str.{chars}
use Rattle.duration_str_base.specs.declared.cause.Cause.{Cause}
use Rattle.duration_str_base.specs.declared.cause.Cause.TheVariants.{Empty, Syntax, NumberTooLarge, Overflow, Mixed, OutOfRange, NotText}
use Rattle.duration_str_base.specs.declared.cause.Expected.{Expected}
use Rattle.duration_str_help.specs.declared.help.Help.{Help}
use Rattle.duration_str_help.specs.declared.suggestion.Suggestion.{Suggestion}
use Rattle.duration_str_base.specs.declared.options.Options.{Options}
use Rattle.duration_str_base.specs.declared.unit.TimeUnit.{TimeUnit}
use Rattle.duration_str_base.specs.declared.unit.TimeUnit.TheVariants.{Second}
use Rattle.duration_str_refusals.specs.Faults.{found_token}
use Rattle.duration_str_base.specs.Causes.{place_of}
use Rattle.duration_str_base.specs.MoreNames.{more_rules}
use Rattle.duration_str_help.specs.Help.{help_number, help_of}
use Rattle.duration_str_help.specs.Mends.{mend_of, Pieces, suggestion_of}
use Rattle.duration_str_reading.specs.Reading.{IsRefused}
use Rattle.duration_str_refusals.specs.Report.{report_of}
use Rattle.duration_str_base.specs.Rules.{Rules, rules_with}
use Rattle.duration_str_base.specs.Text.{byte_len}
use Rattle.duration_str_reading.specs.Tokens.{Token}
use Rattle.duration_str_base.specs.Units.{rank_of, units}
use Rattle.duration_str_js.specs.declared.reading.Refusal.{Refusal}

abbrev pub has_flag : ℕ → ℕ → Bool
has_flag bits flag = not (bit_and bits flag == 0)

-- the number in the bits from 2^16 on: 0, or the default unit's index in `units` plus 1
abbrev pub unit_field : ℕ → ℕ
unit_field bits = bits / 2 ^ 16

abbrev pub options_of_bits : ℕ → Options
options_of_bits bits = record { no_calc = has_flag bits 1; lowercase = has_flag bits 2; cn_unit = has_flag bits 4 }

-- The flag 8 requires a unit.
abbrev pub default_unit_of_bits : ℕ → Option TimeUnit
default_unit_of_bits bits =
    if has_flag bits 8 then None
    else if unit_field bits == 0 then Some Second
    else slice_get units (unit_field bits - 1)

-- the rules that the bits stand for. The flag 16 is for more names
abbrev pub rules_of_bits : ℕ → Rules
rules_of_bits bits =
    if has_flag bits 16 then more_rules (options_of_bits bits) (default_unit_of_bits bits)
    else rules_with (options_of_bits bits) (default_unit_of_bits bits)

abbrev pub cause_number : Cause → ℕ
cause_number Empty = 1
cause_number (Syntax place expected) = 2
cause_number (NumberTooLarge place) = 3
cause_number (Overflow place) = 4
cause_number (Mixed first later) = 5
cause_number OutOfRange = 6
cause_number (NotText optional) = 7

abbrev pub bits_of : Expected → ℕ
bits_of e =
    (if e.number then 1 else 0) + (if e.unit_word then 2 else 0) + (if e.operator then 4 else 0)
    + (if e.text_end then 8 else 0)

abbrev pub expected_bits : Cause → ℕ
expected_bits (Syntax place expected) = bits_of expected
expected_bits _ = 0

abbrev pub place_number : Option ℕ → ℤ
place_number None = negsuc 0
place_number (Some place) = pos place

abbrev pub token_length : Option Token → ℕ
token_length None = 0
token_length (Some token) = byte_len token.characters

-- the number of a help, or 0 if there is none
abbrev pub number_of : Option Help → ℕ
number_of (Some help) = help_number help
number_of None = 0

-- the count that a suggestion says to write, or 0 if there is none
abbrev pub count_of : Option Suggestion → ℕ
count_of (Some suggestion) = unwrap_or suggestion.count 0
count_of None = 0

-- 1 if a suggestion says to write a count, otherwise 0
abbrev pub has_count : Option Suggestion → ℕ
has_count (Some suggestion) = if is_some suggestion.count then 1 else 0
has_count None = 0

-- the index of a unit, plus 1, or 0 if there is none
abbrev pub rank_number : Option TimeUnit → ℕ
rank_number (Some unit) = rank_of unit + 1
rank_number None = 0

-- the number of the unit that a suggestion says to write, or 0 if there is none
abbrev pub unit_number : Option Suggestion → ℕ
unit_number (Some suggestion) = rank_number suggestion.unit
unit_number None = 0

-- the byte at which the part begins that is replaced, or -1 if there is no mend
abbrev pub start_number : Option Pieces → ℤ
start_number (Some mended) = pos (length mended.front)
start_number None = negsuc 0

-- how many bytes the part has that is replaced, or 0 if there is no mend
abbrev pub length_of : Option Pieces → ℕ
length_of (Some mended) = length mended.replaced
length_of None = 0

-- what is said of these bytes if they are refused by these rules, which have these options, for
-- this cause
abbrev pub refusal_of : Rules → Options → List ℕ → Cause → Refusal
refusal_of r o bytes cause = record {
  count = count_of (suggestion_of r bytes cause);
  place = place_number (place_of cause);
  found_length = token_length (found_token o (chars bytes) cause);
  cause = cause_number cause;
  expected = expected_bits cause;
  help = number_of (help_of bytes cause);
  start = start_number (mend_of r bytes cause);
  length = length_of (mend_of r bytes cause);
  has_count = has_count (suggestion_of r bytes cause);
  unit = unit_number (suggestion_of r bytes cause);
}

-- The bytes are refused, and these are what is said of the cause, and the report.
abbrev pub IsReported : ℕ → List ℕ → Refusal → List ℕ → Type 0
IsReported bits bytes refusal report =
    let r = rules_of_bits bits in
    (cause : Cause) × IsRefused r (chars bytes) cause
    × (refusal ≡ refusal_of r (options_of_bits bits) bytes cause) × (report ≡ report_of r bytes cause)
