-- Examples that are computed, such as the rules that bits stand for, and the counts of parts.
use Rattle.std.proofs.Common.{◌≡◌, ◌∷◌, [], false, map, negsuc, None, Option, Some, true}
use Rattle.duration_str_base.specs.Options.{off}
use Rattle.duration_str_base.specs.declared.cause.Cause.TheVariants.{Empty, Mixed, NotText, NumberTooLarge, OutOfRange, Overflow, Syntax}
use Rattle.duration_str_base.specs.declared.cause.Expected.{Expected}
use Rattle.duration_str_printing.specs.declared.format.Style.TheVariants.{Compact, Long, Short}
use Rattle.duration_str_help.specs.declared.suggestion.Suggestion.{Suggestion}
use Rattle.duration_str_base.specs.declared.operator.CondUnit.TheVariants.{Plus, Star}
use Rattle.duration_str_printing.specs.declared.format.TheConstants.Units.{ALL}
use Rattle.duration_str_printing.specs.declared.rounding.Rounding.TheVariants.{Down, Nearest, Up}
use Rattle.duration_str_base.specs.declared.unit.TimeUnit.TheVariants.{Day, Hour, MilliSecond, Minute, NanoSecond, Second, Year}
use Rattle.duration_str_printing.specs.Format.{set_of}
use Rattle.duration_str_base.specs.MoreNames.{more_row_of}
use Rattle.duration_str_base.specs.Units.{row_of}
use Rattle.duration_str_js.specs.Printing.{rounding_numbered, style_numbered, units_among, units_of, with_counts}
use Rattle.duration_str_js.specs.Reading.{bits_of, cause_number, count_of, default_unit_of_bits, has_count, length_of, number_of, options_of_bits, place_number, rules_of_bits, start_number, unit_number}

pub record Bits : Type 0 where
  pub names-more : (rules_of_bits 17).table Minute ≡ more_row_of Minute
  pub names-own : (rules_of_bits 15).table Minute ≡ row_of Minute
  pub unit-none_given : default_unit_of_bits 1 ≡ Some Second
  pub unit-required : default_unit_of_bits 8 ≡ None
  pub unit-required_and_given : default_unit_of_bits 0x90009 ≡ None
  pub unit-year : default_unit_of_bits 0x10001 ≡ Some Year
  pub unit-milliseconds : default_unit_of_bits 0x90001 ≡ Some MilliSecond
  pub unit-nanoseconds : default_unit_of_bits 0xB0001 ≡ Some NanoSecond
  pub unit-above_the_last : default_unit_of_bits 0xC0001 ≡ None

pub bits : Bits
bits = assumption

abbrev number_or_operator : Expected
number_or_operator = record { number = true; unit_word = false; operator = true; text_end = false }

abbrev unit_or_end : Expected
unit_or_end = record { number = false; unit_word = true; operator = false; text_end = true }

abbrev zero_hours : Option Suggestion
zero_hours = Some (record { count = Some 0; unit = Some Hour })

abbrev nanosecond : Option Suggestion
nanosecond = Some (record { count = None; unit = Some NanoSecond })

abbrev nothing : Option Suggestion
nothing = Some (record { count = None; unit = None })

pub record Refusals : Type 0 where
  pub option-no_calc : options_of_bits 1 ≡ record off { no_calc = true }
  pub option-lowercase : options_of_bits 2 ≡ record off { lowercase = true }
  pub option-cn_unit : options_of_bits 4 ≡ record off { cn_unit = true }
  pub causes : map cause_number (Empty ∷ Syntax 0 unit_or_end ∷ NumberTooLarge None ∷ Overflow None ∷ Mixed Plus Star
      ∷ OutOfRange ∷ NotText false ∷ []) ≡ 1 ∷ 2 ∷ 3 ∷ 4 ∷ 5 ∷ 6 ∷ 7 ∷ []
  pub number_and_operator : bits_of number_or_operator ≡ 5
  pub unit_and_end : bits_of unit_or_end ≡ 10
  pub no_place : place_number None ≡ negsuc 0
  pub help-none : number_of None ≡ 0
  pub no_start : start_number None ≡ negsuc 0
  pub no_length : length_of None ≡ 0
  pub no_suggestion : count_of None ∷ has_count None ∷ unit_number None ∷ [] ≡ 0 ∷ 0 ∷ 0 ∷ []
  pub zero_hours : count_of zero_hours ∷ has_count zero_hours ∷ unit_number zero_hours ∷ [] ≡ 0 ∷ 1 ∷ 6 ∷ []
  pub nanosecond_alone : count_of nanosecond ∷ has_count nanosecond ∷ unit_number nanosecond ∷ [] ≡ 0 ∷ 0 ∷ 11 ∷ []
  pub removed : count_of nothing ∷ has_count nothing ∷ unit_number nothing ∷ [] ≡ 0 ∷ 0 ∷ 0 ∷ []

pub refusals : Refusals
refusals = assumption

pub record Numbers : Type 0 where
  pub rounding-none : rounding_numbered 0 ≡ None
  pub rounding-down : rounding_numbered 1 ≡ Some Down
  pub rounding-nearest : rounding_numbered 2 ≡ Some Nearest
  pub rounding-up : rounding_numbered 3 ≡ Some Up
  pub rounding-greater : rounding_numbered 4 ≡ Some Up
  pub units-quarter : units_of 2 ≡ record { bits = 2 }
  pub units-all : units_of 2047 ≡ ALL
  pub units-above_the_last : units_of 2048 ≡ ALL
  pub styles : map style_numbered (0 ∷ 1 ∷ 2 ∷ 3 ∷ []) ≡ Short ∷ Compact ∷ Long ∷ Long ∷ []

pub numbers : Numbers
numbers = assumption

pub record Counts : Type 0 where
  pub none : with_counts (1 ∷ 2 ∷ 3 ∷ []) [] ≡ 1 ∷ 2 ∷ 3 ∷ []
  pub two : with_counts (9 ∷ 9 ∷ 9 ∷ 9 ∷ 9 ∷ 9 ∷ 9 ∷ 9 ∷ 9 ∷ 9 ∷ 9 ∷ []) ((Day, 4) ∷ (Hour, 5) ∷ [])
      ≡ 9 ∷ 9 ∷ 9 ∷ 9 ∷ 4 ∷ 5 ∷ 9 ∷ 9 ∷ 9 ∷ 9 ∷ 9 ∷ []
  pub two-units : set_of (units_among ((Day, 4) ∷ (Hour, 5) ∷ [])) ≡ record { bits = 48 }
  pub long : with_counts (0 ∷ []) ((Year, 18_446_744_073_709_551_619) ∷ []) ≡ 3 ∷ []

pub counts : Counts
counts = assumption
