-- Examples that are computed, such as which bits are options, and the counts of units.
use Rattle.std.proofs.Common.{◌≡◌, ◌+◌, ◌∷◌, [], codes, false, map, negsuc, None, pos, Some, true}
use Rattle.duration_str_base.specs.Options.{off}
use Rattle.duration_str_base.specs.declared.cause.Cause.TheVariants.{Empty, Mixed, NotText, NumberTooLarge, OutOfRange, Overflow, Syntax}
use Rattle.duration_str_base.specs.declared.cause.Expected.{Expected}
use Rattle.duration_str_printing.specs.declared.format.Style.TheVariants.{Compact, Long, Short}
use Rattle.duration_str_base.specs.declared.operator.CondUnit.TheVariants.{Plus, Star}
use Rattle.duration_str_printing.specs.declared.rounding.Rounding.TheVariants.{Down, Nearest, Up}
use Rattle.duration_str_base.specs.declared.unit.TimeUnit.TheVariants.{Day, Hour, MilliSecond, Minute, NanoSecond, Second, Year}
use Rattle.duration_str_printing.specs.Breakdown.{parts_in, sum_of_parts}
use Rattle.duration_str_base.specs.MoreNames.{more_row_of}
use Rattle.duration_str_base.specs.Rules.{rules_of, unit_of_word}
use Rattle.duration_str_base.specs.Units.{row_of, units}
use Rattle.duration_str_c.specs.Answers.{are_options, bits_of, cause_number, default_unit_of_bits, first_sign, later_sign, options_of_bits, rules_of_bits}
use Rattle.duration_str_c.specs.Breakdown.{counts_of}
use Rattle.duration_str_c.specs.Format.{style_numbered}
use Rattle.duration_str_c.specs.Rounding.{rounding_numbered}
use Rattle.duration_str_c.specs.Units.{number_of}

pub record Bits : Type 0 where
  -- ---- The options
  pub none : are_options 0 ≡ true
  pub all : are_options 31 ≡ true
  pub sixth_bit : are_options 32 ≡ false
  pub between : are_options 0x8001 ≡ false
  pub year : are_options 0x10001 ≡ true
  pub milliseconds : are_options 0x90001 ≡ true
  pub milliseconds-small_letters : are_options 0x90007 ≡ true
  pub nanoseconds : are_options 0xB0001 ≡ true
  pub above_the_last : are_options 0xC0001 ≡ false
  pub greatest : are_options 0xF0001 ≡ false
  pub fifth_above : are_options 0x100001 ≡ false
  pub milliseconds-operators : are_options 0x90000 ≡ false
  pub milliseconds-required : are_options 0x90009 ≡ false
  -- ---- The names
  pub names-more : (rules_of_bits 17).table Minute ≡ more_row_of Minute
  pub names-own : (rules_of_bits 15).table Minute ≡ row_of Minute
  -- ---- The default unit
  pub unit-none_given : default_unit_of_bits 1 ≡ Some Second
  pub unit-required : default_unit_of_bits 8 ≡ None
  pub unit-required_no_calc : default_unit_of_bits 9 ≡ None
  pub unit-year : default_unit_of_bits 0x10001 ≡ Some Year
  pub unit-second : default_unit_of_bits 0x80001 ≡ Some Second
  pub unit-milliseconds : default_unit_of_bits 0x90001 ≡ Some MilliSecond
  pub unit-nanoseconds : default_unit_of_bits 0xB0001 ≡ Some NanoSecond

pub bits : Bits
bits = assumption

abbrev number_or_operator : Expected
number_or_operator = record { number = true; unit_word = false; operator = true; text_end = false }

abbrev unit_or_end : Expected
unit_or_end = record { number = false; unit_word = true; operator = false; text_end = true }

pub record Numbers : Type 0 where
  pub option-no_calc : options_of_bits 1 ≡ record off { no_calc = true }
  pub option-lowercase : options_of_bits 2 ≡ record off { lowercase = true }
  pub option-cn_unit : options_of_bits 4 ≡ record off { cn_unit = true }
  pub causes : map cause_number (Empty ∷ Syntax 0 unit_or_end ∷ NumberTooLarge None ∷ Overflow None ∷ Mixed Plus Star
      ∷ OutOfRange ∷ NotText false ∷ []) ≡ 1 ∷ 2 ∷ 3 ∷ 4 ∷ 5 ∷ 6 ∷ 7 ∷ []
  pub number_and_operator : bits_of number_or_operator ≡ 5
  pub unit_and_end : bits_of unit_or_end ≡ 10
  pub first_operator : first_sign (Mixed Star Plus) ≡ 42
  pub later_operator : later_sign (Mixed Star Plus) ≡ 43
  pub styles : map style_numbered (0 ∷ 1 ∷ 2 ∷ []) ≡ Short ∷ Compact ∷ Long ∷ []

pub numbers : Numbers
numbers = assumption

pub record Roundings : Type 0 where
  pub none : rounding_numbered 0 ≡ None
  pub down : rounding_numbered 1 ≡ Some Down
  pub nearest : rounding_numbered 2 ≡ Some Nearest
  pub up : rounding_numbered 3 ≡ Some Up

pub roundings : Roundings
roundings = assumption

pub record UnitNumbers : Type 0 where
  pub year : number_of (Some Year) ≡ pos 0
  pub second : number_of (Some Second) ≡ pos 7
  pub nanosecond : number_of (Some NanoSecond) ≡ pos 10
  pub none : number_of None ≡ negsuc 0
  pub name : number_of (unit_of_word (rules_of off) (codes "hours")) ≡ pos 5
  pub name-capitals : number_of (unit_of_word (rules_of off) (codes "MIN")) ≡ pos 6
  pub name-chinese : number_of (unit_of_word (rules_of off) (codes "年")) ≡ negsuc 0
  pub name-empty : number_of (unit_of_word (rules_of off) (codes "")) ≡ negsuc 0
  pub name-blank : number_of (unit_of_word (rules_of off) (codes " h")) ≡ negsuc 0
  pub name-number : number_of (unit_of_word (rules_of off) (codes "1h")) ≡ negsuc 0

pub unit_numbers : UnitNumbers
unit_numbers = assumption

pub record Counts : Type 0 where
  pub none : counts_of [] ≡ 0 ∷ 0 ∷ 0 ∷ 0 ∷ 0 ∷ 0 ∷ 0 ∷ 0 ∷ 0 ∷ 0 ∷ 0 ∷ []
  pub ends : counts_of ((Year, 2) ∷ (NanoSecond, 9) ∷ []) ≡ 2 ∷ 0 ∷ 0 ∷ 0 ∷ 0 ∷ 0 ∷ 0 ∷ 0 ∷ 0 ∷ 0 ∷ 9 ∷ []
  pub neighbours : counts_of ((Day, 4) ∷ (Hour, 5) ∷ []) ≡ 0 ∷ 0 ∷ 0 ∷ 0 ∷ 4 ∷ 5 ∷ 0 ∷ 0 ∷ 0 ∷ 0 ∷ 0 ∷ []
  pub a_long_count : counts_of ((MilliSecond, 18_446_744_073_709_551_616) ∷ [])
      ≡ 0 ∷ 0 ∷ 0 ∷ 0 ∷ 0 ∷ 0 ∷ 0 ∷ 0 ∷ 18_446_744_073_709_551_616 ∷ 0 ∷ 0 ∷ []
  -- ---- 193.029 seconds, which are 3 minutes, 13 seconds and 29 milliseconds
  pub two_parts : counts_of (parts_in units 2 193_029_000_000) ≡ 0 ∷ 0 ∷ 0 ∷ 0 ∷ 0 ∷ 0 ∷ 3 ∷ 13 ∷ 0 ∷ 0 ∷ 0 ∷ []
  pub two_parts-rest : sum_of_parts (parts_in units 2 193_029_000_000) + 29_000_000 ≡ 193_029_000_000
  pub all_parts : counts_of (parts_in units 11 193_029_000_000) ≡ 0 ∷ 0 ∷ 0 ∷ 0 ∷ 0 ∷ 0 ∷ 3 ∷ 13 ∷ 29 ∷ 0 ∷ 0 ∷ []
  pub seconds : counts_of (parts_in (Second ∷ []) 11 193_029_000_000)
      ≡ 0 ∷ 0 ∷ 0 ∷ 0 ∷ 0 ∷ 0 ∷ 0 ∷ 193 ∷ 0 ∷ 0 ∷ 0 ∷ []
  pub no_parts : counts_of (parts_in units 0 193_029_000_000) ≡ 0 ∷ 0 ∷ 0 ∷ 0 ∷ 0 ∷ 0 ∷ 0 ∷ 0 ∷ 0 ∷ 0 ∷ 0 ∷ []
  -- ---- 92 days, which are a quarter and a day
  pub quarter : counts_of (parts_in units 11 7_948_800_000_000_000)
      ≡ 0 ∷ 1 ∷ 0 ∷ 0 ∷ 1 ∷ 0 ∷ 0 ∷ 0 ∷ 0 ∷ 0 ∷ 0 ∷ []

pub counts : Counts
counts = assumption
