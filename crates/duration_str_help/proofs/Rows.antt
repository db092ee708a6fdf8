-- Examples that were worked out by hand, and are computed here, such as the mends of texts.
use Rattle.duration_str_help.proofs.Common.{[], Cause, codes, encode_utf8_all, false, Hour, List, list_all, list_any, map, Minute, None, off, Option, Overflow, rules_of, rules_with, Some, Syntax, TimeUnit, true, ℕ, ◌∷◌, ◌≡◌}
use Rattle.duration_str_help.specs.declared.help.Help.{Help}
use Rattle.duration_str_help.specs.declared.help.Help.TheVariants.{Brackets, ClockTime, DidYouMean, DigitsOnly, Division, Fraction, Iso8601, LargeNumber, LeadingPlus, MissingUnit, Negative, NoPoint, OneDuration, QuotationMarks, Units as UnitsHelp, Zero}
use Rattle.duration_str_help.specs.Help.{help_number, is_letter}
use Rattle.duration_str_help.specs.Mends.{mend_of, Pieces}
use Rattle.duration_str_help.specs.Quotes.{is_clear, is_plain}
use Rattle.duration_str_base.proofs.Samples.{after_number, after_number-no_calc, after_unit, number_alone, unit_alone, with_cn_unit, with_lowercase, with_no_calc}
use Rattle.duration_str_base.specs.Humantime.{humantime_rules}
use Rattle.std.specs.Fmt.{digits}
use Rattle.std.specs.Str.{chars}
use lib.Utf8.{encode}

-- ---- Helps as values

abbrev other_helps : List Help
other_helps =
    UnitsHelp ∷ Fraction ∷ DigitsOnly ∷ ClockTime ∷ Negative ∷ LeadingPlus ∷ Iso8601 ∷ OneDuration ∷ NoPoint ∷ Brackets
    ∷ Division ∷ QuotationMarks ∷ MissingUnit ∷ Zero ∷ LargeNumber ∷ []

pub record Helps : Type 0 where
  pub numbers : map help_number (DidYouMean Minute ∷ other_helps)
      ≡ 1 ∷ 2 ∷ 3 ∷ 4 ∷ 5 ∷ 6 ∷ 7 ∷ 8 ∷ 9 ∷ 10 ∷ 11 ∷ 12 ∷ 13 ∷ 14 ∷ 15 ∷ 16 ∷ []

pub helps : Helps
helps = assumption

-- ---- Mends

abbrev pieces : List ℕ → List ℕ → List ℕ → List ℕ → Option Pieces
pieces front old new rest = Some (record { front = front; replaced = old; written = new; rest = rest })

-- the pieces of a text that is refused with all options off
abbrev mended : List ℕ → Cause → Option Pieces
mended text cause = mend_of (rules_of off) text cause

-- the same if the default unit is this one, or if units are required
abbrev mended_with : Option TimeUnit → List ℕ → Cause → Option Pieces
mended_with default_unit text cause = mend_of (rules_with off default_unit) text cause

-- the pieces if the number that the text begins with is replaced
abbrev term : List ℕ → List ℕ → List ℕ → Option Pieces
term old new rest = pieces [] old new rest

pub record MendedRows : Type 0 where
  -- ---- A word that is near a unit
  pub mended-minutes : mended (codes "5 mins") (Syntax 2 after_number) ≡ pieces (codes "5 ") (codes "mins") (codes "min") []
  pub mended-greek : mended (encode_utf8_all (codes "5 μseconds")) (Syntax 2 after_number)
      ≡ pieces (codes "5 ") (encode_utf8_all (codes "μseconds")) (codes "us") []
  pub mended-greek_between : mended (encode_utf8_all (codes "1µs 5μsecs×")) (Syntax 6 after_number)
      ≡ pieces (encode_utf8_all (codes "1µs 5")) (encode_utf8_all (codes "μsecs")) (codes "us") (encode_utf8_all (codes "×"))
  pub mended-later : mended (codes "2h 5 mins") (Syntax 5 after_number)
      ≡ pieces (codes "2h 5 ") (codes "mins") (codes "min") []
  pub mended-between : mended (codes "1m 5 MINS 3x") (Syntax 5 after_number)
      ≡ pieces (codes "1m 5 ") (codes "MINS") (codes "min") (codes " 3x")
  pub mended-before_a_digit : mended (codes "5mos7") (Syntax 1 after_number)
      ≡ pieces (codes "5") (codes "mos") (codes "mon") (codes "7")
  pub mended-far : mended (codes "5 foo") (Syntax 2 after_number) ≡ None
  pub mended-after_a_unit : mended (codes "5m mins") (Syntax 3 after_unit) ≡ None
  pub mended-no_word : mended (codes "5") (Syntax 1 unit_alone) ≡ None
  -- ---- A fraction
  pub mended-hour_and_a_half : mended (codes "1.5h") (Syntax 1 after_number) ≡ term (codes "1.5h") (codes "90min") []
  pub mended-quarter_of_an_hour : mended (codes "0.25h") (Syntax 1 after_number) ≡ term (codes "0.25h") (codes "15min") []
  pub mended-seconds : mended (codes "1.5s") (Syntax 1 after_number) ≡ term (codes "1.5s") (codes "1500ms") []
  pub mended-no_whole_digits : mended (codes ".5s") (Syntax 0 number_alone) ≡ term (codes ".5s") (codes "500ms") []
  pub mended-days : mended (codes "1.5d") (Syntax 1 after_number) ≡ term (codes "1.5d") (codes "36h") []
  pub mended-years : mended (codes "1.5y") (Syntax 1 after_number) ≡ term (codes "1.5y") (codes "13140h") []
  pub mended-many_years : mended (codes "584.5y") (Syntax 3 after_number) ≡ term (codes "584.5y") (codes "5120220h") []
  pub mended-zeros_and_blanks : mended (codes "2.50 hours") (Syntax 1 after_number) ≡ term (codes "2.50 hours") (codes "150min") []
  pub mended-near_word : mended (codes "1.5 mins") (Syntax 1 after_number) ≡ term (codes "1.5 mins") (codes "90s") []
  pub mended-zero : mended (codes "0.0h") (Syntax 1 after_number) ≡ term (codes "0.0h") (codes "0h") []
  pub mended-no_longer_unit : mended (codes "60.0min") (Syntax 2 after_number) ≡ term (codes "60.0min") (codes "60min") []
  pub mended-microseconds : mended (codes "0.5ms") (Syntax 1 after_number) ≡ term (codes "0.5ms") (codes "500us") []
  pub mended-nanosecond : mended (codes "0.000000001s") (Syntax 1 after_number) ≡ term (codes "0.000000001s") (codes "1ns") []
  pub mended-below_a_nanosecond : mended (codes "0.0000000001s") (Syntax 1 after_number) ≡ None
  pub mended-third_of_nanoseconds : mended (codes "0.3ns") (Syntax 1 after_number) ≡ None
  pub mended-longest : mended (codes "18446744073709551615.0ns") (Syntax 20 after_number)
      ≡ term (codes "18446744073709551615.0ns") (codes "18446744073709551615ns") []
  pub mended-too_long : mended (codes "18446744074.0s") (Syntax 11 after_number) ≡ None
  pub mended-too_many_digits : mended (codes "1844674407370955161.6ns") (Syntax 19 after_number) ≡ None
  pub mended-long_number : mended (codes "5124095.0000000000025h") (Syntax 7 after_number)
      ≡ term (codes "5124095.0000000000025h") (codes "18446742000000000009ns") []
  pub mended-many_zeros : mended (codes "0.5000000000000000000000h") (Syntax 1 after_number)
      ≡ term (codes "0.5000000000000000000000h") (codes "30min") []
  pub mended-before_a_sign : mended (codes "1.5h*2") (Syntax 1 after_number) ≡ term (codes "1.5h") (codes "90min") (codes "*2")
  pub mended-before_a_number : mended (codes "1.5h30m") (Syntax 1 after_number) ≡ term (codes "1.5h") (codes "90min") (codes "30m")
  pub mended-after_a_term : mended (codes "1m .5s") (Syntax 3 after_unit) ≡ pieces (codes "1m ") (codes ".5s") (codes "500ms") []
  pub mended-after_an_operator : mended (codes "2*.5h 3x") (Syntax 2 number_alone)
      ≡ pieces (codes "2*") (codes ".5h") (codes "30min") (codes " 3x")
  pub mended-in_a_product : mended (codes "2*1.5h") (Syntax 3 after_number)
      ≡ pieces (codes "2*") (codes "1.5h") (codes "90min") []
  pub mended-before_the_last_blank : mended (codes "1h 1.5m ") (Syntax 4 after_number)
      ≡ pieces (codes "1h ") (codes "1.5m") (codes "90s") (codes " ")
  pub mended-after_a_number : mended (codes "1 .5h") (Syntax 2 after_number) ≡ None
  pub mended-two_points : mended (codes "1.5.5h") (Syntax 1 after_number) ≡ None
  pub mended-two_numbers : mended (codes "1.5 2h") (Syntax 1 after_number) ≡ None
  pub mended-other_word : mended (codes "1.5x") (Syntax 1 after_number) ≡ None
  pub mended-wide_letter : mended (encode_utf8_all (codes "1.5hé")) (Syntax 1 after_number) ≡ None
  -- ---- A fraction without a unit
  pub mended-without_a_unit : mended (codes "1.5") (Syntax 1 after_number) ≡ term (codes "1.5") (codes "1500ms") []
  pub mended-before_a_blank : mended (codes "1.5 ") (Syntax 1 after_number) ≡ term (codes "1.5") (codes "1500ms") (codes " ")
  pub mended-before_plus : mended (codes "1.5 + 2") (Syntax 1 after_number) ≡ term (codes "1.5") (codes "1500ms") (codes " + 2")
  pub mended-of_hours : mended_with (Some Hour) (codes "1.5") (Syntax 1 after_number) ≡ term (codes "1.5") (codes "90min") []
  pub mended-unit_required : mended_with None (codes "1.5") (Syntax 1 unit_alone) ≡ None
  pub mended-unit_required_and_there : mended_with None (codes "1.5h") (Syntax 1 unit_alone) ≡ term (codes "1.5h") (codes "90min") []
  pub mended-no_calc : mend_of (rules_of with_no_calc) (codes "1.5+2") (Syntax 1 after_number-no_calc) ≡ None
  pub mended-no_calc_at_the_end : mend_of (rules_of with_no_calc) (codes "1.5") (Syntax 1 after_number-no_calc)
      ≡ term (codes "1.5") (codes "1500ms") []
  -- ---- A fraction by other rules
  pub mended-chinese_letter : mend_of (rules_of with_cn_unit) (encode_utf8_all (codes "1.5时")) (Syntax 1 after_number)
      ≡ term (encode_utf8_all (codes "1.5时")) (codes "90min") []
  pub mended-chinese_letter_unread : mended (encode_utf8_all (codes "1.5时")) (Syntax 1 after_number) ≡ None
  pub mended-capital : mended (codes "1.5H") (Syntax 1 after_number) ≡ term (codes "1.5H") (codes "90min") []
  pub mended-capital_unread : mend_of (rules_of with_lowercase) (codes "1.5H") (Syntax 1 after_number) ≡ None
  pub mended-humantime : mend_of (humantime_rules with_lowercase) (codes "0.5M") (Syntax 1 unit_alone)
      ≡ term (codes "0.5M") (codes "1315008s") []
  -- ---- What is removed or inserted
  pub mended-plus : mended (codes "+5m") (Syntax 0 number_alone) ≡ term (codes "+") [] (codes "5m")
  pub mended-plus_and_point : mended (codes " +.5s") (Syntax 1 number_alone) ≡ pieces (codes " ") (codes "+") [] (codes ".5s")
  pub mended-point : mended (codes "5 min.") (Syntax 5 after_unit) ≡ pieces (codes "5 min") (codes ".") [] []
  pub mended-point_before_a_digit : mended (codes "5m.5s") (Syntax 2 after_unit) ≡ None
  pub mended-point_before_a_blank : mended (codes "5m. 5s") (Syntax 2 after_unit) ≡ pieces (codes "5m") (codes ".") [] (codes " 5s")
  pub mended-point_after_a_name : mended (codes "5 min. 3s") (Syntax 5 after_unit)
      ≡ pieces (codes "5 min") (codes ".") [] (codes " 3s")
  pub mended-point_before_a_letter : mended (codes "5m.in") (Syntax 2 after_unit) ≡ None
  pub mended-point_before_a_point : mended (codes "5m..10m") (Syntax 2 after_unit) ≡ None
  pub mended-point_and_a_blank_before_a_point : mended (codes "5m. .") (Syntax 2 after_unit)
      ≡ pieces (codes "5m") (codes ".") [] (codes " .")
  pub mended-underscore : mended (codes "1_000s") (Syntax 1 after_number) ≡ pieces (codes "1") (codes "_") [] (codes "000s")
  pub mended-apostrophe : mended (codes "1'000s") (Syntax 1 after_number) ≡ pieces (codes "1") (codes "'") [] (codes "000s")
  pub mended-thousands_at_the_end : mended (codes "1_000") (Syntax 1 after_number) ≡ pieces (codes "1") (codes "_") [] (codes "000")
  pub mended-thousands_again : mended (codes "1'000'0s") (Syntax 1 after_number)
      ≡ pieces (codes "1") (codes "'") [] (codes "000'0s")
  pub mended-many_digits_before : mended (codes "1000_000.5s") (Syntax 4 after_number)
      ≡ pieces (codes "1000") (codes "_") [] (codes "000.5s")
  pub mended-one_digit_after : mended (codes "1_5h") (Syntax 1 after_number) ≡ None
  pub mended-two_digits_after : mended (codes "4'33") (Syntax 1 after_number) ≡ None
  pub mended-two_digits_and_a_unit : mended (codes "1'30s") (Syntax 1 after_number) ≡ None
  pub mended-four_digits_after : mended (codes "1_2024") (Syntax 1 after_number) ≡ None
  pub mended-date : mended (codes "2024_01_31") (Syntax 4 after_number) ≡ None
  pub mended-comma : mended (codes "1,000s") (Syntax 1 after_number) ≡ None
  pub mended-exponent : mended (codes "1e3s") (Syntax 1 after_number) ≡ None
  pub mended-time : mended (codes "PT5M") (Syntax 0 number_alone) ≡ term (codes "PT") [] (codes "5M")
  pub mended-time_in_small_letters : mended (codes "pt5m") (Syntax 0 number_alone) ≡ term (codes "pt") [] (codes "5m")
  pub mended-time_before_blanks : mended (codes "PT5M \n") (Syntax 0 number_alone) ≡ term (codes "PT") [] (codes "5M \n")
  pub mended-time_and_another_fault : mended (codes "PT1,5H") (Syntax 0 number_alone) ≡ term (codes "PT") [] (codes "1,5H")
  pub mended-time_without_a_unit : mended (codes "PT5") (Syntax 0 number_alone) ≡ None
  pub mended-time_without_a_last_unit : mended (codes "PT1H30 ") (Syntax 0 number_alone) ≡ None
  pub mended-time_before_a_point : mended (codes "PT5M.") (Syntax 0 number_alone) ≡ None
  pub mended-time_before_a_wide_letter : mended (encode_utf8_all (codes "PT5年")) (Syntax 0 number_alone) ≡ None
  pub mended-time_without_capitals : mend_of (rules_of with_lowercase) (codes "pt5m") (Syntax 0 number_alone) ≡ None
  pub mended-period : mended (codes "P1M") (Syntax 0 number_alone) ≡ None
  pub mended-zero_alone : mended_with None (codes "0") (Syntax 1 unit_alone) ≡ pieces (codes "0") [] (codes "s") []
  pub mended-zero_before_a_blank : mended_with None (codes "0 ") (Syntax 2 unit_alone) ≡ pieces (codes "0 ") [] (codes "s") []
  pub mended-zeros_and_blanks_around : mended_with None (codes " 00\t") (Syntax 4 unit_alone) ≡ pieces (codes " 00\t") [] (codes "s") []
  pub mended-zero_before_zero : mended_with None (codes "0 0") (Syntax 2 unit_alone) ≡ None
  pub mended-number_alone : mended_with None (codes "5") (Syntax 1 unit_alone) ≡ None
  -- ---- What could mean two things
  pub mended-minus : mended (codes "-5m") (Syntax 0 number_alone) ≡ None
  pub mended-clock : mended (codes "1:30") (Syntax 1 after_number) ≡ None
  pub mended-and : mended (codes "1h and 30m") (Syntax 3 after_unit) ≡ None
  pub mended-overflow : mended (codes "600y") (Overflow (Some 0)) ≡ None
  pub mended-large_number : mended (codes "18446744074") (Overflow (Some 0)) ≡ None

pub mended_rows : MendedRows
unfolding chars digits encode
mended_rows = assumption

-- ---- Characters

pub record Classes : Type 0 where
  -- the first and the last of each range of characters that are not plain
  pub hidden : list_any is_plain (
      0 ∷ 0x1F ∷ 0x7F ∷ 0xA0 ∷ 0xAD ∷ 0x34F ∷ 0x61C ∷ 0x115F ∷ 0x1160 ∷ 0x1680 ∷ 0x17B4 ∷ 0x17B5 ∷ 0x180B ∷ 0x180F
      ∷ 0x2000 ∷ 0x200F ∷ 0x2028 ∷ 0x202F ∷ 0x205F ∷ 0x206F ∷ 0x2800 ∷ 0x3000 ∷ 0x3164 ∷ 0xFE00 ∷ 0xFE0F ∷ 0xFEFF ∷ 0xFFA0
      ∷ 0xFFF0 ∷ 0xFFFB ∷ 0x1BCA0 ∷ 0x1BCA3 ∷ 0x1D173 ∷ 0x1D17A ∷ 0xE0000 ∷ 0xE0FFF ∷ []) ≡ false
  -- the characters next to these ranges
  pub seen : list_all is_plain (
      0x20 ∷ 0x7E ∷ 0xA1 ∷ 0xAC ∷ 0xAE ∷ 0x34E ∷ 0x350 ∷ 0x61B ∷ 0x61D ∷ 0x115E ∷ 0x1161 ∷ 0x167F ∷ 0x1681 ∷ 0x17B3 ∷ 0x17B6
      ∷ 0x180A ∷ 0x1810 ∷ 0x1FFF ∷ 0x2010 ∷ 0x2027 ∷ 0x2030 ∷ 0x205E ∷ 0x2070 ∷ 0x27FF ∷ 0x2801 ∷ 0x2FFF ∷ 0x3001 ∷ 0x3163
      ∷ 0x3165 ∷ 0xFDFF ∷ 0xFE10 ∷ 0xFEFE ∷ 0xFF00 ∷ 0xFF9F ∷ 0xFFA1 ∷ 0xFFEF ∷ 0xFFFC ∷ 0x1BC9F ∷ 0x1BCA4 ∷ 0x1D172
      ∷ 0x1D17B ∷ 0xDFFFF ∷ 0xE1000 ∷ []) ≡ true
  -- Of the plain characters, a quote escapes these two.
  pub clear : map is_clear (0x21 ∷ 0x22 ∷ 0x23 ∷ 0x5B ∷ 0x5C ∷ 0x5D ∷ [])
      ≡ true ∷ false ∷ true ∷ true ∷ false ∷ true ∷ []
  -- the ends of the ranges of signs, and letters near them
  pub signs : list_any is_letter (
      0x40 ∷ 0x5B ∷ 0x60 ∷ 0x7B ∷ 0xA1 ∷ 0xB4 ∷ 0xB6 ∷ 0xBF ∷ 0xD7 ∷ 0xF7 ∷ 0x2010 ∷ 0x2BFF ∷ 0x3001 ∷ 0x303F
      ∷ 0xFF00 ∷ 0xFF20 ∷ []) ≡ false
  pub letters : list_all is_letter (
      0x41 ∷ 0x5A ∷ 0x61 ∷ 0x7A ∷ 0xB5 ∷ 0xC0 ∷ 0xD6 ∷ 0xD8 ∷ 0xF6 ∷ 0xF8 ∷ 0x1FFF ∷ 0x2C00 ∷ 0x3040 ∷ 0xFEFE
      ∷ 0xFF21 ∷ []) ≡ true

pub classes : Classes
classes = assumption
