-- Examples that were worked out by hand, and are computed here, such as the values of texts, and
-- the causes for which others are refused.
use Rattle.duration_str_reading.proofs.Common.{[], answer, Bool, Cause, codes, Empty, Err, false, List, map, MilliSecond, Mixed, more_rules, None, NumberTooLarge, off, Ok, Options, Overflow, Plus, refl, Result, rules_of, rules_with, Second, Some, Star, Syntax, true, Year, ℕ, ◌++◌, ◌∷◌, ◌≡◌}
use Rattle.duration_str_base.proofs.Samples.{after_number, after_number-no_calc, after_unit, after_unit-no_calc, number_alone, unit_alone, with_cn_unit, with_lowercase, with_no_calc}
use Rattle.duration_str_base.specs.Humantime.{humantime_rules}

pub record Answers : Type 0 where
  -- ---- Terms and sums
  pub sum_with_plus : answer (rules_of off) (codes "3m + 13s + 29ms") ≡ Ok 193_029_000_000
  pub sum_without_plus : answer (rules_of off) (codes "1d2h3min4s") ≡ Ok 93_784_000_000_000
  pub sum_of_many_units : answer (rules_of off) (codes "751d 1mon 3week 5d 2ns") ≡ Ok 69_724_800_000_000_002
  pub all_blanks : answer (rules_of off) (9 ∷ codes "1m" ++ 13 ∷ 10 ∷ []) ≡ Ok 60_000_000_000
  pub number_alone-seconds : answer (rules_of off) (codes "1") ≡ Ok 1_000_000_000
  pub last_number-seconds : answer (rules_of off) (codes "1m 2") ≡ Ok 62_000_000_000
  pub sum-overflow : answer (rules_of off) (codes "580y 580y") ≡ Err (Overflow None)
  -- ---- Products
  pub product_by_one : answer (rules_of off) (codes "580y*1") ≡ Ok 18_290_880_000_000_000_000
  pub product-overflow : answer (rules_of off) (codes "580y*2") ≡ Err (Overflow None)
  pub product-zero_last : answer (rules_of off) (codes "580y*2*0") ≡ Ok 0
  pub product-zero_first : answer (rules_of off) (codes "0*580y*2") ≡ Err (Overflow None)
  pub product-first_last : answer (rules_of off) (codes "1ns*1ns*1000000000") ≡ Ok 1
  pub product-steps_rounded : answer (rules_of off) (codes "1000000000*1ns*1ns") ≡ Ok 0
  -- each step is rounded down, not just the last one
  pub product-middle_step_rounded : answer (rules_of off) (codes "1*1ns*1ns*1000000000") ≡ Ok 0
  pub plus_then_star : answer (rules_of off) (codes "1m 2s*3") ≡ Err (Mixed Plus Star)
  pub star_then_plus : answer (rules_of off) (codes "1m*2*3+4") ≡ Err (Mixed Star Plus)
  -- `580y 5y` would overflow, but the first term is added last
  pub first_added_last : answer (rules_of off) (codes "580y 5y 1s*2") ≡ Err (Mixed Plus Star)
  -- ---- The limits of numbers
  pub leading_zeros : answer (rules_of off) (codes "00000000000000000000000001") ≡ Ok 1_000_000_000
  pub greatest_number : answer (rules_of off) (codes "18446744073709551615ns") ≡ Ok 18_446_744_073_709_551_615
  pub number_above_limit : answer (rules_of off) (codes "18446744073709551616ns") ≡ Err (NumberTooLarge (Some 0))
  pub first_term-overflow : answer (rules_of off) (codes "10000000000000000y+60") ≡ Err (Overflow (Some 0))
  pub later_number-no_place : answer (rules_of off) (codes "1s + 99999999999999999999") ≡ Err (NumberTooLarge None)
  -- ---- Syntax faults, their places, and what is expected there
  pub empty-refused : answer (rules_of off) [] ≡ Err Empty
  pub blanks-refused : answer (rules_of off) (codes "   ") ≡ Err (Syntax 3 number_alone)
  pub two_numbers-refused : answer (rules_of off) (codes "1 2") ≡ Err (Syntax 2 after_number)
  pub unknown_word-refused : answer (rules_of off) (codes "0mxyz") ≡ Err (Syntax 1 after_number)
  pub longer_word-refused : answer (rules_of off) (codes "1mx") ≡ Err (Syntax 1 after_number)
  pub minus_after_number-refused : answer (rules_of off) (codes "0m+3-5") ≡ Err (Syntax 4 after_number)
  pub minus_after_unit-refused : answer (rules_of off) (codes "3ms-2ms") ≡ Err (Syntax 3 after_unit)
  pub minus_after_later_number-refused : answer (rules_of off) (codes "1m 3-5") ≡ Err (Syntax 4 after_number)
  pub last_operator-refused : answer (rules_of off) (codes "1m+") ≡ Err (Syntax 3 number_alone)
  pub first_operator-refused : answer (rules_of off) (codes "+1m") ≡ Err (Syntax 0 number_alone)
  pub two_operators-refused : answer (rules_of off) (codes "1m++2") ≡ Err (Syntax 3 number_alone)
  pub place_after_line_feeds : answer (rules_of off) (codes "1m" ++ 10 ∷ codes "+" ++ 10 ∷ codes "x") ≡ Err (Syntax 5 number_alone)
  pub place_in_bytes : answer (rules_of off) (codes "1µs 分") ≡ Err (Syntax 5 after_unit)
  pub vertical_tab-refused : answer (rules_of off) (codes "1m" ++ 11 ∷ codes "2") ≡ Err (Syntax 2 after_unit)
  pub form_feed-refused : answer (rules_of off) (codes "1m" ++ 12 ∷ codes "2") ≡ Err (Syntax 2 after_unit)
  pub no_break_space-refused : answer (rules_of off) (codes "1m" ++ 0xA0 ∷ codes "2") ≡ Err (Syntax 2 after_unit)
  pub wide_space-refused : answer (rules_of off) (codes "1m" ++ 0x3000 ∷ codes "2") ≡ Err (Syntax 2 after_unit)
  -- ---- The order of refusals
  pub syntax-before_standing_number : answer (rules_of off) (codes "99999999999999999999 2") ≡ Err (Syntax 21 after_number)
  pub first_term-before_syntax : answer (rules_of off) (codes "99999999999999999999y-") ≡ Err (NumberTooLarge (Some 0))
  pub syntax-before_sum : answer (rules_of off) (codes "580y 580y x") ≡ Err (Syntax 10 after_unit)
  pub syntax-before_sum-at_sign : answer (rules_of off) (codes "580y 580y-") ≡ Err (Syntax 9 after_unit)
  pub number-before_later_operator : answer (rules_of off) (codes "1m+99999999999999999999*2") ≡ Err (NumberTooLarge None)
  pub operator-before_later_number : answer (rules_of off) (codes "1m+2*99999999999999999999") ≡ Err (Mixed Plus Star)
  -- ---- The option `no_calc`
  pub no_calc-sum : answer (rules_of with_no_calc) (codes "2h 37m") ≡ Ok 9_420_000_000_000
  pub no_calc-plus_after_number : answer (rules_of with_no_calc) (codes "1+2") ≡ Err (Syntax 1 after_number-no_calc)
  pub no_calc-plus_after_unit : answer (rules_of with_no_calc) (codes "1m+2") ≡ Err (Syntax 2 after_unit-no_calc)
  pub no_calc-minus_after_number : answer (rules_of with_no_calc) (codes "0m3-5") ≡ Err (Syntax 3 after_number-no_calc)
  pub no_calc-number_stands_not : answer (rules_of with_no_calc) (codes "99999999999999999999+1")
      ≡ Err (Syntax 20 after_number-no_calc)
  pub no_calc-first_term_before_syntax : answer (rules_of with_no_calc) (codes "99999999999999999999m+1")
      ≡ Err (NumberTooLarge (Some 0))
  pub no_calc-sum_before_word : answer (rules_of with_no_calc) (codes "580y 580y x") ≡ Err (Overflow None)
  pub no_calc-sum_before_plus : answer (rules_of with_no_calc) (codes "580y 580y+1") ≡ Err (Overflow None)
  pub no_calc-sum_before_minus : answer (rules_of with_no_calc) (codes "580y 580y-") ≡ Err (Overflow None)
  pub no_calc-later_number_no_place : answer (rules_of with_no_calc) (codes "1m 99999999999999999999") ≡ Err (NumberTooLarge None)
  -- ---- The options `lowercase` and `cn_unit`
  pub capitals_folded : answer (rules_of off) (codes "1MS") ≡ Ok 1_000_000
  pub capital_minute : answer (rules_of off) (codes "1M") ≡ Ok 60_000_000_000
  pub capital_after_micro : answer (rules_of off) (codes "1µS") ≡ Ok 1_000
  pub lowercase-capital_refused : answer (rules_of with_lowercase) (codes "1M") ≡ Err (Syntax 1 after_number)
  -- the Greek letter U+03BC, which is not the micro sign U+00B5
  pub greek_mu-refused : answer (rules_of off) (49 ∷ 0x3BC ∷ 115 ∷ []) ≡ Err (Syntax 1 after_number)
  pub micro_alone-refused : answer (rules_of off) (codes "1µ s") ≡ Err (Syntax 1 after_number)
  pub cn_unit-chinese_read : answer (rules_of with_cn_unit) (codes " 1分+   31秒 + 2毫秒+  3纳秒  ") ≡ Ok 91_002_000_003
  pub cn_unit-all_read : answer (rules_of with_cn_unit) (codes "1年1月1周1日1天1时1分1秒1毫秒1微秒1纳秒") ≡ Ok 34_909_261_001_001_001
  pub chinese-refused : answer (rules_of off) (codes " 1分+   31秒 + 2毫秒+  3纳秒  ") ≡ Err (Syntax 2 after_number)
  -- ---- The quarter
  pub quarter-read : answer (rules_of off) (codes "1q") ≡ Ok 7_862_400_000_000_000
  pub capital_quarters-read : answer (rules_of off) (codes "2 Quarters") ≡ Ok 15_724_800_000_000_000
  pub capital_quarter-lowercase_refused : answer (rules_of with_lowercase) (codes "1Q") ≡ Err (Syntax 1 after_number)
  pub longer_word_than_quarter-refused : answer (rules_of off) (codes "1qs") ≡ Err (Syntax 1 after_number)
  -- ---- Printed texts around 2^64 nanoseconds
  pub reads_back-last : answer (rules_of off) (codes "584y 3q 2mon 1w 3d 23h 34min 33s 709ms 551µs 615ns")
      ≡ Ok 18_446_744_073_709_551_615
  pub overflows-greatest_duration : answer (rules_of off) (codes "584942417355y 3w 5d 7h 15s 999ms 999µs 999ns")
      ≡ Err (Overflow (Some 0))

pub answers : Answers
answers = assumption

abbrev first_that_overflows : List ℕ
first_that_overflows = codes "584y 3q 2mon 1w 3d 23h 34min 33s 709ms 551µs 616ns"

pub overflows-first : (o : Options) (no_calc lowercase cn_unit : Bool)
    → answer (rules_of (record o { no_calc = no_calc; lowercase = lowercase; cn_unit = cn_unit })) first_that_overflows
    ≡ Err (Overflow None)
overflows-first o true true true = refl
overflows-first o true false true = refl
overflows-first o false true true = refl
overflows-first o false false true = refl
overflows-first _ _ _ _ = refl

-- ---- The default unit

abbrev in_milliseconds : List ℕ → Result ℕ Cause
in_milliseconds = answer (rules_with off (Some MilliSecond))

abbrev requiring_units : List ℕ → Result ℕ Cause
requiring_units = answer (rules_with off None)

pub record DefaultUnits : Type 0 where
  -- ---- Another default unit
  pub milliseconds-alone : in_milliseconds (codes "1500") ≡ Ok 1_500_000_000
  pub milliseconds-last : in_milliseconds (codes "1s 500") ≡ Ok 1_500_000_000
  pub milliseconds-greatest : in_milliseconds (codes "18446744073709") ≡ Ok 18_446_744_073_709_000_000
  pub milliseconds-overflow : in_milliseconds (codes "18446744073710") ≡ Err (Overflow (Some 0))
  pub milliseconds-product : in_milliseconds (codes "2*3") ≡ Ok 6_000
  -- a factor without a unit counts the default unit too
  pub milliseconds-factor : in_milliseconds (codes "90s*2") ≡ Ok 180_000_000
  pub milliseconds-two_numbers : in_milliseconds (codes "1 2") ≡ Err (Syntax 2 after_number)
  pub milliseconds-later_overflow : in_milliseconds (codes "1+18446744073710") ≡ Err (Overflow None)
  -- in seconds this would overflow
  pub milliseconds-later_fits : in_milliseconds (codes "1+18446744074") ≡ Ok 18_446_744_075_000_000
  pub years : answer (rules_with off (Some Year)) (codes "2") ≡ Ok 63_072_000_000_000_000
  -- ---- No default unit: each number must have its unit
  pub required-each : requiring_units (codes "1h30m 2 s") ≡ Ok 5_402_000_000_000
  pub required-end : requiring_units (codes "1h 30") ≡ Err (Syntax 5 unit_alone)
  pub required-first_end : requiring_units (codes "1") ≡ Err (Syntax 1 unit_alone)
  pub required-before_minus : requiring_units (codes "90 -") ≡ Err (Syntax 3 unit_alone)
  pub required-before_later_plus : requiring_units (codes "1h 30 + 5x") ≡ Err (Syntax 6 unit_alone)
  pub required-before_plus : requiring_units (codes "1 + 2x") ≡ Err (Syntax 2 unit_alone)
  pub required-before_star : requiring_units (codes "1s+2*3") ≡ Err (Syntax 4 unit_alone)
  pub required-before_word : requiring_units (codes "5x") ≡ Err (Syntax 1 unit_alone)
  pub required-after_unit : requiring_units (codes "5s x") ≡ Err (Syntax 3 after_unit)
  pub required-large_number_stands_not : requiring_units (codes "99999999999999999999") ≡ Err (Syntax 20 unit_alone)
  pub required-first_term_before_end : requiring_units (codes "99999999999999999999h 5")
      ≡ Err (NumberTooLarge (Some 0))
  pub required-overflow_before_end : requiring_units (codes "600y 30") ≡ Err (Overflow (Some 0))
  pub required-sum_after_end : requiring_units (codes "580y 580y 5") ≡ Err (Syntax 11 unit_alone)
  pub required-no_calc : answer (rules_with with_no_calc None) (codes "580y 580y 5") ≡ Err (Overflow None)
  pub required-no_calc_plus : answer (rules_with with_no_calc None) (codes "1+2s") ≡ Err (Syntax 1 unit_alone)

pub default_units : DefaultUnits
default_units = assumption

-- ---- More names

abbrev with_more_names : List ℕ → Result ℕ Cause
with_more_names = answer (more_rules off (Some Second))

pub record MoreNamesRead : Type 0 where
  pub names-years : with_more_names (codes "1yr 1yrs") ≡ Ok 63_072_000_000_000_000
  pub names-quarters : with_more_names (codes "1qtr 1qtrs") ≡ Ok 15_724_800_000_000_000
  pub names-months : with_more_names (codes "1mons 1mth 1mths") ≡ Ok 7_776_000_000_000_000
  pub names-weeks : with_more_names (codes "1wk 1wks") ≡ Ok 1_209_600_000_000_000
  pub names-hours_to_seconds : with_more_names (codes "2hrs 5mins 10secs") ≡ Ok 7_510_000_000_000
  pub names-milliseconds : with_more_names (codes "1msecs 1milli 1millis") ≡ Ok 3_000_000
  pub names-microseconds : with_more_names (codes "1µsecs 1µseconds 1usecs 1useconds 1micro 1micros") ≡ Ok 6_000
  pub names-nanoseconds : with_more_names (codes "1nsecs 1nano 1nanos") ≡ Ok 3
  -- the library's own names and lengths
  pub own_names : with_more_names (codes "1y 1q 1mon 1min 30") ≡ Ok 41_990_490_000_000_000
  pub product : with_more_names (codes "2hrs * 3") ≡ Ok 21_600_000_000_000
  pub capitals-folded : with_more_names (codes "5 MINS 1µSecs") ≡ Ok 300_000_001_000
  pub lowercase-capital_refused : answer (more_rules with_lowercase (Some Second)) (codes "5Mins")
      ≡ Err (Syntax 1 after_number)
  -- `M` is a name of humantime's month only
  pub month_letter-refused : answer (more_rules with_lowercase (Some Second)) (codes "1M") ≡ Err (Syntax 1 after_number)
  pub unit_required : answer (more_rules off None) (codes "5mins 30") ≡ Err (Syntax 8 unit_alone)
  pub chinese : answer (more_rules with_cn_unit (Some Second)) (codes "1年1yr") ≡ Ok 63_072_000_000_000_000
  -- near words that are not read
  pub megabyte-refused : map with_more_names (codes "1mo" ∷ codes "1mos" ∷ codes "1Mo" ∷ [])
      ≡ Err (Syntax 1 after_number) ∷ Err (Syntax 1 after_number) ∷ Err (Syntax 1 after_number) ∷ []
  pub greek_mu-refused : with_more_names (49 ∷ 0x3BC ∷ codes "secs") ≡ Err (Syntax 1 after_number)
  pub longer_word-refused : with_more_names (codes "1minss") ≡ Err (Syntax 1 after_number)

pub more_names_read : MoreNamesRead
more_names_read = assumption

-- ---- humantime's units

abbrev as_humantime : List ℕ → Result ℕ Cause
as_humantime = answer (humantime_rules with_lowercase)

pub record HumantimeUnits : Type 0 where
  -- humantime's own names, by the length of their units
  pub names-below_second : as_humantime (codes "1nanos1nsec1ns1usec1us1µs1millis1msec1ms") ≡ Ok 3_003_003
  pub names-seconds : as_humantime (codes "1seconds1second1secs1sec1s") ≡ Ok 5_000_000_000
  pub names-minutes : as_humantime (codes "1minutes1minute1min1mins1m") ≡ Ok 300_000_000_000
  pub names-hours : as_humantime (codes "1hours1hour1hr1hrs1h") ≡ Ok 18_000_000_000_000
  pub names-days : as_humantime (codes "1days1day1d") ≡ Ok 259_200_000_000_000
  pub names-weeks : as_humantime (codes "1weeks1week1wk1wks1w") ≡ Ok 3_024_000_000_000_000
  pub names-months : as_humantime (codes "1months1month1M") ≡ Ok 7_890_048_000_000_000
  pub names-years : as_humantime (codes "1years1year1yr1yrs1y") ≡ Ok 157_788_000_000_000_000
  -- the library's own names are read too
  pub own-quarter_and_month : as_humantime (codes "1q 1mon") ≡ Ok 10_492_416_000_000_000
  pub capital_and_small : as_humantime (codes "1M + 1m") ≡ Ok 2_630_076_000_000_000
  pub product : as_humantime (codes "5mins * 2s") ≡ Ok 600_000_000_000
  -- what humantime prints for 365 days
  pub printed-365_days : as_humantime (codes "11months 30days 3h 50m 24s") ≡ Ok 31_536_000_000_000_000
  pub year-greatest : as_humantime (codes "584y") ≡ Ok 18_429_638_400_000_000_000
  pub year-overflow : as_humantime (codes "585y") ≡ Err (Overflow (Some 0))
  -- by the library's own lengths, 7,100 months are read
  pub month-overflow : as_humantime (codes "7100mon") ≡ Err (Overflow (Some 0))
  pub months-overflow : as_humantime (codes "7000mon 100mon") ≡ Err (Overflow None)
  pub other_capital-refused : as_humantime (codes "1H") ≡ Err (Syntax 1 unit_alone)
  pub capitals-refused : as_humantime (codes "1MM") ≡ Err (Syntax 1 unit_alone)
  pub number_alone-refused : as_humantime (codes "5mins 30") ≡ Err (Syntax 8 unit_alone)
  pub chinese : answer (humantime_rules (record with_lowercase { cn_unit = true })) (codes "1年1月")
      ≡ Ok 34_187_616_000_000_000
  -- if capitals are read as small letters, `M` is a minute
  pub folded : answer (humantime_rules off) (codes "1M 1MINS") ≡ Ok 120_000_000_000
  pub elsewhere-refused : map (answer (rules_of with_lowercase)) (codes "1mins" ∷ codes "1M" ∷ codes "1yr" ∷ [])
      ≡ Err (Syntax 1 after_number) ∷ Err (Syntax 1 after_number) ∷ Err (Syntax 1 after_number) ∷ []

pub humantime_units : HumantimeUnits
humantime_units = assumption
