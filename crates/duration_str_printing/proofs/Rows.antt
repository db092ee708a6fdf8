-- Examples that were worked out by hand, and are computed here, such as the texts of durations.
use Rattle.duration_str_printing.proofs.Common.{[], ALL, arith, codes, Compact, counts_of, counts_within, Day, encode_utf8_all, Format, Hour, if◌then◌else◌, inl, inr, length, lengths_within, List, Long, MAX_LONG_LEN, MAX_PRINTED_LEN, MicroSecond, MilliSecond, Minute, Month, nanos_of, NanoSecond, nat_lt, nonzero, printed_counts, Quarter, refl, Second, Short, shorter_units, Style, text_within, TimeUnit, unit_lengths, units, units_within, Week, whole_format, Year, ℕ, ◌++◌, ◌∷◌, ◌≡◌}
use Rattle.duration_str_printing.proofs.RoundingLemmas.{near_own, nearest_up, none_above, only_zero, rounded_down, rounded_up, zero_above}
use Rattle.duration_str_printing.specs.Breakdown.{sum_of_parts}
use Rattle.duration_str_printing.specs.Format.{chosen, down_to, intersection, is_in, set_of, up_to, without_unit}
use Rattle.duration_str_printing.specs.Rounding.{IsNearest, IsRoundedDown, IsRoundedUp, NoneAbove}
use Rattle.duration_str_base.proofs.UnitLemmas.{Each, each_unit}
use Rattle.std.specs.Fmt.{digits}
use Rattle.std.specs.Str.{chars}
use lib.Utf8.{encode}

abbrev styled : Style → ℕ → List ℕ
styled style nanos = printed_counts style (counts_of unit_lengths nanos)

abbrev printed : ℕ → List ℕ
printed = styled Short

abbrev longest_long : List ℕ
longest_long =
    codes "100000000000 years 3 quarters 2 months 3 weeks 6 days 23 hours 59 minutes 59 seconds"
    ++ codes " 999 milliseconds 999 microseconds 999 nanoseconds"

abbrev greatest_duration : List ℕ
greatest_duration = codes "584942417355y 3w 5d 7h 15s 999ms 999µs 999ns"

abbrev longest : List ℕ
longest = codes "100000000000y 3q 2mon 3w 6d 23h 59min 59s 999ms 999µs 999ns"

pub record PrintedTexts : Type 0 where
  -- ---- Printed texts
  pub printed-zero : printed 0 ≡ codes "0s"
  pub printed-milliseconds : printed 193_029_000_000 ≡ codes "3min 13s 29ms"
  pub printed-day_to_second : printed 93_784_000_000_000 ≡ codes "1d 2h 3min 4s"
  pub printed-807_days : printed 69_724_800_000_000_002 ≡ codes "2y 2mon 2w 3d 2ns"
  pub printed-90_days : printed 7_776_000_000_000_000 ≡ codes "3mon"
  pub printed-91_days : printed 7_862_400_000_000_000 ≡ codes "1q"
  pub printed-364_days : printed 31_449_600_000_000_000 ≡ codes "4q"
  pub printed-35_days : printed 3_024_000_000_000_000 ≡ codes "1mon 5d"
  pub printed-377_days : printed 32_572_803_000_000_000 ≡ codes "1y 1w 5d 3s"
  -- ---- The other styles
  pub long-half_hour : styled Long 5_400_000_000_000 ≡ codes "1 hour 30 minutes"
  pub long-two_days : styled Long 172_801_000_000_000 ≡ codes "2 days 1 second"
  pub long-zero : styled Long 0 ≡ codes "0 seconds"
  pub long-longest : styled Long 3_153_600_000_031_190_399_999_999_999 ≡ longest_long
  pub longest_long-bytes : length (encode_utf8_all longest_long) ≡ MAX_LONG_LEN
  pub compact-half_hour : styled Compact 5_400_000_000_000 ≡ codes "1h30min"
  pub compact-milliseconds : styled Compact 193_029_000_000 ≡ codes "3min13s29ms"
  pub compact-zero : styled Compact 0 ≡ codes "0s"
  -- ---- Printed texts around 2^64 nanoseconds
  pub printed-last_that_reads_back : printed 18_446_744_073_709_551_615
      ≡ codes "584y 3q 2mon 1w 3d 23h 34min 33s 709ms 551µs 615ns"
  pub printed-first_that_overflows : printed 18_446_744_073_709_551_616
      ≡ codes "584y 3q 2mon 1w 3d 23h 34min 33s 709ms 551µs 616ns"
  pub printed-greatest_duration : printed 18_446_744_073_709_551_615_999_999_999 ≡ greatest_duration
  pub printed-longest : printed 3_153_600_000_031_190_399_999_999_999 ≡ longest
  pub longest-bytes : length (encode_utf8_all longest) ≡ MAX_PRINTED_LEN

pub printed_texts : PrintedTexts
unfolding chars digits encode
printed_texts = assumption

-- ---- In a format

abbrev limited : Format → ℕ → List ℕ
limited format nanos = text_within format (counts_within (lengths_within format) format.parts nanos)

abbrev only : List TimeUnit → Format
only us = record whole_format { units = intersection ALL (set_of us) }

abbrev usual : Format
usual = record whole_format { units = without_unit Week (without_unit Quarter ALL) }

pub record LimitedTexts : Type 0 where
  pub two_parts : limited (record whole_format { parts = 2 }) 193_029_000_000 ≡ codes "3min 13s"
  pub one_part-119_days : limited (record whole_format { parts = 1 }) 10_281_600_000_000_000 ≡ codes "1q"
  pub no_parts : limited (record whole_format { parts = 0; style = Long }) 7_200_000_000_000 ≡ codes "0 seconds"
  -- ---- A largest and a smallest unit
  pub from_days : limited (record whole_format { units = up_to Day ALL }) 10_368_000_000_000_005 ≡ codes "120d 5ns"
  pub down_to_hours : limited (record whole_format { units = down_to Hour ALL }) 193_029_000_000 ≡ codes "0h"
  pub down_to_seconds : limited (record whole_format { units = down_to Second ALL }) 193_029_000_000
      ≡ codes "3min 13s"
  pub no_units : limited (record whole_format { units = down_to Hour (up_to Minute ALL) }) 7_200_000_000_000
      ≡ codes "0s"
  -- ---- Other sets of units
  pub usual-180_days : limited usual 15_552_000_000_000_000 ≡ codes "6mon"
  pub usual-400_days : limited usual 34_560_000_000_000_000 ≡ codes "1y 1mon 5d"
  pub usual-compact : limited (record usual { style = Compact }) 34_560_000_000_000_000 ≡ codes "1y1mon5d"
  pub years_and_days-400_days : limited (only (Year ∷ Day ∷ [])) 34_560_000_000_000_000 ≡ codes "1y 35d"
  pub other_order : limited (only (Day ∷ Year ∷ Day ∷ [])) 34_560_000_000_000_000 ≡ codes "1y 35d"
  pub years_and_days-hours : limited (only (Year ∷ Day ∷ [])) 3_600_000_000_000 ≡ codes "0d"
  pub months_and_days-one_part : limited (record (only (Month ∷ Day ∷ [])) { parts = 1 }) 10_281_600_000_000_000
      ≡ codes "3mon"
  pub weeks_alone : limited (only (Week ∷ [])) 10_281_600_000_000_000 ≡ codes "17w"
  pub weeks_alone-days : limited (only (Week ∷ [])) 518_400_000_000_000 ≡ codes "0w"
  pub milliseconds_alone : limited (only (MilliSecond ∷ [])) 1_500_999_999 ≡ codes "1500ms"
  -- if all units are shorter than a second, the zero has the second's name
  pub milliseconds_alone-zero : limited (only (MilliSecond ∷ [])) 999_999 ≡ codes "0s"
  pub years_and_milliseconds-long : limited (record (only (Year ∷ MilliSecond ∷ [])) { style = Long })
      31_536_000_001_000_000 ≡ codes "1 year 1 millisecond"
  pub none : limited (only []) 34_560_000_000_000_000 ≡ codes "0s"
  -- ---- Sets of units, and their bits
  pub taken_out : intersection (without_unit Week ALL) (set_of (Week ∷ Day ∷ [])) ≡ set_of (Day ∷ [])
  pub number_of_all : set_of units ≡ ALL
  pub number_of_year : set_of (Year ∷ []) ≡ record { bits = 1 }
  pub number_of_nanosecond : set_of (NanoSecond ∷ []) ≡ record { bits = 1_024 }
  pub number_from_days : up_to Day ALL ≡ record { bits = 0x7F0 }
  pub number_down_to_hours : down_to Hour ALL ≡ record { bits = 0x3F }
  -- ---- The units that are shorter than all given ones
  pub shorter_than_hours : shorter_units (Year ∷ Hour ∷ [])
      ≡ Minute ∷ Second ∷ MilliSecond ∷ MicroSecond ∷ NanoSecond ∷ []
  pub shorter_than_none : shorter_units [] ≡ MilliSecond ∷ MicroSecond ∷ NanoSecond ∷ []

pub limited_texts : LimitedTexts
unfolding chars digits encode chosen is_in
limited_texts = assumption

-- ---- The parts as numbers

abbrev parts_of : Format → ℕ → List (TimeUnit × ℕ)
parts_of format nanos = nonzero (units_within format) (counts_within (lengths_within format) format.parts nanos)

pub record PartsAsNumbers : Type 0 where
  pub whole : parts_of whole_format 193_029_000_000 ≡ (Minute, 3) ∷ (Second, 13) ∷ (MilliSecond, 29) ∷ []
  pub two : parts_of (record whole_format { parts = 2 }) 193_029_000_000 ≡ (Minute, 3) ∷ (Second, 13) ∷ []
  pub style : parts_of (record whole_format { parts = 1; style = Long }) 193_029_000_000 ≡ (Minute, 3) ∷ []
  pub between : parts_of whole_format 3_600_000_000_005 ≡ (Hour, 1) ∷ (NanoSecond, 5) ∷ []
  pub one-119_days : parts_of (record whole_format { parts = 1 }) 10_281_600_000_000_000 ≡ (Quarter, 1) ∷ []
  pub years_and_days-400_days : parts_of (only (Day ∷ Year ∷ [])) 34_560_000_000_000_000 ≡ (Year, 1) ∷ (Day, 35) ∷ []
  pub zero : parts_of whole_format 0 ≡ []
  pub zero_hours : parts_of (only (Hour ∷ [])) 3_599_999_999_999 ≡ []
  pub no_parts : parts_of (record whole_format { parts = 0 }) 193_029_000_000 ≡ []
  pub no_units : parts_of (only []) 193_029_000_000 ≡ []
  pub longest : parts_of (only (NanoSecond ∷ [])) 18_446_744_073_709_551_615_999_999_999
      ≡ (NanoSecond, 18_446_744_073_709_551_615_999_999_999) ∷ []
  pub sum : sum_of_parts ((Minute, 3) ∷ (Second, 13) ∷ []) ≡ 193_000_000_000
  pub no_sum : sum_of_parts [] ≡ 0

pub parts_as_numbers : PartsAsNumbers
unfolding chosen is_in
parts_as_numbers = assumption

-- ---- Rounding

abbrev one_part : Format
one_part = record whole_format { parts = 1 }

abbrev months_and_weeks : Format
months_and_weeks = only (Month ∷ Week ∷ [])

pub record RoundedDurations : Type 0 where
  -- 1h 59min 59s
  pub down : IsRoundedDown one_part 7_199_000_000_000 3_600_000_000_000
  pub nearest : IsNearest one_part 7_199_000_000_000 7_200_000_000_000
  pub up : IsRoundedUp one_part 3_600_000_000_001 7_200_000_000_000
  -- 30 seconds are as near to no minute as to one
  pub halfway : IsNearest (record whole_format { units = down_to Minute ALL }) 30_000_000_000 60_000_000_000
  -- after four quarters comes a year, and after four weeks a month
  pub quarters : IsRoundedUp one_part 31_449_600_000_000_001 31_536_000_000_000_000
  pub weeks : IsRoundedUp months_and_weeks 2_505_600_000_000_000 2_592_000_000_000_000
  pub whole : IsRoundedUp one_part 2_592_000_000_000_000 2_592_000_000_000_000
  pub no_parts : NoneAbove (record whole_format { parts = 0 }) 1
  pub too_long : NoneAbove (only (Year ∷ [])) 18_446_744_073_709_551_615_999_999_999

pub rounded_durations : RoundedDurations
unfolding chosen is_in
rounded_durations =
    let in_minutes = record whole_format { units = down_to Minute ALL } in
    record {
      down = rounded_down one_part 7_199_000_000_000 3_599_000_000_000 refl;
      nearest = nearest_up one_part 7_199_000_000_000 3_600_000_000_000 7_200_000_000_000
          (rounded_down one_part 7_199_000_000_000 3_599_000_000_000 refl)
          (rounded_up one_part 7_199_000_000_000 _ _ (omega arith) (near_own one_part 7_199_000_000_000)) (omega arith);
      up = rounded_up one_part 3_600_000_000_001 _ _ (omega arith) (near_own one_part 3_600_000_000_001);
      halfway = nearest_up in_minutes 30_000_000_000 0 60_000_000_000
          (rounded_down in_minutes 30_000_000_000 30_000_000_000 refl)
          (rounded_up in_minutes 30_000_000_000 _ _ (omega arith) (near_own in_minutes 30_000_000_000)) (omega arith);
      quarters = rounded_up one_part 31_449_600_000_000_001 _ _ (omega arith) (near_own one_part 31_449_600_000_000_001);
      weeks = rounded_up months_and_weeks 2_505_600_000_000_000 _ _ (omega arith) (near_own months_and_weeks 2_505_600_000_000_000);
      whole = rounded_up one_part 2_592_000_000_000_000 _ _ (omega arith) (near_own one_part 2_592_000_000_000_000);
      no_parts = zero_above (record whole_format { parts = 0 }) 1
          (only_zero (record whole_format { parts = 0 }) (inr (inl refl))) (omega arith);
      too_long = none_above (only (Year ∷ [])) 18_446_744_073_709_551_615_999_999_999
          18_446_744_073_738_816_000_000_000_000
          (rounded_up (only (Year ∷ [])) 18_446_744_073_709_551_615_999_999_999 _ _ (omega arith)
          (near_own (only (Year ∷ [])) 18_446_744_073_709_551_615_999_999_999)) (omega arith);
    }

abbrev units_from : TimeUnit → List TimeUnit → List TimeUnit
units_from largest [] = []
units_from largest (u ∷ us) = if nat_lt (nanos_of largest) (nanos_of u) then units_from largest us else u ∷ us

abbrev units_down_to : TimeUnit → List TimeUnit → List TimeUnit
units_down_to smallest [] = []
units_down_to smallest (u ∷ us) = if nat_lt (nanos_of u) (nanos_of smallest) then [] else u ∷ units_down_to smallest us

abbrev IsRange : TimeUnit → TimeUnit → Type 0
IsRange largest smallest =
    chosen (down_to smallest (up_to largest ALL)) units ≡ units_down_to smallest (units_from largest units)

each_range : (largest : TimeUnit) → Each (IsRange largest) units
unfolding chosen is_in
each_range Year = assumption
each_range largest = assumption

pub ranges : (largest smallest : TimeUnit) → IsRange largest smallest
ranges largest = each_unit (IsRange largest) (each_range largest)
