-- Rows of definitions that say what calls return: what follows from each in one case. A definition
-- that said less would be refused here.
use Rattle.std.specs.Prelude.{◌≡◌, ℕ, ◌<◌, ◌≤◌, List, Option, None, Some}
use Rattle.std.proofs.Common.{arith}
use Rattle.std.specs.Duration.{FitsDuration}
use Rattle.duration_str_printing.specs.Breakdown.{AreParts, ArePartsRounded, nanos_left, YieldsPart}
use Rattle.duration_str_printing.specs.Format.{IsPrintedWithin, whole_format}
use Rattle.duration_str_printing.specs.Rounding.{IsPrintedRounded, IsRoundedUp, IsShown, NoneAbove, NoneShown, PrintsWhole}
use Rattle.duration_str_printing.specs.declared.breakdown.Breakdown.{Breakdown}
use Rattle.duration_str_printing.specs.declared.format.Format.{Format}
use Rattle.duration_str_printing.specs.declared.rounding.Rounding.{Rounding}
use Rattle.duration_str_printing.specs.declared.rounding.Rounding.TheVariants.{Up}
use Rattle.duration_str_base.specs.declared.unit.TimeUnit.{TimeUnit}
use Rattle.duration_str_base.specs.declared.unit.TimeUnit.TheVariants.{Hour}

pub hours_leave_less_than_one : (old new : Breakdown) (count : ℕ) → YieldsPart old (Some (Hour, count)) new
    → nanos_left new < 3_600_000_000_000
hours_leave_less_than_one old new count part = part.less

pub rest_stays : (old new : Breakdown) → YieldsPart old None new → nanos_left old ≡ nanos_left new
rest_stays old new none = none.rest

pub all_is_shown_if_not_rounded : (shown : ℕ) → IsShown None whole_format 1_500_000_000 shown
    → shown ≡ 1_500_000_000
all_is_shown_if_not_rounded shown is = is

pub rounded_up_is_not_below : (shown : ℕ) → IsShown (Some Up) whole_format 1_500_000_000 shown
    → 1_500_000_000 ≤ shown
rounded_up_is_not_below shown is = is.1.not_below

pub rounded_up_prints_whole : (format : Format) (shown : ℕ) → IsShown (Some Up) format 1_500_000_000 shown
    → PrintsWhole format shown
rounded_up_prints_whole format shown is = is.1.whole

pub rounded_up_fits : (shown : ℕ) → IsShown (Some Up) whole_format 1_500_000_000 shown → FitsDuration shown
rounded_up_fits shown is = is.0

pub only_up_has_none : (rounding : Option Rounding) → NoneShown rounding whole_format 1_500_000_000
    → rounding ≡ Some Up
only_up_has_none rounding none = none.0

pub none_is_above : NoneShown (Some Up) whole_format 1_500_000_000 → NoneAbove whole_format 1_500_000_000
none_is_above none = none.1

pub prints_itself_if_not_rounded : (format : Format) (text : List ℕ)
    → IsPrintedRounded None format 1_500_000_000 text → IsPrintedWithin format 1_500_000_000 text
prints_itself_if_not_rounded format text (shown, is, printed) = rw is at printed

pub rounded_up_prints_two_seconds : (format : Format) (text : List ℕ)
    → IsRoundedUp format 1_500_000_000 2_000_000_000 → IsPrintedRounded (Some Up) format 1_500_000_000 text
    → IsPrintedWithin format 2_000_000_000 text
rounded_up_prints_two_seconds format text up (shown, is, printed) =
    let same : shown ≡ 2_000_000_000 =
    omega (arith, up.least shown is.1.whole is.1.not_below, is.1.least 2_000_000_000 up.whole up.not_below) in
    rw same at printed

pub has_its_parts_if_not_rounded : (format : Format) (shown : ℕ) (parts : List (TimeUnit × ℕ))
    → ArePartsRounded None format 1_500_000_000 shown parts → AreParts format 1_500_000_000 parts
has_its_parts_if_not_rounded format shown parts (is, are) = rw is at are

pub rounded_up_has_the_parts_of_two_seconds : (format : Format) (parts : List (TimeUnit × ℕ))
    → ArePartsRounded (Some Up) format 1_500_000_000 2_000_000_000 parts → AreParts format 2_000_000_000 parts
rounded_up_has_the_parts_of_two_seconds format parts (is, are) = are
