-- Rows of clauses of laws that no caller in `uses` needs: what follows from each in one case. A
-- clause that said less would be refused here.
use Rattle.std.specs.Prelude.{◌≡◌, ℕ, ◌<◌, List}
use Rattle.std.specs.Duration.{FitsDuration}
use Rattle.duration_str_printing.specs.PrintingLaws.{OneRounding}
use Rattle.duration_str_printing.specs.Format.{IsGreatestWithin, lengths_within, whole_format}
use Rattle.duration_str_printing.specs.Printing.{weighted_sum}
use Rattle.duration_str_printing.specs.Rounding.{IsRounded, IsRoundedDown, IsRoundedUp, PrintsWhole}
use Rattle.duration_str_printing.specs.declared.format.Format.{Format}
use Rattle.duration_str_printing.specs.declared.rounding.Rounding.TheVariants.{Nearest, Up}

abbrev one_part : Format
one_part = record whole_format { parts = 1 }

pub prints_whole_if_all_is_counted : (counts : List ℕ) → OneRounding
    → IsGreatestWithin (lengths_within one_part) 1 3_600_000_000_000 counts
    → weighted_sum (lengths_within one_part) counts ≡ 3_600_000_000_000 → PrintsWhole one_part 3_600_000_000_000
prints_whole_if_all_is_counted counts law greatest all = (law.whole one_part 3_600_000_000_000 counts greatest).1 all

pub all_is_counted_if_it_prints_whole : (counts : List ℕ) → OneRounding
    → IsGreatestWithin (lengths_within one_part) 1 3_600_000_000_000 counts → PrintsWhole one_part 3_600_000_000_000
    → weighted_sum (lengths_within one_part) counts ≡ 3_600_000_000_000
all_is_counted_if_it_prints_whole counts law greatest whole =
    (law.whole one_part 3_600_000_000_000 counts greatest).0 whole

pub one_is_nearest : (m n : ℕ) → OneRounding → FitsDuration m → FitsDuration n
    → IsRounded Nearest one_part 5_400_000_000_000 m → IsRounded Nearest one_part 5_400_000_000_000 n → m ≡ n
one_is_nearest m n law = law.equal Nearest one_part 5_400_000_000_000 m n

pub hour_is_rounded_to_itself : OneRounding → PrintsWhole one_part 3_600_000_000_000
    → IsRounded Up one_part 3_600_000_000_000 3_600_000_000_000
hour_is_rounded_to_itself law = law.own Up one_part 3_600_000_000_000

pub none_is_between_two_hours : (other : ℕ) → OneRounding
    → IsRoundedDown one_part 5_400_000_000_000 3_600_000_000_000
    → IsRoundedUp one_part 5_400_000_000_000 7_200_000_000_000 → PrintsWhole one_part other
    → 3_600_000_000_000 < other → other < 7_200_000_000_000 → ⊥
none_is_between_two_hours other law = law.between one_part 5_400_000_000_000 3_600_000_000_000 7_200_000_000_000 other
