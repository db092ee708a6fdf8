-- The time that is left, as it is shown.
use Rattle.std.specs.Prelude.{◌≡◌, ℕ, ◌^◌, ◌<◌, ◌≤◌, List, Option}
use Rattle.duration_str_printing.specs.declared.format.Format.{Format}
use Rattle.duration_str_printing.specs.declared.format.TheConstants.Units.{ALL}
use Rattle.duration_str_base.specs.declared.options.Options.{Options}
use Rattle.duration_str_base.specs.declared.unit.TimeUnit.{TimeUnit}
use Rattle.duration_str_base.specs.declared.unit.TimeUnit.TheVariants.{Second}
use Rattle.duration_str_printing.specs.Rounding.{KeepsWithin}
use Rattle.duration_str_printing.specs.Format.{down_to, IsPrintedWithin, part_count, whole_format}
use Rattle.duration_str_printing.specs.Printing.{IsGreatestBreakdown}
use Rattle.duration_str_reading.specs.Reading.{IsRead}
use Rattle.duration_str_base.specs.Rules.{rules_with}
use Rattle.duration_str_base.specs.Units.{unit_lengths}

abbrev pub coarse : Format
coarse = record whole_format { units = down_to Second ALL; parts = 2 }

-- The text shows the time `shown`, which is not more than the time that is left, in at most two
-- parts. If the time that is left fits into the format, that time is shown.
pub record IsShown (left : ℕ) (text : List ℕ) (shown : ℕ) : Type 0 where
  pub never_more : shown ≤ left
  pub few : (counts : List ℕ) × IsGreatestBreakdown unit_lengths shown counts × (part_count counts ≤ 2)
  pub exact : (counts : List ℕ) → KeepsWithin coarse left counts → shown ≡ left
  pub read : (default_unit : Option TimeUnit) (o : Options) → shown < 2 ^ 64
      → IsRead (rules_with o default_unit) text shown
  pub again : IsPrintedWithin coarse shown text
