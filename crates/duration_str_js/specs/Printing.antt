-- How a duration is printed or counted in a format that numbers stand for.
use Rattle.std.specs.Prelude.{◌≡◌, ℕ, ◌-◌, ◌%◌, ◌^◌, ◌==◌, nat_lt, List, [], ◌∷◌, map, Option, None, Some, slice_set, if◌then◌else◌}
use Rattle.duration_str_printing.specs.declared.format.Format.{Format}
use Rattle.duration_str_printing.specs.declared.format.Style.{Style}
use Rattle.duration_str_printing.specs.declared.format.Style.TheVariants.{Short, Compact, Long}
use Rattle.duration_str_printing.specs.declared.format.TheConstants.Units.{ALL}
use Rattle.duration_str_printing.specs.declared.format.Units.{Units}
use Rattle.duration_str_printing.specs.declared.rounding.Rounding.{Rounding}
use Rattle.duration_str_printing.specs.declared.rounding.Rounding.TheVariants.{Down, Nearest, Up}
use Rattle.duration_str_base.specs.declared.unit.TimeUnit.{TimeUnit}
use Rattle.duration_str_printing.specs.Breakdown.{ArePartsRounded, sum_of_parts}
use Rattle.duration_str_printing.specs.Format.{set_of}
use Rattle.duration_str_base.specs.Units.{rank_of}

abbrev pub style_numbered : ℕ → Style
style_numbered number = if number == 0 then Short else if number == 1 then Compact else Long

-- the set that the bits stand for, or all units if a bit above that of the nanosecond is set
abbrev pub units_of : ℕ → Units
units_of bits = if nat_lt bits 2048 then record { bits = bits } else ALL

abbrev pub format_of : ℕ → ℕ → Style → Format
format_of units parts style = record { units = units_of units; parts = parts; style = style }

abbrev pub rounding_numbered : ℕ → Option Rounding
rounding_numbered number =
    if number == 0 then None
    else if number == 1 then Some Down
    else if number == 2 then Some Nearest
    else Some Up

-- the counts, with those of the parts written over them. Of each count 64 bits are written
abbrev pub with_counts : List ℕ → List (TimeUnit × ℕ) → List ℕ
with_counts counts [] = counts
with_counts counts ((u, n) ∷ parts) = with_counts (slice_set counts (rank_of u) (n % 2 ^ 64)) parts

abbrev pub units_among : List (TimeUnit × ℕ) → List TimeUnit
units_among parts = map (λ part. part.0) parts

-- A duration of `nanos` nanoseconds is rounded and broken down in this format (`ArePartsRounded`).
-- The counts of its parts are written over the old ones, the set has their units, and the rest is
-- what they leave.
pub record IsCounted (rounding : Option Rounding) (format : Format) (nanos : ℕ) (old new : List ℕ) (rest : ℕ) (set : Units) : Type 0 where
  pub shown : ℕ
  pub parts : List (TimeUnit × ℕ)
  pub are_parts : ArePartsRounded rounding format nanos shown parts
  pub counts : new ≡ with_counts old parts
  pub units : set ≡ set_of (units_among parts)
  pub rest_of : rest ≡ (shown - sum_of_parts parts) % 2 ^ 64
