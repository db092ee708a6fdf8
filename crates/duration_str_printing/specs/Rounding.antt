-- A duration rounded to one that prints whole in a format.
use Rattle.std.specs.Prelude.{◌≡◌, ℕ, ◌+◌, ◌-◌, ◌<◌, ◌≤◌, List, ◌++◌, map, Option, None, Some}
use Rattle.std.specs.Duration.{FitsDuration}
use Rattle.duration_str_printing.specs.declared.format.Format.{Format}
use Rattle.duration_str_printing.specs.declared.rounding.Rounding.{Rounding}
use Rattle.duration_str_printing.specs.declared.rounding.Rounding.TheVariants.{Down, Nearest, Up}
use Rattle.duration_str_base.specs.Text.{Characters}
use Rattle.duration_str_base.specs.Units.{nanos_of}
use Rattle.duration_str_printing.specs.Printing.{IsGreatestBreakdown, weighted_sum}
use Rattle.duration_str_printing.specs.Format.{IsPrintedWithin, lengths_within, part_count, shorter_units, units_within}

-- The duration fits into the format: its greatest breakdown into the format's units and those of
-- `shorter_units` has no more parts than the format allows, and each part is in one of the format's
-- units.
pub record KeepsWithin (format : Format) (nanos : ℕ) (counts : List ℕ) : Type 0 where
  pub breakdown : IsGreatestBreakdown (map nanos_of (units_within format ++ shorter_units (units_within format))) nanos counts
  pub few : part_count counts ≤ format.parts
  pub whole : weighted_sum (lengths_within format) counts ≡ nanos

-- The duration fits into the format (`KeepsWithin`), so that nothing is left out where it is
-- printed.
abbrev pub PrintsWhole : Format → ℕ → Type 0
PrintsWhole format nanos = (counts : List ℕ) × KeepsWithin format nanos counts

-- Of the durations that print whole and are not above `nanos`, this is the greatest.
pub record IsRoundedDown (format : Format) (nanos rounded : ℕ) : Type 0 where
  pub whole : PrintsWhole format rounded
  pub not_above : rounded ≤ nanos
  pub greatest : (other : ℕ) → PrintsWhole format other → other ≤ nanos → other ≤ rounded

-- Of the durations that print whole and are not below `nanos`, this is the least.
pub record IsRoundedUp (format : Format) (nanos rounded : ℕ) : Type 0 where
  pub whole : PrintsWhole format rounded
  pub not_below : nanos ≤ rounded
  pub least : (other : ℕ) → PrintsWhole format other → nanos ≤ other → rounded ≤ other

-- how far two durations are apart
abbrev pub distance : ℕ → ℕ → ℕ
distance m n = (m - n) + (n - m)

-- Of the durations up to `Duration::MAX` that print whole, none is nearer to `nanos`, and one that
-- is as near is not longer.
pub record IsNearest (format : Format) (nanos rounded : ℕ) : Type 0 where
  pub whole : PrintsWhole format rounded
  pub nearest : (other : ℕ) → FitsDuration other → PrintsWhole format other
      → distance nanos rounded ≤ distance nanos other
  pub longer : (other : ℕ) → FitsDuration other → PrintsWhole format other
      → distance nanos other ≡ distance nanos rounded → other ≤ rounded

abbrev pub IsRounded : Rounding → Format → ℕ → ℕ → Type 0
IsRounded Down = IsRoundedDown
IsRounded Nearest = IsNearest
IsRounded Up = IsRoundedUp

-- Each duration up to `Duration::MAX` that prints whole is below `nanos`.
abbrev pub NoneAbove : Format → ℕ → Type 0
NoneAbove format nanos = (other : ℕ) → FitsDuration other → PrintsWhole format other → other < nanos

-- No duration but 0 prints whole.
abbrev pub OnlyZero : Format → Type 0
OnlyZero format = (other : ℕ) → PrintsWhole format other → other ≡ 0

-- Of a duration of `nanos` nanoseconds, `shown` nanoseconds are printed or broken down in this
-- format: those of the duration to which it is rounded, or all of them if it is not rounded.
abbrev pub IsShown : Option Rounding → Format → ℕ → ℕ → Type 0
IsShown None format nanos shown = shown ≡ nanos
IsShown (Some rounding) format nanos shown = FitsDuration shown × IsRounded rounding format nanos shown

-- The duration can't be rounded: it is to be rounded up, and nothing is long enough.
abbrev pub NoneShown : Option Rounding → Format → ℕ → Type 0
NoneShown rounding format nanos = (rounding ≡ Some Up) × NoneAbove format nanos

-- The text is that of the duration that is shown (`IsShown`), in the same format.
abbrev pub IsPrintedRounded : Option Rounding → Format → ℕ → Characters → Type 0
IsPrintedRounded rounding format nanos text =
    (shown : ℕ) × IsShown rounding format nanos shown × IsPrintedWithin format shown text
