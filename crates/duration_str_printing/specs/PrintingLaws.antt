-- The laws of printing, each as one statement about the definitions.
use Rattle.std.specs.Prelude.{◌≡◌, ℕ, ◌+◌, ◌/◌, ◌<◌, ◌≤◌, List, [], ◌∷◌, ◌++◌, ◌%◌, ◌↔◌, length}
use Rattle.std.specs.Duration.{FitsDuration}
use Rattle.std.specs.Iterator.{Yields}
use Rattle.duration_str_base.specs.declared.unit.TimeUnit.{TimeUnit}
use Rattle.duration_str_base.specs.Text.{Characters}
use Rattle.duration_str_base.specs.Units.{unit_lengths, units}
use Rattle.duration_str_printing.specs.Printing.{IsPrintedIn, IsGreatestBreakdown, weighted_sum}
use Rattle.duration_str_printing.specs.Breakdown.{YieldsPart, nanos_left, parts_left, sum_of_parts}
use Rattle.duration_str_printing.specs.declared.breakdown.Breakdown.{Breakdown}
use Rattle.duration_str_printing.specs.declared.format.Format.{Format}
use Rattle.duration_str_printing.specs.declared.format.Style.{Style}
use Rattle.duration_str_printing.specs.declared.rounding.Rounding.{Rounding}
use Rattle.duration_str_printing.specs.Format.{whole_format, lengths_within, IsGreatestWithin, IsPrintedWithin}
use Rattle.duration_str_printing.specs.Rounding.{IsRounded, IsRoundedDown, IsRoundedUp, PrintsWhole}

-- the count of each length: what the lengths before it leave, divided by this length and rounded
-- down
abbrev pub counts_of : List ℕ → ℕ → List ℕ
counts_of [] nanos = []
counts_of (l ∷ lengths) nanos = nanos / l ∷ counts_of lengths (nanos % l)

-- The counts by quotients and remainders (`counts_of`) are the greatest breakdown.
abbrev pub GreatestBreakdown : Type 0
GreatestBreakdown = (nanos : ℕ) → IsGreatestBreakdown unit_lengths nanos (counts_of unit_lengths nanos)

-- If a format has all units and at least as many parts as there are units, a duration is printed in
-- full.
abbrev pub AllParts : Type 0
AllParts = (style : Style) (parts nanos : ℕ) (text : Characters) → length units ≤ parts
    → (IsPrintedWithin (record whole_format { parts = parts; style = style }) nanos text ↔ IsPrintedIn style nanos text)

-- A duration prints whole exactly if the counts of its text, each times its length, add up to the
-- duration. For each way of rounding there is at most one result up to `Duration::MAX`, and a
-- duration that prints whole is its own result. Between the results of rounding down and up, no
-- duration prints whole. A duration prints as the same text as what it is rounded down to.
pub record OneRounding : Type 0 where
  pub whole : (format : Format) (nanos : ℕ) (counts : List ℕ)
      → IsGreatestWithin (lengths_within format) format.parts nanos counts
      → (PrintsWhole format nanos ↔ (weighted_sum (lengths_within format) counts ≡ nanos))
  pub equal : (rounding : Rounding) (format : Format) (nanos m n : ℕ) → FitsDuration m → FitsDuration n
      → IsRounded rounding format nanos m → IsRounded rounding format nanos n → m ≡ n
  pub own : (rounding : Rounding) (format : Format) (nanos : ℕ) → PrintsWhole format nanos
      → IsRounded rounding format nanos nanos
  pub between : (format : Format) (nanos down up other : ℕ) → IsRoundedDown format nanos down
      → IsRoundedUp format nanos up → PrintsWhole format other → down < other → other < up → ⊥
  pub printed : (format : Format) (nanos down : ℕ) (text : Characters) → IsRoundedDown format nanos down
      → (IsPrintedWithin format nanos text ↔ IsPrintedWithin format down text)

-- The parts that calls of `next` return one after another are the first of those that were left.
-- They and the nanoseconds that they leave add up to the nanoseconds that were left before.
pub record PartsAndRest : Type 0 where
  pub first : (old new : Breakdown) (parts : List (TimeUnit × ℕ)) → Yields YieldsPart old parts new
      → parts_left old ≡ parts ++ parts_left new
  pub rest : (old new : Breakdown) (parts : List (TimeUnit × ℕ)) → Yields YieldsPart old parts new
      → nanos_left old ≡ sum_of_parts parts + nanos_left new
