-- The parts of a duration in a format.
use Rattle.std.specs.Prelude.{◌≡◌, ℕ, ◌+◌, ◌*◌, ◌<◌, IfSome, List, [], ◌∷◌, map, Option, MatchOption}
use Rattle.std.specs.Iterator.{YieldsFirst}
use Rattle.duration_str_printing.specs.declared.breakdown.Breakdown.{Breakdown}
use Rattle.duration_str_printing.specs.declared.format.Format.{Format}
use Rattle.duration_str_base.specs.declared.unit.TimeUnit.{TimeUnit}
use Rattle.duration_str_base.specs.Units.{nanos_of}
use Rattle.duration_str_printing.specs.Format.{IsGreatestWithin, counts_within, lengths_within, units_within, units_of}
use Rattle.duration_str_printing.specs.Printing.{nonzero}
use Rattle.duration_str_printing.specs.Rounding.{IsShown}
use Rattle.duration_str_printing.specs.declared.rounding.Rounding.{Rounding}

-- These are the parts of a duration of `nanos` nanoseconds in this format: of the greatest counts
-- that fit (`IsGreatestWithin`), those that are not 0, each with its unit, the longest unit first.
abbrev pub AreParts : Format → ℕ → List (TimeUnit × ℕ) → Type 0
AreParts format nanos parts =
    (counts : List ℕ)
    × IsGreatestWithin (lengths_within format) format.parts nanos counts × (parts ≡ nonzero (units_within format) counts)

-- Of a duration of `nanos` nanoseconds, `shown` nanoseconds are broken down in this format
-- (`IsShown`), and these are their parts.
abbrev pub ArePartsRounded : Option Rounding → Format → ℕ → ℕ → List (TimeUnit × ℕ) → Type 0
ArePartsRounded rounding format nanos shown parts = IsShown rounding format nanos shown × AreParts format shown parts

abbrev pub sum_of_parts : List (TimeUnit × ℕ) → ℕ
sum_of_parts [] = 0
sum_of_parts ((u, n) ∷ parts) = n * nanos_of u + sum_of_parts parts

-- the parts of a duration in these units, by quotients and remainders. There are at most `most`
-- parts
abbrev pub parts_in : List TimeUnit → ℕ → ℕ → List (TimeUnit × ℕ)
parts_in us most nanos = nonzero us (counts_within (map nanos_of us) most nanos)

abbrev pub parts_left : Breakdown → List (TimeUnit × ℕ)
parts_left b = parts_in (units_of b.bits) b.most b.rest

-- the nanoseconds that the parts so far leave
abbrev pub nanos_left : Breakdown → ℕ
nanos_left b = b.rest

-- The call returns the first part that is left, and subtracts it from the nanoseconds that are
-- left. The difference is less than the length of the part's unit. If no part is left, the call
-- returns none, and the nanoseconds stay as they are.
pub record YieldsPart (old : Breakdown) (result : Option (TimeUnit × ℕ)) (new : Breakdown) : Type 0 where
  pub first : YieldsFirst parts_left old result new
  pub rest : MatchOption result (nanos_left old ≡ nanos_left new)
      (λ part. nanos_left old ≡ part.1 * nanos_of part.0 + nanos_left new)
  pub less : IfSome result (λ part. nanos_left new < nanos_of part.0)
