-- The counts of a duration's parts, one for each unit, and the nanoseconds that the parts leave.
use Rattle.std.specs.Prelude.{◌≡◌, ℕ, ◌+◌, ◌^◌, ◌≤◌, ◌==◌, ◌⊎◌, Any, List, [], ◌∷◌, if◌then◌else◌, map, Option}
use Rattle.duration_str_printing.specs.declared.format.Format.{Format}
use Rattle.duration_str_printing.specs.declared.rounding.Rounding.{Rounding}
use Rattle.duration_str_base.specs.declared.unit.TimeUnit.{TimeUnit}
use Rattle.duration_str_printing.specs.Breakdown.{ArePartsRounded, sum_of_parts}
use Rattle.duration_str_base.specs.Units.{nanos_of, units}

abbrev pub count_of : List (TimeUnit × ℕ) → TimeUnit → ℕ
count_of [] u = 0
count_of ((v, n) ∷ parts) u = if nanos_of v == nanos_of u then n else count_of parts u

-- the counts of all units among these parts, that of the longest unit first
abbrev pub counts_of : List (TimeUnit × ℕ) → List ℕ
counts_of parts = map (count_of parts) units

-- A duration of `nanos` nanoseconds is rounded and broken down in this format (`ArePartsRounded`).
-- The counts are those of all units among its parts, and the parts and the rest are together all of
-- what is broken down.
pub record IsBrokenDown (rounding : Option Rounding) (format : Format) (nanos : ℕ) (counts : List ℕ) (rest : ℕ) : Type 0 where
  pub shown : ℕ
  pub parts : List (TimeUnit × ℕ)
  pub are_parts : ArePartsRounded rounding format nanos shown parts
  pub each : counts ≡ counts_of parts
  pub whole : shown ≡ sum_of_parts parts + rest

-- A count or the rest needs more than 64 bits, if a duration of `nanos` nanoseconds is rounded and
-- broken down in this format.
pub record IsTooLarge (rounding : Option Rounding) (format : Format) (nanos : ℕ) : Type 0 where
  pub counts : List ℕ
  pub rest : ℕ
  pub broken_down : IsBrokenDown rounding format nanos counts rest
  pub large : Any (λ n. 2 ^ 64 ≤ n) counts ⊎ (2 ^ 64 ≤ rest)
