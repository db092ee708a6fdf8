-- What is printed or broken down of a duration. The ways of rounding are numbers.
use Rattle.std.specs.Prelude.{ℕ, ◌<◌, ◌≤◌, ◌==◌, ◌⊎◌, if◌then◌else◌, Option, None, Some}
use Rattle.std.specs.Duration.{FitsDuration}
use Rattle.duration_str_printing.specs.Rounding.{NoneShown}
use Rattle.duration_str_printing.specs.declared.format.Format.{Format}
use Rattle.duration_str_printing.specs.declared.rounding.Rounding.{Rounding}
use Rattle.duration_str_printing.specs.declared.rounding.Rounding.TheVariants.{Down, Nearest, Up}

-- The number 0 stands for a duration that is not rounded.
abbrev pub rounding_numbered : ℕ → Option Rounding
rounding_numbered number =
    if number == 0 then None
    else if number == 1 then Some Down
    else if number == 2 then Some Nearest
    else Some Up

-- The duration of `nanos` nanoseconds is below 2^64 seconds, and a way of rounding has this number.
abbrev pub AreRight : ℕ → ℕ → Type 0
AreRight rounding nanos = FitsDuration nanos × (rounding ≤ 3)

-- Of a duration of `nanos` nanoseconds, nothing can be printed or broken down in this format: it is
-- 2^64 seconds or more, the way of rounding is unknown, or nothing is long enough to round up to.
abbrev pub NoneRounded : ℕ → Format → ℕ → Type 0
NoneRounded rounding format nanos =
    (FitsDuration nanos → ⊥) ⊎ ((3 < rounding) ⊎ NoneShown (rounding_numbered rounding) format nanos)
