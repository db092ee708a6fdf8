use Rattle.duration_str_printing.proofs.Common.{as_nanos, cases_lt, FitsDuration, IfSome, inl, inr, IsSome, rules, None, Option, Some, ℕ, ◌*◌, ◌+◌, ◌^◌, ◌↔◌, ◌≡◌, ◌≤◌}
use Rattle.std.specs.Option.{IfNone}
use Rattle.duration_str_printing.proofs.RoundingLemmas.{none_above, zero_above, zero_down, zero_up}
use Rattle.duration_str_printing.proofs.rounding.neighbors.Goals as goal
use Rattle.duration_str_printing.specs.Rounding.{IsRoundedUp, NoneAbove, OnlyZero}
use Rattle.duration_str_printing.specs.declared.format.Format.{Format}
use Rattle.std.specs.declared.time.Duration.{Duration}

pub returns-in_default-clause-down : goal.returns-in_default-clause-down
returns-in_default-clause-down c = zero_down c.args.format (as_nanos c.args.d) c.in_default.ensures.none

zero_is_up : (format : Format) (nanos : ℕ) (zero : Option Duration)
    → IfSome zero (λ z. (as_nanos z ≡ 0) × (nanos ≡ 0))
    → IfSome zero (λ up. IsRoundedUp format nanos (as_nanos up))
zero_is_up format nanos None h = tt
zero_is_up format nanos (Some z) h = rw (h.0, h.1) (zero_up format)

pub returns-in_default-clause-some : goal.returns-in_default-clause-some
returns-in_default-clause-some c =
    zero_is_up c.args.format (as_nanos c.args.d) c.zero.result c.zero.ensures.some

none_is_up : (format : Format) (nanos : ℕ) (zero : Option Duration) → OnlyZero format
    → IfNone zero (1 ≤ nanos) → IfNone zero (NoneAbove format nanos)
none_is_up format nanos None only more = zero_above format nanos only more
none_is_up format nanos (Some z) only more = tt

pub returns-in_default-clause-none : goal.returns-in_default-clause-none
returns-in_default-clause-none c =
    none_is_up c.args.format (as_nanos c.args.d) c.zero.result c.in_default.ensures.none c.zero.ensures.none

too_long : (format : Format) (nanos up : ℕ) (sum : Option Duration) → IsRoundedUp format nanos up
    → (IsSome sum ↔ FitsDuration up) → IfNone sum (NoneAbove format nanos)
too_long format nanos up (Some d) is_up fits = tt
too_long format nanos up None is_up fits = elim (cases_lt up (2 ^ 64 * 1000000000)) [
  | inl less ↦ let some : IsSome {T = Duration} None = fits.1 less in absurd (search rules)
  | inr long ↦ none_above format nanos up is_up long
]

pub returns-clause-none : goal.returns-clause-none
returns-clause-none c =
    let nanos = as_nanos c.args.d in
    too_long c.args.format nanos (nanos + c.in-Some.above) c.checked_add.result
    (rw c.as_nanos.ensures at c.in-Some.ensures.up)
    (rw c.from_nanos-2.ensures at c.checked_add.ensures.variant)
