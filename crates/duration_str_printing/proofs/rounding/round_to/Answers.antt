use Rattle.duration_str_printing.proofs.Common.{ap, arith, as_nanos}
use Rattle.duration_str_printing.proofs.RoundingLemmas.{nearest_down, nearest_up}
use Rattle.duration_str_printing.proofs.rounding.round_to.Goals as goal
use Rattle.duration_str_printing.specs.Rounding.{IsRoundedUp, NoneAbove}

pub returns-in-Down-clause-some : goal.returns-in-Down-clause-some
returns-in-Down-clause-some c = rw c.in-Down.is c.neighbors-up.ensures.down

pub returns-in-Up-clause-some : goal.returns-in-Up-clause-some
returns-in-Up-clause-some c = rw c.in-Up.is c.neighbors-up.ensures.some

pub returns-in-Some-clause-some : goal.returns-in-Some-clause-some
returns-in-Some-clause-some c =
    let nanos = as_nanos c.args.d.now in
    let down = as_nanos c.neighbors-up.result.0 in
    let up = rw c.in-Some.is at c.neighbors-up.ensures.some in
    rw (c.in-Nearest.is, c.in-Some.is)
    (nearest_up c.args.format nanos down (as_nanos c.in-Some.longer) c.neighbors-up.ensures.down up
    (omega (arith, ap as_nanos c.in-Some.longer-is, c.as_nanos.ensures, c.if-as_nanos.true)))

pub returns-in_default-clause-some : goal.returns-in_default-clause-some
returns-in_default-clause-some c =
    let nanos = as_nanos c.args.d.now in
    let down = as_nanos c.neighbors-up.result.0 in
    let up : IsRoundedUp c.args.format nanos (as_nanos c.in-Some.longer) =
    rw c.in-Some.is at c.neighbors-up.ensures.some in
    rw c.in-Nearest.is
    (nearest_down c.args.format nanos down c.neighbors-up.ensures.down
    (λ other fits kept more.
    omega (arith, up.least other kept more, ap as_nanos c.in-Some.longer-is, c.as_nanos.ensures, c.if-as_nanos.false)))

pub returns-in_default-2-clause-some : goal.returns-in_default-2-clause-some
returns-in_default-2-clause-some c =
    let nanos = as_nanos c.args.d.now in
    let down = as_nanos c.neighbors-up.result.0 in
    let none : NoneAbove c.args.format nanos = rw c.in_default.is at c.neighbors-up.ensures.none in
    rw c.in-Nearest.is
    (nearest_down c.args.format nanos down c.neighbors-up.ensures.down
    (λ other fits kept more. absurd (omega (arith, none other fits kept, more))))
