use Rattle.duration_str_printing.proofs.Common.{arith, drop_all, rules}
use Rattle.duration_str_printing.proofs.SetLemmas.{in_each, in_none}
use Rattle.duration_str_printing.proofs.format.Units.of.Goals as goal

pub returns-clause-units : goal.returns-clause-units
returns-clause-units c = λ u.
    let same = rw (drop_all c.loop-i.i c.args.units.now (omega arith)) at c.loop-i.invariant in
    rw same (rw (in_each c.args.units.now (record { bits = 0 }) u, in_none u) (search rules))
