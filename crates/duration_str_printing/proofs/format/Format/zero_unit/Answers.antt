use Rattle.duration_str_printing.proofs.Common.{arith, rules, units, ◌∙◌, cases_Bool}
use Rattle.duration_str_printing.proofs.SetLemmas.{last_in, last_left, last_out}
use Rattle.duration_str_printing.proofs.format.Format.zero_unit.Goals as goal

pub loop-unit-preserved : goal.loop-unit-preserved
loop-unit-preserved c = search (rules, cases_Bool, last_in, last_out)

pub returns-then-nanos : goal.returns-then-nanos
returns-then-nanos c =
    let smallest = last_left c.args.self.units c.loop-unit.smallest units c.loop-unit.unit-index (omega arith)
    ∙ c.loop-unit.invariant in rw (← smallest) (search rules)

pub returns-else-nanos : goal.returns-else-nanos
returns-else-nanos c =
    let smallest = last_left c.args.self.units c.loop-unit.smallest units c.loop-unit.unit-index (omega arith)
    ∙ c.loop-unit.invariant in rw (← smallest) (search rules)
