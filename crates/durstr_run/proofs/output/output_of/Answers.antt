use Rattle.std.proofs.Common.{rules}
use Rattle.durstr_run.proofs.OutputLemmas.{Continues-line, Continues-end}
use Rattle.durstr_run.proofs.output.output_of.Goals as goal

pub loop-rest-preserved : goal.loop-rest-preserved
loop-rest-preserved g c =
    Continues-line c.args.options c.args.input.now c.loop-rest.rest.now _ _ _ _ _ c.in_ok-accepted.accepted
    c.loop-rest.invariant c.first_line.ensures.lines c.in_ok-accepted.ensures

pub returns : goal.returns
returns g c =
    Continues-end c.args.options c.args.input.now c.loop-rest.rest.now _ _ c.loop-rest.invariant (search rules)
