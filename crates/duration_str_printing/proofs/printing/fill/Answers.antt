use Rattle.duration_str_printing.proofs.Common.{ap, arith, as_nanos, common_steps, length, length-take-le}
use Rattle.duration_str_printing.proofs.FormatLemmas.{within_ended, within_fits, within_utf8}
use Rattle.duration_str_printing.proofs.printing.fill.Goals as goal

pub returns-then-end-eq0-clause-text : goal.returns-then-end-eq0-clause-text
returns-then-end-eq0-clause-text c = grind (arith, common_steps, within_ended)

pub returns-then-end-eq0-clause-utf8 : goal.returns-then-end-eq0-clause-utf8
returns-then-end-eq0-clause-utf8 c =
    rw (returns-then-end-eq0-clause-text c) (within_utf8 c.args.format (as_nanos c.args.d) (omega arith))

pub returns-clause-text : goal.returns-clause-text
returns-clause-text c = grind (arith, common_steps, within_ended)

pub returns-clause-utf8 : goal.returns-clause-utf8
returns-clause-utf8 c = rw (returns-clause-text c) (within_utf8 c.args.format (as_nanos c.args.d) (omega arith))

pub returns-clause-short : goal.returns-clause-short
returns-clause-short c =
    let end = length-take-le c.put_within-end.result c.put_within-end.new.buffer (omega arith) in
    omega (arith, end, ap length c.put_within-end.ensures.text, within_fits c.args.format (as_nanos c.args.d) (omega arith))
