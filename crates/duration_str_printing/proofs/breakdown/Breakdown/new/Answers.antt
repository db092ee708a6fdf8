use Rattle.duration_str_printing.proofs.Common.{as_nanos, counts_within, lengths_within, rules}
use Rattle.duration_str_printing.proofs.GreatestWithin.{greatest_within}
use Rattle.duration_str_printing.proofs.breakdown.Breakdown.new.Goals as goal

pub returns-clause-parts : goal.returns-clause-parts
returns-clause-parts c =
    let nanos = as_nanos c.args.d.now in
    (counts_within (lengths_within c.args.format) c.args.format.parts nanos, greatest_within c.args.format nanos, search rules)
