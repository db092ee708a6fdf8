use Rattle.duration_str_printing.proofs.SetLemmas.{in_intersection}
use Rattle.duration_str_printing.proofs.format.Units.intersection.Goals as goal

pub returns-clause-units : goal.returns-clause-units
returns-clause-units c = λ u. in_intersection c.args.self c.args.other u
