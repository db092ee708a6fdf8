use Rattle.duration_str_printing.proofs.SetLemmas.{in_down_to, rank_mask}
use Rattle.duration_str_printing.proofs.format.Units.down_to.Goals as goal

pub returns-clause-units : goal.returns-clause-units
returns-clause-units c = λ u. rw (c.rank.ensures, rank_mask c.args.smallest) (in_down_to c.args.self c.args.smallest u)
