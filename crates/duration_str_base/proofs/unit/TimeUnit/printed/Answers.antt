use Rattle.duration_str_base.proofs.UnitLemmas.{row_at}
use Rattle.duration_str_base.proofs.unit.TimeUnit.printed.Goals as goal

pub returns : goal.returns
unfolding lib.Utf8.encode
returns c = rw c.rank.ensures (row_at c.args.self)
