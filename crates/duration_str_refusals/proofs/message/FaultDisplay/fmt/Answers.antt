use Rattle.duration_str_refusals.proofs.SinkLemmas.{through_formatter}
use Rattle.duration_str_refusals.proofs.message.FaultDisplay.fmt.Goals as goal

pub returns-clause-writes : goal.returns-clause-writes
returns-clause-writes g c plain ok =
    through_formatter g.W.Write.write_str_gives _ _ _ (c.write_message.ensures.writes ok) plain
