use Rattle.duration_str_reading.proofs.Common.{IsCharBoundary-start}
use Rattle.duration_str_reading.proofs.eye.Eye.new.Goals as goal

pub invariant_of-result-clause-at_place : goal.invariant_of-result-clause-at_place
invariant_of-result-clause-at_place c = IsCharBoundary-start c.args.text.now c.utf8.text
