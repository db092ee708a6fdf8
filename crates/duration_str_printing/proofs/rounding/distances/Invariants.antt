use Rattle.duration_str_printing.proofs.Common.{length, units_of}
use Rattle.duration_str_printing.proofs.RoundingLemmas.{Left}
use Rattle.duration_str_printing.proofs.rounding.distances.Given as goal

abbrev pub invariant-loop-row : goal.invariant-loop-row
invariant-loop-row l = Left l.fn.format l.fn.nanos (units_of l.bits) l.most l.rest l.above

abbrev pub decreases-loop-row : goal.decreases-loop-row
decreases-loop-row l = length (units_of l.bits)
