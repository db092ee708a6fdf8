use Rattle.duration_str_printing.proofs.Common.{length, units_of, ◌≡◌}
use Rattle.duration_str_printing.proofs.breakdown.Breakdown.next_part.Given as goal
use Rattle.duration_str_printing.specs.Breakdown.{parts_left}

abbrev pub invariant-loop-row : goal.invariant-loop-row
invariant-loop-row l = record {
  same : parts_left l.self ≡ parts_left l.fn.self;
  most : l.self.most ≡ l.fn.self.most;
  rest : l.self.rest ≡ l.fn.self.rest;
}

abbrev pub decreases-loop-row : goal.decreases-loop-row
decreases-loop-row l = length (units_of l.self.bits)
