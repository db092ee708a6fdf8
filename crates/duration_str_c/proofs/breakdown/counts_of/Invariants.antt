use Rattle.std.proofs.Common.{map, ◌≡◌}
use Rattle.duration_str_printing.specs.Breakdown.{parts_left}
use Rattle.duration_str_base.specs.Units.{units}
use Rattle.duration_str_c.proofs.BreakdownLemmas.{with_counts}
use Rattle.duration_str_c.proofs.breakdown.counts_of.Given as goal

abbrev pub invariant-loop-unit : goal.invariant-loop-unit
invariant-loop-unit l =
    with_counts l.counts (parts_left l.parts) ≡ with_counts (map (λ u. 0) units) (parts_left l.fn.parts)
