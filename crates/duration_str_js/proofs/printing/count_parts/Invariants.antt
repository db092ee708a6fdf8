use Rattle.std.proofs.Common.{◌≡◌}
use Rattle.duration_str_printing.specs.Breakdown.{parts_left}
use Rattle.duration_str_printing.specs.Format.{set_of, with_each}
use Rattle.duration_str_js.specs.Printing.{units_among, with_counts}
use Rattle.duration_str_js.proofs.printing.count_parts.Given as goal

abbrev pub invariant-loop-unit : goal.invariant-loop-unit
invariant-loop-unit l =
    (with_counts l.counts (parts_left l.parts) ≡ with_counts l.fn.counts (parts_left l.fn.parts))
    × (with_each (units_among (parts_left l.parts)) l.counted ≡ set_of (units_among (parts_left l.fn.parts)))
