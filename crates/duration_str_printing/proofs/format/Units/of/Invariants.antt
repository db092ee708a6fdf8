use Rattle.duration_str_printing.proofs.Common.{drop, length, ◌-◌, ◌≡◌}
use Rattle.duration_str_printing.proofs.format.Units.of.Given as goal
use Rattle.duration_str_printing.specs.Format.{set_of, with_each}

abbrev pub invariant-loop-i : goal.invariant-loop-i
invariant-loop-i l = with_each (drop l.i l.units) l.set ≡ set_of l.units

abbrev pub decreases-loop-i : goal.decreases-loop-i
decreases-loop-i l = length l.units - l.i
