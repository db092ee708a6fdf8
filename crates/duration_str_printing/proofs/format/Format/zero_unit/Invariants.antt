use Rattle.duration_str_printing.proofs.Common.{drop, last_unit, Second, units, ◌≡◌}
use Rattle.duration_str_printing.proofs.format.Format.zero_unit.Given as goal
use Rattle.duration_str_printing.specs.Format.{chosen}

abbrev pub invariant-loop-unit : goal.invariant-loop-unit
invariant-loop-unit l = last_unit l.smallest (chosen l.self.units (drop l.unit-index units)) ≡ last_unit Second (chosen l.self.units units)
