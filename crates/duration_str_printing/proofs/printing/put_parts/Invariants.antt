use Rattle.duration_str_printing.proofs.Common.{length, take, units, with_parts, ◌<◌, ◌^◌, ◌≡◌, ◌≤◌}
use Rattle.duration_str_printing.proofs.printing.put_parts.Given as goal
use Rattle.duration_str_printing.specs.Breakdown.{nanos_left, parts_left}
use Rattle.duration_str_printing.specs.Internal.PrintedBytes.{with_each}
use Rattle.duration_str_printing.specs.Format.{chosen}

abbrev pub invariant-loop-row : goal.invariant-loop-row
invariant-loop-row l = record {
  inside : l.end ≤ length l.buffer;
  short : nanos_left l.parts < 2 ^ 64;
  same : with_each l.style (take l.end l.buffer) (parts_left l.parts)
      ≡ with_parts l.style (take l.fn.at l.fn.buffer) (chosen l.fn.set units) l.fn.most l.fn.nanos;
}

abbrev pub decreases-loop-row : goal.decreases-loop-row
decreases-loop-row l = length (parts_left l.parts)
