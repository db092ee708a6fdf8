use Rattle.duration_str_printing.proofs.Common.{drop, Short, take, units, with_counts, with_gap, ◌*◌, ◌+◌, ◌-◌, ◌≡◌, ◌≤◌}
use Rattle.duration_str_printing.proofs.printing.put_counts.Given as goal

abbrev pub invariant-loop-i : goal.invariant-loop-i
invariant-loop-i l = record {
  inside : l.end ≤ l.fn.at + 7 * l.i;
  spaced : take l.end l.buffer ≡ with_gap Short (take (l.end - 1) l.buffer);
  same : with_counts Short (take (l.end - 1) l.buffer) (drop (l.fn.first + l.i) units) (drop l.i l.fn.counts)
      ≡ with_counts Short (take (l.fn.at - 1) l.fn.buffer) (drop l.fn.first units) l.fn.counts;
}
