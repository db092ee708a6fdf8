use Rattle.duration_str_help.proofs.Common.{drop, is_blank, length, list_all, true, ◌≡◌, ◌≤◌}
use Rattle.duration_str_help.proofs.mend.ends_with_letter.Given as goal

abbrev pub invariant-loop-end : goal.invariant-loop-end
invariant-loop-end l = record {
  within : l.end ≤ length l.bytes;
  blank : list_all is_blank (drop l.end l.bytes) ≡ true;
}

abbrev pub decreases-loop-end : goal.decreases-loop-end
decreases-loop-end l = l.end
