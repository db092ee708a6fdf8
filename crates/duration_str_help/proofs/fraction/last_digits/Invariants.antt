use Rattle.duration_str_help.proofs.Common.{drop, is_digit, length, list_all, true, ◌≡◌, ◌≤◌}
use Rattle.duration_str_help.proofs.fraction.last_digits.Given as goal

abbrev pub invariant-loop-start : goal.invariant-loop-start
invariant-loop-start l = record {
  within : l.start ≤ length l.bytes;
  digits : list_all is_digit (drop l.start l.bytes) ≡ true;
}

abbrev pub decreases-loop-start : goal.decreases-loop-start
decreases-loop-start l = l.start
