use Rattle.duration_str_help.proofs.Common.{drop, length, number_of, ◌*◌, ◌^◌, ◌≡◌, ◌≤◌}
use Rattle.duration_str_help.proofs.fraction.nanos_after_point.Given as goal

abbrev pub invariant-loop-start : goal.invariant-loop-start
invariant-loop-start l = record {
  within : l.start ≤ length l.decimals;
  short : l.nanos ≤ l.unit_nanos;
  exact : l.nanos * 10 ^ length (drop l.start l.decimals) ≡ number_of (drop l.start l.decimals) * l.unit_nanos;
}

abbrev pub decreases-loop-start : goal.decreases-loop-start
decreases-loop-start l = l.start
