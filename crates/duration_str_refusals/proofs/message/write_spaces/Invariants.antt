use Rattle.duration_str_refusals.proofs.Common.{replicate, ◌-◌, ◌≤◌}
use Rattle.std.specs.Fmt.{WritesInCalls}
use Rattle.duration_str_refusals.proofs.message.write_spaces.Given as goal

abbrev pub invariant-loop-left : goal.invariant-loop-left
invariant-loop-left g l = record {
  within : l.left ≤ l.initial.left;
  wrote : WritesInCalls g.S.Sink.took l.initial.sink (replicate (l.initial.left - l.left) 32) l.sink;
}

abbrev pub decreases-loop-left : goal.decreases-loop-left
decreases-loop-left g l = l.left
