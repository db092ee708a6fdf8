use Rattle.duration_str_refusals.proofs.Common.{IsCharBoundary, ℕ, ◌<◌, ◌≤◌}
use Rattle.duration_str_refusals.proofs.fault.last_boundary.Given as goal

abbrev pub invariant-loop-place : goal.invariant-loop-place
invariant-loop-place l = record {
  bound : l.place ≤ l.initial.place;
  nearest : (i : ℕ) → l.place < i → i ≤ l.initial.place → IsCharBoundary l.text i → ⊥;
}

abbrev pub decreases-loop-place : goal.decreases-loop-place
decreases-loop-place l = l.place
