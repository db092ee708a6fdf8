use Rattle.duration_str_refusals.proofs.Common.{arith, inl, inr, IsCharBoundary, IsCharBoundary-start, List, rules, suc, zero, ℕ, ◌-◌, ◌<◌, ◌≤◌}
use Rattle.std.proofs.Math.Nat.{eq-or-lt_of_le}
use Rattle.duration_str_refusals.proofs.fault.last_boundary.Goals as goal

some_place : (text : List ℕ) (place : ℕ) → IsCharBoundary text 0 → (IsCharBoundary text place → ⊥) → 1 ≤ place
some_place text zero start inside = absurd (inside start)
some_place text (suc place) start inside = omega arith

passed_one : (text : List ℕ) (place most : ℕ) → (IsCharBoundary text place → ⊥)
    → ((i : ℕ) → place < i → i ≤ most → IsCharBoundary text i → ⊥)
    → (i : ℕ) → place - 1 < i → i ≤ most → IsCharBoundary text i → ⊥
passed_one text place most inside passed i past below is = let reached : place ≤ i = omega (arith, past) in elim (eq-or-lt_of_le reached) [
  | inl e ↦ inside (rw e is)
  | inr later ↦ passed i later below is
]

pub loop-place-init : goal.loop-place-init
loop-place-init c = record { bound = omega arith; nearest = λ i past below. absurd (omega (arith, past, below)) }

pub overflow_sub-place : goal.overflow_sub-place
overflow_sub-place c = some_place _ _ (IsCharBoundary-start c.args.text.now c.utf8.text) (search rules)

pub loop-place-smaller : goal.loop-place-smaller
loop-place-smaller c = omega (arith, overflow_sub-place c)

pub loop-place-preserved : goal.loop-place-preserved
loop-place-preserved c = record {
  bound = omega (arith, c.loop-place.invariant.bound);
  nearest = passed_one _ _ _ (search rules) c.loop-place.invariant.nearest;
}
