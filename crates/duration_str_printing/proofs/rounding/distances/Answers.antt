use Rattle.duration_str_printing.proofs.Common.{[], ap, arith, false, if◌then◌else◌, inl, inr, List, map, nanos_of, nat_tests, rules, subst, sym, units_of, ℕ, ◌+◌, ◌<◌, ◌==◌, ◌%◌, ◌∙◌, ◌≡◌, ◌∷◌}
use Rattle.duration_str_printing.proofs.RoundingLemmas.{after_none, after_part, first_step, gap, gap_over, gap_within, IsOver, IsNear, larger, most_after, near_chosen, none_chosen, next_step, only_zero, rounded_down, rounded_up, shown_over, smaller}
use Rattle.duration_str_printing.specs.Rounding.{IsRoundedUp}
use Rattle.duration_str_printing.proofs.rounding.distances.Goals as goal
use Rattle.duration_str_printing.proofs.rounding.distances.Goals.{in-Some+then-most-eq0, then-most-eq0-via-then-most-eq0, then-most-eq0-via-else-most-eq0+then-rest-eq0, in_default, then-count-gt0, else-count-gt0, then-row-rest, else-row-rest}

pub returns-then-format-eq0-clause-none : goal.returns-then-format-eq0-clause-none
returns-then-format-eq0-clause-none c =
    only_zero c.args.format (inr (inl c.if-format-eq0.true))

pub returns-in_err-first-clause-none : goal.returns-in_err-first-clause-none
returns-in_err-first-clause-none c =
    let near = c.near_units-near in
    let none = rw (c.from.ensures, c.bits.ensures) at c.in_err-first.ensures.none in
    rw c.from_residual.ensures (only_zero c.args.format
    (inl (ap (map nanos_of) (none_chosen c.args.format c.args.nanos near.result near.ensures none))))

pub loop-row-init : goal.loop-row-init
loop-row-init c =
    let u = c.in_ok-first.first.now.unit in
    let near : IsNear c.args.format c.args.nanos (u ∷ units_of c.in_ok-first.bits) =
    subst (IsNear c.args.format c.args.nanos) (rw (c.from.ensures, c.bits.ensures) at c.in_ok-first.ensures.first)
    (near_chosen c.args.format c.args.nanos c.near_units-near.result c.near_units-near.ensures) in
    let after : c.if-count-gt0.most ≡ most_after (nanos_of u) c.args.format.parts c.args.nanos =
    elim c.if-count-gt0.branch [
      | then-count-gt0 w ↦
          w.most-is ∙ sym (after_part (nanos_of u) c.args.format.parts c.args.nanos (omega (arith, w.if-count-gt0.true)))
      | else-count-gt0 w ↦
          w.most-is ∙ sym (after_none (nanos_of u) c.args.format.parts c.args.nanos (omega (arith, w.if-count-gt0.false)))
    ] in
    rw (ap (λ row. row.nanos) c.in_ok-first.ensures.right)
    (first_step c.args.format c.args.nanos u (units_of c.in_ok-first.bits) c.if-count-gt0.most
    c.wide_division-count.result.1 near (omega arith) after c.wide_division-count.ensures.rest)

pub loop-row-preserved : goal.loop-row-preserved
loop-row-preserved c =
    let u = c.in-Some.row.now.unit in
    let length : c.in-Some.row.now.nanos ≡ nanos_of u = ap (λ row. row.nanos) c.in-Some.ensures.right in
    let before = rw c.in-Some.ensures.first at c.loop-row.invariant in
    let after : c.if-row-rest.most ≡ most_after (nanos_of u) c.loop-row.most c.loop-row.rest =
    elim c.if-row-rest.branch [
      | then-row-rest w ↦
          w.most-is ∙ sym (after_part (nanos_of u) c.loop-row.most c.loop-row.rest (larger (nanos_of u) c.loop-row.rest (search rules) (omega (arith, length, w.if-row-rest.true))))
      | else-row-rest w ↦
          w.most-is ∙ sym (after_none (nanos_of u) c.loop-row.most c.loop-row.rest (smaller (nanos_of u) c.loop-row.rest (omega (arith, length, w.if-row-rest.false))).0)
    ] in
    let left : c.if-row-rest.rest ≡ c.loop-row.rest % nanos_of u =
    elim c.if-row-rest.branch [
      | then-row-rest w ↦ w.rest-is ∙ w.division-rest.ensures.rest
      | else-row-rest w ↦
          w.rest-is ∙ sym (smaller (nanos_of u) c.loop-row.rest (omega (arith, length, w.if-row-rest.false))).1
    ] in
    rw (c.min-above.ensures, length)
    (next_step c.args.format c.args.nanos u (units_of c.in-Some.others) c.loop-row.most c.loop-row.rest
    c.loop-row.above c.if-row-rest.most c.if-row-rest.rest before (omega arith) (omega arith) after left)

over_then : (c : goal.Then-rest-eq0-2) → IsOver (map nanos_of (units_of c.loop-row.bits)) c.loop-row.most c.loop-row.rest
over_then c = inr (inr (omega arith))

over_else : (c : goal.Else-rest-eq0-2) → IsOver (map nanos_of (units_of c.loop-row.bits)) c.loop-row.most c.loop-row.rest
over_else c = elim c.match-longest.branch [
  | in-Some+then-most-eq0 w ↦ elim w.then-most-eq0.branch [
    | then-most-eq0-via-then-most-eq0 w' ↦ inr (inl (omega (arith, w'.if-most-eq0.true)))
    | then-most-eq0-via-else-most-eq0+then-rest-eq0 w' ↦ inr (inr (omega (arith, w'.if-rest-eq0.true)))
  ]
  | in_default w ↦
      let none : units_of c.loop-row.bits ≡ [] = search rules in
      inl (ap (map nanos_of) none)
]

pub returns-then-rest-eq0-2-clause-down : goal.returns-then-rest-eq0-2-clause-down
returns-then-rest-eq0-2-clause-down c =
    rounded_down c.args.format c.args.nanos 0
    (omega (arith, c.loop-row.invariant.below, shown_over _ _ _ (over_then c)))

gap_none : (lengths : List ℕ) (most rest limit nanos : ℕ) → rest ≡ 0 → gap lengths most rest limit ≡ nanos → 0 ≡ nanos
gap_none lengths most rest limit nanos none same =
    let end : gap lengths most rest limit ≡ (if rest == 0 then 0 else limit) = gap_over lengths most rest limit (inr (inr none)) in
    sym (subst (λ r. gap lengths most rest limit ≡ (if r == 0 then 0 else limit)) none end) ∙ same

gap_some : (lengths : List ℕ) (most rest limit nanos : ℕ) → 0 < rest → IsOver lengths most rest
    → gap lengths most rest limit ≡ nanos → limit ≡ nanos
gap_some lengths most rest limit nanos some over same =
    let more : (rest == 0) ≡ false = grind (arith, nat_tests) in
    sym (rw more at (gap_over lengths most rest limit over)) ∙ same

pub returns-then-rest-eq0-2-clause-up : goal.returns-then-rest-eq0-2-clause-up
returns-then-rest-eq0-2-clause-up c =
    let u = c.in_ok-first.first.now.unit in
    let near : IsNear c.args.format c.args.nanos (u ∷ units_of c.in_ok-first.bits) =
    subst (IsNear c.args.format c.args.nanos) (rw (c.from.ensures, c.bits.ensures) at c.in_ok-first.ensures.first)
    (near_chosen c.args.format c.args.nanos c.near_units-near.result c.near_units-near.ensures) in
    let none : c.loop-row.rest ≡ 0 = omega arith in
    subst (λ above. IsRoundedUp c.args.format c.args.nanos (c.args.nanos + above))
    (sym (gap_none _ _ _ _ _ none c.loop-row.invariant.above))
    (rounded_up c.args.format c.args.nanos u (units_of c.in_ok-first.bits) (omega arith) near)

pub returns-clause-down : goal.returns-clause-down
returns-clause-down c =
    rounded_down c.args.format c.args.nanos c.loop-row.rest
    (omega (arith, c.loop-row.invariant.below, shown_over _ _ _ (over_else c)))

pub returns-clause-up : goal.returns-clause-up
returns-clause-up c =
    let u = c.in_ok-first.first.now.unit in
    let near : IsNear c.args.format c.args.nanos (u ∷ units_of c.in_ok-first.bits) =
    subst (IsNear c.args.format c.args.nanos) (rw (c.from.ensures, c.bits.ensures) at c.in_ok-first.ensures.first)
    (near_chosen c.args.format c.args.nanos c.near_units-near.result c.near_units-near.ensures) in
    let end : c.loop-row.above ≡ gap_within c.args.format c.args.nanos =
    gap_some _ _ _ _ _ (omega arith) (over_else c) c.loop-row.invariant.above in
    subst (λ above. IsRoundedUp c.args.format c.args.nanos (c.args.nanos + above)) (sym end)
    (rounded_up c.args.format c.args.nanos u (units_of c.in_ok-first.bits) (omega arith) near)
