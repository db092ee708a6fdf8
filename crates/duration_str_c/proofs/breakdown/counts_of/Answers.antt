use Rattle.std.proofs.Common.{ap, append-nil, arith, List, sym, [], ℕ, ◌++◌, ◌∙◌, ◌≡◌, ◌≤◌, ◌^◌}
use Rattle.std.proofs.lemmas.Grind.{common_steps}
use Rattle.duration_str_printing.specs.Breakdown.{parts_left, sum_of_parts}
use Rattle.duration_str_base.specs.declared.unit.TimeUnit.{TimeUnit}
use Rattle.duration_str_printing.proofs.PartsAndRest.{add_up, come_first}
use Rattle.duration_str_c.proofs.BreakdownLemmas.{large_count, parts_left_from, with_counts, with_counts_all}
use Rattle.duration_str_c.proofs.breakdown.counts_of.Goals as goal

pub returns-in_err-counts-clause-none : goal.returns-in_err-counts-clause-none
returns-in_err-counts-clause-none c =
    let old = c.args.parts.now in
    let before = c.loop-unit.yielded in
    let after = parts_left c.next.new.self in
    let same = come_first before old c.loop-unit.parts c.loop-unit.yielded_by
    ∙ ap (λ (ps : List (TimeUnit × ℕ)). before ++ ps) c.in-Some.ensures.steps.first in
    let large : 2 ^ 64 ≤ c.in-Some.count = grind (arith, common_steps) in
    rw c.from_residual.ensures
    (large_count before after (parts_left old) c.in-Some.unit c.in-Some.count same (parts_left_from old) large)

pub loop-unit-preserved : goal.loop-unit-preserved
loop-unit-preserved c =
    let same = sym (ap (with_counts c.loop-unit.counts) c.in-Some.ensures.steps.first) ∙ c.loop-unit.invariant in
    let count : c.in_ok-counts.field-0 ≡ c.in-Some.count = grind (arith, common_steps) in
    rw (c.rank.ensures.value, count) same

pub returns-clause-some : goal.returns-clause-some
returns-clause-some c =
    let old = c.args.parts.now in
    let parts = c.loop-unit.yielded in
    let none : parts_left c.loop-unit.parts ≡ [] = c.in_default.ensures.steps.first.0 in
    let same = come_first parts old c.loop-unit.parts c.loop-unit.yielded_by
    ∙ ap (λ (ps : List (TimeUnit × ℕ)). parts ++ ps) none ∙ append-nil parts in (
      sym (ap (with_counts c.loop-unit.counts) none) ∙ c.loop-unit.invariant
          ∙ with_counts_all (parts_left old) (parts_left_from old),
      omega (
        arith,
        ap sum_of_parts same,
        add_up parts old c.loop-unit.parts c.loop-unit.yielded_by,
        c.in_default.ensures.steps.rest,
      ),
    )
