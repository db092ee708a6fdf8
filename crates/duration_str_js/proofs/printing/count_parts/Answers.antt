use Rattle.std.proofs.Common.{ap, append-nil, arith, List, sym, [], ℕ, ◌++◌, ◌∙◌, ◌≡◌}
use Rattle.duration_str_printing.specs.Breakdown.{parts_left, sum_of_parts}
use Rattle.duration_str_printing.specs.Format.{with_each}
use Rattle.duration_str_base.specs.declared.unit.TimeUnit.{TimeUnit}
use Rattle.duration_str_printing.proofs.PartsAndRest.{add_up, come_first}
use Rattle.duration_str_js.specs.Printing.{units_among, with_counts}
use Rattle.duration_str_js.proofs.printing.count_parts.Goals as goal

pub loop-unit-preserved : goal.loop-unit-preserved
loop-unit-preserved c =
    let (counts, units) = c.loop-unit.invariant in
    let first = c.in-Some.ensures.steps.first in (
      rw (c.rank.ensures.value, c.low_bits.ensures) (sym (ap (with_counts c.loop-unit.counts) first) ∙ counts),
      rw c.with-counted.ensures.value
          (sym (ap (λ (parts : List (TimeUnit × ℕ)). with_each (units_among parts) c.loop-unit.counted) first) ∙ units),
    )

pub returns-clause-counts : goal.returns-clause-counts
returns-clause-counts c =
    sym (ap (with_counts c.loop-unit.counts) c.in_default.ensures.steps.first.0) ∙ c.loop-unit.invariant.0

pub returns-clause-units : goal.returns-clause-units
returns-clause-units c =
    sym (ap (λ (parts : List (TimeUnit × ℕ)). with_each (units_among parts) c.loop-unit.counted) c.in_default.ensures.steps.first.0)
    ∙ c.loop-unit.invariant.1

pub returns-clause-rest : goal.returns-clause-rest
returns-clause-rest c =
    let old = c.args.parts.now in
    let parts = c.loop-unit.yielded in
    let none : parts_left c.loop-unit.parts ≡ [] = c.in_default.ensures.steps.first.0 in
    let same = come_first parts old c.loop-unit.parts c.loop-unit.yielded_by
    ∙ ap (λ (ps : List (TimeUnit × ℕ)). parts ++ ps) none ∙ append-nil parts in
    omega (
      arith,
      ap sum_of_parts same,
      add_up parts old c.loop-unit.parts c.loop-unit.yielded_by,
      c.in_default.ensures.steps.rest,
    )
