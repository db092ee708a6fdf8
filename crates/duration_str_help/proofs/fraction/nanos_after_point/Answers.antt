use Rattle.duration_str_help.proofs.Common.{arith, drop, length, number_of, ◌*◌, ◌+◌, ◌-◌, ◌^◌, ◌≡◌, ◌≤◌}
use Rattle.duration_str_help.proofs.FractionLemmas.{digit_before, digit_other, digit_small}
use Rattle.std.proofs.Math.Nat.{mul-le-mul_right}
use Rattle.duration_str_help.proofs.fraction.nanos_after_point.Goals.{After-from}
use Rattle.duration_str_help.proofs.fraction.nanos_after_point.Goals as goal

later : (c : After-from) → let after = drop (c.loop-start.start - 1 + 1) c.args.decimals.now in
    c.loop-start.nanos * 10 ^ length after ≡ number_of after * c.args.unit_nanos
later c =
    let e : c.loop-start.start - 1 + 1 ≡ c.loop-start.start = omega (arith, c.loop-start-test.true) in
    rw e c.loop-start.invariant.exact

most : (c : After-from) → c.from.result * c.args.unit_nanos ≤ 9 * c.args.unit_nanos
most c =
    mul-le-mul_right c.args.unit_nanos
    (digit_small c.args.decimals.now (c.loop-start.start - 1) c.from.result c.requires.decimals (omega arith) c.from.ensures)

pub returns-then-tenths-ne0-clause-none : goal.returns-then-tenths-ne0-clause-none
returns-then-tenths-ne0-clause-none c =
    digit_other c.args.decimals.now (c.loop-start.start - 1) c.from.result c.args.unit_nanos c.loop-start.nanos (omega arith)
    c.from.ensures (later (goal.at.returns-then-tenths-ne0-clause-none c).After-from) c.if-tenths-ne0.true

pub loop-start-preserved : goal.loop-start-preserved
loop-start-preserved c = record {
  within = omega arith;
  short = omega (arith, most (goal.at.loop-start-preserved c).After-from, c.requires.short);
  exact = digit_before c.args.decimals.now (c.loop-start.start - 1) c.from.result c.args.unit_nanos c.loop-start.nanos (omega arith)
      c.from.ensures (later (goal.at.loop-start-preserved c).After-from) _ (omega (arith, c.if-tenths-ne0.false));
}
