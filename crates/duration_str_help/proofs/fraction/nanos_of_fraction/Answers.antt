use Rattle.duration_str_help.proofs.Common.{arith, ◌∙◌}
use Rattle.duration_str_help.proofs.FractionLemmas.{after_none, sum_none, sum_some, whole_none}
use Rattle.duration_str_help.proofs.fraction.nanos_of_fraction.Goals as goal

pub returns-in_err-after : goal.returns-in_err-after
returns-in_err-after c =
    c.from_residual.ensures ∙ after_none c.args.whole.now c.args.decimals.now c.args.unit_nanos c.in_err-after.ensures.none

pub returns-in_err-number : goal.returns-in_err-number
returns-in_err-number c =
    c.from_residual-in_err-number.ensures
    ∙ whole_none c.args.whole.now c.args.decimals.now c.args.unit_nanos c.requires.long c.in_ok-after.after
    c.in_ok-after.ensures.some (c.in_err-number.ensures {u = tt})

pub returns-then-number-after : goal.returns-then-number-after
returns-then-number-after c =
    sum_none c.args.whole.now c.args.decimals.now c.args.unit_nanos c.requires.long c.in_ok-number.number c.in_ok-after.after
    c.in_ok-after.ensures.some (c.in_ok-number.ensures {u = tt}) c.if-number-after.true (omega arith)

pub returns-else-number-after : goal.returns-else-number-after
returns-else-number-after c =
    sum_some c.args.whole.now c.args.decimals.now c.args.unit_nanos c.requires.long c.in_ok-number.number c.in_ok-after.after
    c.in_ok-after.ensures.some (c.in_ok-number.ensures {u = tt}) (omega (arith, c.if-number-after.false)) (omega arith)
