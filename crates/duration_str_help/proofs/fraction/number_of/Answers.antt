use Rattle.duration_str_help.proofs.Common.{arith, length, sym, ◌<◌}
use Rattle.duration_str_help.proofs.FractionLemmas.{digit_small, number_too_large}
use Rattle.duration_str_help.proofs.fraction.number_of.Goals as goal

pub returns-then-number-digit : goal.returns-then-number-digit
returns-then-number-digit c =
    let within : c.loop-b.b-index < length c.args.digits.now = omega arith in
    number_too_large c.loop-b.number c.from-digit.result 0 c.args.digits.now c.loop-b.b-index within
    (sym c.from-digit.ensures) c.if-number-digit.true
    (digit_small c.args.digits.now c.loop-b.b-index c.from-digit.result c.requires within c.from-digit.ensures) c.loop-b.invariant
