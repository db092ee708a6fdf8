use Rattle.std.proofs.Common.{arith, inr}
use Rattle.duration_str_c.proofs.AnswerLemmas.{said_short, said_shown}
use Rattle.duration_str_c.proofs.message.duration_str_reason.Goals as goal

pub returns-in-Ok-clause-text : goal.returns-in-Ok-clause-text
returns-in-Ok-clause-text c =
    let (same, known, utf8, refused) = c.in-Ok.ensures.refused in
    inr (inr (inr (known, utf8, c.in-Ok.fault.cause, refused, rw (same, c.rules_of_bits.ensures) at c.show_reason.ensures.shown)))

pub returns-in-Err-clause-text : goal.returns-in-Err-clause-text
returns-in-Err-clause-text c = said_shown c.args.options _ c.in-Err.ensures.said c.show.ensures.shown

pub returns-in-Err-clause-utf8 : goal.returns-in-Err-clause-utf8
returns-in-Err-clause-utf8 c =
    c.show.ensures.utf8 (omega (arith, said_short c.args.options c.in-Err.ensures.said c.show.ensures.shown))
