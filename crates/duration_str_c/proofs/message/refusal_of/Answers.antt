use Rattle.std.proofs.Common.{inl, inr, refl, rules, ◌∙◌}
use Rattle.duration_str_c.proofs.AnswerLemmas.{refusal_answers, value_answers}
use Rattle.duration_str_c.proofs.message.refusal_of.Goals as goal

pub returns-in-Ok-clause-answers : goal.returns-in-Ok-clause-answers
returns-in-Ok-clause-answers c =
    let (same, utf8) = c.in-Some.ensures.text in
    value_answers c.args.options c.in-Ok.nanos c.in-Some.text.now c.args.bytes.now c.value.result
    (search rules) utf8 same c.in-Ok.ensures.read c.value.ensures

pub returns-in-Ok-clause-said : goal.returns-in-Ok-clause-said
returns-in-Ok-clause-said c =
    let (same, utf8) = c.in-Some.ensures.text in
    inr (inr (inl (search rules, utf8, c.in-Ok.nanos, rw same at c.in-Ok.ensures.read, refl)))

pub returns-in-Err-clause-answers : goal.returns-in-Err-clause-answers
returns-in-Err-clause-answers c =
    let (same, utf8) = c.in-Some.ensures.text in
    let (here, refused) = c.in-Err.ensures.refused in
    refusal_answers c.options_of_bits.result c.args.options c.in-Err.fault.text.now c.args.bytes.now
    c.in-Err.fault.cause c.refused.result (search rules) utf8 c.options_of_bits.ensures (here ∙ same)
    (rw same at refused) c.refused.ensures
