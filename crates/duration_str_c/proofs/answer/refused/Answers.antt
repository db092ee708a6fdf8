use Rattle.std.proofs.Common.{rules, ◌≡◌}
use Rattle.std.specs.Str.{chars}
use Rattle.duration_str_refusals.specs.Faults.{found_token}
use Rattle.duration_str_c.specs.Answers.{token_length, refusal_answer}
use Rattle.duration_str_c.proofs.answer.refused.Goals as goal

pub returns : goal.returns
returns c =
    let fault = c.args.fault.now in
    let token = found_token c.args.options (chars fault.text.now) fault.cause in
    let answers : c.refusal.result ≡ refusal_answer fault.cause (token_length token) = search rules in
    (answers, fault.placed)
