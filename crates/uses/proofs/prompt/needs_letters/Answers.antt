use Rattle.duration_str_base.specs.Meaning.{meaning_of}
use Rattle.std.proofs.Common.{rules}
use Rattle.uses.proofs.PromptLemmas.{one_kind}
use Rattle.uses.proofs.prompt.needs_letters.Goals as goal

pub returns-in-Syntax : goal.returns-in-Syntax
returns-in-Syntax c place expected refused =
    let r = meaning_of c.args.rules in
    let refusal = c.in-Err.ensures.refused.1 in
    let same = c.one_sentence.ensures.reading.one_cause r _ _ _ refusal refused in
    let one = one_kind c.place_and_kinds.ensures r _ place expected refused in
    search (rules, refusal, same, one)
