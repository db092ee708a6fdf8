use Rattle.duration_str_base.specs.Meaning.{meaning_of}
use Rattle.std.proofs.Common.{rules}
use Rattle.uses.proofs.prompt.is_unfinished.Goals as goal

pub returns-then-matches : goal.returns-then-matches
returns-then-matches c place expected refused =
    let r = meaning_of c.args.rules in
    let refusal = c.in-Err.ensures.refused.1 in
    let told = c.in-Err.ensures.refused.0 in
    let same = c.one_sentence.ensures.reading.one_cause r _ _ _ refusal refused in
    let at_end = c.found.ensures.end r place expected same in
    search (rules, told, refusal, same, at_end)
