use Rattle.std.proofs.Common.{sym, ◌∙◌}
use Rattle.uses.proofs.PromptLemmas.{taken_exact}
use Rattle.uses.proofs.prompt.taken_for.Goals as goal

pub returns-else-not-is_empty-2 : goal.returns-else-not-is_empty-2
returns-else-not-is_empty-2 c =
    let refusal = c.in-Err.ensures.refused in
    taken_exact c.mended_fractions.ensures.value c.one_sentence.ensures.reading c.args.rules c.args.text.now c.write.result.now
    c.in-Err.fault.cause c.in_ok-new-in-Err.new c.parse_by-in-Err.result c.ok.result c.utf8.text refusal.1
    (rw refusal.0 at c.in_ok-new-in-Err.ensures.pieces) (sym c.is_empty.ensures ∙ c.if-not-is_empty.false)
    (sym c.is_empty-else-not-is_empty.ensures ∙ c.if-not-is_empty-2.false) c.write.ensures.text c.parse_by-in-Err.ensures
    c.ok.ensures.value
