use Rattle.uses.proofs.PromptLemmas.{offered_past, offered_tokens}
use Rattle.uses.proofs.prompt.offered.Goals as goal

pub returns-in-Err-clause-fault : goal.returns-in-Err-clause-fault
returns-in-Err-clause-fault c =
    let refusal = c.in-Err.ensures.refused in
    offered_past c.mended_texts.ensures c.args.rules c.args.text.now c.in-Err.fault.cause c.mend.result c.utf8.text refusal.1
    (rw refusal.0 at c.mend.ensures.pieces)

pub returns-in-Err-clause-tokens : goal.returns-in-Err-clause-tokens
returns-in-Err-clause-tokens c =
    let refusal = c.in-Err.ensures.refused in
    offered_tokens c.mended_tokens.ensures.refused c.args.rules c.args.text.now c.in-Err.fault.cause c.mend.result c.utf8.text
    refusal.1 (rw refusal.0 at c.mend.ensures.pieces)
