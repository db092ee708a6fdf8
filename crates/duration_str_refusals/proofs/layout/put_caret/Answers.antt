use Rattle.duration_str_refusals.proofs.Common.{arith, caret_text, common_steps, IsUtf8}
use Rattle.duration_str_refusals.proofs.MessageLemmas.{caret_text_utf8, front_has}
use Rattle.duration_str_refusals.proofs.layout.put_caret.Goals as goal

pub returns-clause-utf8 : goal.returns-clause-utf8
returns-clause-utf8 c =
    front_has IsUtf8 (caret_text c.args.text.now c.args.spaces c.args.line.now) c.put-4.result c.put-4.new.buffer
    (caret_text_utf8 c.args.text.now c.args.spaces c.args.line.now c.utf8.text c.utf8.line)
    (grind (arith, common_steps))
