use Rattle.duration_str_refusals.proofs.Common.{arith, byte_text, common_steps, IsUtf8}
use Rattle.duration_str_refusals.proofs.MessageLemmas.{byte_text_utf8, front_has}
use Rattle.duration_str_refusals.proofs.layout.put_byte.Goals as goal

pub returns-clause-utf8 : goal.returns-clause-utf8
returns-clause-utf8 c =
    front_has IsUtf8 (byte_text c.args.place c.args.line.now) c.put-3.result c.put-3.new.buffer
    (byte_text_utf8 c.args.place c.args.line.now c.ranges.place.fits c.utf8.line) (grind (arith, common_steps))
