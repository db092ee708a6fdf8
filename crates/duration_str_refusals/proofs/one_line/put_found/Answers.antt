use Rattle.duration_str_refusals.proofs.Common.{append_assoc}
use Rattle.duration_str_refusals.proofs.one_line.put_found.Goals as goal

pub returns : goal.returns
returns c =
    let line = rw ((c.in_ok-number.ensures {u = tt}).1, (c.in_ok-start.ensures {u = tt}).1) at c.put_words.ensures in
    simp append_assoc at line
