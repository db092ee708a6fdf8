use Rattle.duration_str_help.proofs.Common.{append_assoc}
use Rattle.duration_str_help.proofs.help.put_near_words.Goals as goal

pub returns : goal.returns
returns c =
    let words = rw ((c.in_ok-end.ensures {u = tt}).1, (c.in_ok-name.ensures {u = tt}).0.1) at c.put-2.ensures.0 in
    simp append_assoc at words
