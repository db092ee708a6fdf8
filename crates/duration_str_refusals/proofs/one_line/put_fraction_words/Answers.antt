use Rattle.duration_str_refusals.proofs.Common.{append_assoc}
use Rattle.duration_str_refusals.proofs.one_line.put_fraction_words.Goals as goal

pub returns : goal.returns
returns c =
    let words = rw ((c.in_ok-end.ensures {u = tt}).text.1, (c.in_ok-term.ensures {u = tt}).0.1) at c.put-2.ensures.0 in
    simp append_assoc (simp append_assoc at words)
