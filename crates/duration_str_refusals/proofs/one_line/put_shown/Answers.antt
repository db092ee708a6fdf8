use Rattle.duration_str_refusals.proofs.Common.{sym, ◌∙◌}
use Rattle.duration_str_refusals.proofs.EscapeLemmas.{shown_code, shown_letter}
use Rattle.duration_str_refusals.proofs.one_line.put_shown.Goals as goal

pub returns-then-letter-ne0 : goal.returns-then-letter-ne0
returns-then-letter-ne0 c =
    let letter = c.escape_letter-letter.ensures in
    rw (shown_letter c.args.c (sym (c.if-is_clear.ensures {u = tt})) (rw letter at c.if-letter-ne0.true))
    (rw letter at c.put.ensures.0)

pub returns : goal.returns
returns c =
    rw (shown_code c.args.c (sym (c.if-is_clear.ensures {u = tt})) (sym c.escape_letter-letter.ensures ∙ c.if-letter-ne0.false))
    c.put_code.ensures
