use Rattle.duration_str_help.proofs.Common.{chars_past_char, sym, ◌∙◌}
use Rattle.duration_str_help.proofs.help.begins_with_letter.Goals as goal

pub returns-in-Some : goal.returns-in-Some
returns-in-Some c =
    rw (chars_past_char c.args.text.now _ c.in-Some.c c.utf8.text (sym c.chars.ensures.rest ∙ (c.in-Some.ensures {u = tt}).steps.0))
    c.is_letter.ensures
