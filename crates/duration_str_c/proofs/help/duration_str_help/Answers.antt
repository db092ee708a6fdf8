use Rattle.duration_str_c.proofs.AnswerLemmas.{said_helped}
use Rattle.duration_str_c.proofs.help.duration_str_help.Goals as goal

pub returns-in-Err : goal.returns-in-Err
returns-in-Err c =
    said_helped c.args.options c.show_no_mend.result c.args.text.now _ c.args.suggestion.now c.show_no_mend.new.suggestion
    c.show_no_mend.new.start c.show_no_mend.new.length c.in-Err.ensures.said c.show_no_mend.ensures
