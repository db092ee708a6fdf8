use Rattle.duration_str_refusals.proofs.Common.{append_assoc, rules, sym, ◌∙◌}
use Rattle.duration_str_refusals.proofs.OneLineLemmas.{found_none, found_some}
use Rattle.duration_str_refusals.proofs.one_line.put_words.Goals as goal

pub returns-then-is_empty : goal.returns-then-is_empty
returns-then-is_empty c = rw (found_none c.args.piece.now (sym c.is_empty.ensures ∙ c.if-is_empty.true)) c.put.ensures.0

pub returns : goal.returns
returns c = search (rules, found_some, append_assoc)
