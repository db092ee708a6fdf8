use Rattle.duration_str_printing.proofs.Common.{arith, as_nanos, chars, IsPrintedWithin, Short, ◌∙◌}
use Rattle.duration_str_printing.proofs.AllParts.{all_parts_holds}
use Rattle.duration_str_printing.proofs.FormatLemmas.{printed_within}
use Rattle.duration_str_printing.proofs.printing.write_human.Goals as goal

pub returns-clause-text : goal.returns-clause-text
returns-clause-text c =
    let printed : IsPrintedWithin c.whole.result (as_nanos c.args.d.now) (chars c.printed.result.now) =
    printed_within c.whole.result (as_nanos c.args.d.now) c.printed.result.now c.printed.utf8
    (c.printed.ensures ∙ c.fill-end.ensures.text) in
    (all_parts_holds Short 11 _ _ (omega arith)).0 (rw c.whole.ensures at printed)
