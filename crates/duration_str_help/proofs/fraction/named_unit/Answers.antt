use Rattle.duration_str_help.proofs.Common.{chars, ◌∙◌}
use Rattle.duration_str_base.proofs.PackedLemmas.{no_micro, packed_empty, packed_parts, word_none, word_some}
use Rattle.duration_str_help.proofs.fraction.named_unit.Goals as goal

pub returns : goal.returns
returns c =
    let word = chars c.args.word.now in
    let packed = packed_parts _ _ _ (c.in_ok-packed.ensures {u = tt}) in
    (rw c.unit_table.ensures at c.unit_of_packed.ensures)
    ∙ word_some c.args.rules word _ (rw (no_micro word) at packed.0)

pub returns-in_err-packed : goal.returns-in_err-packed
returns-in_err-packed c =
    let word = chars c.args.word.now in
    c.from_residual.ensures
    ∙ word_none c.args.rules word (rw (no_micro word) at (packed_empty _ _ (c.in_err-packed.ensures {u = tt})))
