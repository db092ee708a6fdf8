use Rattle.duration_str_base.proofs.Common.{chars, ◌∙◌}
use Rattle.duration_str_base.proofs.PackedLemmas.{no_micro, own_word_none, own_word_some, packed_empty, packed_parts}
use Rattle.duration_str_base.proofs.unit.TimeUnit.from_word.Goals as goal

pub returns-clause-unit : goal.returns-clause-unit
returns-clause-unit c =
    let word = chars c.args.word.now in
    let packed = packed_parts _ _ _ (c.in_ok-packed_word.ensures {u = tt}) in
    c.unit_of_packed.ensures ∙ own_word_some c.args.o word _ (rw (no_micro word) at packed.0)

pub returns-in_err-packed_word-clause-unit : goal.returns-in_err-packed_word-clause-unit
returns-in_err-packed_word-clause-unit c =
    let word = chars c.args.word.now in
    c.from_residual.ensures
    ∙ own_word_none c.args.o word (rw (no_micro word) at (packed_empty _ _ (c.in_err-packed_word.ensures {u = tt})))
