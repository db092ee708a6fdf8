use Rattle.duration_str_help.proofs.Common.{chars, sym, true, with_micro, ◌∙◌}
use Rattle.duration_str_base.proofs.PackedLemmas.{added_word_some, more_word_some, packed_empty, packed_parts}
use Rattle.duration_str_help.proofs.NearLemmas.{near_added, near_greek, near_mo, near_mos, near_none}
use Rattle.duration_str_help.proofs.help.near_unit.Goals.{then-eq-via-then-eq, then-eq-via-else-eq+then-eq-2}
use Rattle.duration_str_help.proofs.help.near_unit.Goals as goal

pub returns-then-eq : goal.returns-then-eq
returns-then-eq c = elim c.then-eq.branch [
  | then-eq-via-then-eq w ↦ sym (near_mo c.args.word.now (sym (w.if-eq.ensures {u = tt})))
  | then-eq-via-else-eq+then-eq-2 w ↦ sym (near_mos c.args.word.now (sym (w.if-eq-2.ensures {u = tt})))
]

pub returns-in_err-packed : goal.returns-in_err-packed
returns-in_err-packed c =
    c.from_residual.ensures
    ∙ near_none c.args.word.now c.utf8.word (sym (c.if-eq.ensures {u = tt})) (sym (c.if-eq-2.ensures {u = tt}))
    (rw c.off.ensures at (packed_empty _ _ (c.in_err-packed.ensures {u = tt})))

pub returns-then-greek : goal.returns-then-greek
returns-then-greek c =
    let word = c.args.word.now in
    let packed = packed_parts _ _ _ (c.in_ok-packed.ensures {u = tt}) in
    c.unit_of_packed.ensures ∙ more_word_some (with_micro true (chars word)) _ (rw c.off.ensures at packed.0)
    ∙ sym (near_greek word c.utf8.word (sym (c.if-eq.ensures {u = tt})) (sym (c.if-eq-2.ensures {u = tt}))
    (sym packed.1 ∙ c.if-greek.true))

pub returns-else-greek : goal.returns-else-greek
returns-else-greek c =
    let word = c.args.word.now in
    let packed = packed_parts _ _ _ (c.in_ok-packed.ensures {u = tt}) in
    c.added_unit.ensures ∙ added_word_some (with_micro true (chars word)) _ (rw c.off.ensures at packed.0)
    ∙ sym (near_added word c.utf8.word (sym (c.if-eq.ensures {u = tt})) (sym (c.if-eq-2.ensures {u = tt}))
    (sym packed.1 ∙ c.if-greek.false))
