use Rattle.duration_str_help.proofs.Common.{arith, sym, ◌∙◌}
use Rattle.duration_str_help.proofs.MendedLemmas.{letter_from, no_letter}
use Rattle.duration_str_help.proofs.mend.ends_with_letter.Goals.{then-loop-end-test+else-is_blank, else-loop-end-test}
use Rattle.duration_str_help.proofs.mend.ends_with_letter.Goals as goal

pub returns-then-end-gt0 : goal.returns-then-end-gt0
returns-then-end-gt0 c =
    let bytes = c.args.bytes.now in
    let held = c.loop-end.invariant in
    c.is_ascii_alphabetic.ensures.value ∙ sym (elim c.loop-end-test.branch [
      | then-loop-end-test+else-is_blank w ↦
          letter_from bytes c.loop-end.end w.loop-end-test.true held.within
          (rw w.from.ensures at (sym w.is_blank.ensures ∙ w.if-is_blank.false)) held.blank
      | else-loop-end-test w ↦ absurd (omega (arith, w.loop-end-test.false, c.if-end-gt0.true))
    ])

pub returns-else-end-gt0 : goal.returns-else-end-gt0
returns-else-end-gt0 c = no_letter c.args.bytes.now c.loop-end.end c.if-end-gt0.false c.loop-end.invariant.blank
