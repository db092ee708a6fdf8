use Rattle.duration_str_reading.proofs.Common.{arith, refl, rules, ◌∙◌}
use Rattle.duration_str_base.proofs.PackedLemmas.{numbered_letter, unnumbered}
use Rattle.duration_str_reading.proofs.Cutting.PositionLemmas.{letters_head, letters_none}
use Rattle.duration_str_reading.proofs.Cutting.StepLemmas.{fewer_ahead, keeps_on}
use Rattle.duration_str_reading.proofs.token.Tokens.take_letters.Goals as goal

pub loop-self-init : goal.loop-self-init
loop-self-init c =
    let s = c.args.self.now in
    let first = c.in-Some.first in
    record {
      kept = c.advance.ensures.kept;
      letters = letters_head letters_none (c.advance.ensures.past first c.in-Some.is)
          (search rules)
          (omega (arith, c.first_number-packed.ensures, c.first_number-packed.type_inv));
    }

pub loop-self-preserved : goal.loop-self-preserved
loop-self-preserved c =
    let inv = c.loop-self.invariant in
    let more = c.advance-in-Some-head.ensures in
    let next = c.in-Some-head.c in
    let letter = numbered_letter c.loop-self.self.options next _ c.in-Some-letter_number.ensures in
    record {
      kept = keeps_on inv.kept more.kept;
      letters = letters_head inv.letters (rw inv.kept.text at (more.past next c.in-Some-head.is))
          (rw inv.kept.options at letter.0) (c.with_letter-packed.ensures ∙ rw (letter.1, inv.kept.options) refl);
    }

pub loop-self-smaller : goal.loop-self-smaller
loop-self-smaller c = search (rules, fewer_ahead)

pub returns-in_default-letter_number-clause-stops : goal.returns-in_default-letter_number-clause-stops
returns-in_default-letter_number-clause-stops c =
    let s = c.loop-self.self in
    rw (s.some c.in-Some-head.c c.in-Some-head.is).head
    (rw c.loop-self.invariant.kept.options at
    (unnumbered s.options c.in-Some-head.c (c.in_default-letter_number.ensures {u = tt})))
