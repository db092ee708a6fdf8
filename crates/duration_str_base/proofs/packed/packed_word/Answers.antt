use Rattle.duration_str_base.proofs.Common.{arith, chars, chars_past_char, IsUtf8-past_char, micro_if, refl, rules, with_micro, ◌∙◌}
use Rattle.duration_str_base.proofs.PackedLemmas.{micro_len, numbered_letter, or_assoc, packed_with, unnumbered, unpacked, packs_long, packs_more, packs_none, packs_other, packs_whole}
use Rattle.duration_str_base.proofs.CharacterLemmas.{byte_count, chars_of_none}
use Rattle.duration_str_base.proofs.packed.packed_word.Goals as goal

pub returns-then-word-gt-MOST_BYTES : goal.returns-then-word-gt-MOST_BYTES
returns-then-word-gt-MOST_BYTES c =
    unpacked _ _ (packs_long c.args.o (with_micro c.args.folds (chars c.args.word.now))
    (omega (
      arith,
      c.if-word-gt-MOST_BYTES.true,
      byte_count c.args.word.now c.utf8.word,
      micro_len c.args.folds (chars c.args.word.now),
    )))

pub loop-c-init : goal.loop-c-init
loop-c-init c = search (rules, packs_none)

pub returns-in_err-letter_number : goal.returns-in_err-letter_number
returns-in_err-letter_number c =
    let held = c.loop-c.invariant in
    let next = c.in-Some.c in
    let passed = chars_past_char _ _ next held.utf8 (c.in-Some.ensures {u = tt}).steps.0 in
    c.from_residual.ensures
    ∙ unpacked _ _ (packs_other (rw passed at held.packs)
    (unnumbered c.args.o (micro_if c.args.folds next) (rw c.micro_if.ensures at (c.in_err-letter_number.ensures {u = tt}))))

pub loop-c-preserved : goal.loop-c-preserved
loop-c-preserved c =
    let held = c.loop-c.invariant in
    let next = c.in-Some.c in
    let steps = (c.in-Some.ensures {u = tt}).steps.0 in
    let passed = chars_past_char _ _ next held.utf8 steps in
    let letter = numbered_letter c.args.o (micro_if c.args.folds next) _ (rw c.micro_if.ensures at (c.in_ok-letter_number.ensures {u = tt})) in
    record {
      utf8 = IsUtf8-past_char _ _ next held.utf8 steps;
      packs = packs_more (rw passed at held.packs) letter.0 (c.with_letter-packed.ensures ∙ rw letter.1 refl);
      seen = rw passed at held.seen ∙ or_assoc c.loop-c.greek _ _;
    }

pub returns : goal.returns
returns c =
    let ended = chars_of_none _ (c.in_default.ensures {u = tt}).steps.0.0 in
    let word = chars c.args.word.now in
    packed_with _ _ _ _ (packs_whole (rw ended at c.loop-c.invariant.packs)
    (omega (
      arith,
      c.if-word-gt-MOST_BYTES.false,
      byte_count c.args.word.now c.utf8.word,
      micro_len c.args.folds word,
    ))) (rw ended at c.loop-c.invariant.seen)
