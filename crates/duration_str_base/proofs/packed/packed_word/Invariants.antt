use Rattle.duration_str_base.proofs.Common.{chars, chars_rest, is_greek_mu, IsUtf8, list_any, with_micro, ◌≡◌, ◌||◌}
use Rattle.duration_str_base.proofs.PackedLemmas.{Packs}
use Rattle.duration_str_base.proofs.packed.packed_word.Given as goal

abbrev pub invariant-loop-c : goal.invariant-loop-c
invariant-loop-c l = record {
  utf8 : IsUtf8 (chars_rest l.chars);
  packs : Packs l.o (with_micro l.folds (chars l.word)) (with_micro l.folds (chars (chars_rest l.chars))) l.packed;
  seen : list_any is_greek_mu (chars l.word) ≡ (l.greek || list_any is_greek_mu (chars (chars_rest l.chars)));
}
