use Rattle.std.proofs.Common.{IsUtf8, sym, subst, ◌∙◌}
use Rattle.std.specs.Bool.{MatchBool}
use Rattle.std.proofs.lemmas.Str.{IsUtf8-from_ascii}
use Rattle.duration_str_c.proofs.text_of.Goals as goal
use Rattle.duration_str_c.proofs.text_of.Goals.{then-is_ascii, else-is_ascii}

pub from_utf8_unchecked-requires : goal.from_utf8_unchecked-requires
from_utf8_unchecked-requires c =
    let bytes = c.args.bytes.now in
    elim c.if-is_ascii.branch [
      | then-is_ascii w ↦ IsUtf8-from_ascii bytes w.if-is_ascii.ensures.cases
      | else-is_ascii w ↦
          subst (λ b. MatchBool b (IsUtf8 bytes) (¬ (IsUtf8 bytes))) (sym w.value-is ∙ c.if-is_utf8.true)
          w.is_utf8.ensures
    ]
