use Rattle.duration_str_base.proofs.Common.{arith, BLANKS, false, refl, ◌+◌, ◌≡◌}
use Rattle.duration_str_base.proofs.CharacterLemmas.{blank_at}
use Rattle.duration_str_base.proofs.blank.is_blank.Goals as goal

pub returns-then-c-le32 : goal.returns-then-c-le32
returns-then-c-le32 c =
    let same : 0 + c.args.c ≡ c.args.c = omega arith in
    rw same at (blank_at BLANKS 0 c.args.c false (omega (arith, c.if-c-le32.true)) refl)
