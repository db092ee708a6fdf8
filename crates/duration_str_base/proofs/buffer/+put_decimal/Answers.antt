use Rattle.duration_str_base.proofs.Common.{arith, refl}
use Rattle.duration_str_base.proofs.DigitLemmas.{put_last}
use Rattle.duration_str_base.proofs.BufferLemmas.{whole_is_longer}
use Rattle.duration_str_base.proofs.buffer.+put_decimal.Goals as goal

pub returns-in_err-end-clause-digits : goal.returns-in_err-end-clause-digits
returns-in_err-end-clause-digits t c =
    rw c.from_residual.ensures
    (whole_is_longer _ _ _ _ (put_last _ _ _ c.args.number refl refl (omega arith) (omega arith)) (c.in_err-end.ensures {u = tt}).digits)

pub returns-clause-digits : goal.returns-clause-digits
returns-clause-digits t c =
    rw (← put_last _ _ _ c.args.number refl refl (omega arith) (omega arith))
    (rw (c.in_ok-end.ensures {u = tt}).digits.1 at c.put_decimal-2.ensures.digits)
