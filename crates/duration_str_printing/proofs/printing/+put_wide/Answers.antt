use Rattle.duration_str_printing.proofs.Common.{arith}
use Rattle.duration_str_base.proofs.DigitLemmas.{put_last}
use Rattle.duration_str_printing.proofs.printing.+put_wide.Goals as goal

pub returns-clause-text : goal.returns-clause-text
returns-clause-text t c =
    put_last _ _ _ c.args.n c.put_digit.ensures.text c.put_wide-end.ensures.text (omega arith) (omega arith)
