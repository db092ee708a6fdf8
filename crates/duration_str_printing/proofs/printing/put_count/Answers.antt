use Rattle.duration_str_printing.proofs.Common.{arith, ◌%◌, ◌*◌, ◌-◌, ◌/◌, ◌≡◌}
use Rattle.duration_str_base.proofs.DigitLemmas.{put_last}
use Rattle.duration_str_printing.proofs.printing.put_count.Goals as goal

pub returns-then-n-lt1000-clause-text : goal.returns-then-n-lt1000-clause-text
returns-then-n-lt1000-clause-text c =
    let last : c.args.n - 10 * (c.args.n / 10) ≡ c.args.n % 10 = omega arith in
    put_last _ _ _ c.args.n (rw last at c.put_digit.ensures.text) c.put_tens-end.ensures.text
    (omega arith) (omega arith)
