use Rattle.duration_str_printing.proofs.Common.{ap, arith, decimal, List, ℕ, ◌%◌, ◌*◌, ◌++◌, ◌-◌, ◌/◌, ◌∙◌, ◌≡◌}
use Rattle.duration_str_base.proofs.DigitLemmas.{put_last, same_before}
use Rattle.duration_str_printing.proofs.printing.put_tens.Goals as goal
use Rattle.duration_str_printing.proofs.printing.put_tens.Goals.{else-n-lt10, then-n-lt10}

pub returns-clause-text : goal.returns-clause-text
returns-clause-text c = elim c.if-n-lt10.branch [
  | then-n-lt10 w ↦
      let one : c.args.n - 10 * (c.args.n / 10) ≡ c.args.n = omega arith in
      rw (w.last-is, one) at c.put_digit.ensures.text
      ∙ ap (λ (bytes : List ℕ). bytes ++ decimal c.args.n)
      (same_before c.args.at c.args.buffer.now c.put_digit-end.new.buffer _ (omega arith) (omega arith)
      (rw c.put_digit-end.ensures.end at c.put_digit-end.ensures.text))
  | else-n-lt10 w ↦
      let last : c.args.n - 10 * (c.args.n / 10) ≡ c.args.n % 10 = omega arith in
      put_last _ _ _ c.args.n (rw (w.last-is, last) at c.put_digit.ensures.text) c.put_digit-end.ensures.text
      (omega arith) (omega arith)
]
