use Rattle.duration_str_refusals.proofs.Common.{append_assoc}
use Rattle.duration_str_refusals.proofs.EscapeLemmas.{hex_first, hex_last}
use Rattle.duration_str_refusals.proofs.one_line.+put_hex.Goals.{then-n-lt16, else-n-lt16+in_ok-end}
use Rattle.duration_str_refusals.proofs.one_line.+put_hex.Goals as goal

pub returns : goal.returns
returns t c = elim c.if-n-lt16.branch [
  | then-n-lt16 w ↦
      rw (hex_first c.args.n w.if-n-lt16.true) (rw (w.end-is, w.buffer-is, c.hex_digit.ensures) at c.put.ensures.0)
  | else-n-lt16+in_ok-end w ↦
      let wrote = rw (w.end-is, w.buffer-is, (w.in_ok-end.ensures {u = tt}).1, c.hex_digit.ensures) at c.put.ensures.0 in
      rw (hex_last c.args.n w.if-n-lt16.false c.requires.small) (simp append_assoc at wrote)
]
