use Rattle.duration_str_help.proofs.Common.{arith, drop, is_digit, length, length-drop, sym, take, ◌-◌, ◌∙◌, ◌≡◌}
use Rattle.std.proofs.lemmas.List.{take_all}
use Rattle.duration_str_help.proofs.FractionLemmas.{end_from, end_whole}
use Rattle.duration_str_help.proofs.fraction.last_digits.Goals.{then-loop-start-test+else-is_ascii_digit, else-loop-start-test}
use Rattle.duration_str_help.proofs.fraction.last_digits.Goals as goal

pub returns : goal.returns
returns c =
    let bytes = c.args.bytes.now in
    let start = c.loop-start.start in
    let held = c.loop-start.invariant in
    let all : take (length bytes - start) (drop start bytes) ≡ drop start bytes =
    take_all (length bytes - start) (drop start bytes) (omega (arith, length-drop start bytes)) in
    all ∙ sym (elim c.loop-start-test.branch [
      | then-loop-start-test+else-is_ascii_digit w ↦
          end_from is_digit bytes start w.loop-start-test.true held.within
          (sym w.is_ascii_digit.ensures.value ∙ w.if-is_ascii_digit.false) held.digits
      | else-loop-start-test w ↦ end_whole is_digit bytes start w.loop-start-test.false held.digits
    ])
