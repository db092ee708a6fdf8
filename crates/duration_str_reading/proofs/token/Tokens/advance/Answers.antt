use Rattle.duration_str_reading.proofs.Common.{IsUtf8-had, rules, width, ◌+◌}
use Rattle.duration_str_reading.proofs.Cutting.PositionLemmas.{counted_past, looks_fit}
use Rattle.duration_str_reading.proofs.Cutting.StepLemmas.{takes_sign}
use Rattle.duration_str_reading.proofs.token.Tokens.advance.Goals as goal

pub look-self-requires : goal.look-self-requires
look-self-requires c =
    let s = c.args.self.now in
    let head = c.in-Some.c in
    let counted = counted_past s.eye.place _ head (s.some head c.in-Some.is) (rw c.in-Some.is at s.counted) in
    rw c.step.ensures.looks
    (looks_fit (s.eye.place + width head) _ (IsUtf8-had s.eye.text.now s.eye.utf8) s.eye.short counted)

pub returns-in-Some-clause-sign : goal.returns-in-Some-clause-sign
returns-in-Some-clause-sign c r sort sign ahead = takes_sign r sort sign ahead (search rules) (search rules)
