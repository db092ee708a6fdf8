use Rattle.duration_str_base.proofs.Common.{eqb-true, false_from_ne_true}
use Rattle.duration_str_base.proofs.PackedLemmas.{month_in_humantime, more_in_humantime}
use Rattle.duration_str_base.proofs.humantime.unit_of_packed.Goals as goal

pub returns-then-packed-eq-CAPITAL_M : goal.returns-then-packed-eq-CAPITAL_M
returns-then-packed-eq-CAPITAL_M c = rw c.if-packed-eq-CAPITAL_M.true month_in_humantime

pub returns : goal.returns
returns c =
    more_in_humantime c.args.packed _ (false_from_ne_true _ (λ e. c.if-packed-eq-CAPITAL_M.false (eqb-true _ _ e)))
    c.unit_of_packed.ensures
