use Rattle.duration_str_base.specs.Options.{off}
use Rattle.duration_str_base.specs.Rules.{rules_of}
use Rattle.service.proofs.timeout.Goals as goal

pub returns-in-Ok-clause-read : goal.returns-in-Ok-clause-read
returns-in-Ok-clause-read c nanos read =
    let parsed = rw c.off.ensures at c.in-Ok.ensures.read in
    c.one_sentence.ensures.reading.one_value (rules_of off) _ _ _ parsed read

pub returns-in-Err-clause-read : goal.returns-in-Err-clause-read
returns-in-Err-clause-read c nanos read =
    let refused = rw c.off.ensures at c.in-Err.ensures.refused.1 in
    absurd (c.one_sentence.ensures.reading.not_both (rules_of off) _ nanos _ read refused)
