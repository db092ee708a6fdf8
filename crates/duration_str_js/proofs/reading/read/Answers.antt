use Rattle.duration_str_js.proofs.OptionLemmas.{options_of_rules}
use Rattle.duration_str_js.proofs.reading.read.Goals as goal

pub refusal_of-requires : goal.refusal_of-requires
refusal_of-requires c = let (same, refused) = c.in-Err.ensures.refused in rw same refused

pub returns-in-Err-clause-refused : goal.returns-in-Err-clause-refused
returns-in-Err-clause-refused c =
    let (same, refused) = c.in-Err.ensures.refused in
    let rules = c.rules_of_bits-rules.ensures in
    let options = options_of_rules c.args.bits c.rules_of_bits-rules.result rules in (
      c.in-Err.fault.cause,
      rw rules at refused,
      rw (same, rules, options) at c.refusal_of.ensures,
      rw (same, rules) at c.write_report.ensures.text,
    )
