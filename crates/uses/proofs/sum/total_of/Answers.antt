use Rattle.duration_str_base.specs.Rules.{Rules, rules_with}
use Rattle.std.proofs.Common.{ap, ◌∙◌}
use Rattle.uses.proofs.sum.total_of.Goals as goal

pub returns-in_default-clause-refused : goal.returns-in_default-clause-refused
returns-in_default-clause-refused c m n calc plain other_plain read other_read =
    let same = c.default_unit.ensures ∙ ap {A = Rules} (λ r. record r { default_unit = c.args.default_unit }) c.of.ensures in
    absurd (c.one_sentence.ensures.reading.not_both (rules_with c.args.o c.args.default_unit) _ m _ read (rw same at c.in_default.ensures.refused.1))

pub returns-in_default-parse_by-clause-refused : goal.returns-in_default-parse_by-clause-refused
returns-in_default-parse_by-clause-refused c m n calc plain other_plain read other_read =
    let same = c.default_unit-2.ensures ∙ ap {A = Rules} (λ r. record r { default_unit = c.args.default_unit }) c.of-2.ensures in
    absurd (c.one_sentence.ensures.reading.not_both (rules_with c.args.o c.args.default_unit) _ n _ other_read (rw same at c.in_default-parse_by.ensures.refused.1))
