use Rattle.duration_str_base.specs.Units.{units}
use Rattle.duration_str_c.specs.Answers.{unit_field}
use Rattle.std.proofs.Common.{rules, ◌-◌, ◌∙◌}
use Rattle.duration_str_c.proofs.AnswerLemmas.{copied_at}
use Rattle.duration_str_c.proofs.default_unit_of_bits.Goals as goal

pub returns : goal.returns
returns c =
    c.copied.ensures ∙ copied_at units (unit_field c.args.bits - 1) c.get.result c.get.ensures.lookup ∙ search rules
