use Rattle.duration_str_base.specs.Units.{units}
use Rattle.std.proofs.Common.{rules, ◌-◌, ◌∙◌}
use Rattle.duration_str_js.specs.Reading.{unit_field}
use Rattle.duration_str_js.proofs.UnitLemmas.{copied_at}
use Rattle.duration_str_js.proofs.reading.default_unit_of_bits.Goals as goal

pub returns : goal.returns
returns c =
    c.copied.ensures ∙ copied_at units (unit_field c.args.bits - 1) c.get.result c.get.ensures.lookup ∙ search rules
