use Rattle.duration_str_base.proofs.Common.{sym, ◌∙◌}
use Rattle.duration_str_base.proofs.PackedLemmas.{added_in_more, own_in_more}
use Rattle.duration_str_base.proofs.more_names.unit_of_packed.Goals as goal

pub returns-in-Some : goal.returns-in-Some
returns-in-Some c = own_in_more c.args.packed c.in-Some.unit (sym c.in-Some.is ∙ c.unit_of_packed.ensures)

pub returns-in-None : goal.returns-in-None
returns-in-None c = added_in_more c.args.packed _ (sym c.in-None.is ∙ c.unit_of_packed.ensures) c.added_unit.ensures
