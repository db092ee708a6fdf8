use Rattle.uses.proofs.StoredLemmas.{named_unit_kept}
use Rattle.uses.proofs.stored.stored_unit.Goals as goal

pub returns : goal.returns
returns c unit row was there =
    named_unit_kept c.older_texts.ensures c.args.o _ _ unit _ row c.in_ok-unit.ensures.unit c.nanos.ensures was there
