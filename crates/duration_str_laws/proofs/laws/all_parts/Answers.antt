use Rattle.duration_str_printing.proofs.AllParts.{all_parts_holds}
use Rattle.duration_str_laws.proofs.laws.all_parts.Goals as goal

pub returns : goal.returns
returns c = all_parts_holds
