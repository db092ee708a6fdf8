use Rattle.duration_str_refusals.proofs.Common.{ap, place_of}
use Rattle.duration_str_refusals.proofs.one_line.put_reason.Goals as goal

pub put_syntax-requires : goal.put_syntax-requires
put_syntax-requires c = c.requires c.in-Syntax.place (ap place_of c.in-Syntax.is)
