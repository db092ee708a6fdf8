use Rattle.duration_str_refusals.proofs.Common.{ap, place_of}
use Rattle.duration_str_refusals.proofs.fault.Fault.help.Goals as goal

pub found_at-requires : goal.found_at-requires
found_at-requires c = c.args.self.now.placed c.in-Syntax.place (ap place_of c.in-Syntax.is)
