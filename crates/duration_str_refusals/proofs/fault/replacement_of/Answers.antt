use Rattle.duration_str_refusals.proofs.Common.{ap, place_of}
use Rattle.duration_str_refusals.proofs.fault.replacement_of.Goals as goal

pub found_at-found-requires : goal.found_at-found-requires
found_at-found-requires c = c.args.fault.now.placed c.in-Syntax.place (ap place_of c.in-Syntax.is)

pub replacement_for-requires-clause-boundary : goal.replacement_for-requires-clause-boundary
replacement_for-requires-clause-boundary c = c.args.fault.now.placed c.in-Syntax.place (ap place_of c.in-Syntax.is)
