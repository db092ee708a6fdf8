use Rattle.duration_str_refusals.proofs.Common.{ap, ForSome, IsCharBoundary, place_of, rules}
use Rattle.duration_str_refusals.proofs.fault.Fault.report_layout.Goals as goal

pub range_to-requires : goal.range_to-requires
range_to-requires c =
    let placed : ForSome (place_of c.args.self.now.cause) (IsCharBoundary c.args.self.now.text.now) = search rules in
    placed c.in-Syntax.place (ap place_of c.in-Syntax.is)
