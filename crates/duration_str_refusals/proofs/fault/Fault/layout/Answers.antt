use Rattle.duration_str_refusals.proofs.Common.{sym}
use Rattle.duration_str_refusals.proofs.fault.Fault.layout.Goals as goal

pub chars_before-requires : goal.chars_before-requires
chars_before-requires c = c.args.self.now.placed c.in-Some.place (sym c.in-Some.ensures)
