use Rattle.duration_str_help.proofs.Common.{drop, number_after, number_of, ◌≡◌}
use Rattle.duration_str_help.proofs.fraction.number_of.Given as goal

abbrev pub invariant-loop-b : goal.invariant-loop-b
invariant-loop-b l = number_after l.number (drop l.b-index l.digits) ≡ number_of l.digits
