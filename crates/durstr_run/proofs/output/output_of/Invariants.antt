use Rattle.std.proofs.Common.{length, string_bytes}
use Rattle.durstr_run.proofs.OutputLemmas.{Continues}
use Rattle.durstr_run.proofs.output.output_of.Given as goal

abbrev pub invariant-loop-rest : goal.invariant-loop-rest
invariant-loop-rest g l = Continues l.options l.input l.rest (string_bytes l.out) l.all_accepted

abbrev pub decreases-loop-rest : goal.decreases-loop-rest
decreases-loop-rest g l = length l.rest
