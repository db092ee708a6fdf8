use Rattle.duration_str_printing.proofs.Common.{arith}
use Rattle.duration_str_printing.proofs.FormatLemmas.{chosen_below_day}
use Rattle.duration_str_printing.proofs.printing.set_for.Goals as goal

pub returns-then-nanos : goal.returns-then-nanos
returns-then-nanos c = λ style bytes most.
    rw c.up_to.ensures.value (chosen_below_day style c.args.set bytes most c.args.nanos (omega arith))
