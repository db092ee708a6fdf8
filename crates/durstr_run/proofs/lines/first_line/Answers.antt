use Rattle.std.proofs.Common.{sym, ◌∙◌, arith}
use Rattle.std.proofs.lemmas.Grind.{common_steps}
use Rattle.durstr_run.proofs.LinesLemmas.{lines_of-Some, lines_of-None}
use Rattle.durstr_run.proofs.lines.first_line.Goals as goal

pub returns-in-Some-clause-lines : goal.returns-in-Some-clause-lines
returns-in-Some-clause-lines c =
    grind (
      arith,
      common_steps,
      lines_of-Some c.args.bytes.now c.in-Some.end
          (sym c.line_end.ensures.value ∙ c.in-Some.is),
    )

pub returns-in-None-clause-lines : goal.returns-in-None-clause-lines
returns-in-None-clause-lines c = lines_of-None c.args.bytes.now c.requires c.in-None.ensures.none
