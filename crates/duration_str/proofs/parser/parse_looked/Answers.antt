use Rattle.duration_str.proofs.ResultLemmas.{parses_text, same_on_err}
use Rattle.duration_str_base.specs.Rules.{rules_of}
use Rattle.duration_str_reading.specs.Place.{ReachesPlace}
use Rattle.duration_str.proofs.parser.parse_looked.Goals as goal

pub returns-clause-parsed : goal.returns-clause-parsed
returns-clause-parsed c = parses_text (rules_of c.args.o) c.args.input.now _ _ c.map.ensures.cases (rw c.of.ensures at c.read_text-looks.ensures.reads)

pub returns-clause-reaches : goal.returns-clause-reaches
returns-clause-reaches c =
    same_on_err (λ cause. ReachesPlace c.args.input.now cause c.read_text-looks.result.1) _ _
    c.map.ensures.cases c.read_text-looks.ensures.reaches
