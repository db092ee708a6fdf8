use Rattle.duration_str_base.specs.Meaning.{meaning_of}
use Rattle.duration_str.proofs.ResultLemmas.{parses_text}
use Rattle.duration_str.proofs.parser.parse_by.Goals as goal

pub returns : goal.returns
returns c = parses_text (meaning_of c.args.rules) c.args.input.now _ _ c.map.ensures.cases c.parse_nanos.ensures
