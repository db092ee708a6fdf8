use Rattle.std.proofs.Common.{None, Option, refl, Some, ◌≡◌, ◌∙◌}
use Rattle.duration_str_base.specs.Meaning.{meaning_of}
use Rattle.duration_str_reading.specs.Tokens.{Token}
use Rattle.duration_str_refusals.specs.Faults.{token_len}
use Rattle.duration_str_js.specs.Reading.{token_length}
use Rattle.duration_str_js.proofs.reading.found_length.Goals as goal

same_length : (token : Option Token) → token_len token ≡ token_length token
same_length None = refl
same_length (Some token) = refl

pub returns : goal.returns
returns c = c.run_len.ensures.token (meaning_of c.args.rules) c.requires ∙ same_length _
