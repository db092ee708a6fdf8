use Rattle.duration_str_help.proofs.Common.{arith, common_steps}
use Rattle.duration_str_help.specs.Mends.{suggestion_text}
use Rattle.duration_str_help.proofs.ShortLemmas.{IsShort, short_utf8, suggestion_short}
use Rattle.duration_str_help.proofs.suggestion.Suggestion.write.Goals.{After-put_suggestion}
use Rattle.duration_str_help.proofs.suggestion.Suggestion.write.Goals as goal

short : (c : After-put_suggestion) → IsShort 23 (suggestion_text c.args.self)
short c = suggestion_short c.args.self c.put_suggestion.ensures.small

pub from_utf8_unchecked-requires : goal.from_utf8_unchecked-requires
from_utf8_unchecked-requires c =
    let s = short (goal.at.from_utf8_unchecked-requires c).After-put_suggestion in
    rw (c.in-Some.ensures {u = tt}).text.1 (short_utf8 23 _ s)

pub unreachable-requires : goal.unreachable-requires
unreachable-requires c =
    let s = short (goal.at.unreachable-requires c).After-put_suggestion in
    omega (arith, s.short, (c.in-None.ensures {u = tt}).text, c.put_suggestion.auto.buffer, c.told-buffer)

pub returns-clause-short : goal.returns-clause-short
returns-clause-short c =
    let s = short (goal.at.returns-clause-short c).After-put_suggestion in
    grind (arith, common_steps, short)
