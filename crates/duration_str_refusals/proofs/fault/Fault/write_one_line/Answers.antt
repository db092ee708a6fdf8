use Rattle.duration_str_refusals.proofs.Common.{arith, common_steps, meaning_of, rules, ◌∙◌}
use Rattle.duration_str_refusals.specs.OneLine.{one_line_of}
use Rattle.duration_str_help.proofs.ShortLemmas.{IsShort, short_plain, short_utf8}
use Rattle.duration_str_refusals.proofs.OneLineLemmas.{line_short}
use Rattle.duration_str_refusals.proofs.fault.Fault.write_one_line.Goals.{After-put_line}
use Rattle.duration_str_refusals.proofs.fault.Fault.write_one_line.Goals as goal

short : (c : After-put_line) → IsShort 294 (one_line_of (meaning_of c.args.rules) c.args.self.now.text.now c.args.self.now.cause)
short c = search (rules, line_short)

pub from_utf8_unchecked-requires : goal.from_utf8_unchecked-requires
from_utf8_unchecked-requires c =
    let s = short (goal.at.from_utf8_unchecked-requires c).After-put_line in
    rw (c.in-Some.ensures {u = tt}).1 (short_utf8 294 _ s)

pub unreachable-requires : goal.unreachable-requires
unreachable-requires c =
    let s = short (goal.at.unreachable-requires c).After-put_line in
    omega (arith, s.short, c.in-None.ensures {u = tt}, c.put_line.auto.buffer, c.told-buffer)

pub returns-clause-short : goal.returns-clause-short
returns-clause-short c =
    let s = short (goal.at.returns-clause-short c).After-put_line in
    grind (arith, common_steps, short)

pub returns-clause-plain : goal.returns-clause-plain
returns-clause-plain c =
    let s = short (goal.at.returns-clause-plain c).After-put_line in
    rw (c.from_utf8_unchecked.ensures ∙ (c.in-Some.ensures {u = tt}).1) (short_plain 294 _ s)
