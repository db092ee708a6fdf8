use Rattle.std.proofs.Common.{inr, rules, ◌+◌, ◌*◌}
use Rattle.std.specs.Str.{chars}
use Rattle.duration_str_c.specs.Format.{format_of, style_numbered}
use Rattle.duration_str_c.proofs.RoundingLemmas.{not_right}
use Rattle.duration_str_c.proofs.format.duration_str_format_with.Goals as goal

pub returns-in_default-given-clause-text : goal.returns-in_default-given-clause-text
unfolding chars
returns-in_default-given-clause-text c =
    let format = format_of c.args.units c.args.parts (style_numbered c.args.style) in
    let none = not_right c.args.rounding (c.args.secs * 1000000000 + c.args.nanos) format c.in_default-given.ensures.none in
    λ some less style. inr (none, search rules)

pub returns-in-None-clause-text : goal.returns-in-None-clause-text
unfolding chars
returns-in-None-clause-text c =
    let none = rw (c.in-Some.ensures.format.3, c.in-Some-given.ensures.duration, c.in-Some-given.ensures.rounding)
    at c.in-None.ensures.none in
    λ some less style. inr (inr (inr none), search rules)
