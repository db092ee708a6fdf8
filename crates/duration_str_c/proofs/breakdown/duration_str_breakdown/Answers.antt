use Rattle.std.proofs.Common.{arith, inl, inr, ◌+◌, ◌*◌, ◌≡◌, ◌≤◌, ◌^◌}
use Rattle.std.proofs.lemmas.Grind.{common_steps}
use Rattle.duration_str_printing.specs.Breakdown.{ArePartsRounded, nanos_left, parts_left, sum_of_parts}
use Rattle.duration_str_printing.specs.declared.format.Style.TheVariants.{Short}
use Rattle.duration_str_c.specs.Format.{format_of}
use Rattle.duration_str_c.specs.Rounding.{rounding_numbered}
use Rattle.duration_str_c.proofs.BreakdownLemmas.{large_counts, large_rest}
use Rattle.duration_str_c.proofs.breakdown.duration_str_breakdown.Goals as goal

pub returns-in_default-rounded-clause-refused : goal.returns-in_default-rounded-clause-refused
returns-in_default-rounded-clause-refused c =
    let none = rw (c.in-Some.ensures.format.2, c.in-Some-given.ensures.duration, c.in-Some-given.ensures.rounding)
    at c.in_default-rounded.ensures.none in
    λ h. inr (inr (inl (inr (inr none))))

pub returns-in_default-counts_of-clause-refused : goal.returns-in_default-counts_of-clause-refused
returns-in_default-counts_of-clause-refused c =
    let rounding = rounding_numbered c.args.rounding in
    let format = format_of c.args.units c.args.parts Short in
    let nanos = c.args.secs * 1000000000 + c.args.nanos in
    let shown = nanos_left c.in-Some-rounded.parts in
    let parts = parts_left c.in-Some-rounded.parts in
    let are : ArePartsRounded rounding format nanos shown parts =
    rw (c.in-Some.ensures.format.2, c.in-Some-given.ensures.duration, c.in-Some-given.ensures.rounding)
    at c.in-Some-rounded.ensures.some in
    λ h. inr (inr (inr (large_counts rounding format nanos shown parts are c.in_default-counts_of.ensures.none)))

pub returns-in_default-try_from-clause-refused : goal.returns-in_default-try_from-clause-refused
returns-in_default-try_from-clause-refused c =
    let rounding = rounding_numbered c.args.rounding in
    let format = format_of c.args.units c.args.parts Short in
    let nanos = c.args.secs * 1000000000 + c.args.nanos in
    let shown = nanos_left c.in-Some-rounded.parts in
    let parts = parts_left c.in-Some-rounded.parts in
    let are : ArePartsRounded rounding format nanos shown parts =
    rw (c.in-Some.ensures.format.2, c.in-Some-given.ensures.duration, c.in-Some-given.ensures.rounding)
    at c.in-Some-rounded.ensures.some in
    let rest = nanos_left c.counts_of.new.parts in
    let whole : shown ≡ sum_of_parts parts + rest = grind (arith, common_steps) in
    let large : 2 ^ 64 ≤ rest = grind (arith, common_steps) in
    λ h. inr (inr (inr (large_rest rounding format nanos shown rest parts are whole large)))
