use Rattle.duration_str_printing.proofs.Common.{arith, length, units, ◌≤◌}
use Rattle.std.proofs.lemmas.List.Sums.{count_by-le-length, length-filter}
use Rattle.duration_str_printing.proofs.BreakdownLemmas.{parts_few}
use Rattle.duration_str_printing.proofs.breakdown.BreakdownIterator.size_hint.Goals as goal
use Rattle.duration_str_printing.specs.Format.{chosen, is_in, units_of}

pub returns-clause-upper : goal.returns-clause-upper
unfolding chosen
returns-clause-upper c =
    let b = c.args.self.now in
    let is_left = is_in (record { bits = b.bits }) in
    let most : length (units_of b.bits) ≤ length units =
    omega (arith, length-filter is_left units, count_by-le-length is_left units) in
    omega (arith, c.min.ensures, parts_few (units_of b.bits) b.most b.rest, most)
