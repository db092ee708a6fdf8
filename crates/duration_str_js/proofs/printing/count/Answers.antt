use Rattle.std.proofs.Common.{arith, rules}
use Rattle.std.proofs.lemmas.Grind.{common_steps}
use Rattle.duration_str_printing.specs.Breakdown.{nanos_left, parts_left}
use Rattle.duration_str_js.proofs.printing.count.Goals as goal

pub returns-in_err-parts-clause-none : goal.returns-in_err-parts-clause-none
returns-in_err-parts-clause-none c =
    let none = rw (c.format_of-format.ensures, c.from_nanos-duration.ensures, c.rounding_numbered.ensures)
    at c.in_err-parts.ensures.none in
    rw c.from_residual.ensures none

pub returns-clause-some : goal.returns-clause-some
returns-clause-some c = record {
  shown = nanos_left c.in_ok-parts.parts;
  parts = parts_left c.in_ok-parts.parts;
  are_parts = search rules;
  counts = c.count_parts-counted.ensures.counts;
  units = c.count_parts-counted.ensures.units;
  rest_of = grind (arith, common_steps);
}
