use Rattle.duration_str_printing.proofs.Common.{ap, arith, as_nanos, length, TimeUnit, units, with_part, [], ◌∙◌, ◌∷◌, ◌≡◌}
use Rattle.duration_str_printing.proofs.BreakdownLemmas.{each_grows, long_printed, long_rest, parts_printed}
use Rattle.duration_str_printing.proofs.printing.put_long.Goals as goal
use Rattle.duration_str_printing.specs.Breakdown.{nanos_left, parts_in, parts_left}
use Rattle.duration_str_printing.specs.Format.{chosen}

pub returns-in_default-clause-text : goal.returns-in_default-clause-text
returns-in_default-clause-text c =
    let ends = c.in_default.ensures {u = tt} in
    let none : parts_in (chosen c.args.set units) c.args.most (as_nanos c.args.d) ≡ [] = rw (c.of-parts.ensures, c.as_nanos.ensures) at ends.first.0 in
    parts_printed c.args.style (chosen c.args.set units) [] c.args.most (as_nanos c.args.d) [] none

pub put_first-end-requires-clause-room : goal.put_first-end-requires-clause-room
put_first-end-requires-clause-room c =
    let part = c.in-Some.ensures {u = tt} in
    let us = chosen c.args.set units in
    let unit : TimeUnit = c.in-Some.row.now.unit in
    let others = parts_left c.next_part.new.self in
    let first : parts_in us c.args.most (as_nanos c.args.d) ≡ (unit, c.in-Some.count) ∷ others =
    rw (c.of-parts.ensures, c.as_nanos.ensures) at part.first in
    let all = parts_printed c.args.style us [] c.args.most (as_nanos c.args.d) _ first in
    let fits = each_grows c.args.style (with_part c.args.style [] unit c.in-Some.count) others in
    omega (arith, fits, ap length all, c.requires.room)

pub overflow_sub-most : goal.overflow_sub-most
overflow_sub-most c =
    let part = c.in-Some.ensures {u = tt} in
    let us = chosen c.args.set units in
    let unit : TimeUnit = c.in-Some.row.now.unit in
    let after = c.next_part.new.self in
    (long_rest us c.args.most (as_nanos c.args.d) unit c.in-Some.count (nanos_left after) (parts_left after)
    c.requires.long (rw (c.of-parts.ensures, c.as_nanos.ensures) at part.first) (rw (c.of-parts.ensures, c.as_nanos.ensures) at part.rest) part.less).0

pub overflow_cast-rest : goal.overflow_cast-rest
overflow_cast-rest c =
    let part = c.in-Some.ensures {u = tt} in
    let us = chosen c.args.set units in
    let unit : TimeUnit = c.in-Some.row.now.unit in
    let after = c.next_part.new.self in
    let rest = long_rest us c.args.most (as_nanos c.args.d) unit c.in-Some.count (nanos_left after) (parts_left after)
    c.requires.long (rw (c.of-parts.ensures, c.as_nanos.ensures) at part.first) (rw (c.of-parts.ensures, c.as_nanos.ensures) at part.rest) part.less in
    rw c.rest.ensures (omega (arith, rest.1))

pub put_parts-requires-clause-room : goal.put_parts-requires-clause-room
put_parts-requires-clause-room c =
    let part = c.in-Some.ensures {u = tt} in
    let after = c.next_part.new.self in
    let same = long_printed c.args.style (chosen c.args.set units) [] c.args.most (as_nanos c.args.d) c.in-Some.row.now.unit
    c.in-Some.count (nanos_left after) (parts_left after) c.requires.long (rw (c.of-parts.ensures, c.as_nanos.ensures) at part.first)
    (rw (c.of-parts.ensures, c.as_nanos.ensures) at part.rest) part.less in
    rw (c.put_first-end.ensures.text, c.rest.ensures, same)
    (omega (arith, c.requires.room, c.put_first-end.auto.buffer))

pub returns-clause-text : goal.returns-clause-text
returns-clause-text c =
    let part = c.in-Some.ensures {u = tt} in
    let after = c.next_part.new.self in
    let same = long_printed c.args.style (chosen c.args.set units) [] c.args.most (as_nanos c.args.d) c.in-Some.row.now.unit
    c.in-Some.count (nanos_left after) (parts_left after) c.requires.long (rw (c.of-parts.ensures, c.as_nanos.ensures) at part.first)
    (rw (c.of-parts.ensures, c.as_nanos.ensures) at part.rest) part.less in
    c.put_parts.ensures.text ∙ rw (c.put_first-end.ensures.text, c.rest.ensures) same
