use Rattle.duration_str_printing.proofs.Common.{ap, arith, counts_within, length, map, nanos_of, sym, take, units, with_part, ◌∙◌}
use Rattle.duration_str_printing.proofs.BreakdownLemmas.{each_grows, each_printed}
use Rattle.duration_str_printing.proofs.printing.put_parts.Goals as goal
use Rattle.duration_str_printing.specs.Breakdown.{parts_left}
use Rattle.duration_str_printing.specs.Internal.PrintedBytes.{with_each}
use Rattle.duration_str_printing.specs.Format.{chosen}

pub loop-row-init : goal.loop-row-init
loop-row-init c =
    let us = chosen c.set_for.result units in
    let bytes = take c.args.at c.args.buffer.now in
    record {
      inside = c.requires.start;
      short = rw (c.of-parts.ensures, c.from.ensures) (omega arith);
      same = rw (c.of-parts.ensures, c.from.ensures)
          (sym (each_printed c.args.style us bytes (counts_within (map nanos_of us) c.args.most c.args.nanos))
          ∙ c.set_for.ensures c.args.style bytes c.args.most);
    }

pub put_part-end-requires-clause-room : goal.put_part-end-requires-clause-room
put_part-end-requires-clause-room c =
    let bytes = take c.loop-row.end c.loop-row.buffer in
    let first = with_part c.args.style bytes c.in-Some.row.now.unit c.in-Some.count in
    let same = sym (ap (with_each c.args.style bytes) c.in-Some.ensures.first) ∙ c.loop-row.invariant.same in
    omega (arith, each_grows c.args.style first (parts_left c.next_part.new.self), ap length same, c.requires.room)
