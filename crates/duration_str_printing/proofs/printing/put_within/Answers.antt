use Rattle.duration_str_printing.proofs.Common.{arith, as_nanos, rules, unit_lengths, whole_format, ◌*◌, ◌+◌, ◌^◌, ◌≡◌}
use Rattle.duration_str_printing.proofs.AllParts.{all_counts}
use Rattle.duration_str_printing.proofs.FormatLemmas.{within_fits}
use Rattle.duration_str_printing.proofs.SetLemmas.{chosen_whole}
use Rattle.duration_str_printing.proofs.printing.put_within.Goals as goal

pub returns-then-eq-clause-text : goal.returns-then-eq-clause-text
returns-then-eq-clause-text c =
    let whole : c.args.format ≡ whole_format = search rules in
    rw (whole, chosen_whole) (rw (all_counts unit_lengths 11 (as_nanos c.args.d) (omega arith)) c.put_whole.ensures.text)

pub put_parts-requires-clause-room : goal.put_parts-requires-clause-room
put_parts-requires-clause-room c =
    let same : c.as_secs-then-as_secs-2.result * 10 ^ 9 + c.from.result ≡ as_nanos c.args.d = omega arith in
    rw same (omega (arith, within_fits c.args.format (as_nanos c.args.d) (omega arith), c.requires.room))

pub put_long-requires-clause-room : goal.put_long-requires-clause-room
put_long-requires-clause-room c =
    omega (arith, within_fits c.args.format (as_nanos c.args.d) (omega arith), c.requires.room)
