use Rattle.duration_str_printing.proofs.Common.{ap, arith, as_nanos, counts_of, Short, sym, unit_lengths, units, with_counts, [], ◌%◌, ◌*◌, ◌+◌, ◌/◌, ◌^◌, ◌∙◌, ◌≡◌}
use Rattle.duration_str_printing.proofs.SpacedLemmas.{counts_by_days}
use Rattle.duration_str_printing.proofs.printing.put_whole.Goals as goal

pub returns-then-nanos-eq0-clause-text : goal.returns-then-nanos-eq0-clause-text
returns-then-nanos-eq0-clause-text c =
    let days = c.as_secs.result / 86400 in
    let all : as_nanos c.args.d ≡ (days * 86400 + 0) * 10 ^ 9 + 0 = omega arith in
    rw c.saturating_sub.ensures (c.put_days-at.ensures.text
    ∙ sym (ap (with_counts Short [] units)
    (ap (counts_of unit_lengths) all ∙ counts_by_days days 0 0 (omega arith) (omega arith))))

pub returns-clause-text : goal.returns-clause-text
returns-clause-text c =
    let days = c.as_secs.result / 86400 in
    let secs = c.as_secs.result % 86400 in
    let nanos = c.subsec_nanos-nanos.result in
    let all : as_nanos c.args.d ≡ (days * 86400 + secs) * 10 ^ 9 + nanos = omega arith in
    rw c.saturating_sub-2.ensures
    (rw (c.put_days-at.ensures.text, c.put_days-at.ensures.rest, c.rank.ensures) at c.put_counts-end.ensures.text
    ∙ sym (ap (with_counts Short [] units)
    (ap (counts_of unit_lengths) all ∙ counts_by_days days secs nanos (omega arith) (omega arith))))
