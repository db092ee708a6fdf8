use Rattle.duration_str_printing.proofs.Common.{ap, arith, length, length-take-le, Short, take, units, with_counts, with_gap, [], ◌%◌, ◌-◌, ◌/◌, ◌∙◌, ◌∷◌, ◌≡◌}
use Rattle.duration_str_printing.proofs.FormatLemmas.{days_fit}
use Rattle.duration_str_printing.proofs.printing.put_days.Goals as goal

pub returns-clause-end : goal.returns-clause-end
returns-clause-end c =
    let days = c.args.secs / 86400 in
    let year = days % 365 in
    let quarter = year % 91 in
    let month = quarter % 30 in
    let end = c.put_counts-end.result in
    let buffer = c.put_counts-end.new.buffer in
    let text : take (end - 1) buffer
    ≡ with_counts Short [] units (days / 365 ∷ year / 91 ∷ quarter / 30 ∷ month / 7 ∷ month % 7 ∷ []) =
    c.put_counts-end.ensures.text in
    omega (
      arith,
      days_fit (days / 365) (year / 91) (quarter / 30) (month / 7) (month % 7)
          (omega arith) (omega arith) (omega arith) (omega arith) (omega arith),
      ap length (c.put_counts-end.ensures.spaced ∙ ap (with_gap Short) text),
      length-take-le end buffer (omega arith),
    )
