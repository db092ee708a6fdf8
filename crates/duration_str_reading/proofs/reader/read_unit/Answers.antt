use Rattle.duration_str_reading.proofs.Common.{inl, inr, meaning_of, not-true, sym}
use Rattle.duration_str_reading.proofs.OnePass.ReaderLemmas.{at_end, is_on, same_rest, starts, unit_omitted, unit_refused}
use Rattle.duration_str_reading.proofs.reader.read_unit.Goals as goal

pub returns-in_default-clause-unit : goal.returns-in_default-clause-unit
returns-in_default-clause-unit c =
    let look = c.in_default.ensures {u = tt} in
    rw (c.unit_left_out.ensures, c.place.ensures, same_rest (meaning_of c.args.rules) look, (at_end (meaning_of c.args.rules) look).0)

pub returns-in-Operator-clause-unit : goal.returns-in-Operator-clause-unit
returns-in-Operator-clause-unit c =
    let look = c.sort_after_number.ensures in
    let first = starts (meaning_of c.args.rules) look (rw c.in-Operator.is at c.in-Some.is) in
    rw (c.unit_left_out-in-Operator.ensures, c.place-place.ensures, same_rest (meaning_of c.args.rules) look)
    (sym (unit_omitted (meaning_of c.args.rules) _ _ _ _ first.1 (not-true _ c.if-not-rules.true)))

pub returns-in-Operator-2-clause-unit : goal.returns-in-Operator-2-clause-unit
returns-in-Operator-2-clause-unit c =
    let first = starts (meaning_of c.args.rules) c.sort_after_number.ensures (rw c.in-Operator.is at c.in-Some.is) in
    rw (c.no_unit-in-Operator-2.ensures, c.place-place.ensures)
    (sym (unit_refused (meaning_of c.args.rules) _ _ _ _ first.1 (is_on _ c.if-not-rules.false)))

pub returns-in-Number-clause-unit : goal.returns-in-Number-clause-unit
returns-in-Number-clause-unit c =
    let look = c.sort_after_number.ensures in
    let fault = c.no_unit-in-Number.ensures in
    elim c.in-Number.is [
      | inl is ↦ rw ((starts (meaning_of c.args.rules) look (rw is at c.in-Some.is)).2, fault, c.place-place.ensures)
      | inr is ↦ rw ((starts (meaning_of c.args.rules) look (rw is at c.in-Some.is)).1, fault, c.place-place.ensures)
    ]
