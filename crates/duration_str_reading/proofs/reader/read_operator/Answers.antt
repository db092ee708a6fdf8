use Rattle.duration_str_reading.proofs.Common.{arith, common_steps, inl, inr, meaning_of, not-true, sym, ◌∙◌}
use Rattle.duration_str_reading.proofs.OnePass.ReaderLemmas.{after_token, at_end, is_on, operator_fault, operator_of_sort, operator_refused, operator_taken, same_rest, starts}
use Rattle.duration_str_reading.proofs.reader.read_operator.Goals as goal

pub returns-in_default-clause-next : goal.returns-in_default-clause-next
returns-in_default-clause-next c = (at_end (meaning_of c.args.rules) (c.in_default.ensures {u = tt})).1

pub returns-in-Number-clause-operator : goal.returns-in-Number-clause-operator
returns-in-Number-clause-operator c =
    let look = c.sort_ahead.ensures in rw (same_rest (meaning_of c.args.rules) look, (starts (meaning_of c.args.rules) look (rw c.in-Number.is at c.in-Some.is)).2)

pub returns-in-Operator-2-clause-operator : goal.returns-in-Operator-2-clause-operator
returns-in-Operator-2-clause-operator c =
    let first = starts (meaning_of c.args.rules) c.sort_ahead.ensures (rw c.in-Operator.is at c.in-Some.is) in
    rw (c.no_operator.ensures, c.place-place.ensures)
    (sym (operator_refused (meaning_of c.args.rules) _ _ _ _ first.1 (is_on _ c.if-not-rules.false)))

pub returns-in-Word-clause-operator : goal.returns-in-Word-clause-operator
returns-in-Word-clause-operator c =
    let look = c.sort_ahead.ensures in
    let fault = c.no_operator-in-Word.ensures in
    elim c.in-Word.is [
      | inl is ↦ rw ((starts (meaning_of c.args.rules) look (rw is at c.in-Some.is)).2, fault, c.place-place.ensures)
      | inr is ↦ rw ((starts (meaning_of c.args.rules) look (rw is at c.in-Some.is)).1, fault, c.place-place.ensures)
    ]

pub returns-in_err-expect_number-in-Operator-clause-operator :
    goal.returns-in_err-expect_number-in-Operator-clause-operator
returns-in_err-expect_number-in-Operator-clause-operator c =
    let look = c.sort_ahead.ensures in
    let taken = c.advance.ensures.sign (meaning_of c.args.rules) _ tt (rw (c.in-Some.is, c.in-Operator.is) at look.ahead) in
    let left = same_rest (meaning_of c.args.rules) look in
    let after = rw (operator_of_sort taken.terminal _ taken.has) at (after_token {terminal = taken.terminal} taken.token) in
    let rest = c.expect_number.ensures.rest (meaning_of c.args.rules) in
    let fault = c.expect_number.ensures.fault (meaning_of c.args.rules) in
    let calc = not-true _ c.if-not-rules.true in
    grind (arith, common_steps, operator_fault)

pub returns-in_ok-expect_number-in-Operator-clause-operator :
    goal.returns-in_ok-expect_number-in-Operator-clause-operator
returns-in_ok-expect_number-in-Operator-clause-operator c =
    let look = c.sort_ahead.ensures in
    let taken = c.advance.ensures.sign (meaning_of c.args.rules) _ tt (rw (c.in-Some.is, c.in-Operator.is) at look.ahead) in
    let after = rw (operator_of_sort taken.terminal _ taken.has) at (after_token {terminal = taken.terminal} taken.token) in
    let rest = c.expect_number.ensures.rest (meaning_of c.args.rules) in
    let fault = c.expect_number.ensures.fault (meaning_of c.args.rules) in
    let none = rw c.in_ok-expect_number-in-Operator.was at fault in
    let here = sym (same_rest (meaning_of c.args.rules) look) ∙ after in
    rw rest (sym (operator_taken (meaning_of c.args.rules) _ _ _ _ here (not-true _ c.if-not-rules.true) (sym none)))
