use Rattle.duration_str_reading.proofs.Common.{arith, common_steps, err_from_is_err_and, if◌then◌else◌, meaning_of, None, Ok, Plus, rest_of, Some, sym, ◌∙◌, ◌≡◌}
use Rattle.duration_str_reading.proofs.OnePass.TermsLemmas.{fewer, first_step, first_unread, later_step, started, term_passed, unread}
use Rattle.duration_str_reading.proofs.OnePass.ReaderLemmas.{no_number}
use Rattle.duration_str_reading.proofs.reader.read.Goals as goal
use Rattle.duration_str_reading.proofs.reader.read.Goals.{else-rules, then-rules}

pub returns-in_err-expect_number-clause-answer : goal.returns-in_err-expect_number-clause-answer
returns-in_err-expect_number-clause-answer c =
    let r = c.from_residual in let p = err_from_is_err_and r.result r.ensures.1 in
    let fault = sym (rw c.in_err-expect_number.was at (c.expect_number.ensures.fault (meaning_of c.args.rules))) in
    rw (p.1, p.2) (no_number (meaning_of c.args.rules) _ _ fault)

pub returns-in_err-read_unit-clause-answer : goal.returns-in_err-read_unit-clause-answer
returns-in_err-read_unit-clause-answer c =
    let r = c.from_residual-in_err-read_unit in let p = err_from_is_err_and r.result r.ensures.1 in
    rw (p.1, p.2) (first_unread (meaning_of c.args.rules) (c.expect_number.ensures.rest (meaning_of c.args.rules)) c.take_number-number.ensures
    (c.in_err-read_unit.ensures {u = tt}).unit)

pub returns-in_err-value-clause-answer : goal.returns-in_err-value-clause-answer
returns-in_err-value-clause-answer c =
    let r = c.from_residual-in_err-value in let p = err_from_is_err_and r.result r.ensures.1 in
    let step = first_step (meaning_of c.args.rules) (c.expect_number.ensures.rest (meaning_of c.args.rules)) c.take_number-number.ensures
    (c.in_ok-read_unit.ensures {u = tt}).unit (rw c.unit_table.ensures at (c.in_err-value.ensures {u = tt})) in
    rw (p.1, p.2, step)

pub returns-in_err-unit-clause-answer : goal.returns-in_err-unit-clause-answer
returns-in_err-unit-clause-answer c =
    let r = c.from_residual-in_err-unit in let p = err_from_is_err_and r.result r.ensures.1 in
    let read = rw c.in-Some.is at (c.in_ok-next.ensures {u = tt}).operator in
    let passed = term_passed (meaning_of c.args.rules) (rest_of (meaning_of c.args.rules) c.loop-next.tokens) read c.take_number-number-in-Some.ensures _
    (c.in_err-unit.ensures {u = tt}).unit in
    grind (arith, common_steps, unread)

pub loop-next-smaller-in_ok-later : goal.loop-next-smaller-in_ok-later
loop-next-smaller-in_ok-later c =
    let read = rw c.in-Some.is at (c.in_ok-next.ensures {u = tt}).operator in
    fewer (meaning_of c.args.rules) (rest_of (meaning_of c.args.rules) c.loop-next.tokens) read c.take_number-number-in-Some.ensures
    (c.in_ok-unit.ensures {u = tt}).unit

pub loop-next-smaller : goal.loop-next-smaller
loop-next-smaller c =
    let read = rw c.in-Some.is at (c.in_ok-next.ensures {u = tt}).operator in
    fewer (meaning_of c.args.rules) (rest_of (meaning_of c.args.rules) c.loop-next.tokens) read c.take_number-number-in-Some.ensures
    (c.in_ok-unit.ensures {u = tt}).unit

pub returns-in_err-later-clause-answer : goal.returns-in_err-later-clause-answer
returns-in_err-later-clause-answer c =
    let r = c.from_residual-in_err-later in let p = err_from_is_err_and r.result r.ensures.1 in
    let read = rw c.in-Some.is at (c.in_ok-next.ensures {u = tt}).operator in
    let step = later_step (meaning_of c.args.rules) c.if-rules.first.0 c.loop-next.later (rest_of (meaning_of c.args.rules) c.loop-next.tokens) read
    c.take_number-number-in-Some.ensures (c.in_ok-unit.ensures {u = tt}).unit in
    grind (arith, common_steps)

pub loop-next-init : goal.loop-next-init
loop-next-init c =
    let start : c.if-rules.first
    ≡ (if c.args.rules.options.no_calc then (0, Ok (Some (Plus, c.in_ok-value.value))) else (c.in_ok-value.value, Ok None)) =
    elim c.if-rules.branch [ then-rules w ↦ rw w.if-rules.true w.first-is | else-rules w ↦ rw w.if-rules.false w.first-is ] in
    let step = first_step (meaning_of c.args.rules) (c.expect_number.ensures.rest (meaning_of c.args.rules))
    c.take_number-number.ensures (c.in_ok-read_unit.ensures {u = tt}).unit (rw c.unit_table.ensures at (c.in_ok-value.ensures {u = tt})) in record {
      same_source = c.read_unit.ensures.place.same_source ∙ c.take_number-number.ensures.kept.text
          ∙ c.expect_number.ensures.place.same_source;
      same = started c.args.rules.options.no_calc c.in_ok-value.value c.if-rules.first _ start ∙ sym step;
      placeless = elim c.if-rules.branch [ then-rules w ↦ rw w.first-is tt | else-rules w ↦ rw w.first-is tt ];
      held = elim c.if-rules.branch [ then-rules w ↦ rw w.first-is tt | else-rules w ↦ rw w.first-is tt ];
    }

pub loop-next-preserved-in_ok-later : goal.loop-next-preserved-in_ok-later
loop-next-preserved-in_ok-later c =
    let inv = c.loop-next.invariant in
    let read = rw c.in-Some.is at (c.in_ok-next.ensures {u = tt}).operator in
    let step = later_step (meaning_of c.args.rules) c.if-rules.first.0 c.loop-next.later
    (rest_of (meaning_of c.args.rules) c.loop-next.tokens) read c.take_number-number-in-Some.ensures (c.in_ok-unit.ensures {u = tt}).unit in
    record {
      same_source = c.read_unit-in-Some.ensures.place.same_source ∙ c.take_number-number-in-Some.ensures.kept.text
          ∙ c.read_operator.ensures.place.same_source ∙ inv.same_source;
      same = rw c.with_term-later.ensures.value (sym step ∙ inv.same);
      placeless = c.with_term-later.ensures.placeless;
      held = rw c.in_ok-later.was tt;
    }

pub loop-next-preserved : goal.loop-next-preserved
loop-next-preserved c =
    let inv = c.loop-next.invariant in
    let read = rw c.in-Some.is at (c.in_ok-next.ensures {u = tt}).operator in
    let step = later_step (meaning_of c.args.rules) c.if-rules.first.0 c.loop-next.later
    (rest_of (meaning_of c.args.rules) c.loop-next.tokens) read c.take_number-number-in-Some.ensures (c.in_ok-unit.ensures {u = tt}).unit in
    record {
      same_source = c.read_unit-in-Some.ensures.place.same_source ∙ c.take_number-number-in-Some.ensures.kept.text
          ∙ c.read_operator.ensures.place.same_source ∙ inv.same_source;
      same = rw c.with_term-later.ensures.value (sym step ∙ inv.same);
      placeless = c.with_term-later.ensures.placeless;
      held = grind arith;
    }
