use Rattle.duration_str_refusals.proofs.Common.{arith, chars, chars_rest, cond, IsUtf8-past_char, length, rules, ◌*◌, ◌+◌, ◌≡◌, ◌≤◌, sum_by-cons, chars_past_char, common_steps}
use Rattle.duration_str_refusals.specs.Report.{columns_of, is_wide}
use Rattle.duration_str_refusals.proofs.ReportLemmas.{columns_all, columns_short}
use Rattle.duration_str_refusals.proofs.report.columns_of.Goals.{After-from}
use Rattle.duration_str_refusals.proofs.report.columns_of.Goals as goal

more : (c : After-from)
    → (c.loop-c.columns + (1 + c.from.result)) + columns_of (chars (chars_rest c.next.new.self))
    ≡ columns_of (chars c.args.text.now)
more c =
    let held = c.loop-c.invariant in
    let one : c.from.result ≡ cond (is_wide c.in-Some.c) 1 0 = search rules in
    rw one (grind (arith, common_steps, sum_by-cons, chars_past_char))

pub overflow_add-columns-in-Some : goal.overflow_add-columns-in-Some
overflow_add-columns-in-Some c =
    let short : columns_of (chars c.args.text.now) ≤ 2 * length c.args.text.now = search (rules, columns_short) in
    omega (arith, short, more (goal.at.overflow_add-columns-in-Some c).After-from)

pub loop-c-preserved : goal.loop-c-preserved
loop-c-preserved c = record {
  utf8 = IsUtf8-past_char _ _ c.in-Some.c c.loop-c.invariant.utf8 (c.in-Some.ensures {u = tt}).steps.0;
  whole = more (goal.at.loop-c-preserved c).After-from;
}

pub returns : goal.returns
returns c =
    let all = columns_all _ c.loop-c.columns _ (c.in_default.ensures {u = tt}).steps.0.0 c.loop-c.invariant.whole in
    let short : columns_of (chars c.args.text.now) ≤ 2 * length c.args.text.now = search (rules, columns_short) in
    record { columns = all; short = omega (arith, all, short) }
