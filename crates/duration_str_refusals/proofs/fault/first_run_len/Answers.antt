use Rattle.duration_str_refusals.proofs.Common.{arith, chars_rest, encode_utf8, IsUtf8, IsUtf8-past_char, rules, sym, ◌++◌, ◌≡◌, ◌∙◌}
use Rattle.duration_str_refusals.proofs.RunLemmas.{length_past, run_begins, run_ends, run_goes_on}
use Rattle.duration_str_reading.specs.Tokens.{are_of_one_run}
use Rattle.duration_str_refusals.proofs.fault.first_run_len.Goals as goal

pub loop-c-init : goal.loop-c-init
loop-c-init c =
    let utf8 : IsUtf8 c.args.text.now = search rules in
    let begins : c.args.text.now ≡ encode_utf8 c.in-Some.first ++ chars_rest c.next.new.self = search rules in
    let len = c.len_utf8-len.ensures.value in
    record {
      utf8 = IsUtf8-past_char _ _ c.in-Some.first utf8 begins;
      inside = omega (arith, len, length_past _ _ c.in-Some.first utf8 begins);
      run = rw len (run_begins _ _ c.in-Some.first utf8 begins c.args.o);
    }

pub loop-c-preserved : goal.loop-c-preserved
loop-c-preserved c =
    let held = c.loop-c.invariant in
    let begins = (c.in-Some-next.ensures {u = tt}).steps.0 in
    let len = c.len_utf8-len-in-Some-next.ensures.value in
    let like = sym c.are_of_one_run.ensures ∙ c.if-not-are_of_one_run.false in
    record {
      utf8 = IsUtf8-past_char _ _ c.in-Some-next.c held.utf8 begins;
      inside = omega (arith, len, held.inside, length_past _ _ c.in-Some-next.c held.utf8 begins);
      run = omega (arith, len, held.run, run_goes_on _ _ c.in-Some-next.c held.utf8 begins (are_of_one_run c.args.o c.in-Some.first) like);
    }

pub returns-then-not-are_of_one_run : goal.returns-then-not-are_of_one_run
returns-then-not-are_of_one_run c =
    let held = c.loop-c.invariant in
    let begins = (c.in-Some-next.ensures {u = tt}).steps.0 in
    let other = sym c.are_of_one_run.ensures ∙ c.if-not-are_of_one_run.true in
    omega (arith, held.run, run_ends _ _ c.in-Some-next.c held.utf8 begins (are_of_one_run c.args.o c.in-Some.first) other)
