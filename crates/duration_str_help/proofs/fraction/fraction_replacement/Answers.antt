use Rattle.duration_str_help.proofs.Common.{ap, arith, drop, is_digit, length, length-drop, List, nat_tests, take, ℕ, ◌+◌, ◌-◌, ◌<◌, ◌∙◌, ◌≡◌}
use Rattle.std.proofs.lemmas.List.{take_all}
use Rattle.std.proofs.lemmas.List.Folds.{length-prefix_len}
use Rattle.std.proofs.lemmas.Str.{IsCharBoundary-from_rest}
use Rattle.std.specs.List.{prefix_len}
use Rattle.duration_str_help.specs.Fraction.{end_run}
use Rattle.duration_str_help.proofs.MendedBytes.{end_parts, run_parts}
use Rattle.duration_str_help.proofs.FractionLemmas.{digit_ascii, number_start, run_boundary}
use Rattle.duration_str_help.proofs.fraction.fraction_replacement.Goals.{After-first_digits-decimals}
use Rattle.duration_str_help.proofs.fraction.fraction_replacement.Goals as goal

whole : (c : After-first_digits-decimals)
    → c.last_digits-whole.result.now ≡ end_run is_digit (take c.args.place c.args.text.now)
whole c =
    c.last_digits-whole.ensures
    ∙ ap (λ (bs : List ℕ). end_run is_digit (take c.args.place bs)) c.as_bytes-bytes.ensures.value

decimals : (c : After-first_digits-decimals) → let after = drop (c.args.place + 1) c.args.text.now in
    c.first_digits-decimals.result.now ≡ take (prefix_len is_digit after) after
decimals c =
    let bytes = c.as_bytes-bytes.result.now in
    let start = c.args.place + 1 in
    let slice : take (length bytes - start) (drop start bytes) ≡ drop start c.args.text.now =
    take_all (length bytes - start) (drop start bytes) (omega (arith, length-drop start bytes))
    ∙ ap (λ (bs : List ℕ). drop start bs) c.as_bytes-bytes.ensures.value in
    c.first_digits-decimals.ensures ∙ ap (λ (bs : List ℕ). take (prefix_len is_digit bs) bs) slice

many : (c : After-first_digits-decimals)
    → length c.first_digits-decimals.result.now ≡ prefix_len is_digit (drop (c.args.place + 1) c.args.text.now)
many c = ap length (decimals c) ∙ length-prefix_len is_digit (drop (c.args.place + 1) c.args.text.now)

pub range_from-requires : goal.range_from-requires
range_from-requires c =
    let len = many (goal.at.range_from-requires c).After-first_digits-decimals in
    let some : 0 < length c.first_digits-decimals.result.now = grind (arith, nat_tests, c.if-is_empty-2.ensures {u = tt}) in
    rw len
    (run_boundary is_digit digit_ascii c.args.text.now (c.args.place + 1) c.utf8.text (omega (arith, some, len)))

pub nanos_of_fraction-requires-clause-whole : goal.nanos_of_fraction-requires-clause-whole
nanos_of_fraction-requires-clause-whole c =
    rw (whole (goal.at.nanos_of_fraction-requires-clause-whole c).After-first_digits-decimals)
    (end_parts is_digit (take c.args.place c.args.text.now)).all

pub nanos_of_fraction-requires-clause-decimals : goal.nanos_of_fraction-requires-clause-decimals
nanos_of_fraction-requires-clause-decimals c =
    rw (decimals (goal.at.nanos_of_fraction-requires-clause-decimals c).After-first_digits-decimals)
    (run_parts is_digit (drop (c.args.place + 1) c.args.text.now)).all

pub overflow_sub-result : goal.overflow_sub-result
overflow_sub-result c =
    rw (whole (goal.at.overflow_sub-result c).After-first_digits-decimals)
    (number_start c.args.text.now c.args.place c.utf8.text c.requires).0

pub returns-clause-cut : goal.returns-clause-cut
returns-clause-cut c =
    let text = c.args.text.now in
    let end = c.args.place + 1 + length c.first_digits-decimals.result.now in
    record {
      starts =
          rw (whole (goal.at.returns-clause-cut c).After-first_digits-decimals)
          (number_start text c.args.place c.utf8.text c.requires).1;
      ends = IsCharBoundary-from_rest text end c.in_ok-unit.more (omega (arith, c.range_from.ensures.len))
          (rw c.range_from.ensures.value at c.in_ok-unit.ensures.boundary);
      ordered = omega arith;
    }
