use Rattle.duration_str_reading.proofs.Common.{None, options_of, refl, Some, sort_at, ◌∙◌}
use Rattle.duration_str_reading.proofs.Cutting.SortLemmas.{digit_sort}
use Rattle.duration_str_reading.proofs.Cutting.StepLemmas.{looks_ahead}
use Rattle.duration_str_reading.proofs.token.Tokens.is_number_ahead.Goals as goal

pub returns-in-Some : goal.returns-in-Some
returns-in-Some c =
    let o = options_of c.skip_blanks.new.self in
    let e = c.skip_blanks.ensures in
    let first = c.in-Some.c in
    let head = c.in-Some.is in
    record {
      sort = Some (sort_at o first);
      look = looks_ahead _ e.kept e.blanks
          (record { character = first; is_head = head; not_blank = e.stops first head; is_sort = refl });
      is_answer = c.is_ascii_digit.ensures.value ∙ digit_sort o first;
    }

pub returns-in-None : goal.returns-in-None
returns-in-None c =
    let e = c.skip_blanks.ensures in
    record { sort = None; look = looks_ahead _ e.kept e.blanks c.in-None.is; is_answer = refl }
