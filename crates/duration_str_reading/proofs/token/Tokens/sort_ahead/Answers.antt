use Rattle.duration_str_reading.proofs.Cutting.StepLemmas.{looks_ahead}
use Rattle.duration_str_reading.proofs.token.Tokens.sort_ahead.Goals as goal

pub returns-in_err-first : goal.returns-in_err-first
returns-in_err-first c =
    let e = c.skip_blanks.ensures in
    rw c.from_residual.ensures (looks_ahead _ e.kept e.blanks (c.in_err-first.was {u = tt}))

pub returns : goal.returns
returns c =
    let e = c.skip_blanks.ensures in
    let head = c.in_ok-first.was {u = tt} in
    let first = c.in_ok-first.first in
    looks_ahead _ e.kept e.blanks
    (record { character = first; is_head = head; not_blank = e.stops first head; is_sort = c.at.ensures })
