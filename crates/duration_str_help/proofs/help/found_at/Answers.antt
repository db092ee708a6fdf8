use Rattle.duration_str_help.proofs.Common.{ahead, ap, cases_Bool, chars, encode_utf8_all, encodes-chars, inl, inr, refl, sym, ◌∙◌, ◌≡◌}
use Rattle.duration_str_help.specs.Help.{first_piece}
use Rattle.duration_str_help.proofs.NearLemmas.{near_if_none, near_if_some}
use Rattle.duration_str_help.proofs.help.found_at.Goals.{After-first_piece-piece}
use Rattle.duration_str_help.proofs.help.found_at.Goals as goal

same : (c : After-first_piece-piece)
    → chars c.first_piece-piece.result.now ≡ first_piece (ahead c.args.text.now c.args.place)
same c = c.first_piece-piece.ensures.piece ∙ ap (λ bytes. first_piece (chars bytes)) c.range_from.ensures.value

pub returns-in-Some-clause-piece : goal.returns-in-Some-clause-piece
returns-in-Some-clause-piece c = same (goal.at.returns-in-Some-clause-piece c).After-first_piece-piece

bytes : (c : After-first_piece-piece)
    → c.first_piece-piece.result.now ≡ encode_utf8_all (first_piece (ahead c.args.text.now c.args.place))
bytes c =
    sym (encodes-chars c.first_piece-piece.result.now c.first_piece-piece.utf8) ∙ ap encode_utf8_all (same c)

pub returns-in-Some-clause-bytes : goal.returns-in-Some-clause-bytes
returns-in-Some-clause-bytes c = bytes (goal.at.returns-in-Some-clause-bytes c).After-first_piece-piece

pub returns-clause-bytes : goal.returns-clause-bytes
returns-clause-bytes c = bytes (goal.at.returns-clause-bytes c).After-first_piece-piece

pub returns-in-Some-clause-unknown : goal.returns-in-Some-clause-unknown
returns-in-Some-clause-unknown c =
    let near = near_if_some _ _ _ (sym c.in-Some.is ∙ c.near_unit_if.ensures) in
    rw (← same (goal.at.returns-in-Some-clause-unknown c).After-first_piece-piece)
    (sym near.0 ∙ c.is_unknown_unit-is_unknown_unit.ensures)

pub returns-in-Some-clause-help : goal.returns-in-Some-clause-help
returns-in-Some-clause-help c =
    let near = near_if_some _ _ _ (sym c.in-Some.is ∙ c.near_unit_if.ensures) in
    rw (
      ← same (goal.at.returns-in-Some-clause-help c).After-first_piece-piece,
      sym c.is_unknown_unit-is_unknown_unit.ensures ∙ near.0,
      near.1,
    ) refl

pub returns-clause-piece : goal.returns-clause-piece
returns-clause-piece c = same (goal.at.returns-clause-piece c).After-first_piece-piece

pub returns-clause-unknown : goal.returns-clause-unknown
returns-clause-unknown c =
    rw (← same (goal.at.returns-clause-unknown c).After-first_piece-piece) c.is_unknown_unit-is_unknown_unit.ensures

pub returns-clause-help : goal.returns-clause-help
returns-clause-help c =
    let is = c.is_unknown_unit-is_unknown_unit in
    let help = rw (c.help_at-help.ensures, c.as_bytes-text.ensures.value) at c.far_help.ensures in
    rw (
      ← same (goal.at.returns-clause-help c).After-first_piece-piece,
      encodes-chars c.first_piece-piece.result.now c.first_piece-piece.utf8,
    ) (elim (cases_Bool is.result) [
      | inl word ↦
          let none = near_if_none _ _ word (sym c.in_default.is ∙ c.near_unit_if.ensures) in
          rw (sym is.ensures ∙ word, none) (rw word at help)
      | inr other ↦ rw (sym is.ensures ∙ other) (rw other at help)
    ])
