use Rattle.duration_str_help.proofs.Common.{ahead, ap, arith, Expected, false, IsCharBoundary, IsCharBoundary-start, length, sym, true, ◌+◌, ◌∙◌}
use Rattle.duration_str_help.specs.Internal.Mends.{offered_unit}
use Rattle.duration_str_help.specs.Help.{first_piece, near_unit}
use Rattle.duration_str_help.proofs.MendedHelp.{offered_near}
use Rattle.duration_str_help.proofs.FractionLemmas.{blanks_boundary}
use Rattle.duration_str_help.proofs.MendedLemmas.{piece_end}
use Rattle.duration_str_help.proofs.fraction.unit_ahead.Goals.{After-found_at-found}
use Rattle.duration_str_help.proofs.fraction.unit_ahead.Goals as goal

pub found_at-found-requires : goal.found_at-found-requires
found_at-found-requires c =
    rw (c.blanks_len-blanks.ensures, c.as_bytes.ensures.value) (blanks_boundary c.args.text.now c.utf8.text)

word_end : (c : After-found_at-found)
    → IsCharBoundary c.args.text.now (c.blanks_len-blanks.result + length c.found_at-found.result.piece.now)
word_end c =
    piece_end c.args.text.now c.found_at-found.result.piece.now c.blanks_len-blanks.result c.utf8.text
    (rw (c.blanks_len-blanks.ensures, c.as_bytes.ensures.value) (blanks_boundary c.args.text.now c.utf8.text))
    c.found_at-found.ensures.bytes

pub meant_unit-requires : goal.meant_unit-requires
meant_unit-requires c =
    let text = c.args.text.now in
    let blanks = c.blanks_len-blanks.result in
    let expected : Expected = record { number = false; unit_word = true; operator = false; text_end = false } in
    ap offered_unit c.found_at-found.ensures.help
    ∙ offered_near text blanks expected (first_piece (ahead text blanks)) (sym c.found_at-found.ensures.unknown ∙ c.if-found.true)
    ∙ ap near_unit (sym c.found_at-found.ensures.piece)

pub overflow_add-result : goal.overflow_add-result
overflow_add-result c = omega (arith, (word_end (goal.at.overflow_add-result c).After-found_at-found).0)

pub range_from-requires : goal.range_from-requires
range_from-requires c =
    rw (c.blanks_len-blanks.ensures, c.as_bytes.ensures.value) (blanks_boundary c.args.text.now c.utf8.text)

pub returns-then-found-clause-boundary : goal.returns-then-found-clause-boundary
returns-then-found-clause-boundary c = word_end (goal.at.returns-then-found-clause-boundary c).After-found_at-found

pub returns-clause-boundary : goal.returns-clause-boundary
returns-clause-boundary c = IsCharBoundary-start c.args.text.now c.utf8.text
