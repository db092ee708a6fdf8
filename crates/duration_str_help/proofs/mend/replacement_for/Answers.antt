use Rattle.duration_str_help.proofs.Common.{arith, true}
use Rattle.duration_str_help.proofs.MendedLemmas.{cut_named, cut_removed, piece_end}
use Rattle.duration_str_help.proofs.mend.replacement_for.Goals as goal

pub range_from-requires : goal.range_from-requires
range_from-requires c =
    piece_end c.args.text.now c.args.found.now.piece.now c.args.place c.utf8.text c.requires.boundary c.requires.piece

pub range_from-requires-in-DigitsOnly : goal.range_from-requires-in-DigitsOnly
range_from-requires-in-DigitsOnly c =
    piece_end c.args.text.now c.args.found.now.piece.now c.args.place c.utf8.text c.requires.boundary c.requires.piece

pub returns-in-DidYouMean-clause-cut : goal.returns-in-DidYouMean-clause-cut
returns-in-DidYouMean-clause-cut c =
    cut_named c.args.text.now _ _ c.named.result c.named.ensures.start c.named.ensures.end c.requires.boundary
    (piece_end c.args.text.now c.args.found.now.piece.now c.args.place c.utf8.text c.requires.boundary c.requires.piece) (omega arith)

pub returns-in-LeadingPlus-clause-cut : goal.returns-in-LeadingPlus-clause-cut
returns-in-LeadingPlus-clause-cut c =
    cut_removed c.args.text.now true _ _ _ c.removed_if.ensures c.requires.boundary
    (piece_end c.args.text.now c.args.found.now.piece.now c.args.place c.utf8.text c.requires.boundary c.requires.piece) (omega arith)

pub returns-in-NoPoint-clause-cut : goal.returns-in-NoPoint-clause-cut
returns-in-NoPoint-clause-cut c =
    cut_removed c.args.text.now _ _ _ _ c.removed_if-in-NoPoint.ensures c.requires.boundary
    (piece_end c.args.text.now c.args.found.now.piece.now c.args.place c.utf8.text c.requires.boundary c.requires.piece) (omega arith)

pub returns-after-is_mark-clause-cut : goal.returns-after-is_mark-clause-cut
returns-after-is_mark-clause-cut c =
    cut_removed c.args.text.now _ _ _ _ c.removed_if-in-DigitsOnly.ensures c.requires.boundary
    (piece_end c.args.text.now c.args.found.now.piece.now c.args.place c.utf8.text c.requires.boundary c.requires.piece) (omega arith)

pub returns-after-is_time-clause-cut : goal.returns-after-is_time-clause-cut
returns-after-is_time-clause-cut c =
    cut_removed c.args.text.now _ _ _ _ c.removed_if-in-Iso8601.ensures c.requires.boundary
    (piece_end c.args.text.now c.args.found.now.piece.now c.args.place c.utf8.text c.requires.boundary c.requires.piece) (omega arith)
