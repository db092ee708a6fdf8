use Rattle.duration_str_printing.proofs.Common.{add_assoc, ap, arith, common_steps, decimal, encode_utf8_all, row_of, Short, sym, take, with_gap, with_part, [], ◌++◌, ◌+◌, ◌-◌, ◌∙◌, ◌∷◌, ◌≡◌, ◌≤◌}
use Rattle.duration_str_printing.proofs.FormatLemmas.{name_short, take_part}
use Rattle.duration_str_printing.proofs.SpacedLemmas.{last_space, spaced_part, three_digits}
use Rattle.duration_str_printing.proofs.printing.put_spaced.Goals as goal
use borrow.Rule.Slice.PartMut.{put_mid}

pub put_hundreds-end-requires-clause-room : goal.put_hundreds-end-requires-clause-room
put_hundreds-end-requires-clause-room c = grind (arith, common_steps, three_digits)

pub put_name-next-requires-clause-room : goal.put_name-next-requires-clause-room
put_name-next-requires-clause-room c = grind (arith, common_steps, three_digits)

pub returns-else-count-eq0 : goal.returns-else-count-eq0
returns-else-count-eq0 c =
    let bytes = take (c.args.at - 1) c.args.buffer.now in
    let end = c.args.at + c.put_name-next.result + 1 in
    let buffer = put_mid c.args.at (c.args.at + 7 - c.args.at) c.args.buffer.now c.put_name-next.new.buffer in
    let part : take (c.put_name-next.result + 1) c.put_name-next.new.buffer
    ≡ decimal c.args.count ++ encode_utf8_all (row_of c.args.unit).printed ++ 32 ∷ [] =
    rw (c.put_hundreds-end.ensures.text, c.from.ensures, c.printed.ensures) at c.put_name-next.ensures.space in
    let whole : take end buffer ≡ with_gap Short (with_part Short bytes c.args.unit c.args.count) =
    rw (add_assoc c.args.at c.put_name-next.result 1)
    (take_part c.args.at _ (c.put_name-next.result + 1) c.args.buffer.now c.put_name-next.new.buffer
    (omega arith) (grind (arith, common_steps, three_digits, name_short))
    ∙ rw (c.requires.spaced, part) (spaced_part bytes c.args.unit c.args.count (omega arith) (omega arith))) in
    let width : c.put_name-next.result + 1 ≤ 7 = grind (arith, common_steps, three_digits, name_short) in
    let text = last_space end buffer _ (grind (arith, common_steps)) whole in
    record { text = text; spaced = whole ∙ ap (with_gap Short) (sym text); end = omega arith }
