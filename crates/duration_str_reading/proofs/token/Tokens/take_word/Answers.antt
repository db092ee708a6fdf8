use Rattle.duration_str_reading.proofs.Common.{arith, meaning_of, options_of}
use Rattle.duration_str_reading.proofs.Cutting.PositionLemmas.{long_word, short_word}
use Rattle.duration_str_reading.proofs.Cutting.StepLemmas.{takes_word}
use Rattle.duration_str_reading.proofs.token.Tokens.take_word.Goals as goal

pub returns-then-place-start-gt-MOST_BYTES : goal.returns-then-place-start-gt-MOST_BYTES
returns-then-place-start-gt-MOST_BYTES c =
    let e = c.take_letters-packed.ensures in
    takes_word (meaning_of c.args.rules) c.requires e.kept (long_word (record (c.args.rules) { options = options_of c.args.self.now }) e.letters
    (omega (arith, c.if-place-start-gt-MOST_BYTES.true, c.place.ensures, c.place-start.ensures))) e.stops

pub returns : goal.returns
returns c =
    let e = c.take_letters-packed.ensures in
    takes_word (meaning_of c.args.rules) c.requires e.kept (short_word (record (c.args.rules) { options = options_of c.args.self.now }) e.letters
    (omega (arith, c.if-place-start-gt-MOST_BYTES.false, c.place.ensures, c.place-start.ensures))
    (rw c.unit_table.ensures at c.unit_of_packed.ensures)) e.stops
