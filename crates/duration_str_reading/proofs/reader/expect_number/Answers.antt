use Rattle.duration_str_reading.proofs.OnePass.ReaderLemmas.{number_comes}
use Rattle.duration_str_reading.proofs.reader.expect_number.Goals as goal

pub returns-then-is_number_ahead-clause-fault : goal.returns-then-is_number_ahead-clause-fault
returns-then-is_number_ahead-clause-fault c r =
    let ahead = c.is_number_ahead.ensures in
    rw (number_comes r ahead.look, ← ahead.is_answer, c.if-is_number_ahead.true)

pub returns-clause-fault : goal.returns-clause-fault
returns-clause-fault c r =
    let ahead = c.is_number_ahead.ensures in
    rw (c.syntax.ensures, c.at_start.ensures, c.place.ensures, number_comes r ahead.look, ← ahead.is_answer)
    (rw c.if-is_number_ahead.false)
