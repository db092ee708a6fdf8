use Rattle.duration_str_reading.proofs.Common.{IsUtf8-had}
use Rattle.duration_str_reading.proofs.Cutting.PositionLemmas.{looks_least, looks_most}
use Rattle.duration_str_reading.proofs.token.Tokens.looked.Goals as goal

pub returns-clause-most : goal.returns-clause-most
returns-clause-most c =
    let s = c.args.self.now in rw c.looks.ensures (looks_most s.eye.place _ s.head s.some s.counted)

pub returns-clause-least : goal.returns-clause-least
returns-clause-least c =
    let s = c.args.self.now in
    let utf8 = IsUtf8-had s.eye.text.now s.eye.utf8 in
    rw c.looks.ensures (looks_least s.eye.place _ s.head utf8 s.eye.at_place s.counted)
