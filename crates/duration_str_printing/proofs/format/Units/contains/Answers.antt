use Rattle.duration_str_printing.proofs.format.Units.contains.Goals as goal
use Rattle.duration_str_printing.specs.Format.{is_in}
use Rattle.std.proofs.lemmas.Nat.Bits.{shr_and_one}

pub returns : goal.returns
unfolding is_in
returns c = rw (shr_and_one c.args.self.bits c.rank.result, c.rank.ensures)
