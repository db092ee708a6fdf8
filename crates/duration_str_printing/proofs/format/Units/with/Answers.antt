use Rattle.duration_str_printing.proofs.Common.{arith, rank_of}
use Rattle.duration_str_printing.proofs.SetLemmas.{or_bit, ranks, short_rank}
use Rattle.duration_str_printing.proofs.format.Units.with.Goals as goal
use Rattle.duration_str_printing.specs.Format.{is_in}
use Rattle.std.proofs.lemmas.Nat.{one_shl}

pub returns-clause-value : goal.returns-clause-value
returns-clause-value c = rw (c.rank.ensures, one_shl (rank_of c.args.unit) 16 (omega (arith, short_rank c.args.unit)))

pub returns-clause-units : goal.returns-clause-units
unfolding is_in
returns-clause-units c = λ u.
    rw ((ranks u c.args.unit).0, c.rank.ensures)
    (or_bit c.args.self.bits (rank_of c.args.unit) (rank_of u) (omega (arith, short_rank c.args.unit)))
