use Rattle.duration_str_printing.proofs.Common.{arith, rank_of}
use Rattle.duration_str_printing.proofs.SetLemmas.{clear_bit, ranks, short_rank}
use Rattle.duration_str_printing.proofs.format.Units.without.Goals as goal
use Rattle.duration_str_printing.specs.Format.{is_in}

pub returns-clause-units : goal.returns-clause-units
unfolding is_in
returns-clause-units c = λ u.
    rw ((ranks u c.args.unit).0, c.rank.ensures)
    (clear_bit c.args.self.bits (rank_of c.args.unit) (rank_of u) (omega (arith, short_rank c.args.unit))
    (omega (arith, short_rank u)))
