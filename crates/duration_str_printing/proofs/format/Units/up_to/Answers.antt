use Rattle.duration_str_printing.proofs.Common.{arith, div-add-mod', rank_of, ℕ, ◌%◌, ◌*◌, ◌/◌, ◌^◌, ◌≡◌}
use Rattle.duration_str_printing.proofs.SetLemmas.{in_up_to}
use Rattle.duration_str_printing.proofs.format.Units.up_to.Goals as goal

pub returns-clause-units : goal.returns-clause-units
returns-clause-units c = λ u.
    let length : ℕ = 2 ^ rank_of c.args.largest in
    let same : c.args.self.bits / length * length % 65536 ≡ c.args.self.bits / length * length =
    omega (arith, div-add-mod' c.args.self.bits length) in
    rw (c.rank.ensures, c.rank-2.ensures, same) (in_up_to c.args.self c.args.largest u)
