use Rattle.duration_str_printing.proofs.Common.{arith}
use Rattle.duration_str_printing.proofs.SetLemmas.{longest_first, longest_none, lowest_bit, row_at_place}
use Rattle.duration_str_printing.proofs.format.longest.Goals as goal
use Rattle.std.specs.Int.{trailing_zeros, w32}

pub returns-then-rank-ge11-clause-none : goal.returns-then-rank-ge11-clause-none
returns-then-rank-ge11-clause-none c = longest_none c.args.bits (omega arith) c.if-rank-ge11.true

pub returns-clause-right : goal.returns-clause-right
unfolding lib.Utf8.encode
returns-clause-right c = rw (row_at_place (trailing_zeros w32 c.args.bits) (omega arith) _)

pub returns-clause-first : goal.returns-clause-first
unfolding lib.Utf8.encode
returns-clause-first c =
    let rank = trailing_zeros w32 c.args.bits in
    let lowest = lowest_bit c.args.bits (omega arith) (omega arith) in
    rw (row_at_place rank (omega arith) _) (longest_first c.args.bits rank (omega arith) lowest.0 lowest.1)
