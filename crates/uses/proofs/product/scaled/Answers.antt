use Rattle.std.proofs.Common.{arith}
use Rattle.uses.proofs.ProductLemmas.{read_as_product}
use Rattle.uses.proofs.product.scaled.Goals as goal

pub returns-in_err-nanos-clause-refused : goal.returns-in_err-nanos-clause-refused
returns-in_err-nanos-clause-refused c = rw c.from_residual.ensures (λ r text nanos m is_read.
    let p = (read_as_product c.two_factors.ensures r text c.args.rate c.args.length nanos m).0 is_read in
    omega (arith, c.in_err-nanos.ensures.none, p.length))

pub returns-in_err-other_nanos-clause-refused : goal.returns-in_err-other_nanos-clause-refused
returns-in_err-other_nanos-clause-refused c = rw c.from_residual-in_err-other_nanos.ensures (λ r text nanos m is_read.
    let p = (read_as_product c.two_factors.ensures r text c.args.rate c.args.length nanos m).0 is_read in
    omega (arith, c.in_err-other_nanos.ensures.none, p.other_length))

pub returns-in-Ok-clause-read : goal.returns-in-Ok-clause-read
returns-in-Ok-clause-read c r text m =
    let first = c.in_ok-nanos.ensures.some in
    let later = c.in_ok-other_nanos.ensures.some in
    let product = c.in-Ok.ensures in
    (read_as_product c.two_factors.ensures r text c.args.rate c.args.length _ m).1 (record {
      length = omega (arith, first);
      other_length = omega (arith, later);
      product = rw (c.from_nanos.ensures, product.1) product.0;
      is = rw (c.from_nanos.ensures, product.1, first, later);
    })

pub returns-in-Err-clause-refused : goal.returns-in-Err-clause-refused
returns-in-Err-clause-refused c r text nanos m is_read =
    let p = (read_as_product c.two_factors.ensures r text c.args.rate c.args.length nanos m).0 is_read in
    c.in-Err.ensures (rw (c.in_ok-nanos.ensures.some, c.in_ok-other_nanos.ensures.some, ← p.is) p.product)
