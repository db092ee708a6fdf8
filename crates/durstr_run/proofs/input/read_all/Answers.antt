use Rattle.std.proofs.Common.{◌++◌, take, arith, length-append}
use Rattle.std.proofs.KnownBytes.{Consumes-trans}
use Rattle.durstr_run.proofs.input.read_all.Goals as goal

pub returns-then-count-len-clause-too_long : goal.returns-then-count-len-clause-too_long
returns-then-count-len-clause-too_long g c =
    let read = take c.in-Ok.count c.read.new.buf in
    λ _. (
      c.loop-count.input.items ++ read,
      Consumes-trans _ _ _ _ _ c.loop-count.invariant.so_far c.in-Ok.ensures.bytes.0,
      omega (arith, length-append c.loop-count.input.items read, c.in-Ok.ensures.bound),
    )
