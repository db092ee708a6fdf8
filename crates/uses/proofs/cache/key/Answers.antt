use Rattle.std.proofs.Common.{arith}
use Rattle.std.specs.Duration.{as_nanos, FitsDuration}
use Rattle.uses.proofs.CacheLemmas.{printed_is_key}
use Rattle.uses.proofs.cache.key.Goals as goal

pub returns : goal.returns
returns c =
    let fits : FitsDuration (as_nanos c.args.length) = omega arith in
    printed_is_key c.greatest_breakdown.ensures c.equal_texts.ensures _ _ _ fits (c.in_parts.ensures (omega arith))
