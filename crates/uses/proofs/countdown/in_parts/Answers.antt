use Rattle.std.specs.Duration.{as_nanos}
use Rattle.std.proofs.Common.{chars}
use Rattle.uses.proofs.countdown.in_parts.Goals as goal

pub returns : goal.returns
returns c enough =
    let printed = rw (c.style.ensures, c.parts.ensures, c.whole.ensures) at c.write_format.ensures.text in
    (c.all_parts.ensures c.args.style c.args.parts (as_nanos c.args.length.now) (chars c.write_format.result.now)
    enough).0 printed
