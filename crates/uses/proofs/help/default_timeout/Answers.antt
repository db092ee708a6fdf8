use Rattle.std.proofs.Common.{refl}
use Rattle.uses.proofs.Common.{off, rules_of}
use Rattle.std.specs.Str.{chars}
use Rattle.uses.proofs.help.default_timeout.Goals as goal

pub returns : goal.returns
unfolding chars
returns c =
    let read = (c.one_sentence.ensures.computed.read (rules_of off) _ 90_000_000_000).0 refl in
    rw c.from_secs.ensures read
