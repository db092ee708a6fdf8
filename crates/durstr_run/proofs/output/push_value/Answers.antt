use Rattle.std.proofs.Common.{append_assoc}
use Rattle.std.specs.Str.{chars}
use Rattle.std.proofs.lemmas.Str.{encodes-chars}
use Rattle.durstr_run.proofs.output.push_value.Goals as goal

pub returns : goal.returns
returns g c =
    let shown = c.write_human-human.result.now in
    let human = encodes-chars shown c.write_human-human.utf8 in
    (chars shown, c.write_human-human.ensures.text, simp (c.in_ok-writeln.ensures.bytes, c.as_nanos.ensures, human, append_assoc))
