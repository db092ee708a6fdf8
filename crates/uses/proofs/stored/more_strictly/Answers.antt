use Rattle.duration_str_base.specs.Meaning.{meaning_of}
use Rattle.std.proofs.Common.{chars}
use Rattle.uses.proofs.StoredLemmas.{nanos_answered, strict_value}
use Rattle.uses.proofs.stored.more_strictly.Goals as goal

pub returns : goal.returns
returns c = record {
  kept = λ nanos plain small was. nanos_answered c.one_sentence.ensures.reading _ c.args.text.now c.parse_nanos.result nanos
      c.parse_nanos.ensures
      (strict_value c.no_calc_agrees.ensures c.options_idle.ensures (meaning_of c.args.rules) (chars c.args.text.now) nanos plain small was);
}
