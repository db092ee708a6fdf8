use Rattle.std.proofs.Common.{ap, chars, ◌∙◌}
use Rattle.duration_str_base.specs.MoreNames.{more_row_of}
use Rattle.duration_str_base.specs.Rules.{Rules}
use Rattle.uses.proofs.StoredLemmas.{nanos_answered}
use Rattle.uses.proofs.stored.with_more_names.Goals as goal

pub returns : goal.returns
returns c =
    let own = c.default_unit.ensures ∙ ap {A = Rules} (λ r. record r { default_unit = c.args.default_unit }) c.of.ensures in
    let more = c.more_names-2.ensures ∙ ap {A = Rules} (λ r. record r { table = more_row_of }) own in
    record {
      kept = λ nanos was. nanos_answered c.one_sentence.ensures.reading _ c.args.text.now c.parse_nanos.result nanos c.parse_nanos.ensures
          (rw more (c.more_names.ensures.value c.args.o c.args.default_unit (chars c.args.text.now) nanos was));
    }
