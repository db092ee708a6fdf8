use Rattle.uses.proofs.StoredLemmas.{cause_answered, value_answered}
use Rattle.uses.proofs.stored.stored_duration.Goals as goal

pub returns-clause-kept : goal.returns-clause-kept
returns-clause-kept c nanos was =
    value_answered c.one_sentence.ensures.reading c.args.o c.args.text.now _ nanos c.parse_with.ensures
    (c.older_texts.ensures.value c.args.o _ nanos was)

pub returns-clause-refused : goal.returns-clause-refused
returns-clause-refused c cause was =
    cause_answered c.one_sentence.ensures.reading c.args.o c.args.text.now _ cause c.parse_with.ensures
    (c.older_texts.ensures.cause c.args.o _ cause was)
