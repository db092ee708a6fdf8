use Rattle.duration_str_base.proofs.Common.{chars, None, ◌∙◌}
use Rattle.duration_str_base.proofs.NumberLemmas.{parsed_u64}
use Rattle.duration_str_base.proofs.TermLemmas.{checked_term_is}
use Rattle.duration_str_base.specs.Term.{term_of}
use Rattle.duration_str_base.specs.Text.{number_of}
use Rattle.duration_str_base.proofs.unit.TimeUnit.value.Goals as goal

pub returns : goal.returns
returns c =
    let parsed = parsed_u64 c.args.number.now c.parse.result c.ok.result c.utf8.number c.requires
    c.parse.ensures.value.0 c.ok.ensures.value in
    (rw parsed at c.times.ensures) ∙ checked_term_is None (term_of (number_of (chars c.args.number.now)) c.args.self)
