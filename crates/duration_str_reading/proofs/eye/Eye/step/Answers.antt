use Rattle.duration_str_reading.proofs.Common.{IsUtf8-had, sym, ◌∙◌}
use Rattle.duration_str_base.proofs.CharacterLemmas.{past_stands}
use Rattle.duration_str_reading.proofs.eye.Eye.step.Goals as goal

pub invariant_of-self-clause-at_place : goal.invariant_of-self-clause-at_place
invariant_of-self-clause-at_place c =
    let e = c.args.self.now in
    let past = past_stands e.text.now e.place c.args.looked_at (IsUtf8-had e.text.now e.utf8) e.at_place c.requires in
    rw (c.len_utf8.ensures.value ∙ sym past.0) past.1
