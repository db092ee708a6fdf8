use Rattle.duration_str_reading.proofs.Common.{refl, sym, ◌∙◌}
use Rattle.duration_str_reading.proofs.Cutting.PositionLemmas.{digits_head, passes_none}
use Rattle.duration_str_reading.proofs.Cutting.StepLemmas.{fewer_ahead, keeps_on}
use Rattle.duration_str_reading.proofs.token.Tokens.take_digits.Goals as goal

pub loop-self-init : goal.loop-self-init
loop-self-init c = record { kept = record { text = refl; options = refl }; digits = record { run = passes_none; number = refl } }

pub loop-self-preserved : goal.loop-self-preserved
loop-self-preserved c =
    let inv = c.loop-self.invariant in
    let more = c.advance.ensures in
    record {
      kept = keeps_on inv.kept more.kept;
      digits = digits_head inv.digits (rw inv.kept.text at (more.past c.in-Some.c c.in-Some.is))
          (sym c.is_ascii_digit.ensures.value ∙ c.if-is_ascii_digit.true) refl;
    }

pub loop-self-smaller : goal.loop-self-smaller
loop-self-smaller c = fewer_ahead c.advance.ensures.kept c.advance.ensures.past c.in-Some.is

pub returns-else-is_ascii_digit-clause-stops : goal.returns-else-is_ascii_digit-clause-stops
returns-else-is_ascii_digit-clause-stops c =
    rw (c.loop-self.self.some c.in-Some.c c.in-Some.is).head
    (sym c.is_ascii_digit.ensures.value ∙ c.if-is_ascii_digit.false)
