use Rattle.duration_str_reading.proofs.Common.{sym, ◌∙◌}
use Rattle.duration_str_reading.proofs.Cutting.PositionLemmas.{passes_head}
use Rattle.duration_str_reading.proofs.Cutting.StepLemmas.{fewer_ahead, keeps_on}
use Rattle.duration_str_reading.proofs.token.Tokens.skip_blanks.Goals as goal

pub loop-self-preserved : goal.loop-self-preserved
loop-self-preserved c =
    let inv = c.loop-self.invariant in
    let more = c.advance.ensures in
    record {
      kept = keeps_on inv.kept more.kept;
      blanks = passes_head inv.blanks (rw inv.kept.text at (more.past c.in-Some.c c.in-Some.is))
          (sym c.is_blank.ensures ∙ c.if-is_blank.true);
    }

pub loop-self-smaller : goal.loop-self-smaller
loop-self-smaller c = fewer_ahead c.advance.ensures.kept c.advance.ensures.past c.in-Some.is
