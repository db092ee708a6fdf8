use Rattle.duration_str_printing.proofs.Common.{arith, drop_all, sym, units, ◌∙◌}
use Rattle.duration_str_printing.proofs.SpacedLemmas.{next_part, no_counts}
use Rattle.duration_str_printing.proofs.printing.put_counts.Goals as goal

pub loop-i-preserved : goal.loop-i-preserved
loop-i-preserved c = record {
  inside = omega arith;
  spaced = c.put_spaced-end.ensures.spaced;
  same = rw c.put_spaced-end.ensures.text (next_part _ units _ c.args.first c.loop-i.i _ (omega arith) c.loop-i-test.true (omega arith) ∙ c.loop-i.invariant.same);
}

pub returns-clause-text : goal.returns-clause-text
returns-clause-text c =
    sym (no_counts _ _)
    ∙ rw (drop_all c.loop-i.i c.args.counts.now (omega arith)) at c.loop-i.invariant.same
