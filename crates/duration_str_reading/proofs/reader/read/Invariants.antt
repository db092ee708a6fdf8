use Rattle.duration_str_reading.proofs.Common.{answer_left, false, IfErr, IsPlaceless, meaning_of, operator_read, rest_of, source, ◌≡◌}
use Rattle.duration_str_reading.proofs.OnePass.TermsLemmas.{after_unit, count, with_left}
use Rattle.duration_str_reading.proofs.reader.read.Given as goal

abbrev pub invariant-loop-next : goal.invariant-loop-next
invariant-loop-next l = record {
  same_source : source l.tokens ≡ source l.fn.tokens;
  same : with_left l.fn.rules.options.no_calc l.first l.later (after_unit (meaning_of l.fn.rules)
      (operator_read (meaning_of l.fn.rules) (rest_of (meaning_of l.fn.rules) l.tokens)))
      ≡ answer_left (meaning_of l.fn.rules) (rest_of (meaning_of l.fn.rules) l.fn.tokens);
  placeless : IfErr l.later IsPlaceless;
  held : IfErr l.later (λ fault. l.fn.rules.options.no_calc ≡ false);
}

abbrev pub decreases-loop-next : goal.decreases-loop-next
decreases-loop-next l = count (after_unit (meaning_of l.fn.rules)
    (operator_read (meaning_of l.fn.rules) (rest_of (meaning_of l.fn.rules) l.tokens)))
