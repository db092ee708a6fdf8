use Rattle.duration_str_refusals.proofs.Common.{length, source, token_at, tokens_left, ◌≡◌}
use Rattle.duration_str_refusals.proofs.fault.token_at.Given as goal

abbrev pub invariant-loop-token : goal.invariant-loop-token
invariant-loop-token l = record {
  same_source : source l.tokens ≡ source l.fn.tokens;
  passed : token_at l.place (tokens_left l.tokens) ≡ token_at l.place (tokens_left l.fn.tokens);
}

abbrev pub decreases-loop-token : goal.decreases-loop-token
decreases-loop-token l = length (tokens_left l.tokens)
