use Rattle.duration_str_refusals.proofs.Common.{arith, rules}
use Rattle.duration_str_refusals.proofs.MessageLemmas.{run_last, run_longer}
use Rattle.duration_str_refusals.proofs.SinkLemmas.{in_more_calls, in_one_call}
use Rattle.duration_str_refusals.proofs.message.write_spaces.Goals as goal

pub loop-left-preserved : goal.loop-left-preserved
loop-left-preserved g c = record {
  within = omega arith;
  wrote = in_more_calls (run_longer c.args.count c.loop-left.left (search rules) (search rules)) c.loop-left.invariant.wrote
      (in_one_call (c.in_ok-put.ensures.took (search rules)) (search rules));
}

pub returns-clause-writes : goal.returns-clause-writes
returns-clause-writes g c ok =
    in_more_calls (run_last c.args.count c.loop-left.left (search rules)) c.loop-left.invariant.wrote
    (in_one_call (c.put-2.ensures.took ok) (search rules))
