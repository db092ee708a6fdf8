use Rattle.duration_str_refusals.proofs.Common.{refl, rules}
use Rattle.duration_str_refusals.proofs.SinkLemmas.{in_more_calls, in_one_call}
use Rattle.duration_str_refusals.proofs.message.write_caret.Goals as goal

pub returns-clause-writes : goal.returns-clause-writes
returns-clause-writes g c ok =
    in_more_calls refl (in_one_call (c.in_ok-put.ensures.took (search rules)) refl)
    (in_more_calls refl (in_one_call (c.in_ok-put-2.ensures.took (search rules)) refl)
    (in_more_calls refl (c.in_ok-write_spaces.ensures.writes (search rules))
    (in_more_calls refl (in_one_call (c.in_ok-put-3.ensures.took (search rules)) refl)
    (in_one_call (c.put-4.ensures.took ok) refl))))
