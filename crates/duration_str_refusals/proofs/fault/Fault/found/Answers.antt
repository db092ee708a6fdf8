use Rattle.duration_str_refusals.proofs.Common.{rules}
use Rattle.duration_str_refusals.proofs.FoundLemmas.{slice_found, missing_at_end}
use Rattle.duration_str_refusals.proofs.fault.Fault.found.Goals as goal

pub returns-clause-token : goal.returns-clause-token
returns-clause-token c = search (rules, slice_found)

pub returns-clause-end : goal.returns-clause-end
returns-clause-end c = search (rules, missing_at_end, returns-clause-token)
