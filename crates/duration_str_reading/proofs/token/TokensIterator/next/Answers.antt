use Rattle.duration_str_reading.proofs.Common.{rules}
use Rattle.duration_str_reading.proofs.Cutting.StepLemmas.{none_left, takes_terminal}
use Rattle.duration_str_reading.proofs.token.TokensIterator.next.Goals as goal

pub returns-in_err-sort-clause-steps : goal.returns-in_err-sort-clause-steps
returns-in_err-sort-clause-steps c = search (rules, none_left)

pub returns-clause-steps : goal.returns-clause-steps
returns-clause-steps c = search (rules, takes_terminal)
