use Rattle.std.proofs.Common.{ap, reverse, rules, subst, sym, ◌∙◌}
use Rattle.uses.proofs.Common.{IsNonDecreasingBy, IsNonDecreasingBy-from_sort_by_key, IsPermutation-sym, IsPermutation-trans, nanos_in, reverse-reverse}
use Rattle.uses.proofs.SumLemmas.{permuted_read}
use Rattle.uses.proofs.sum.longest_first.Goals as goal

pub returns-clause-permuted : goal.returns-clause-permuted
returns-clause-permuted c =
    IsPermutation-trans _ _ _ c.sort_unstable_by_key.ensures.permutation c.reverse.ensures.permutation

pub returns-clause-order : goal.returns-clause-order
returns-clause-order c =
    let h = c.reverse.ensures.after in
    let sorted : IsNonDecreasingBy nanos_in c.sort_unstable_by_key.new.self =
    IsNonDecreasingBy-from_sort_by_key nanos_in c.sort_unstable_by_key.new.self
    c.sort_unstable_by_key.ensures.sorted (λ a r q k. search rules) in
    subst (IsNonDecreasingBy nanos_in) (sym (ap reverse h ∙ reverse-reverse c.sort_unstable_by_key.new.self)) sorted

pub returns-clause-same : goal.returns-clause-same
returns-clause-same c default_unit o a b nanos s t = search (rules, IsPermutation-trans, permuted_read, IsPermutation-sym)
