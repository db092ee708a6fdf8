use Rattle.std.proofs.Common.{if◌then◌else◌, List, map, Option, refl, rules, [], ℕ, ◌==◌, ◌∷◌, ◌≡◌}
use Rattle.std.specs.List.{sum_by}
use Rattle.uses.proofs.Common.{IsRead, Reorder, rules_with, times_in, value_of_term}
use Rattle.uses.proofs.Common.{IsPermutation, nanos_in, Options, Part, Plus, sum_by-IsPermutation, term_of_part}
use Rattle.std.proofs.lemmas.List.Sums.{sum_by-cons}
use Rattle.uses.specs.Sum.{Adds}
use Rattle.duration_str_base.specs.declared.unit.TimeUnit.{TimeUnit}

abbrev is_times : ℕ → Part → ℕ
is_times n part = if nanos_in part == n then 1 else 0

times_in_parts : (n : ℕ) (parts : List Part)
    → times_in n (map value_of_term (map (term_of_part Plus) parts)) ≡ sum_by (is_times n) parts
times_in_parts n [] = refl
times_in_parts n (part ∷ parts) = rw (sum_by-cons, ← times_in_parts n parts)

pub permuted_read : Reorder → (default_unit : Option TimeUnit) (o : Options) (xs ys : List Part) (a b : List ℕ)
    (nanos : ℕ) → IsPermutation xs ys → let r = rules_with o default_unit in Adds r xs a → Adds r ys b
    → IsRead r a nanos → IsRead r b nanos
permuted_read law default_unit o xs ys a b nanos p s t = search (rules, times_in_parts, sum_by-IsPermutation)
