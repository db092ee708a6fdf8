use Rattle.duration_str_printing.proofs.Common.{[], ap, arith, List, PartsAndRest, TimeUnit, ℕ, ◌++◌, ◌+◌, ◌∙◌, ◌∷◌, ◌≡◌, rules}
use Rattle.duration_str_printing.specs.Breakdown.{nanos_left, parts_left, sum_of_parts, YieldsPart}
use Rattle.duration_str_printing.specs.declared.breakdown.Breakdown.{Breakdown}
use Rattle.std.specs.Iterator.{Yields}

pub come_first : (parts : List (TimeUnit × ℕ)) (old new : Breakdown) → Yields YieldsPart old parts new
    → parts_left old ≡ parts ++ parts_left new
come_first [] old new same = ap parts_left same
come_first (part ∷ parts) old new (between, one, others) =
    one.first ∙ ap (λ (ps : List (TimeUnit × ℕ)). part ∷ ps) (come_first parts between new others)

pub add_up : (parts : List (TimeUnit × ℕ)) (old new : Breakdown) → Yields YieldsPart old parts new
    → nanos_left old ≡ sum_of_parts parts + nanos_left new
add_up [] old new same = omega (arith, ap nanos_left same)
add_up ((u, n) ∷ parts) old new (between, one, others) = omega (arith, one.rest, add_up parts between new others)

pub parts_and_rest_hold : PartsAndRest
parts_and_rest_hold = search (rules, come_first, add_up)
