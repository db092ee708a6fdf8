use Rattle.duration_str_printing.proofs.Common.{ap, arith, cases_Bool, cases_lt, common_steps, counts_within, div-add-mod', eqb-true, inl, inr, length, List, map, nanos_of, nat_tests, nonzero, refl, rules, Style, sym, TimeUnit, with_counts, with_part, with_parts, zero-div, [], ℕ, ◌%◌, ◌*◌, ◌+◌, ◌-◌, ◌∙◌, ◌/◌, ◌<◌, ◌==◌, ◌^◌, ◌∷◌, ◌≡◌, ◌≤◌, length-append}
use Rattle.duration_str_base.proofs.UnitLemmas.{each_short, some_length}
use Rattle.duration_str_printing.specs.Breakdown.{parts_in}
use Rattle.duration_str_printing.specs.Internal.PrintedBytes.{with_each}

pub parts_none : (us : List TimeUnit) (most nanos : ℕ) → most ≡ 0 → parts_in us most nanos ≡ []
parts_none [] most nanos none = refl
parts_none (u ∷ us) most nanos none = search (rules, parts_none us most nanos none)

pub parts_nothing : (us : List TimeUnit) (most nanos : ℕ) → nanos ≡ 0 → parts_in us most nanos ≡ []
parts_nothing [] most nanos none = refl
parts_nothing (u ∷ us) most nanos none = search (rules, zero-div, parts_nothing us most nanos none)

pub part_skipped : (u : TimeUnit) (us : List TimeUnit) (most nanos : ℕ) → nanos < nanos_of u
    → parts_in us most nanos ≡ parts_in (u ∷ us) most nanos
part_skipped u us most nanos long = search rules

pub part_taken : (u : TimeUnit) (us : List TimeUnit) (most nanos : ℕ) → 1 ≤ most → nanos_of u ≤ nanos
    → parts_in (u ∷ us) most nanos ≡ (u, nanos / nanos_of u) ∷ parts_in us (most - 1) (nanos % nanos_of u)
part_taken u us most nanos left h = search rules

pub parts_few : (us : List TimeUnit) (most nanos : ℕ)
    → (length (parts_in us most nanos) ≤ most) × (length (parts_in us most nanos) ≤ length us)
parts_few [] most nanos = omega arith
parts_few (u ∷ us) most nanos = elim (cases_Bool (most == 0)) [
  | inl none ↦ rw (parts_none (u ∷ us) most nanos (eqb-true most 0 none)) (omega arith)
  | inr some ↦ elim (cases_lt nanos (nanos_of u)) [
    | inl long ↦ rw (← part_skipped u us most nanos long) (omega (arith, parts_few us most nanos))
    | inr fits ↦
        let left : 1 ≤ most = grind (arith, nat_tests) in
        rw (part_taken u us most nanos left fits) (omega (arith, parts_few us (most - 1) (nanos % nanos_of u)))
  ]
]

pub each_printed : (style : Style) (us : List TimeUnit) (bytes counts : List ℕ)
    → with_counts style bytes us counts ≡ with_each style bytes (nonzero us counts)
each_printed style (u ∷ us) bytes (n ∷ counts) = search (rules, each_printed style us)
each_printed style _ bytes _ = refl

pub each_grows : (style : Style) (bytes : List ℕ) (parts : List (TimeUnit × ℕ))
    → length bytes ≤ length (with_each style bytes parts)
each_grows style bytes [] = omega arith
each_grows style bytes ((u, n) ∷ parts) = search (rules, each_grows style (with_part style bytes u n) parts, length-append)

pub long_rest : (us : List TimeUnit) (most nanos : ℕ) (u : TimeUnit) (n rest : ℕ) (parts : List (TimeUnit × ℕ))
    → 2 ^ 60 ≤ nanos → parts_in us most nanos ≡ (u, n) ∷ parts → nanos ≡ n * nanos_of u + rest → rest < nanos_of u
    → (1 ≤ most) × (rest < 2 ^ 60) × (parts ≡ parts_in us (most - 1) rest)
long_rest [] most nanos u n rest parts long first whole less = grind (arith, common_steps)
long_rest (v ∷ us) most nanos u n rest parts long first whole less =
    grind (arith, parts_none, part_taken, part_skipped, some_length, each_short, div-add-mod')

pub parts_printed : (style : Style) (us : List TimeUnit) (bytes : List ℕ) (most nanos : ℕ)
    (parts : List (TimeUnit × ℕ)) → parts_in us most nanos ≡ parts
    → with_each style bytes parts ≡ with_parts style bytes us most nanos
parts_printed style us bytes most nanos parts same =
    sym (each_printed style us bytes (counts_within (map nanos_of us) most nanos) ∙ ap (with_each style bytes) same)

pub long_printed : (style : Style) (us : List TimeUnit) (bytes : List ℕ) (most nanos : ℕ) (u : TimeUnit) (n rest : ℕ)
    (parts : List (TimeUnit × ℕ))
    → 2 ^ 60 ≤ nanos → parts_in us most nanos ≡ (u, n) ∷ parts → nanos ≡ n * nanos_of u + rest → rest < nanos_of u
    → with_parts style (with_part style bytes u n) us (most - 1) rest ≡ with_parts style bytes us most nanos
long_printed style us bytes most nanos u n rest parts long first whole less =
    let left = long_rest us most nanos u n rest parts long first whole less in
    sym (parts_printed style us (with_part style bytes u n) (most - 1) rest parts (sym left.2))
    ∙ parts_printed style us bytes most nanos ((u, n) ∷ parts) first
