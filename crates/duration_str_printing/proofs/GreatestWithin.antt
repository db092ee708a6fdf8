use Rattle.duration_str_printing.proofs.Common.{[], arith, cases_Bool, cases_lt, common_steps, counts_within, div-add-mod', false, Format, inl, inr, IsBefore, IsGreatestWithin, length, lengths_within, List, map, nanos_of, nat_tests, part_count, refl, rules, TimeUnit, weighted_sum, ℕ, ⊤, ◌%◌, ◌*◌, ◌+◌, ◌-◌, ◌/◌, ◌==◌, ◌∷◌, ◌≡◌, ◌≤◌, ◌⊎◌}
use Rattle.duration_str_base.proofs.UnitLemmas.{some_length}
use Rattle.duration_str_printing.proofs.GreatestBreakdown.{not_before_each_other}

abbrev pub ArePositive : List ℕ → Type 0
ArePositive [] = ⊤
ArePositive (l ∷ lengths) = (1 ≤ l) × ArePositive lengths

pub within_each : (lengths : List ℕ) (most nanos : ℕ) → length (counts_within lengths most nanos) ≡ length lengths
within_each [] most nanos = refl
within_each (l ∷ lengths) most nanos = search (rules, within_each lengths)

pub within_few : (lengths : List ℕ) (most nanos : ℕ) → part_count (counts_within lengths most nanos) ≤ most
within_few [] most nanos = omega arith
within_few (l ∷ lengths) most nanos = search (rules, within_few lengths)

pub within_sum : (lengths : List ℕ) (most nanos : ℕ) → weighted_sum lengths (counts_within lengths most nanos) ≤ nanos
within_sum [] most nanos = omega arith
within_sum (l ∷ lengths) most nanos = search (rules, div-add-mod', within_sum lengths)

first_at_most : (m l rest nanos : ℕ) → 1 ≤ l → m * l + rest ≤ nanos → m ≤ nanos / l
first_at_most m l rest nanos h e = search rules

rest_at_most : (m l rest nanos : ℕ) → m * l + rest ≤ nanos → m ≡ nanos / l → rest ≤ nanos % l
rest_at_most m l rest nanos e s = let product = rw s at e in omega (arith, div-add-mod' nanos l)

pub left_whole : (n l : ℕ) → n / l ≡ 0 → n % l ≡ n
left_whole n l none = let parts = rw none at (div-add-mod' n l) in omega arith

within_greatest : (lengths : List ℕ) (most nanos : ℕ) (others : List ℕ) → ArePositive lengths
    → length others ≡ length lengths → part_count others ≤ most → weighted_sum lengths others ≤ nanos
    → (others ≡ counts_within lengths most nanos) ⊎ IsBefore others (counts_within lengths most nanos)
within_greatest [] most nanos [] h l f w = inl refl
within_greatest [] most nanos (n ∷ others) h l f w = absurd (omega arith)
within_greatest (x ∷ lengths) most nanos [] h l f w = absurd (omega arith)
within_greatest (x ∷ lengths) most nanos (n ∷ others) h l f w =
    let rest = weighted_sum lengths others in
    let least : n ≤ nanos / x = first_at_most n x rest nanos h.0 w in
    elim (cases_Bool (n == 0)) [
      | inl zero ↦
          let few : part_count others ≤ most = rw zero at f in
          let nothing : n ≡ 0 = grind (arith, nat_tests) in
          let no_more : rest ≤ nanos = omega arith in
          elim (cases_Bool (most == 0)) [
            | inl none ↦ rw none (elim (within_greatest lengths most nanos others h.1 (omega arith) few no_more) [
              | inl s ↦ inl cc
              | inr before ↦ inr (inr (nothing, before))
            ])
            | inr some ↦ elim (cases_Bool (nanos / x == 0)) [
              | inl none ↦ rw (some, none) (elim (within_greatest lengths most nanos others h.1
                  (omega arith) few no_more) [
                    | inl s ↦ inl cc
                    | inr before ↦ inr (inr (nothing, before))
                  ])
              | inr count ↦
                  let positive : 1 ≤ nanos / x = grind (arith, nat_tests) in
                  rw (some, count) (inr (inl (omega arith)))
            ]
          ]
      | inr one ↦
          let few : 1 + part_count others ≤ most = rw one at f in
          let some : (most == 0) ≡ false = grind (arith, nat_tests) in
          let positive : 1 ≤ n = grind (arith, nat_tests) in
          let count : (nanos / x == 0) ≡ false = grind (arith, nat_tests) in
          rw (some, count) (elim (cases_lt n (nanos / x)) [
            | inl less ↦ inr (inl less)
            | inr up ↦
                let same : n ≡ nanos / x = omega arith in
                let left = rest_at_most n x rest nanos w same in
                elim (within_greatest lengths (most - 1) (nanos % x) others h.1 (omega arith) (omega arith) left) [
                  | inl s ↦ inl cc
                  | inr before ↦ inr (inr (same, before))
                ]
          ])
    ]

pub lengths_positive : (us : List TimeUnit) → ArePositive (map nanos_of us)
lengths_positive [] = tt
lengths_positive (u ∷ us) = (some_length u, lengths_positive us)

pub greatest_within : (format : Format) (nanos : ℕ)
    → IsGreatestWithin (lengths_within format) format.parts nanos
    (counts_within (lengths_within format) format.parts nanos)
greatest_within format nanos = search (rules, lengths_positive, within_each, within_few, within_greatest, within_sum)

pub one_greatest_within : (format : Format) (nanos : ℕ) (counts : List ℕ)
    → IsGreatestWithin (lengths_within format) format.parts nanos counts
    → counts ≡ counts_within (lengths_within format) format.parts nanos
one_greatest_within format nanos counts h =
    let own = greatest_within format nanos in
    grind (arith, common_steps, not_before_each_other)
