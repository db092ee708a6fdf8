-- Lemmas about the distances to the durations that print whole.
use Rattle.duration_str_printing.proofs.Common.{[], map, nanos_of, TimeUnit, Year, ap, arith, cases_Bool, cases_lt, counts_within, div-add-mod', eqb-true, false, FitsDuration, Format, if◌then◌else◌, inl, inr, lengths_within, List, nat_tests, IsPrintedWithin, OneRounding, refl, rules, subst, sym, text_within, units_within, ℕ, ◌%◌, ◌*◌, ◌+◌, ◌-◌, ◌/◌, ◌<◌, ◌==◌, ◌^◌, ◌∙◌, ◌∷◌, ◌≡◌, ◌≤◌, ◌⊎◌, Day, drop, take, true, units, ◌++◌}
use Rattle.duration_str_printing.proofs.GreatestWithin.{ArePositive, greatest_within, left_whole, lengths_positive, one_greatest_within, within_sum}
use Rattle.duration_str_printing.proofs.WithinLemmas.{divided, kept_within, keeps_shown, none_shown, shown, shown_within, within_again}
use Rattle.duration_str_printing.proofs.FormatLemmas.{chosen-append}
use Rattle.duration_str_printing.proofs.SetLemmas.{chosen_in, chosen_none, chosen_out, days_chosen}
use Rattle.duration_str_printing.specs.Format.{chosen, is_in, up_to, IsGreatestWithin}
use Rattle.duration_str_printing.specs.Printing.{weighted_sum}
use Rattle.duration_str_printing.specs.declared.format.Units.{Units}
use Rattle.duration_str_printing.specs.Rounding.{distance, IsNearest, IsRounded, IsRoundedDown, IsRoundedUp, NoneAbove, OnlyZero, PrintsWhole}
use Rattle.duration_str_printing.specs.declared.rounding.Rounding.{Rounding}
use Rattle.duration_str_printing.specs.declared.rounding.Rounding.TheVariants.{Down, Nearest, Up}
use Rattle.std.proofs.Math.Nat.{mul-le-mul_right}
use Rattle.std.specs.Prelude.{min, ◌↔◌}

-- ---- Durations that print whole

abbrev pub IsWhole : List ℕ → ℕ → ℕ → Type 0
IsWhole lengths most nanos = shown lengths most nanos ≡ nanos

whole_is_shown : (format : Format) (nanos : ℕ) → PrintsWhole format nanos
    → IsWhole (lengths_within format) format.parts nanos
whole_is_shown format nanos (counts, kept) =
    omega (
      arith,
      kept_within format nanos nanos counts kept (omega arith),
      within_sum (lengths_within format) format.parts nanos,
    )

shown_is_whole : (format : Format) (nanos : ℕ) → IsWhole (lengths_within format) format.parts nanos
    → PrintsWhole format nanos
shown_is_whole format nanos same = subst (PrintsWhole format) same (_, keeps_shown format nanos)

-- ---- The next part

abbrev pub most_after : ℕ → ℕ → ℕ → ℕ
most_after l most nanos = if nanos / l == 0 then most else most - 1

pub shown_step : (l : ℕ) (lengths : List ℕ) (most nanos : ℕ) → 1 ≤ most
    → shown (l ∷ lengths) most nanos ≡ nanos / l * l + shown lengths (most_after l most nanos) (nanos % l)
shown_step l lengths most nanos some = search (rules, left_whole)

-- ---- The distance to the next duration that prints whole

-- the distance from `rest` to the least duration that prints whole and is not below it, or `limit`
-- if that is less
abbrev pub gap : List ℕ → ℕ → ℕ → ℕ → ℕ
gap [] most rest limit = if rest == 0 then 0 else limit
gap (l ∷ lengths) most rest limit =
    if rest == 0 then 0 else if most == 0 then limit
    else gap lengths (most_after l most rest) (rest % l) (min limit (l - rest % l))

pub gap_step : (l : ℕ) (lengths : List ℕ) (most rest limit : ℕ) → 1 ≤ most → 1 ≤ rest
    → gap (l ∷ lengths) most rest limit
    ≡ gap lengths (most_after l most rest) (rest % l) (min limit (l - rest % l))
gap_step l lengths most rest limit some left =
    let parts : (most == 0) ≡ false = grind (arith, nat_tests) in
    let more : (rest == 0) ≡ false = grind (arith, nat_tests) in
    rw (more, parts) refl

gap_at_most : (lengths : List ℕ) (most rest limit : ℕ) → gap lengths most rest limit ≤ limit
gap_at_most [] most rest limit = search rules
gap_at_most (l ∷ lengths) most rest limit = search (rules, gap_at_most lengths)

nothing_whole : (lengths : List ℕ) (most nanos : ℕ) → most ≡ 0 → IsWhole lengths most nanos → nanos ≡ 0
nothing_whole lengths most nanos none whole = sym whole ∙ none_shown lengths most nanos none

-- A greater quotient is at least a whole length further on.
next_count : (l rest other : ℕ) → rest / l < other / l → rest / l * l + l ≤ other
next_count l rest other less =
    let product : (rest / l + 1) * l ≤ other / l * l = mul-le-mul_right {m = rest / l + 1} {n = other / l} l (omega arith) in
    omega (arith, product, div-add-mod' other l)

same_count : (l rest other : ℕ) → rest / l ≡ other / l → rest ≤ other → rest % l ≤ other % l
same_count l rest other same up =
    let parts : rest / l * l + other % l ≡ other = rw same (div-add-mod' other l) in
    omega (arith, div-add-mod' rest l)

same_whole : (l : ℕ) (lengths : List ℕ) (most rest other : ℕ) → 1 ≤ most → rest / l ≡ other / l
    → IsWhole (l ∷ lengths) most other → IsWhole lengths (most_after l most rest) (other % l)
same_whole l lengths most rest other some same whole =
    rw same (omega (arith, whole, shown_step l lengths most other some, div-add-mod' other l))

count_grows : (l rest other : ℕ) → 1 ≤ l → rest ≤ other → rest / l ≤ other / l
count_grows l rest other h up = search rules

gap_least : (lengths : List ℕ) (most rest limit other : ℕ) → ArePositive lengths
    → IsWhole lengths most other → rest ≤ other → rest + gap lengths most rest limit ≤ other
gap_least [] most rest limit other h whole up = search rules
gap_least (l ∷ lengths) most rest limit other h whole up = elim (cases_Bool (rest == 0)) [
  | inl none ↦ rw none (omega arith)
  | inr more ↦ elim (cases_Bool (most == 0)) [
    | inl nothing ↦
        let zero : other ≡ 0 = nothing_whole (l ∷ lengths) most other (eqb-true most 0 nothing) whole in
        let positive : 1 ≤ rest = grind (arith, nat_tests) in
        absurd (omega arith)
    | inr left ↦
        let some : 1 ≤ most = grind (arith, nat_tests) in
        let limit' : ℕ = min limit (l - rest % l) in
        rw (more, left) (elim (cases_lt (rest / l) (other / l)) [
          | inl less ↦
              omega (
                arith,
                next_count l rest other less,
                div-add-mod' rest l,
                gap_at_most lengths (most_after l most rest) (rest % l) limit',
              )
          | inr equal ↦
              let same : rest / l ≡ other / l = omega (arith, count_grows l rest other h.0 up) in
              let next = gap_least lengths (most_after l most rest) (rest % l) limit' (other % l) h.1
              (same_whole l lengths most rest other some same whole) (same_count l rest other same up) in
              let parts : rest / l * l + other % l ≡ other = rw same (div-add-mod' other l) in
              omega (arith, next, div-add-mod' rest l)
        ])
  ]
]

-- ---- The distance leads to a duration that prints whole

nothing_shown : (lengths : List ℕ) (most : ℕ) → shown lengths most 0 ≡ 0
nothing_shown lengths most = omega (arith, within_sum lengths most 0)

nothing_is_whole : (lengths : List ℕ) (most nanos : ℕ) → nanos ≡ 0 → IsWhole lengths most nanos
nothing_is_whole lengths most nanos none = rw none (nothing_shown lengths most)

shown_from : (l n : ℕ) (lengths : List ℕ) (most nanos left : ℕ) → 1 ≤ most → nanos / l ≡ n → nanos % l ≡ left
    → shown (l ∷ lengths) most nanos ≡ n * l + shown lengths (if n == 0 then most else most - 1) left
shown_from l n lengths most nanos left some count rest = rw (← count, ← rest) (shown_step l lengths most nanos some)

part_whole : (l n : ℕ) (lengths : List ℕ) (most left : ℕ) → 1 ≤ most → left < l
    → IsWhole lengths (if n == 0 then most else most - 1) left → IsWhole (l ∷ lengths) most (n * l + left)
part_whole l n lengths most left some less whole =
    let parts = divided n l left less in
    omega (arith, shown_from l n lengths most (n * l + left) left some parts.0 parts.1, whole)

-- one more of a unit, and nothing after it
next_whole : (l n : ℕ) (lengths : List ℕ) (most nanos : ℕ) → 1 ≤ most → 1 ≤ l → nanos ≡ n * l + l
    → IsWhole (l ∷ lengths) most nanos
next_whole l n lengths most nanos some h same =
    let product : nanos ≡ (n + 1) * l + 0 = omega (arith, same) in
    rw product (part_whole l (n + 1) lengths most 0 some (omega arith) (nothing_shown lengths _))

rest_less : (l rest : ℕ) → 1 ≤ l → rest % l < l
rest_less l rest h = search rules

gap_whole : (lengths : List ℕ) (most rest limit : ℕ) → ArePositive lengths
    → (gap lengths most rest limit ≡ limit) ⊎ IsWhole lengths most (rest + gap lengths most rest limit)
gap_whole [] most rest limit h = elim (cases_Bool (rest == 0)) [
  | inl none ↦ rw none (inr (nothing_is_whole [] most (rest + 0) (omega (arith, eqb-true rest 0 none))))
  | inr more ↦ rw more (inl refl)
]
gap_whole (l ∷ lengths) most rest limit h = elim (cases_Bool (rest == 0)) [
  | inl none ↦ rw none (inr (nothing_is_whole (l ∷ lengths) most (rest + 0) (omega (arith, eqb-true rest 0 none))))
  | inr more ↦ elim (cases_Bool (most == 0)) [
    | inl nothing ↦ rw (more, nothing) (inl refl)
    | inr left ↦
        let some : 1 ≤ most = grind (arith, nat_tests) in
        let limit' : ℕ = min limit (l - rest % l) in
        let next : ℕ = gap lengths (most_after l most rest) (rest % l) limit' in
        let few : next ≤ limit' = gap_at_most lengths (most_after l most rest) (rest % l) limit' in
        let less : rest % l < l = rest_less l rest h.0 in
        let positive : 1 ≤ rest = grind (arith, nat_tests) in
        subst (λ g. (g ≡ limit) ⊎ IsWhole (l ∷ lengths) most (rest + g))
        (sym (gap_step l lengths most rest limit some positive)) (elim (cases_lt (rest % l + next) l) [
          | inl inside ↦ elim (gap_whole lengths (most_after l most rest) (rest % l) limit' h.1) [
            | inl most ↦ inl (omega (arith, most, inside))
            | inr whole ↦
                let parts : rest / l * l + (rest % l + next) ≡ rest + next = omega (arith, div-add-mod' rest l) in
                inr (subst (IsWhole (l ∷ lengths) most) parts
                (part_whole l (rest / l) lengths most (rest % l + next) some inside whole))
          ]
          | inr full ↦
              let parts : rest + next ≡ rest / l * l + l = omega (arith, div-add-mod' rest l) in
              inr (next_whole l (rest / l) lengths most (rest + next) some h.0 parts)
        ])
  ]
]

-- ---- Rounding

pub rounded_down : (format : Format) (nanos below : ℕ) → below + shown_within format nanos ≡ nanos
    → IsRoundedDown format nanos (nanos - below)
rounded_down format nanos below same =
    let down : shown_within format nanos ≡ nanos - below = omega arith in
    record {
      whole = subst (PrintsWhole format) down (_, keeps_shown format nanos);
      not_above = omega arith;
      greatest = λ other kept up. omega (arith, kept_within format other nanos kept.0 kept.1 up);
    }

-- Each length of a unit is below this limit.
abbrev pub gap_within : Format → ℕ → ℕ
gap_within format nanos = gap (lengths_within format) format.parts nanos (nanos_of Year + 1)

gap_below : (l : ℕ) (lengths : List ℕ) (most rest limit : ℕ) → 1 ≤ most → l < limit
    → gap (l ∷ lengths) most rest limit < limit
gap_below l lengths most rest limit some less = elim (cases_Bool (rest == 0)) [
  | inl none ↦ rw none (omega arith)
  | inr more ↦
      let positive : 1 ≤ rest = grind (arith, nat_tests) in
      omega (
        arith,
        gap_step l lengths most rest limit some positive,
        gap_at_most lengths (most_after l most rest) (rest % l) (min limit (l - rest % l)),
      )
]

year_longest : (u : TimeUnit) → nanos_of u ≤ nanos_of Year
year_longest u = search rules

-- These units have the same distances as those of the format.
pub record IsNear (format : Format) (nanos : ℕ) (us : List TimeUnit) : Type 0 where
  pub same_shown : shown_within format nanos ≡ shown (map nanos_of us) format.parts nanos
  pub same_gap : gap_within format nanos ≡ gap (map nanos_of us) format.parts nanos (nanos_of Year + 1)

pub near_own : (format : Format) (nanos : ℕ) → IsNear format nanos (units_within format)
near_own format nanos = record { same_shown = refl; same_gap = refl }

gap_within_below : (format : Format) (nanos : ℕ) (u : TimeUnit) (us : List TimeUnit) → 1 ≤ format.parts
    → IsNear format nanos (u ∷ us) → gap_within format nanos < nanos_of Year + 1
gap_within_below format nanos u us some near =
    rw near.same_gap (gap_below (nanos_of u) (map nanos_of us) format.parts nanos (nanos_of Year + 1) some
    (omega (arith, year_longest u)))

pub rounded_up : (format : Format) (nanos : ℕ) (u : TimeUnit) (us : List TimeUnit) → 1 ≤ format.parts
    → IsNear format nanos (u ∷ us) → IsRoundedUp format nanos (nanos + gap_within format nanos)
rounded_up format nanos u us some near =
    let lengths = lengths_within format in
    let limit : ℕ = nanos_of Year + 1 in
    let positive : ArePositive lengths = lengths_positive (units_within format) in
    record {
      whole = elim (gap_whole lengths format.parts nanos limit positive) [
        | inl most ↦ absurd (omega (arith, most, gap_within_below format nanos u us some near))
        | inr whole ↦ shown_is_whole format (nanos + gap_within format nanos) whole
      ];
      not_below = omega arith;
      least = λ other kept up.
          gap_least lengths format.parts nanos limit other positive (whole_is_shown format other kept) up;
    }

-- ---- One pass over the units

-- What the units before these leave of the duration: the rest, the parts that there may still be,
-- and the distance to the nearest duration above so far.
pub record Left (format : Format) (nanos : ℕ) (us : List TimeUnit) (most rest limit : ℕ) : Type 0 where
  pub below : rest + shown_within format nanos ≡ nanos + shown (map nanos_of us) most rest
  pub above : gap (map nanos_of us) most rest limit ≡ gap_within format nanos
  pub no_more : rest ≤ nanos

pub after_part : (l most nanos : ℕ) → 0 < nanos / l → most_after l most nanos ≡ most - 1
after_part l most nanos some = search (rules, nat_tests)

pub after_none : (l most nanos : ℕ) → nanos / l ≡ 0 → most_after l most nanos ≡ most
after_none l most nanos none = rw none refl

pub smaller : (l nanos : ℕ) → nanos < l → (nanos / l ≡ 0) × (nanos % l ≡ nanos)
smaller l nanos less = search rules

pub larger : (l nanos : ℕ) → 1 ≤ l → l ≤ nanos → 0 < nanos / l
larger l nanos h more = search rules

gap_from : (l : ℕ) (lengths : List ℕ) (most rest limit most' rest' limit' : ℕ) → 1 ≤ most → 1 ≤ rest
    → most' ≡ most_after l most rest → rest' ≡ rest % l → limit' ≡ min limit (l - rest % l)
    → gap (l ∷ lengths) most rest limit ≡ gap lengths most' rest' limit'
gap_from l lengths most rest limit most' rest' limit' some positive after left least =
    rw (after, left, least) (gap_step l lengths most rest limit some positive)

gap_zero : (lengths : List ℕ) (most rest limit : ℕ) → rest ≡ 0 → gap lengths most rest limit ≡ 0
gap_zero [] most rest limit none = rw none refl
gap_zero (l ∷ lengths) most rest limit none = rw none refl

pub first_step : (format : Format) (nanos : ℕ) (u : TimeUnit) (us : List TimeUnit) (most rest : ℕ)
    → IsNear format nanos (u ∷ us) → 1 ≤ format.parts → most ≡ most_after (nanos_of u) format.parts nanos
    → rest ≡ nanos % nanos_of u → Left format nanos us most rest (nanos_of u - rest)
first_step format nanos u us most rest near some after left =
    let l = nanos_of u in
    let whole : nanos / l * l + rest ≡ nanos = omega (arith, left, div-add-mod' nanos l) in
    let shown_first : shown_within format nanos ≡ nanos / l * l + shown (map nanos_of us) most rest =
    near.same_shown ∙ rw (after, left) (shown_step l (map nanos_of us) format.parts nanos some) in
    record {
      below = omega (arith, whole, shown_first);
      above = elim (cases_lt 0 nanos) [
        | inl positive ↦
            let limit : l - rest ≡ min (nanos_of Year + 1) (l - nanos % l) = omega (arith, left, year_longest u) in
            sym (near.same_gap ∙ gap_from l (map nanos_of us) format.parts nanos (nanos_of Year + 1) most rest (l - rest)
            some positive after left limit)
        | inr zero ↦
            gap_zero (map nanos_of us) most rest (l - rest) (omega (arith, whole))
            ∙ sym (gap_zero (lengths_within format) format.parts nanos (nanos_of Year + 1) (omega arith))
      ];
      no_more = omega (arith, whole);
    }

pub next_step : (format : Format) (nanos : ℕ) (u : TimeUnit) (us : List TimeUnit) (most rest above most' rest' : ℕ)
    → Left format nanos (u ∷ us) most rest above → 1 ≤ most → 1 ≤ rest
    → most' ≡ most_after (nanos_of u) most rest → rest' ≡ rest % nanos_of u
    → Left format nanos us most' rest' (min above (nanos_of u - rest'))
next_step format nanos u us most rest above most' rest' before some positive after left =
    let l = nanos_of u in
    let whole : rest / l * l + rest' ≡ rest = omega (arith, left, div-add-mod' rest l) in
    let shown_next : shown (map nanos_of (u ∷ us)) most rest ≡ rest / l * l + shown (map nanos_of us) most' rest' =
    rw (after, left) (shown_step l (map nanos_of us) most rest some) in
    record {
      below = omega (arith, whole, shown_next, before.below);
      above = rw (after, left) (sym (gap_step l (map nanos_of us) most rest above some positive) ∙ before.above);
      no_more = omega (arith, whole, before.no_more);
    }

-- ---- Below a day

abbrev AreLonger : List TimeUnit → Type 0
AreLonger [] = Unit
AreLonger (u ∷ us) = (nanos_of Day ≤ nanos_of u) × AreLonger us

-- A limit that is further away than the day changes nothing.
gap_wide : (lengths : List ℕ) (most rest limit wide : ℕ) → 1 ≤ most → 1 ≤ rest → rest < nanos_of Day
    → nanos_of Day - rest ≤ wide
    → gap (nanos_of Day ∷ lengths) most rest (min limit wide) ≡ gap (nanos_of Day ∷ lengths) most rest limit
gap_wide lengths most rest limit wide some positive less far =
    let day = nanos_of Day in
    let none = smaller day rest less in
    let after : most ≡ most_after day most rest = sym (after_none day most rest none.0) in
    gap_from day lengths most rest (min limit wide) most rest (min limit (day - rest)) some positive after (sym none.1)
    (omega (arith, none.1, far))
    ∙ sym (gap_from day lengths most rest limit most rest (min limit (day - rest)) some positive after (sym none.1)
    (omega (arith, none.1)))

gap_longer : (set : Units) (us ws : List TimeUnit) (most rest limit : ℕ) → AreLonger us → rest < nanos_of Day
    → gap (map nanos_of (chosen set us ++ Day ∷ ws)) most rest limit ≡ gap (map nanos_of (Day ∷ ws)) most rest limit
gap_longer set [] ws most rest limit long less = rw (chosen_none set) refl
gap_longer set (u ∷ us) ws most rest limit long less = elim (cases_Bool (is_in set u)) [
  | inr out ↦ rw (chosen_out set u us out) (gap_longer set us ws most rest limit long.1 less)
  | inl inside ↦ rw (chosen_in set u us inside) (elim (cases_Bool (rest == 0)) [
    | inl zero ↦ rw zero refl
    | inr more ↦ elim (cases_Bool (most == 0)) [
      | inl nothing ↦ rw (more, nothing) refl
      | inr left ↦
          let l = nanos_of u in
          let some : 1 ≤ most = grind (arith, nat_tests) in
          let positive : 1 ≤ rest = grind (arith, nat_tests) in
          let none = smaller l rest (omega (arith, long.0, less)) in
          gap_from l (map nanos_of (chosen set us ++ Day ∷ ws)) most rest limit most rest (min limit (l - rest)) some
          positive (sym (after_none l most rest none.0)) (sym none.1) (omega (arith, none.1))
          ∙ gap_longer set us ws most rest (min limit (l - rest)) long.1 less
          ∙ gap_wide (map nanos_of ws) most rest limit (l - rest) some positive less (omega (arith, long.0))
    ]
  ])
]

shown_longer : (set : Units) (us ws : List TimeUnit) (most rest : ℕ) → AreLonger us → rest < nanos_of Day
    → shown (map nanos_of (chosen set us ++ Day ∷ ws)) most rest ≡ shown (map nanos_of (Day ∷ ws)) most rest
shown_longer set [] ws most rest long less = rw (chosen_none set) refl
shown_longer set (u ∷ us) ws most rest long less = elim (cases_Bool (is_in set u)) [
  | inr out ↦ rw (chosen_out set u us out) (shown_longer set us ws most rest long.1 less)
  | inl inside ↦
      let l = nanos_of u in
      let lengths = map nanos_of (chosen set us ++ Day ∷ ws) in
      let none = smaller l rest (omega (arith, long.0, less)) in
      let skipped : shown (l ∷ lengths) most rest ≡ shown lengths most rest = elim (cases_lt 0 most) [
        | inl some ↦ omega (arith, shown_from l 0 lengths most rest rest some none.0 none.1)
        | inr nothing ↦
            none_shown (l ∷ lengths) most rest (omega arith) ∙ sym (none_shown lengths most rest (omega arith))
      ] in
      rw (chosen_in set u us inside) (skipped ∙ shown_longer set us ws most rest long.1 less)
]

pub split_at_day : (set : Units) → is_in set Day ≡ true
    → chosen set units ≡ chosen set (take 4 units) ++ Day ∷ chosen set (drop 5 units)
split_at_day set has = rw (← chosen_in set Day (drop 5 units) has) (chosen-append set (take 4 units) (drop 4 units))

pub near_day : (format : Format) (nanos : ℕ) → nanos < nanos_of Day → is_in format.units Day ≡ true
    → IsNear format nanos (chosen (up_to Day format.units) units)
near_day format nanos less has =
    let set = format.units in
    let ws = chosen set (drop 5 units) in
    let long : AreLonger (take 4 units) = (omega arith, (omega arith, (omega arith, (omega arith, tt)))) in
    rw (days_chosen set, chosen_in set Day (drop 5 units) has) (record {
      same_shown = rw (split_at_day set has) (shown_longer set (take 4 units) ws format.parts nanos long less);
      same_gap = rw (split_at_day set has)
          (gap_longer set (take 4 units) ws format.parts nanos (nanos_of Year + 1) long less);
    })

abbrev pub SameOrDay : Format → ℕ → Units → Type 0
SameOrDay format nanos set =
    (set ≡ format.units) ⊎ ((nanos < nanos_of Day) × (is_in format.units Day ≡ true) × (set ≡ up_to Day format.units))

pub near_chosen : (format : Format) (nanos : ℕ) (set : Units) → SameOrDay format nanos set
    → IsNear format nanos (chosen set units)
near_chosen format nanos set (inl same) = rw same (near_own format nanos)
near_chosen format nanos set (inr day) = rw day.2 (near_day format nanos day.0 day.1)

pub none_chosen : (format : Format) (nanos : ℕ) (set : Units) → SameOrDay format nanos set → chosen set units ≡ []
    → units_within format ≡ []
none_chosen format nanos set (inl same) none = rw (← same) none
none_chosen format nanos set (inr day) none =
    let some : chosen set units ≡ Day ∷ chosen format.units (drop 5 units) =
    rw (day.2, ← chosen_in format.units Day (drop 5 units) day.1) (days_chosen format.units) in
    absurd (search (rules, sym none ∙ some))

-- What is rounded up to is too long for a `Duration`.
pub none_above : (format : Format) (nanos up : ℕ) → IsRoundedUp format nanos up → 2 ^ 64 * 1000000000 ≤ up
    → NoneAbove format nanos
none_above format nanos up is_up long other fits kept = elim (cases_lt other nanos) [
  | inl less ↦ less
  | inr more ↦ absurd (omega (arith, is_up.least other kept more))
]

-- ---- Formats without units or parts

abbrev pub IsOver : List ℕ → ℕ → ℕ → Type 0
IsOver lengths most rest = (lengths ≡ []) ⊎ ((most ≡ 0) ⊎ (rest ≡ 0))

pub only_zero : (format : Format) → IsOver (lengths_within format) format.parts 1 → OnlyZero format
only_zero format over other kept = elim over [
  | inl none ↦ search (rules, whole_is_shown format other kept)
  | inr (inl nothing) ↦ nothing_whole (lengths_within format) format.parts other nothing (whole_is_shown format other kept)
  | inr (inr one) ↦ absurd (omega arith)
]

zero_whole : (format : Format) → PrintsWhole format 0
zero_whole format = shown_is_whole format 0 (nothing_shown (lengths_within format) format.parts)

pub zero_down : (format : Format) (nanos : ℕ) → OnlyZero format → IsRoundedDown format nanos 0
zero_down format nanos only = record {
  whole = zero_whole format;
  not_above = omega arith;
  greatest = λ other kept up. omega (arith, only other kept);
}

pub zero_up : (format : Format) → IsRoundedUp format 0 0
zero_up format = record {
  whole = zero_whole format;
  not_below = omega arith;
  least = λ other kept up. omega arith;
}

pub zero_above : (format : Format) (nanos : ℕ) → OnlyZero format → 1 ≤ nanos → NoneAbove format nanos
zero_above format nanos only more other fits kept = omega (arith, only other kept)

-- ---- The end of the loop

pub shown_over : (lengths : List ℕ) (most rest : ℕ) → IsOver lengths most rest → shown lengths most rest ≡ 0
shown_over lengths most rest (inl none) = rw none refl
shown_over lengths most rest (inr (inl none)) = none_shown lengths most rest none
shown_over lengths most rest (inr (inr none)) = rw none (nothing_shown lengths most)

pub gap_over : (lengths : List ℕ) (most rest limit : ℕ) → IsOver lengths most rest
    → gap lengths most rest limit ≡ (if rest == 0 then 0 else limit)
gap_over [] most rest limit over = refl
gap_over (l ∷ lengths) most rest limit (inl none) = absurd (search rules)
gap_over (l ∷ lengths) most rest limit (inr (inl none)) = rw none (search rules)
gap_over (l ∷ lengths) most rest limit (inr (inr none)) = rw none refl

-- ---- The nearest

nearest_from : (format : Format) (nanos down rounded : ℕ) → IsRoundedDown format nanos down → PrintsWhole format rounded
    → distance nanos rounded ≤ nanos - down → down ≤ rounded
    → ((other : ℕ) → FitsDuration other → PrintsWhole format other → nanos ≤ other
    → distance nanos rounded ≤ other - nanos × (other - nanos ≡ distance nanos rounded → other ≤ rounded))
    → IsNearest format nanos rounded
nearest_from format nanos down rounded is_down whole nearer more above = record {
  whole = whole;
  nearest = λ other fits kept. elim (cases_lt other nanos) [
    | inl less ↦ omega (arith, less, nearer, is_down.not_above, is_down.greatest other kept (omega arith))
    | inr up ↦ omega (arith, up, (above other fits kept up).0)
  ];
  longer = λ other fits kept same. elim (cases_lt other nanos) [
    | inl less ↦ omega (arith, is_down.greatest other kept (omega arith))
    | inr up ↦ (above other fits kept up).1 (omega (arith, up, same))
  ];
}

pub nearest_up : (format : Format) (nanos down up : ℕ) → IsRoundedDown format nanos down → IsRoundedUp format nanos up
    → up - nanos ≤ nanos - down → IsNearest format nanos up
nearest_up format nanos down up is_down is_up nearer =
    nearest_from format nanos down up is_down is_up.whole (omega (arith, is_up.not_below))
    (omega (arith, is_up.not_below, is_down.not_above))
    (λ other fits kept more.
    let least = is_up.least other kept more in
    (omega (arith, least, is_up.not_below), λ same. omega (arith, same, more, is_up.not_below)))

pub nearest_down : (format : Format) (nanos down : ℕ) → IsRoundedDown format nanos down
    → ((other : ℕ) → FitsDuration other → PrintsWhole format other → nanos ≤ other → nanos - down < other - nanos)
    → IsNearest format nanos down
nearest_down format nanos down is_down nearer =
    nearest_from format nanos down down is_down is_down.whole (omega (arith, is_down.not_above)) (omega arith)
    (λ other fits kept more.
    let less = nearer other fits kept more in
    (omega (arith, less, is_down.not_above), λ same. absurd (omega (arith, less, same, is_down.not_above))))

-- ---- The law

one_rounded : (rounding : Rounding) (format : Format) (nanos m n : ℕ) → FitsDuration m → FitsDuration n
    → IsRounded rounding format nanos m → IsRounded rounding format nanos n → m ≡ n
one_rounded Down format nanos m n inside within a b =
    omega (arith, a.greatest n b.whole b.not_above, b.greatest m a.whole a.not_above)
one_rounded Up format nanos m n inside within a b =
    omega (arith, a.least n b.whole b.not_below, b.least m a.whole a.not_below)
one_rounded Nearest format nanos m n inside within a b =
    let same : distance nanos n ≡ distance nanos m =
    omega (arith, a.nearest n within b.whole, b.nearest m inside a.whole) in
    omega (arith, a.longer n within b.whole same, b.longer m inside a.whole (sym same))

rounded_own : (rounding : Rounding) (format : Format) (nanos : ℕ) → PrintsWhole format nanos
    → IsRounded rounding format nanos nanos
rounded_own Down format nanos whole =
    record { whole = whole; not_above = omega arith; greatest = λ other kept up. up }
rounded_own Up format nanos whole =
    record { whole = whole; not_below = omega arith; least = λ other kept up. up }
rounded_own Nearest format nanos whole = record {
  whole = whole;
  nearest = λ other fits kept. omega arith;
  longer = λ other fits kept same. omega (arith, same);
}

counts_of_rounded : (format : Format) (nanos down : ℕ) → IsRoundedDown format nanos down
    → counts_within (lengths_within format) format.parts down
    ≡ counts_within (lengths_within format) format.parts nanos
counts_of_rounded format nanos down is_down =
    let few = within_sum (lengths_within format) format.parts nanos in
    let same : down ≡ shown_within format nanos =
    omega (
      arith,
      is_down.greatest (shown_within format nanos) (_, keeps_shown format nanos) few,
      kept_within format down nanos is_down.whole.0 is_down.whole.1 is_down.not_above,
    ) in
    rw same (within_again (lengths_within format) format.parts nanos (lengths_positive (units_within format)))

printed_as : (format : Format) (m n : ℕ) (text : List ℕ)
    → counts_within (lengths_within format) format.parts m ≡ counts_within (lengths_within format) format.parts n
    → IsPrintedWithin format m text → IsPrintedWithin format n text
printed_as format m n text same printed = (
  counts_within (lengths_within format) format.parts n,
  greatest_within format n,
  printed.2 ∙ ap (text_within format) (one_greatest_within format m printed.0 printed.1 ∙ same),
)

whole_by_counts : (format : Format) (nanos : ℕ) (counts : List ℕ)
    → IsGreatestWithin (lengths_within format) format.parts nanos counts
    → (PrintsWhole format nanos ↔ (weighted_sum (lengths_within format) counts ≡ nanos))
whole_by_counts format nanos counts greatest =
    let sums : weighted_sum (lengths_within format) counts ≡ shown_within format nanos =
    ap (weighted_sum (lengths_within format)) (one_greatest_within format nanos counts greatest) in (
      λ whole. sums ∙ whole_is_shown format nanos whole,
      λ adds. shown_is_whole format nanos (sym sums ∙ adds),
    )

pub one_rounding_holds : OneRounding
one_rounding_holds = record {
  whole = whole_by_counts;
  equal = one_rounded;
  own = rounded_own;
  between = λ format nanos down up other is_down is_up kept more less.
      elim (cases_lt other nanos) [
        | inl below ↦ omega (arith, is_down.greatest other kept (omega arith))
        | inr above ↦ omega (arith, is_up.least other kept above)
      ];
  printed = λ format nanos down text is_down.
      let same = counts_of_rounded format nanos down is_down in (
        printed_as format nanos down text (sym same),
        printed_as format down nanos text same,
      );
}
