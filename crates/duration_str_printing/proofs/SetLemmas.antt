-- Lemmas about sets of units and their bits.
use Rattle.duration_str_printing.proofs.Common.{drop, drop_all, drop_more, last_unit, length, slice_index_or, units_of, ALL, add-zero, and_parts, ap, Bool, suc, ℕ, zero, arith, cases_Bool, Day, div-add-mod', eqb, eqb-true, false, inl, inr, leb, Hour, leb-true, length-drop, List, map, not-true, Printed, printed_row, nanos_of, nat_tests, not, rank_of, refl, rules, sym, TimeUnit, true, Units, Year, units, [], ◌%◌, ◌&&◌, ◌||◌, ◌*◌, ◌+◌, ◌/◌, ◌<◌, ◌^◌, ◌∙◌, ◌∷◌, ◌≡◌, ◌≢◌, ◌≤◌}
use Rattle.duration_str_base.proofs.UnitLemmas.{Each, each_unit}
use Rattle.duration_str_printing.specs.Format.{chosen, intersection, down_to, is_in, is_one_of, up_to, with_each, with_unit}
use Rattle.std.proofs.lemmas.Nat.{one_shl}
use lib.Count.{count_trailing_zeros}
use Rattle.std.specs.Int.{bit_at, bit_not, trailing_zeros, w16, w32}
use Rattle.std.specs.Prelude.{bit_and, bit_or, ◌⊎◌}
use Rattle.std.proofs.lemmas.Nat.Bits.{bit_at-lt, bit_at_and, bit_at-trailing_zeros, bit_at-zero, bit_at_above, bit_at_cat_high, bit_at_cat_low, bit_at_clear_other, bit_at_clear_same, bit_at_set_other, bit_at_set_same}
use Rattle.std.proofs.Math.Pow.{pow_pos}
use Rattle.std.proofs.lemmas.List.{get_or-drop}

-- ---- Which of some units are in a set

pub chosen_in : (set : Units) (u : TimeUnit) (us : List TimeUnit) → is_in set u ≡ true
    → chosen set (u ∷ us) ≡ u ∷ chosen set us
unfolding chosen
chosen_in set u us h = rw h

pub chosen_out : (set : Units) (u : TimeUnit) (us : List TimeUnit) → is_in set u ≡ false
    → chosen set (u ∷ us) ≡ chosen set us
unfolding chosen
chosen_out set u us h = rw h

pub chosen_none : (set : Units) → chosen set [] ≡ []
unfolding chosen
chosen_none set = refl

pub chosen_whole : chosen ALL units ≡ units
unfolding chosen is_in
chosen_whole = refl

-- ---- Units by their ranks

abbrev pub SameRank : TimeUnit → TimeUnit → Type 0
SameRank u v =
    (eqb (nanos_of u) (nanos_of v) ≡ eqb (rank_of u) (rank_of v))
    × (leb (nanos_of u) (nanos_of v) ≡ leb (rank_of v) (rank_of u))

ranks_each : (u : TimeUnit) → Each (SameRank u) units
ranks_each Year = assumption
ranks_each u = assumption

pub ranks : (u v : TimeUnit) → SameRank u v
ranks u = each_unit (SameRank u) (ranks_each u)

pub short_rank : (u : TimeUnit) → rank_of u < 11
short_rank u = search rules

pub rank_mask : (u : TimeUnit) → 2 * 2 ^ rank_of u % 65536 ≡ 2 ^ (rank_of u + 1)
rank_mask = each_unit (λ u. 2 * 2 ^ rank_of u % 65536 ≡ 2 ^ (rank_of u + 1)) assumption

-- ---- Bits

apart : (i k : ℕ) → eqb i k ≡ false → i ≢ k
apart i k other = λ same. grind (arith, nat_tests)

pub or_bit : (n k i : ℕ) → k < 16
    → eqb (bit_at (bit_or n (1 * 2 ^ k % 65536)) i) 1 ≡ (eqb i k || eqb (bit_at n i) 1)
or_bit n k i h = elim (cases_Bool (eqb i k)) [
  | inl same ↦ rw (same, eqb-true i k same, bit_at_set_same w16 n k h)
  | inr other ↦ rw (other, bit_at_set_other w16 n k h i (apart i k other))
]

pub clear_bit : (n k i : ℕ) → k < 16 → i < 16
    → eqb (bit_at (bit_and n (bit_not w16 (1 * 2 ^ k % 65536))) i) 1 ≡ (eqb (bit_at n i) 1 && not (eqb i k))
clear_bit n k i h inside = elim (cases_Bool (eqb i k)) [
  | inl same ↦ rw (same, eqb-true i k same, bit_at_clear_same w16 n k h) (search rules)
  | inr other ↦ rw (other, bit_at_clear_other w16 n k h i inside (apart i k other)) (search rules)
]

pub low_bits : (n k i : ℕ) → i < k → bit_at (n % 2 ^ k) i ≡ bit_at n i
low_bits n k i h =
    sym (bit_at_cat_low (n / 2 ^ k) k (n % 2 ^ k) i h) ∙ rw (div-add-mod' n (2 ^ k))

pub no_high_bits : (n k i : ℕ) → k ≤ i → bit_at (n % 2 ^ k) i ≡ 0
no_high_bits n k i h = bit_at_above (n % 2 ^ k) k i (omega (arith, pow_pos k)) h

pub high_bits : (n k i : ℕ) → k ≤ i → bit_at (n / 2 ^ k * 2 ^ k) i ≡ bit_at n i
high_bits n k i h =
    rw add-zero at (bit_at_cat_high (n / 2 ^ k) k 0 i (pow_pos k) h)
    ∙ sym (rw (div-add-mod' n (2 ^ k)) at
    (bit_at_cat_high (n / 2 ^ k) k (n % 2 ^ k) i (omega (arith, pow_pos k)) h))

pub no_low_bits : (n k i : ℕ) → i < k → bit_at (n / 2 ^ k * 2 ^ k) i ≡ 0
no_low_bits n k i h = rw add-zero at (bit_at_cat_low (n / 2 ^ k) k 0 i h) ∙ bit_at-zero i

pub up_to_bit : (n k i : ℕ) → eqb (bit_at (n / 2 ^ k * 2 ^ k) i) 1 ≡ (eqb (bit_at n i) 1 && leb k i)
up_to_bit n k i = search (rules, cases_Bool, high_bits, leb-true, no_low_bits)

pub down_to_bit : (n k i : ℕ) → eqb (bit_at (n % 2 ^ (k + 1)) i) 1 ≡ (eqb (bit_at n i) 1 && leb i k)
down_to_bit n k i = search (rules, cases_Bool, low_bits, leb-true, no_high_bits)

-- ---- The sets that are made of others

pub in_up_to : (set : Units) (largest u : TimeUnit)
    → is_in (up_to largest set) u ≡ (is_in set u && leb (nanos_of u) (nanos_of largest))
unfolding is_in
in_up_to set largest u = rw (ranks u largest).1 (up_to_bit set.bits (rank_of largest) (rank_of u))

pub in_down_to : (set : Units) (smallest u : TimeUnit)
    → is_in (down_to smallest set) u ≡ (is_in set u && leb (nanos_of smallest) (nanos_of u))
unfolding is_in
in_down_to set smallest u = rw (ranks smallest u).1 (down_to_bit set.bits (rank_of smallest) (rank_of u))

-- ---- The smallest unit

pub last_in : (set : Units) (v : TimeUnit) (us : List TimeUnit) (i : ℕ) → i < length us
    → is_in set (slice_index_or us i Year) ≡ true
    → last_unit (slice_index_or us i Year) (chosen set (drop (i + 1) us)) ≡ last_unit v (chosen set (drop i us))
last_in set v us i inside h = rw (drop_more us i Year inside, chosen_in set (slice_index_or us i Year) (drop (i + 1) us) h)

pub last_out : (set : Units) (v : TimeUnit) (us : List TimeUnit) (i : ℕ) → i < length us
    → is_in set (slice_index_or us i Year) ≡ false
    → last_unit v (chosen set (drop (i + 1) us)) ≡ last_unit v (chosen set (drop i us))
last_out set v us i inside h = rw (drop_more us i Year inside, chosen_out set (slice_index_or us i Year) (drop (i + 1) us) h)

pub last_left : (set : Units) (v : TimeUnit) (us : List TimeUnit) (i : ℕ) → length us ≤ i
    → v ≡ last_unit v (chosen set (drop i us))
last_left set v us i all = rw (drop_all i us all, chosen_none set)

-- ---- One unit after another

pub out_skipped : (set : Units) (us : List TimeUnit) (i : ℕ) → i < length us
    → is_in set (slice_index_or us i Year) ≡ false → chosen set (drop (i + 1) us) ≡ chosen set (drop i us)
out_skipped set us i inside h =
    rw (drop_more us i Year inside, chosen_out set (slice_index_or us i Year) (drop (i + 1) us) h)

suc_plus : (i : ℕ) → suc i ≡ i + 1
suc_plus i = omega arith

chosen_from : (set : Units) (us : List TimeUnit) (i : ℕ) → i ≤ length us
    → ((j : ℕ) → j < i → is_in set (slice_index_or us j Year) ≡ false) → chosen set us ≡ chosen set (drop i us)
chosen_from set us zero inside none = refl
chosen_from set us (suc i) inside none =
    search (rules, suc_plus, out_skipped, chosen_from set us i (omega arith) (λ j h. none j (omega arith)))

chosen_same : (a b : Units) (us : List TimeUnit)
    → ((j : ℕ) → j < length us → is_in a (slice_index_or us j Year) ≡ is_in b (slice_index_or us j Year))
    → chosen a us ≡ chosen b us
unfolding chosen
chosen_same a b [] same = refl
chosen_same a b (u ∷ us) same =
    rw (same 0 (omega arith), chosen_same a b us (λ j h. same (suc j) (omega arith)))

abbrev passes_below : (ℕ → Bool) → ℕ → Bool
passes_below test zero = true
passes_below test (suc n) = test n && passes_below test n

below : (test : ℕ → Bool) (n j : ℕ) → passes_below test n ≡ true → j < n → test j ≡ true
below test zero j h small = absurd (omega arith)
below test (suc n) j h small =
    let parts = and_parts (test n) (passes_below test n) h in
    elim (cases_Bool (eqb j n)) [
      | inl same ↦ rw (eqb-true j n same) parts.0
      | inr other ↦ below test n j parts.1 (grind (arith, nat_tests))
    ]

rank_at : (j : ℕ) → j < 11 → rank_of (slice_index_or units j Year) ≡ j
rank_at j h = search (rules, eqb-true, below)

in_at : (bits j : ℕ) → j < 11 → is_in (record { bits = bits }) (slice_index_or units j Year) ≡ eqb (bit_at bits j) 1
unfolding is_in
in_at bits j h = rw (rank_at j h)

-- ---- The units below a day

not_days : (j : ℕ) → j < 5 → leb (nanos_of (slice_index_or units j Year)) (nanos_of Hour) ≡ false
not_days j h =
    not-true _ (below (λ (k : ℕ). not (leb (nanos_of (slice_index_or units k Year)) (nanos_of Hour))) 5 j refl h)

all_hours : (j : ℕ) → j < 6 → leb (nanos_of (slice_index_or (drop 5 units) j Year)) (nanos_of Hour) ≡ true
all_hours j h = below (λ (k : ℕ). leb (nanos_of (slice_index_or (drop 5 units) k Year)) (nanos_of Hour)) 6 j refl h

pub hours_chosen : (set : Units) → chosen (up_to Hour set) units ≡ chosen set (drop 5 units)
hours_chosen set =
    chosen_from (up_to Hour set) units 5 (omega arith) (λ j h.
    rw (in_up_to set Hour (slice_index_or units j Year), not_days j h) (search rules))
    ∙ chosen_same (up_to Hour set) set (drop 5 units) (λ j h.
    rw (in_up_to set Hour (slice_index_or (drop 5 units) j Year), all_hours j h) (search rules))

-- ---- The units up to the day

longer_than_days : (j : ℕ) → j < 4 → leb (nanos_of (slice_index_or units j Year)) (nanos_of Day) ≡ false
longer_than_days j h =
    not-true _ (below (λ (k : ℕ). not (leb (nanos_of (slice_index_or units k Year)) (nanos_of Day))) 4 j refl h)

up_to_days : (j : ℕ) → j < 7 → leb (nanos_of (slice_index_or (drop 4 units) j Year)) (nanos_of Day) ≡ true
up_to_days j h = below (λ (k : ℕ). leb (nanos_of (slice_index_or (drop 4 units) k Year)) (nanos_of Day)) 7 j refl h

pub days_chosen : (set : Units) → chosen (up_to Day set) units ≡ chosen set (drop 4 units)
days_chosen set =
    chosen_from (up_to Day set) units 4 (omega arith) (λ j h.
    rw (in_up_to set Day (slice_index_or units j Year), longer_than_days j h) (search rules))
    ∙ chosen_same (up_to Day set) set (drop 4 units) (λ j h.
    rw (in_up_to set Day (slice_index_or (drop 4 units) j Year), up_to_days j h) (search rules))

-- ---- The longest unit of a set

abbrev cleared : ℕ → ℕ → ℕ
cleared bits i = bit_and bits (bit_not w32 (1 * 2 ^ i % 2 ^ 32))

module _ (bits i : ℕ) (inside : i < 11) (set : bit_at bits i ≡ 1)
    (low : (j : ℕ) → j < i → bit_at bits j ≡ 0) where
  abbrev here : TimeUnit
  here = slice_index_or units i Year

  abbrev others : Units
  others = record { bits = cleared bits i }

  none_before : (j : ℕ) → j < i → is_in (record { bits = bits }) (slice_index_or units j Year) ≡ false
  none_before j h = rw (in_at bits j (omega arith), low j h)

  none_to : (j : ℕ) → j < i + 1 → is_in others (slice_index_or units j Year) ≡ false
  none_to j h = rw (in_at (cleared bits i) j (omega arith)) (elim (cases_Bool (eqb j i)) [
    | inl same ↦ rw (eqb-true j i same, bit_at_clear_same w32 bits i (omega arith))
    | inr other ↦ rw (bit_at_clear_other w32 bits i (omega arith) j (omega arith) (apart j i other))
        (rw (low j (grind (arith, nat_tests))))
  ])

  same_after : (j : ℕ) → j < length (drop (i + 1) units)
      → is_in others (slice_index_or (drop (i + 1) units) j Year)
      ≡ is_in (record { bits = bits }) (slice_index_or (drop (i + 1) units) j Year)
  same_after j h =
      let at : ℕ = i + 1 + j in
      let short : at < 11 = omega (arith, length-drop (i + 1) units) in
      let other : eqb at i ≡ false = grind (arith, nat_tests) in
      rw (get_or-drop (i + 1) units j Year, in_at (cleared bits i) at short, in_at bits at short)
      (rw (bit_at_clear_other w32 bits i (omega arith) at (omega arith) (apart at i other)))

  pub longest_first : units_of bits ≡ here ∷ units_of (cleared bits i)
  longest_first =
      chosen_from (record { bits = bits }) units i (omega arith) none_before
      ∙ rw (drop_more units i Year (omega arith))
      (chosen_in (record { bits = bits }) here (drop (i + 1) units) (in_at bits i inside ∙ rw set))
      ∙ ap (λ us. here ∷ us)
      (sym (chosen_from others units (i + 1) (omega arith) none_to
      ∙ chosen_same others (record { bits = bits }) (drop (i + 1) units) same_after))

no_zeros_at_zero : trailing_zeros w32 0 ≡ 32
unfolding count_trailing_zeros
no_zeros_at_zero = refl

pub lowest_bit : (bits : ℕ) → bits < 2 ^ 32 → trailing_zeros w32 bits < 11
    → (bit_at bits (trailing_zeros w32 bits) ≡ 1)
    × ((j : ℕ) → j < trailing_zeros w32 bits → bit_at bits j ≡ 0)
lowest_bit bits small inside = elim (cases_Bool (eqb bits 0)) [
  | inl none ↦ absurd (omega (arith, no_zeros_at_zero, rw (eqb-true bits 0 none) at inside))
  | inr some ↦ let lowest = bit_at-trailing_zeros w32 bits (grind (arith, nat_tests)) small in (lowest.1, lowest.2)
]

pub longest_none : (bits : ℕ) → bits < 2 ^ 32 → 11 ≤ trailing_zeros w32 bits → units_of bits ≡ []
longest_none bits small high = chosen_from (record { bits = bits }) units 11 (omega arith) (λ j h.
    rw (in_at bits j h) (elim (cases_Bool (eqb bits 0)) [
      | inl none ↦ rw (eqb-true bits 0 none, bit_at-zero j)
      | inr some ↦ rw ((bit_at-trailing_zeros w32 bits (grind (arith, nat_tests)) small).2 j (omega arith))
    ])) ∙ chosen_none (record { bits = bits })

-- ---- The table of the units for printing

mapped : (us : List TimeUnit) (j : ℕ) → j < length us → (d : Printed) (e : TimeUnit)
    → slice_index_or (map printed_row us) j d ≡ printed_row (slice_index_or us j e)
mapped [] j inside d e = absurd (omega arith)
mapped (u ∷ us) zero inside d e = refl
mapped (u ∷ us) (suc j) inside d e = mapped us j (omega arith) d e

pub row_at_place : (j : ℕ) → j < 11 → (d : Printed)
    → slice_index_or (map printed_row units) j d ≡ printed_row (slice_index_or units j Year)
row_at_place j inside d = mapped units j inside d Year

-- ---- Sets of given units, and of the units that are in both of two sets

pub in_with : (set : Units) (v u : TimeUnit)
    → is_in (with_unit v set) u ≡ (eqb (nanos_of u) (nanos_of v) || is_in set u)
unfolding is_in
in_with set v u =
    rw ((ranks u v).0, ← one_shl (rank_of v) 16 (omega (arith, short_rank v)))
    (or_bit set.bits (rank_of v) (rank_of u) (omega (arith, short_rank v)))

pub in_each : (us : List TimeUnit) (set : Units) (u : TimeUnit)
    → is_in (with_each us set) u ≡ (is_one_of us u || is_in set u)
in_each [] set u = refl
in_each (v ∷ us) set u = rw (in_each us (with_unit v set) u, in_with set v u) (search rules)

pub in_none : (u : TimeUnit) → is_in (record { bits = 0 }) u ≡ false
unfolding is_in
in_none u = rw (bit_at-zero (rank_of u))

one_bit : (n : ℕ) → n < 2 → (n ≡ 0) ⊎ (n ≡ 1)
one_bit n h = search rules

pub in_intersection : (a b : Units) (u : TimeUnit) → is_in (intersection a b) u ≡ (is_in a u && is_in b u)
unfolding is_in
in_intersection a b u = search (rules, bit_at_and, bit_at-lt, one_bit)
