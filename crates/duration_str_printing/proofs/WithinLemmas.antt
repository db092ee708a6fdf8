-- The duration that a format prints, and those that fit into it.
use Rattle.duration_str_printing.proofs.Common.{[], ap, arith, counts_of, counts_within, div-eq_of_lt-le, Format, IsGreatestBreakdown, KeepsWithin, last_unit, le-div_iff_mul-le, length, lengths_within, List, map, map-append, nanos_of, nat_lt, part_count, refl, rules, shorter_units, subst, TimeUnit, units, units_within, weighted_sum, Year, zero-div, ℕ, ◌%◌, ◌*◌, ◌++◌, ◌+◌, ◌/◌, ◌<◌, ◌∙◌, ◌∷◌, ◌≡◌, ◌≤◌}
use Rattle.duration_str_base.proofs.UnitLemmas.{some_length}
use Rattle.std.specs.Prelude.{filter}
use Rattle.duration_str_printing.proofs.GreatestBreakdown.{breakdown_of, EndInOne, one_greatest}
use Rattle.duration_str_printing.proofs.GreatestWithin.{ArePositive, left_whole, lengths_positive, within_each, within_few, within_sum}

-- how many of the nanoseconds are printed in units of these lengths, in at most `most` parts
abbrev pub shown : List ℕ → ℕ → ℕ → ℕ
shown lengths most nanos = weighted_sum lengths (counts_within lengths most nanos)

pub divided : (c l rest : ℕ) → rest < l → ((c * l + rest) / l ≡ c) × ((c * l + rest) % l ≡ rest)
divided c l rest h = search (rules, div-eq_of_lt-le)

pub none_shown : (lengths : List ℕ) (most nanos : ℕ) → most ≡ 0 → shown lengths most nanos ≡ 0
none_shown [] most nanos none = refl
none_shown (l ∷ lengths) most nanos none = search (rules, none_shown lengths most nanos none)

pub own_counts : (lengths more : List ℕ) (most nanos : ℕ) → ArePositive lengths
    → counts_of (lengths ++ more) (shown lengths most nanos) ≡ counts_within lengths most nanos ++ counts_of more 0
own_counts [] more most nanos h = refl
own_counts (l ∷ lengths) more most nanos h = search (rules, none_shown, within_sum, own_counts lengths more, divided)

pub within_again : (lengths : List ℕ) (most nanos : ℕ) → ArePositive lengths
    → counts_within lengths most (shown lengths most nanos) ≡ counts_within lengths most nanos
within_again [] most nanos h = refl
within_again (l ∷ lengths) most nanos h = search (rules, divided, within_sum, within_again lengths)

pub no_more_parts : (counts more : List ℕ) → part_count (counts ++ counts_of more 0) ≡ part_count counts
no_more_parts [] [] = refl
no_more_parts [] (l ∷ more) = rw (zero-div l, left_whole 0 l (zero-div l)) (no_more_parts [] more)
no_more_parts (n ∷ counts) more = search (rules, no_more_parts counts more)

sum_of_front : (lengths counts others : List ℕ) → length counts ≡ length lengths
    → weighted_sum lengths (counts ++ others) ≡ weighted_sum lengths counts
sum_of_front [] counts others e = refl
sum_of_front (l ∷ lengths) [] others e = absurd (omega arith)
sum_of_front (l ∷ lengths) (n ∷ counts) others e = rw (sum_of_front lengths counts others (omega arith))

most_within : (lengths more : List ℕ) (most between nanos : ℕ) → ArePositive lengths → between ≤ nanos
    → part_count (counts_of (lengths ++ more) between) ≤ most
    → weighted_sum lengths (counts_of (lengths ++ more) between) ≡ between → between ≤ shown lengths most nanos
most_within [] more most between nanos h up few whole = omega arith
most_within (l ∷ lengths) more most between nanos h up few whole =
    search (rules, le-div_iff_mul-le, most_within lengths more)

abbrev pub EndsIn : TimeUnit → Type 0
EndsIn smallest = EndInOne (nanos_of smallest ∷ map nanos_of (filter (λ u. nat_lt (nanos_of u) (nanos_of smallest)) units))

ends_each : (smallest : TimeUnit) → EndsIn smallest
ends_each Year = omega arith
ends_each u = omega arith

end_in_one : (us : List TimeUnit) (u : TimeUnit) (lengths : List ℕ) → EndInOne (nanos_of (last_unit u us) ∷ lengths)
    → EndInOne (nanos_of u ∷ map nanos_of us ++ lengths)
end_in_one [] u lengths h = h
end_in_one (v ∷ us) u lengths h = (some_length u, end_in_one us v lengths h)

with_shorter : (us : List TimeUnit) → EndInOne (map nanos_of (us ++ shorter_units us))
with_shorter [] = omega arith
with_shorter (u ∷ us) = search (rules, map-append, end_in_one, ends_each)

abbrev pub shown_within : Format → ℕ → ℕ
shown_within format nanos = shown (lengths_within format) format.parts nanos

abbrev pub shown_counts : Format → ℕ → List ℕ
shown_counts format nanos =
    counts_within (lengths_within format) format.parts nanos
    ++ counts_of (map nanos_of (shorter_units (units_within format))) 0

split_lengths : (format : Format)
    → map nanos_of (units_within format ++ shorter_units (units_within format))
    ≡ lengths_within format ++ map nanos_of (shorter_units (units_within format))
split_lengths format = map-append nanos_of (units_within format) (shorter_units (units_within format))

pub keeps_shown : (format : Format) (nanos : ℕ)
    → KeepsWithin format (shown_within format nanos) (shown_counts format nanos)
keeps_shown format nanos =
    let us = units_within format in
    let more : List ℕ = map nanos_of (shorter_units us) in
    let whole : List ℕ = map nanos_of (us ++ shorter_units us) in
    let counts : List ℕ = counts_within (lengths_within format) format.parts nanos in
    let most : ℕ = shown_within format nanos in
    let own : counts_of whole most ≡ shown_counts format nanos =
    ap (λ ls. counts_of ls most) (split_lengths format)
    ∙ own_counts (lengths_within format) more format.parts nanos (lengths_positive us) in
    record {
      breakdown = subst (λ cs. IsGreatestBreakdown whole most cs) own (breakdown_of whole most (with_shorter us));
      few = rw (no_more_parts counts more) (within_few (lengths_within format) format.parts nanos);
      whole = sum_of_front (lengths_within format) counts (counts_of more 0)
          (within_each (lengths_within format) format.parts nanos);
    }

pub kept_within : (format : Format) (between nanos : ℕ) (counts : List ℕ)
    → KeepsWithin format between counts → between ≤ nanos → between ≤ shown_within format nanos
kept_within format between nanos counts kept up =
    let us = units_within format in
    let more : List ℕ = map nanos_of (shorter_units us) in
    let whole : List ℕ = map nanos_of (us ++ shorter_units us) in
    let are : counts ≡ counts_of (lengths_within format ++ more) between =
    one_greatest whole between counts (counts_of whole between) kept.breakdown
    (breakdown_of whole between (with_shorter us)) ∙ ap (λ ls. counts_of ls between) (split_lengths format) in
    most_within (lengths_within format) more format.parts between nanos (lengths_positive us) up (rw are at kept.few)
    (rw are at kept.whole)
