-- Lemmas about the counts of units among the parts of a duration.
use Rattle.std.proofs.Common.{ap, arith, eqb-true, inl, inr, List, map, Option, refl, rules, slice_set, [], ℕ, ◌∙◌, ◌++◌, ◌∷◌, ◌+◌, ◌-◌, ◌<◌, ◌==◌, ◌^◌, ◌≡◌, ◌≤◌, if◌then◌else◌, nat_lt}
use Rattle.std.proofs.lemmas.Bool.{cases_Bool}
use Rattle.std.proofs.lemmas.Bool.Decides.{nat_tests}
use Rattle.std.specs.Prelude.{Any, count_by, ⊤}
use Rattle.duration_str_printing.specs.Breakdown.{AreParts, ArePartsRounded, parts_left, sum_of_parts}
use Rattle.duration_str_printing.specs.Format.{chosen, counts_within, units_of}
use Rattle.duration_str_printing.specs.Printing.{nonzero, weighted_sum}
use Rattle.duration_str_base.specs.Units.{nanos_of, rank_of, units}
use Rattle.duration_str_printing.specs.declared.breakdown.Breakdown.{Breakdown}
use Rattle.duration_str_printing.specs.declared.format.Format.{Format}
use Rattle.duration_str_printing.specs.declared.format.Units.{Units}
use Rattle.duration_str_printing.specs.declared.rounding.Rounding.{Rounding}
use Rattle.duration_str_base.specs.declared.unit.TimeUnit.{TimeUnit}
use Rattle.duration_str_base.specs.declared.unit.TimeUnit.TheVariants.{Year, Quarter, Month, Week, Day, Hour, Minute, Second, MilliSecond, MicroSecond, NanoSecond}
use Rattle.duration_str_c.specs.Breakdown.{count_of, counts_of, IsTooLarge}

-- ---- The parts come in the order of their units

-- Each unit has a higher rank than the one before it, and the first has at least this rank.
abbrev AreFrom : ℕ → List TimeUnit → Type 0
AreFrom k [] = ⊤
AreFrom k (u ∷ us) = (k ≤ rank_of u) × AreFrom (rank_of u + 1) us

-- `AreFrom` holds for the units of the parts.
abbrev pub PartsFrom : ℕ → List (TimeUnit × ℕ) → Type 0
PartsFrom k [] = ⊤
PartsFrom k ((u, n) ∷ parts) = (k ≤ rank_of u) × PartsFrom (rank_of u + 1) parts

from_less : (j k : ℕ) (us : List TimeUnit) → j ≤ k → AreFrom k us → AreFrom j us
from_less j k [] h are = are
from_less j k (u ∷ us) h (from, are) = (omega arith, are)

chosen_from : (set : Units) (k : ℕ) (us : List TimeUnit) → AreFrom k us → AreFrom k (chosen set us)
unfolding chosen
chosen_from set k [] are = are
chosen_from set k (u ∷ us) (from, are) =
    search (rules, cases_Bool, from_less, chosen_from set (rank_of u + 1) us are, chosen_from set k us)

nonzero_from : (k : ℕ) (us : List TimeUnit) (counts : List ℕ) → AreFrom k us → PartsFrom k (nonzero us counts)
nonzero_from k [] counts are = are
nonzero_from k (u ∷ us) [] are = tt
nonzero_from k (u ∷ us) (n ∷ counts) (from, are) =
    search (rules, cases_Bool, from_less, nonzero_from k us counts, nonzero_from (rank_of u + 1) us counts are)

pub parts_left_from : (b : Breakdown) → PartsFrom 0 (parts_left b)
parts_left_from b =
    nonzero_from 0 (units_of b.bits) (counts_within (map nanos_of (units_of b.bits)) b.most b.rest)
    (chosen_from (record { bits = b.bits }) 0 units (search rules))

-- ---- The counts of units

same_rank : (u v : TimeUnit) → nanos_of u ≡ nanos_of v → rank_of u ≡ rank_of v
same_rank u v same = ap (λ (n : ℕ). count_by (λ w. nat_lt n (nanos_of w)) units) same

count_none : (u : TimeUnit) (k : ℕ) (parts : List (TimeUnit × ℕ)) → rank_of u < k → PartsFrom k parts
    → count_of parts u ≡ 0
count_none u k [] below are = refl
count_none u k ((v, n) ∷ parts) below (from, are) =
    search (rules, cases_Bool, same_rank, eqb-true, count_none u (rank_of v + 1) parts)

rank_from : (k : ℕ) (before after : List (TimeUnit × ℕ)) (u : TimeUnit) (n : ℕ)
    → PartsFrom k (before ++ ((u, n) ∷ after)) → k ≤ rank_of u
rank_from k [] after u n are = are.0
rank_from k ((v, m) ∷ before) after u n (from, are) = omega (arith, rank_from (rank_of v + 1) before after u n are)

count_among : (k : ℕ) (before after : List (TimeUnit × ℕ)) (u : TimeUnit) (n : ℕ)
    → PartsFrom k (before ++ ((u, n) ∷ after)) → count_of (before ++ ((u, n) ∷ after)) u ≡ n
count_among k [] after u n are = search (rules, nat_tests)
count_among k ((v, m) ∷ before) after u n (from, are) =
    search (rules, cases_Bool, rank_from, same_rank, eqb-true, count_among (rank_of v + 1) before after u n are)

large_at : (f : TimeUnit → ℕ) (u : TimeUnit) → 2 ^ 64 ≤ f u → Any (λ n. 2 ^ 64 ≤ n) (map f units)
large_at f Year h = (0, f Year, omega arith, refl, h)
large_at f Quarter h = (1, f Quarter, omega arith, refl, h)
large_at f Month h = (2, f Month, omega arith, refl, h)
large_at f Week h = (3, f Week, omega arith, refl, h)
large_at f Day h = (4, f Day, omega arith, refl, h)
large_at f Hour h = (5, f Hour, omega arith, refl, h)
large_at f Minute h = (6, f Minute, omega arith, refl, h)
large_at f Second h = (7, f Second, omega arith, refl, h)
large_at f MilliSecond h = (8, f MilliSecond, omega arith, refl, h)
large_at f MicroSecond h = (9, f MicroSecond, omega arith, refl, h)
large_at f NanoSecond h = (10, f NanoSecond, omega arith, refl, h)

pub large_count : (before after parts : List (TimeUnit × ℕ)) (u : TimeUnit) (n : ℕ)
    → parts ≡ before ++ ((u, n) ∷ after) → PartsFrom 0 parts → 2 ^ 64 ≤ n → Any (λ n. 2 ^ 64 ≤ n) (counts_of parts)
large_count before after parts u n same are large =
    let count = count_among 0 before after u n (rw same at are) in
    large_at (count_of parts) u (rw (same, count) large)

-- ---- The counts, written one after another

-- the counts, with those of the parts written over them
abbrev pub with_counts : List ℕ → List (TimeUnit × ℕ) → List ℕ
with_counts counts [] = counts
with_counts counts ((u, n) ∷ parts) = with_counts (slice_set counts (rank_of u) n) parts

-- the function with another value for one unit
abbrev with_value : (TimeUnit → ℕ) → TimeUnit → ℕ → TimeUnit → ℕ
with_value f u n v = if nanos_of u == nanos_of v then n else f v

value_set : (f : TimeUnit → ℕ) (u : TimeUnit) (n : ℕ)
    → slice_set (map f units) (rank_of u) n ≡ map (with_value f u n) units
value_set f u n = search rules

same_values : (f g : TimeUnit → ℕ) (us : List TimeUnit) → ((u : TimeUnit) → f u ≡ g u) → map f us ≡ map g us
same_values f g [] same = refl
same_values f g (u ∷ us) same = rw (same u, same_values f g us same)

value_after : (f : TimeUnit → ℕ) (k : ℕ) (u : TimeUnit) (n : ℕ) → ((v : TimeUnit) → k ≤ rank_of v → f v ≡ 0)
    → k ≤ rank_of u → (v : TimeUnit) → rank_of u + 1 ≤ rank_of v → with_value f u n v ≡ 0
value_after f k u n none from v above = search (rules, cases_Bool, same_rank, eqb-true)

value_and_count : (f : TimeUnit → ℕ) (k : ℕ) (u : TimeUnit) (n : ℕ) (parts : List (TimeUnit × ℕ))
    → ((v : TimeUnit) → k ≤ rank_of v → f v ≡ 0) → k ≤ rank_of u → PartsFrom (rank_of u + 1) parts → (v : TimeUnit)
    → with_value f u n v + count_of parts v ≡ f v + count_of ((u, n) ∷ parts) v
value_and_count f k u n parts none from are v =
    search (rules, cases_Bool, same_rank, eqb-true, count_none)

with_counts_after : (f : TimeUnit → ℕ) (k : ℕ) (parts : List (TimeUnit × ℕ))
    → ((v : TimeUnit) → k ≤ rank_of v → f v ≡ 0) → PartsFrom k parts
    → with_counts (map f units) parts ≡ map (λ v. f v + count_of parts v) units
with_counts_after f k [] none are = same_values f (λ v. f v + 0) units (λ v. omega arith)
with_counts_after f k ((u, n) ∷ parts) none (from, are) =
    ap (λ (counts : List ℕ). with_counts counts parts) (value_set f u n)
    ∙ with_counts_after (with_value f u n) (rank_of u + 1) parts (value_after f k u n none from) are
    ∙ same_values (λ v. with_value f u n v + count_of parts v) (λ v. f v + count_of ((u, n) ∷ parts) v) units
    (value_and_count f k u n parts none from are)

pub with_counts_all : (parts : List (TimeUnit × ℕ)) → PartsFrom 0 parts
    → with_counts (map (λ u. 0) units) parts ≡ counts_of parts
with_counts_all parts are =
    with_counts_after (λ u. 0) 0 parts (λ v h. refl) are
    ∙ same_values (λ v. 0 + count_of parts v) (count_of parts) units (λ v. omega arith)

-- ---- The parts are not above the duration

sum_nonzero : (us : List TimeUnit) (counts : List ℕ)
    → sum_of_parts (nonzero us counts) ≡ weighted_sum (map nanos_of us) counts
sum_nonzero [] counts = refl
sum_nonzero (u ∷ us) [] = refl
sum_nonzero (u ∷ us) (n ∷ counts) = search (rules, cases_Bool, eqb-true, sum_nonzero us counts)

pub parts_within : (format : Format) (nanos : ℕ) (parts : List (TimeUnit × ℕ)) → AreParts format nanos parts
    → sum_of_parts parts ≤ nanos
parts_within format nanos parts (counts, greatest, are) =
    omega (arith, greatest.within.no_more, ap sum_of_parts are, sum_nonzero (chosen format.units units) counts)

-- ---- A count or the rest is too large

pub large_counts : (rounding : Option Rounding) (format : Format) (nanos shown : ℕ) (parts : List (TimeUnit × ℕ))
    → ArePartsRounded rounding format nanos shown parts → Any (λ n. 2 ^ 64 ≤ n) (counts_of parts)
    → IsTooLarge rounding format nanos
large_counts rounding format nanos shown parts are large = record {
  counts = counts_of parts;
  rest = shown - sum_of_parts parts;
  broken_down = record {
    shown = shown;
    parts = parts;
    are_parts = are;
    each = refl;
    whole = omega (arith, parts_within format shown parts are.1);
  };
  large = inl large;
}

pub large_rest : (rounding : Option Rounding) (format : Format) (nanos shown rest : ℕ) (parts : List (TimeUnit × ℕ))
    → ArePartsRounded rounding format nanos shown parts → shown ≡ sum_of_parts parts + rest → 2 ^ 64 ≤ rest
    → IsTooLarge rounding format nanos
large_rest rounding format nanos shown rest parts are whole large = record {
  counts = counts_of parts;
  rest = rest;
  broken_down = record { shown = shown; parts = parts; are_parts = are; each = refl; whole = whole };
  large = inr large;
}
