use Rattle.duration_str_printing.proofs.Common.{[], arith, cases_lt, counts_of, div-add-mod', GreatestBreakdown, inl, inr, IsBefore, IsGreatestBreakdown, length, List, refl, rules, unit_lengths, weighted_sum, ℕ, ◌%◌, ◌*◌, ◌+◌, ◌/◌, ◌∷◌, ◌≡◌, ◌≤◌, ◌⊎◌, IsPrintedIn, printed_counts, Style}

-- Each length is above 0, and the last is 1.
abbrev pub EndInOne : List ℕ → Type 0
EndInOne [] = ⊥
EndInOne (l ∷ []) = l ≡ 1
EndInOne (l ∷ m ∷ lengths) = (1 ≤ l) × EndInOne (m ∷ lengths)

counts_whole : (lengths : List ℕ) (nanos : ℕ) → EndInOne lengths
    → weighted_sum lengths (counts_of lengths nanos) ≡ nanos
counts_whole [] nanos h = absurd h
counts_whole (l ∷ []) nanos h = rw h (omega arith)
counts_whole (l ∷ m ∷ lengths) nanos h = omega (arith, counts_whole (m ∷ lengths) (nanos % l) h.1)

counts_each : (lengths : List ℕ) (nanos : ℕ) → length (counts_of lengths nanos) ≡ length lengths
counts_each [] nanos = refl
counts_each (l ∷ lengths) nanos = rw (counts_each lengths (nanos % l))

first_within : (m l rest nanos : ℕ) → 1 ≤ l → m * l + rest ≡ nanos → m ≤ nanos / l
first_within m l rest nanos h e = search rules

rest_same : (m l rest nanos : ℕ) → m * l + rest ≡ nanos → m ≡ nanos / l → rest ≡ nanos % l
rest_same m l rest nanos e s = let product = rw s at e in omega (arith, div-add-mod' nanos l)

only_count : (n l nanos : ℕ) → l ≡ 1 → n * l + 0 ≡ nanos → n ≡ nanos / l
only_count n l nanos h e = let one = rw h at e in rw h (omega arith)

counts_greatest : (lengths : List ℕ) (nanos : ℕ) (others : List ℕ) → EndInOne lengths → length others ≡ length lengths
    → weighted_sum lengths others ≡ nanos
    → (others ≡ counts_of lengths nanos) ⊎ IsBefore others (counts_of lengths nanos)
counts_greatest [] nanos others h l e = absurd h
counts_greatest (x ∷ lengths) nanos [] h l e = absurd (omega arith)
counts_greatest (x ∷ []) nanos (n ∷ m ∷ others) h l e = absurd (omega arith)
counts_greatest (x ∷ []) nanos (n ∷ []) h l e = inl (rw (only_count n x nanos h e))
counts_greatest (x ∷ y ∷ lengths) nanos (n ∷ others) h l e = elim (cases_lt n (nanos / x)) [
  | inl less ↦ inr (inl less)
  | inr up ↦
      let rest = weighted_sum (y ∷ lengths) others in
      let no_more : n ≤ nanos / x = first_within n x rest nanos h.0 e in
      let same : n ≡ nanos / x = omega arith in
      let left = rest_same n x rest nanos e same in
      elim (counts_greatest (y ∷ lengths) (nanos % x) others h.1 (omega arith) left) [
        | inl s ↦ inl cc
        | inr before ↦ inr (inr (same, before))
      ]
]

pub breakdown_of : (lengths : List ℕ) (nanos : ℕ) → EndInOne lengths
    → IsGreatestBreakdown lengths nanos (counts_of lengths nanos)
breakdown_of lengths nanos h = search (rules, counts_each, counts_greatest, counts_whole)

pub greatest_breakdown_holds : GreatestBreakdown
greatest_breakdown_holds nanos = breakdown_of unit_lengths nanos (omega arith)

pub not_before_each_other : (ms ns : List ℕ) → IsBefore ms ns → IsBefore ns ms → ⊥
not_before_each_other [] ns h k = h
not_before_each_other (m ∷ ms) [] h k = h
not_before_each_other (m ∷ ms) (n ∷ ns) (inl h) (inl k) = omega arith
not_before_each_other (m ∷ ms) (n ∷ ns) (inl h) (inr k) = let e : n ≡ m = k.0 in omega arith
not_before_each_other (m ∷ ms) (n ∷ ns) (inr h) (inl k) = let e : m ≡ n = h.0 in omega arith
not_before_each_other (m ∷ ms) (n ∷ ns) (inr h) (inr k) = not_before_each_other ms ns h.1 k.1

pub one_greatest : (lengths : List ℕ) (nanos : ℕ) (a b : List ℕ) → IsGreatestBreakdown lengths nanos a
    → IsGreatestBreakdown lengths nanos b → a ≡ b
one_greatest lengths nanos a b h k = search (rules, not_before_each_other)

pub counts_are : (style : Style) (nanos : ℕ) (text : List ℕ) → IsPrintedIn style nanos text
    → text ≡ printed_counts style (counts_of unit_lengths nanos)
counts_are style nanos text p =
    let same = one_greatest unit_lengths nanos p.0 (counts_of unit_lengths nanos) p.1
    (greatest_breakdown_holds nanos) in cc (p.2)
