-- Lemmas about sums: their value, and when they have no fault.
use Rattle.duration_str_reading.proofs.Common.{[], AllPlus, ap, append-nil, append_assoc, arith, Bool, cases_lt, Cause, combination, CondUnit, Evaluates, evaluation_fault, fault_of_terms, first_fault, fits, is_same_operator, IsSentence, later_total, le-ltb, length, List, list_all, lt-ltb, ltb-true, Mixed, None, number, operator, Option, Options, or_else, Overflow, place_after, Plus, refl, Rules, rules, rules_with, running_fault, Second, Some, sum_of, Term, term_fault, Terminal, terms_after, terms_of, TimeUnit, true, unless, unwrap_or, value_of, value_of_term, word, ℕ, ⊤, ◌++◌, ◌+◌, ◌<◌, ◌^◌, ◌↔◌, ◌∷◌, ◌≡◌, ◌≤◌}
use Rattle.duration_str_base.proofs.UnitLemmas.{some_length}

-- ---- When there is no fault

pub or_else-none : (a b : Option Cause) → (or_else a b ≡ None) ↔ ((a ≡ None) × (b ≡ None))
or_else-none a b = grind arith

pub unless-none : (b : Bool) (cause : Cause) → (unless b cause ≡ None) ↔ (b ≡ true)
unless-none b cause = grind arith

pub fits-true : (n : ℕ) → (fits n ≡ true) ↔ (n < 2 ^ 64)
fits-true n = (ltb-true n (2 ^ 64), lt-ltb n (2 ^ 64))

pub is_same_operator-true : (op next : CondUnit) → (is_same_operator op next ≡ true) ↔ (next ≡ op)
is_same_operator-true op next = grind arith

-- rules that turn "there is no fault" into "each number is below 2^64, and the operators are the
-- same"
pub ruleset no_fault = (or_else-none, unless-none, fits-true, is_same_operator-true)

pub term_below_no_fault : (place : Option ℕ) (t : Term) → t.number < 2 ^ 64 → value_of_term t < 2 ^ 64
    → term_fault place t ≡ None
term_below_no_fault place t l h = simp no_fault (l, h)

-- ---- Terms that are added

abbrev pub AreAdded : List Term → Type 0
AreAdded [] = ⊤
AreAdded (t ∷ terms) = (t.operator ≡ Plus) × AreAdded terms

terms_added_after : (r : Rules) (op : CondUnit) (terminals : List Terminal) → op ≡ Plus → AllPlus terminals
    → AreAdded (terms_after r op terminals)
terms_added_after r op (number n ∷ word (Some u) ∷ more) e a = (e, terms_added_after r Plus more refl a)
terms_added_after r op (number n ∷ more) e a = (e, terms_added_after r Plus more refl a)
terms_added_after r op (operator next ∷ more) e a = terms_added_after r next more a.0 a.1
terms_added_after r op _ e a = tt

pub terms_added : (r : Rules) (terminals : List Terminal) → AllPlus terminals → AreAdded (terms_of r terminals)
terms_added r terminals a = terms_added_after r Plus terminals refl a

abbrev pub AreLong : List Term → Type 0
AreLong [] = ⊤
AreLong (t ∷ terms) = (1 ≤ t.length) × AreLong terms

pub terms_long : (default_unit : Option TimeUnit) (o : Options) (op : CondUnit) (terminals : List Terminal)
    → AreLong (terms_after (rules_with o default_unit) op terminals)
terms_long default_unit o op (number n ∷ word (Some u) ∷ more) = (some_length u, terms_long default_unit o Plus more)
terms_long default_unit o op (number n ∷ more) =
    (some_length (unwrap_or default_unit Second), terms_long default_unit o Plus more)
terms_long default_unit o op (operator next ∷ more) = terms_long default_unit o next more
terms_long default_unit o op _ = tt

pub has_terms : (r : Rules) (terminals : List Terminal) → IsSentence r terminals → 1 ≤ length (terms_of r terminals)
has_terms r terminals h = search rules

pub sum-append : (xs ys : List Term) → sum_of (xs ++ ys) ≡ sum_of xs + sum_of ys
sum-append [] ys = omega arith
sum-append (x ∷ xs) ys = rw (sum-append xs ys) (omega arith)

abbrev pub EachFits : List Term → Type 0
EachFits [] = ⊤
EachFits (t ∷ terms) = (t.number < 2 ^ 64) × (value_of_term t < 2 ^ 64) × EachFits terms

number_below : (t : Term) → 1 ≤ t.length → value_of_term t < 2 ^ 64 → t.number < 2 ^ 64
number_below t l h = grind arith

pub sum_fits_each : (terms : List Term) → AreLong terms → sum_of terms < 2 ^ 64 → EachFits terms
sum_fits_each [] l h = tt
sum_fits_each (t ∷ terms) l h =
    (number_below t l.0 (omega arith), omega arith, sum_fits_each terms l.1 (omega arith))

-- ---- The fault of a sum whose terms fit

abbrev pub overflow : ℕ → Option Cause
overflow n = unless (fits n) (Overflow None)

pub running_overflow : (before terms : List Term) → AreAdded terms → EachFits terms
    → (or_else (overflow (sum_of before)) (running_fault before terms) ≡ overflow (sum_of (before ++ terms)))
    × (or_else (overflow (sum_of before)) (fault_of_terms Plus before terms) ≡ overflow (sum_of (before ++ terms)))
running_overflow before [] a f = search (rules, append-nil)
running_overflow before (t ∷ later) a f =
    search (rules, sum-append, term_below_no_fault, running_overflow (before ++ t ∷ []) later)

pub added_overflow : (terms : List Term) → AreAdded terms → EachFits terms
    → (first_fault terms ≡ None) × (evaluation_fault terms ≡ overflow (sum_of terms))
added_overflow [] a f = (refl, refl)
added_overflow (t ∷ []) a f = search (rules, lt-ltb, term_below_no_fault)
added_overflow (t ∷ u ∷ later) a f =
    let plus = ap (λ op. or_else (fault_of_terms op [] (u ∷ later))
    (unless (fits (combination op (value_of_term t) (later_total op (u ∷ later)))) (Overflow None))) a.1.0 in (
      term_below_no_fault (Some 0) t f.0 f.1,
      rw (plus, (running_overflow [] (u ∷ later) a.1 f.2).1) (search (rules, cases_lt, lt-ltb, le-ltb)),
    )

pub running_below : (before terms : List Term) → sum_of before < 2 ^ 64 → running_fault before terms ≡ None
    → sum_of (before ++ terms) < 2 ^ 64
running_below before [] b h = rw append-nil b
running_below before (t ∷ later) b h = search (rules, append_assoc, running_below (before ++ t ∷ []) later)

pub running_fits : (before terms : List Term) → running_fault before terms ≡ None → EachFits terms
running_fits before [] h = tt
running_fits before (t ∷ later) h =
    let parts = (or_else-none (term_fault (place_after before) t) _).0 h in
    let own = simp no_fault at parts.0 in
    (own.0, own.1, running_fits (before ++ t ∷ []) later ((or_else-none _ _).0 parts.1).1)

later_fits : (op : CondUnit) (before terms : List Term) → fault_of_terms op before terms ≡ None → EachFits terms
later_fits op before [] h = tt
later_fits op before (t ∷ later) h =
    let parts = (or_else-none (unless (is_same_operator op t.operator) (Mixed op t.operator)) _).0 h in
    let own = (or_else-none (term_fault None t) _).0 parts.1 in
    let below = simp no_fault at own.0 in
    (below.0, below.1, later_fits op (before ++ t ∷ []) later ((or_else-none _ _).0 own.1).1)

pub evaluate_fits : (terms : List Term) → Evaluates terms → EachFits terms
evaluate_fits terms e = search (rules, later_fits, or_else-none)

pub below_evaluate : (terms : List Term) → 1 ≤ length terms → AreAdded terms → EachFits terms → sum_of terms < 2 ^ 64
    → Evaluates terms
below_evaluate terms l a f h = grind (arith, added_overflow)

pub evaluate_below : (terms : List Term) → AreAdded terms → Evaluates terms → sum_of terms < 2 ^ 64
evaluate_below terms a h = search rules

all_plus : (later : List Term) → AreAdded later → list_all (λ v. is_same_operator Plus v.operator) later ≡ true
all_plus [] a = refl
all_plus (t ∷ later) a = rw (a.0, all_plus later a.1)

pub value_is_sum : (terms : List Term) → 1 ≤ length terms → AreAdded terms → value_of terms ≡ Some (sum_of terms)
value_is_sum [] l a = absurd (omega arith)
value_is_sum (t ∷ []) l a = ap Some (omega arith)
value_is_sum (t ∷ u ∷ later) l a = rw (a.1.0, all_plus later a.1.1)
