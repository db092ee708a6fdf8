-- Combining the later terms one by one finds the same first fault as looking at the whole list.
use Rattle.duration_str_reading.proofs.Common.{[], append-nil, append_assoc, arith, Bool, cases_Bool, Cause, checked_combination, combination, CondUnit, Err, evaluation_fault, false, fault_of_terms, fault_or, first_fault, fits, fold-append, if◌then◌else◌, inl, inr, IsTrue, later_total, List, lt-ltb, None, Ok, ok_or, Option, or_else, Overflow, Plus, refl, Result, rules, running_fault, Some, sum_of, Term, term_fault, total_with, true, u64_from, unless, unwrap_or, value_of, value_of_term, ℕ, ◌++◌, ◌<◌, ◌^◌, ◌∷◌, ◌≡◌}
use Rattle.duration_str_reading.proofs.Sentences.SumLemmas.{AreAdded, no_fault, running_below, sum-append, value_is_sum}
use Rattle.duration_str_reading.proofs.Sentences.AnswerLemmas.{later_value}

-- the answer to a text with these terms, and with this syntax fault after them, if there is one
abbrev pub answer_of : Bool → List Term → Option Cause → Result ℕ Cause
answer_of no_calc terms syntax =
    fault_or (if no_calc then running_fault [] terms else first_fault terms)
    (fault_or syntax (fault_or (if no_calc then None else evaluation_fault terms) (Ok (unwrap_or (value_of terms) 0))))

-- ---- Faults in order

or_else_assoc : (a b c : Option Cause) → or_else (or_else a b) c ≡ or_else a (or_else b c)
or_else_assoc a b c = search rules

or_else-none_right : (a : Option Cause) → or_else a None ≡ a
or_else-none_right a = search rules

fault_or-or_else : (a b : Option Cause) (r : Result ℕ Cause) → fault_or (or_else a b) r ≡ fault_or a (fault_or b r)
fault_or-or_else a b r = search rules

checked_combination-fault : (op : CondUnit) (x : ℕ) (a : Option Cause) (y : Result ℕ Cause)
    → checked_combination op x (fault_or a y) ≡ fault_or a (checked_combination op x y)
checked_combination-fault op x a y = search rules

ok_or-fits : (n : ℕ) → ok_or (u64_from n) (Overflow None) ≡ fault_or (unless (fits n) (Overflow None)) (Ok n)
ok_or-fits n = elim (cases_Bool (fits n)) [ inl e ↦ rw e | inr e ↦ rw e ]

ruleset fault_order = (or_else-none_right, fault_or-or_else, checked_combination-fault, ok_or-fits)

running_append : (before xs ys : List Term)
    → running_fault before (xs ++ ys) ≡ or_else (running_fault before xs) (running_fault (before ++ xs) ys)
running_append before [] ys = rw append-nil
running_append before (x ∷ xs) ys = simp (running_append (before ++ x ∷ []) xs ys, append_assoc, or_else_assoc)

later_append : (op : CondUnit) (before xs ys : List Term)
    → fault_of_terms op before (xs ++ ys) ≡ or_else (fault_of_terms op before xs) (fault_of_terms op (before ++ xs) ys)
later_append op before [] ys = rw append-nil
later_append op before (x ∷ xs) ys = simp (later_append op (before ++ x ∷ []) xs ys, append_assoc, or_else_assoc)

-- ---- One more later term

-- the value of the later terms, or their first fault
abbrev value_by : CondUnit → List Term → Result ℕ Cause
value_by op later = fault_or (fault_of_terms op [] later) (Ok (later_total op later))

together-push : (op : CondUnit) (before : List Term) (t : Term)
    → combination op (later_total op before) (value_of_term t) ≡ later_total op (before ++ t ∷ [])
together-push op before t = search (rules, sum-append, fold-append)

one_more : (op : CondUnit) (before : List Term) (t : Term) → fault_of_terms op [] before ≡ None
    → total_with (Some (op, later_total op before)) t.operator (u64_from t.number) t.length
    ≡ value_by op (before ++ t ∷ [])
one_more op before t none = search (rules, later_append, together-push)

-- ---- All terms, one by one

-- Except under `no_calc`, a syntax fault comes before the fault of a later term.
abbrev pub after_term : Bool → Option Cause → (ℕ → Result ℕ Cause) → Result ℕ Cause → Result ℕ Cause
after_term no_calc syntax more (Ok total) = more total
after_term no_calc syntax more (Err fault) = if no_calc then Err fault else fault_or syntax (Err fault)

abbrev pub value_at_end : ℕ → Option (CondUnit × ℕ) → Result ℕ Cause
value_at_end first None = Ok first
value_at_end first (Some (op, total)) = checked_combination op first (Ok total)

abbrev pub answer_given : Bool → ℕ → Option (CondUnit × ℕ) → List Term → Option Cause → Result ℕ Cause
answer_given no_calc first later [] syntax = fault_or syntax (value_at_end first later)
answer_given no_calc first later (t ∷ terms) syntax =
    after_term no_calc syntax (λ total. answer_given no_calc first (Some (t.operator, total)) terms syntax)
    (total_with later t.operator (u64_from t.number) t.length)

abbrev pub answer_after_first : Bool → ℕ → List Term → Option Cause → Result ℕ Cause
answer_after_first true value terms syntax = answer_given true 0 (Some (Plus, value)) terms syntax
answer_after_first false value terms syntax = answer_given false value None terms syntax

default_left : (first : ℕ) (op : CondUnit) (before later : List Term) (syntax : Option Cause)
    → fault_of_terms op [] before ≡ None
    → answer_given false first (Some (op, later_total op before)) later syntax
    ≡ fault_or syntax (checked_combination op first (value_by op (before ++ later)))
default_left first op before [] syntax none = rw (append-nil, none)
default_left first op before (t ∷ later) syntax none =
    search (rules, append_assoc, later_append, one_more, no_fault, default_left first op (before ++ t ∷ []) later syntax)

default_first : (first : ℕ) (u : Term) (later : List Term) (syntax : Option Cause)
    → answer_given false first None (u ∷ later) syntax
    ≡ fault_or syntax (checked_combination u.operator first (value_by u.operator (u ∷ later)))
default_first first u later syntax = search (rules, default_left)

unless_fault : {x y : Result ℕ Cause} (fault : Option Cause) → (fault ≡ None → x ≡ y)
    → fault_or fault x ≡ fault_or fault y
unless_fault fault h = search rules

one_added : (f : Term) (before : List Term) (t : Term) → t.operator ≡ Plus
    → total_with (Some (Plus, sum_of (f ∷ before))) t.operator (u64_from t.number) t.length
    ≡ fault_or (running_fault (f ∷ before) (t ∷ [])) (Ok (sum_of (f ∷ (before ++ t ∷ []))))
one_added f before t plus = search (rules, sum-append)

no_calc_left : (f : Term) (before later : List Term) (syntax : Option Cause) → sum_of (f ∷ before) < 2 ^ 64
    → AreAdded later
    → answer_given true 0 (Some (Plus, sum_of (f ∷ before))) later syntax
    ≡ fault_or (running_fault (f ∷ before) later) (fault_or syntax (Ok (sum_of (f ∷ (before ++ later)))))
no_calc_left f before [] syntax h a = search (rules, append-nil)
no_calc_left f before (t ∷ later) syntax h a =
    search (rules, one_added, running_append, append_assoc, running_below, no_calc_left f (before ++ t ∷ []) later syntax)

whole_value : (f u : Term) (later : List Term)
    → checked_combination u.operator (value_of_term f) (value_by u.operator (u ∷ later))
    ≡ fault_or (evaluation_fault (f ∷ u ∷ later)) (Ok (unwrap_or (value_of (f ∷ u ∷ later)) 0))
whole_value f u later = search (rules, later_value)

pub one_by_one : (no_calc : Bool) (f : Term) (later : List Term) (syntax : Option Cause)
    → (IsTrue no_calc → AreAdded (f ∷ later))
    → answer_of no_calc (f ∷ later) syntax
    ≡ fault_or (term_fault (Some 0) f) (answer_after_first no_calc (value_of_term f) later syntax)
one_by_one false f [] syntax added = refl
one_by_one false f (u ∷ later) syntax added = rw (default_first (value_of_term f) u later syntax, whole_value f u later)
one_by_one true f later syntax added =
    rw (fault_or-or_else (term_fault (Some 0) f)) (unless_fault (term_fault (Some 0) f) (λ e.
    let below = simp no_fault at e in
    let own : sum_of (f ∷ []) < 2 ^ 64 = omega arith in
    let alone : sum_of (f ∷ []) ≡ value_of_term f = omega arith in
    let all = rw alone at (no_calc_left f [] later syntax own (added refl).1) in
    rw (lt-ltb (sum_of (f ∷ [])) _ own, value_is_sum (f ∷ later) (omega arith) (added refl), all)))
