-- The terms that are left while a text is read, and the answer that they give.
use Rattle.duration_str_reading.proofs.Common.{[], AllPlus, answer_at, answer_left, ap, arith, Bool, Cause, checked_term, complete_terminals, CondUnit, cut_place, drop, Err, Expected, expected_after, false, fault_or, front_of, IfErr, if◌then◌else◌, IsTrue, last_of, leaving, length, List, None, number, Ok, operator, operator_read, Option, Plus, ReadItem, refl, Rest, rest_of, Result, Rules, rules, Some, start_left, subst, sym, Syntax, take, TakesNumber, Term, Terminal, terminal_at, terminals_left, terms_after, terms_of, TimeUnit, Tokens, true, unit_read, UnitRow, unless, with_term, without_last_number, word, ℕ, ◌<◌, ◌∙◌, ◌∷◌, ◌≡◌}
use Rattle.duration_str_reading.proofs.Sentences.FrontLemmas.{begins_allowed, whole_complete, table_front}
use Rattle.duration_str_reading.proofs.Sentences.SumLemmas.{AreAdded, terms_added}
use Rattle.duration_str_reading.proofs.Sentences.AnswerLemmas.{allowed_plus}
use Rattle.duration_str_reading.proofs.OnePass.EvaluationLemmas.{answer_after_first, answer_of, answer_given, one_by_one}
use Rattle.duration_str_base.proofs.TermLemmas.{checked_term_is}
use Rattle.duration_str_reading.proofs.OnePass.ReaderLemmas.{after_token}

abbrev pub fault_at : ℕ → Expected → List Terminal → Option Cause
fault_at place expected [] = unless expected.text_end (Syntax place expected)
fault_at place expected (terminal ∷ terminals) = Some (Syntax place expected)

-- terms, and the syntax fault after them, if there is one
pub record Ended : Type 0 where
  pub terms : List Term
  pub fault : Option Cause

abbrev front_in : Rules → Rest → List Terminal
front_in r rest = take (front_of r (terminals_left rest)) (terminals_left rest)

abbrev after_in : Rules → Rest → List Terminal
after_in r rest = drop (front_of r (terminals_left rest)) (terminals_left rest)

abbrev pub left_after : Rules → CondUnit → Rest → Ended
left_after r op rest = record {
  terms = terms_after r op (complete_terminals r (front_in r rest) (after_in r rest));
  fault = fault_at (start_left (front_of r (terminals_left rest)) rest)
      (expected_after r (last_of None (front_in r rest))) (after_in r rest);
}

abbrev pub next_terms : Rules → Option CondUnit → Rest → Ended
next_terms r None rest = record { terms = []; fault = None }
next_terms r (Some op) rest = left_after r op rest

abbrev pub no_terms : Cause → Ended
no_terms cause = record { terms = []; fault = Some cause }

-- the terms that are left after a unit, given the result of reading the operator after it
abbrev pub after_unit : Rules → Result (ReadItem (Option CondUnit)) Cause → Ended
after_unit r (Ok read) = next_terms r read.item read.rest
after_unit r (Err cause) = no_terms cause

-- the terms from the number n on, given the result of reading the unit after it
abbrev pub after_number : Rules → CondUnit → ℕ → Result (ReadItem TimeUnit) Cause → Ended
after_number r op n (Ok read) =
    let more = after_unit r (operator_read r read.rest) in record {
      terms = record { operator = op; number = n; length = (r.table read.item).nanos } ∷ more.terms;
      fault = more.fault;
    }
after_number r op n (Err cause) = no_terms cause

abbrev rules_from : (TimeUnit → UnitRow) → Bool → Bool → Option TimeUnit → Bool → Rules
rules_from table lowercase cn_unit default_unit no_calc = record {
  table = table;
  default_unit = default_unit;
  options = record { no_calc = no_calc; lowercase = lowercase; cn_unit = cn_unit };
}

module _ (table : TimeUnit → UnitRow) (lowercase cn_unit : Bool) where
  terms_read_from : (default_unit : Option TimeUnit) (no_calc : Bool) (op : CondUnit) (at n : ℕ) (rest : Rest)
      → let r = rules_from table lowercase cn_unit default_unit no_calc in
      left_after r op (terminal_at at (number n) rest) ≡ after_number r op n (unit_read r rest)
  terms_read_from default_unit no_calc op at n (terminal_at p (word (Some u)) (terminal_at q (number m) rest)) = search rules
  terms_read_from default_unit false op at n (terminal_at p (word (Some u)) (terminal_at q (operator next)
      (terminal_at r (number m) rest))) = search rules
  terms_read_from (Some b) false op at n (terminal_at p (operator next) (terminal_at q (number m) rest)) = search rules
  terms_read_from (Some b) false op at n rest = refl
  terms_read_from (Some b) true op at n rest = refl
  terms_read_from None false op at n rest = refl
  terms_read_from None true op at n rest = refl

terms_read : (r : Rules) (op : CondUnit) (at n : ℕ) (rest : Rest)
    → left_after r op (terminal_at at (number n) rest) ≡ after_number r op n (unit_read r rest)
terms_read r = terms_read_from r.table r.options.lowercase r.options.cn_unit r.default_unit r.options.no_calc

pub number_taken : (r : Rules) {s a : Tokens} {n : Option ℕ} (op : CondUnit) (taken : TakesNumber s a n)
    (read : Result (ReadItem TimeUnit) Cause) → read ≡ unit_read r (rest_of r a)
    → left_after r op (rest_of r s) ≡ after_number r op taken.n read
number_taken r {s} {a} op taken read is =
    rw (after_token (taken.token r), terms_read r op (cut_place s) taken.n (rest_of r a), is)

pub term_passed : (r : Rules) {s a : Tokens} {n : Option ℕ} {next : CondUnit} (b : Rest)
    → leaving (rest_of r s) (Ok (Some next)) ≡ operator_read r b → (taken : TakesNumber s a n)
    → (read : Result (ReadItem TimeUnit) Cause) → read ≡ unit_read r (rest_of r a)
    → after_unit r (operator_read r b) ≡ after_number r next taken.n read
term_passed r {next = next} b is taken read unit =
    ap (after_unit r) (sym is) ∙ number_taken r next taken read unit

abbrev pub count : Ended → ℕ
count left = length left.terms

pub fewer : (r : Rules) {s a : Tokens} {b : Rest} {n : Option ℕ} {u : TimeUnit} {next : CondUnit} (p : Rest)
    → leaving (rest_of r s) (Ok (Some next)) ≡ operator_read r p → TakesNumber s a n
    → leaving b (Ok u) ≡ unit_read r (rest_of r a)
    → count (after_unit r (operator_read r b)) < count (after_unit r (operator_read r p))
fewer r p read taken unit = omega (arith, ap count (term_passed r p read taken _ unit))

-- ---- Steps of the answer

abbrev pub with_left : Bool → ℕ → Result (Option (CondUnit × ℕ)) Cause → Ended → Result ℕ Cause
with_left no_calc first (Ok later) left = answer_given no_calc first later left.terms left.fault
with_left no_calc first (Err fault) left = if no_calc then Err fault else fault_or left.fault (Err fault)

abbrev pub total_of : Bool → ℕ → Ended → Result ℕ Cause
total_of no_calc value left = answer_after_first no_calc value left.terms left.fault

pub unread : (no_calc : Bool) (first : ℕ) (later : Result (Option (CondUnit × ℕ)) Cause) (cause : Cause)
    → IfErr later (λ fault. no_calc ≡ false) → with_left no_calc first later (no_terms cause) ≡ Err cause
unread no_calc first later cause held = search rules

pub later_step : (r : Rules) (first : ℕ) (later : Result (Option (CondUnit × ℕ)) Cause) (p : Rest) {s a : Tokens}
    {b : Rest} {n : Option ℕ} {u : TimeUnit} {next : CondUnit}
    → leaving (rest_of r s) (Ok (Some next)) ≡ operator_read r p → TakesNumber s a n
    → leaving b (Ok u) ≡ unit_read r (rest_of r a)
    → with_left r.options.no_calc first later (after_unit r (operator_read r p))
    ≡ with_left r.options.no_calc first (with_term later next n (r.table u).nanos) (after_unit r (operator_read r b))
later_step r first (Ok later) p {b = b} {next = next} read taken unit =
    ap (with_left r.options.no_calc first (Ok later)) (term_passed r p read taken _ unit)
    ∙ rw taken.is_value (search rules)
later_step r first (Err fault) p read taken unit =
    ap (with_left r.options.no_calc first (Err fault)) (term_passed r p read taken _ unit)

pub started : (no_calc : Bool) (value : ℕ) (start : ℕ × Result (Option (CondUnit × ℕ)) Cause) (left : Ended)
    → start ≡ (if no_calc then (0, Ok (Some (Plus, value))) else (value, Ok None))
    → with_left no_calc start.0 start.1 left ≡ total_of no_calc value left
started true value start left is = rw is refl
started false value start left is = rw is refl

-- ---- The answer in order: the early fault, the syntax fault, the late fault, and the value

in_order : (r : Rules) (place : ℕ) (front rest : List Terminal)
    → answer_of r.options.no_calc (terms_of r (complete_terminals r front rest))
    (fault_at place (expected_after r (last_of None front)) rest)
    ≡ answer_at r place front rest
in_order r place front (t ∷ rest) = search rules
in_order r place front [] = search (rules, whole_complete)

-- ---- The answer in terms of what is left

without_last_plus : (terminals : List Terminal) → AllPlus terminals → AllPlus (without_last_number terminals)
without_last_plus [] a = tt
without_last_plus (number n ∷ []) a = tt
without_last_plus (operator op ∷ terminals) a = (a.0, without_last_plus terminals a.1)
without_last_plus (t ∷ terminals) a = without_last_plus terminals a

complete_plus : (r : Rules) (front rest : List Terminal) → AllPlus front → AllPlus (complete_terminals r front rest)
complete_plus r front rest a = search (rules, without_last_plus)

left_added : (r : Rules) (op : CondUnit) (rest : Rest) → op ≡ Plus → IsTrue r.options.no_calc
    → AreAdded (left_after r op rest).terms
left_added r op rest plus calc =
    let front = front_in r rest in
    let allowed = begins_allowed r front (table_front r (terminals_left rest)).begins in
    rw plus (terms_added r (complete_terminals r front (after_in r rest))
    (complete_plus r front _ (allowed_plus r None front calc allowed)))

abbrev pub by_first : Bool → Result ℕ Cause → Ended → Result ℕ Cause
by_first no_calc (Ok first) left = total_of no_calc first left
by_first no_calc (Err cause) left = Err cause

by_first-fault : (no_calc : Bool) (fault : Option Cause) (first : ℕ) (left : Ended)
    → by_first no_calc (fault_or fault (Ok first)) left ≡ fault_or fault (total_of no_calc first left)
by_first-fault no_calc fault first left = search rules

from_start : (r : Rules) (rest : Rest) (left : Ended) → left_after r Plus rest ≡ left
    → answer_of r.options.no_calc left.terms left.fault ≡ answer_left r rest
from_start r rest left is =
    rw (← is) (in_order r (start_left (front_of r (terminals_left rest)) rest) (front_in r rest) (after_in r rest))

pub first_unread : (r : Rules) {m a : Tokens} {s : Rest} {n : Option ℕ} {cause : Cause} → rest_of r m ≡ s
    → TakesNumber m a n → Err cause ≡ unit_read r (rest_of r a) → Err cause ≡ answer_left r s
first_unread r {m} {cause = cause} same taken unit =
    let read = number_taken r Plus taken _ unit in
    rw (← same, ← from_start r (rest_of r m) _ read)
    (elim r.options.no_calc as (λ b. Err cause ≡ answer_of b [] (Some cause)) [ false ↦ refl | true ↦ refl ])

pub first_step : (r : Rules) {m a : Tokens} {s b : Rest} {n : Option ℕ} {u : TimeUnit} {first : Result ℕ Cause}
    → rest_of r m ≡ s → TakesNumber m a n → leaving b (Ok u) ≡ unit_read r (rest_of r a)
    → first ≡ checked_term (Some 0) n (r.table u).nanos
    → answer_left r s ≡ by_first r.options.no_calc first (after_unit r (operator_read r b))
first_step r {m} {b = b} {u = u} same taken unit is =
    let t : Term = record { operator = Plus; number = taken.n; length = (r.table u).nanos } in
    let more = after_unit r (operator_read r b) in
    let read = number_taken r Plus taken _ unit in
    let added = λ (h : IsTrue r.options.no_calc). subst (λ (l : Ended). AreAdded l.terms) read
    (left_added r Plus (rest_of r m) refl h) in
    let start = from_start r (rest_of r m) _ read in
    rw (← same, ← start, is, taken.is_value, checked_term_is (Some 0) t, by_first-fault r.options.no_calc)
    (one_by_one r.options.no_calc t more.terms more.fault added)
