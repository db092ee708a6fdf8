use Rattle.duration_str_reading.proofs.Common.{answer_left, arith, Bool, cases_Bool, Cause, CondUnit, cut_place, end_at, Err, expected_at_start, false, if◌then◌else◌, is_number, leaving, length, LooksAhead, None, not, number, number_fault, Ok, ok_or, operator, operator_read, Option, other, refl, Rest, rest_from, rest_of, Rules, rules, rules_at, Some, sort_of, source, sym, Syntax, TakesToken, Terminal, terminal_at, terminal_of, TimeUnit, Tokens, TokenStart, true, unit_read, word, ℕ, ◌≡◌}
use Rattle.duration_str_reading.specs.Answer.{expected_after_number, expected_after_unit}
use Rattle.duration_str_reading.proofs.Cutting.StepLemmas.{first_left, none_left}
use Rattle.duration_str_reading.specs.declared.token.TokenStart.TheVariants as sorts

pub same_rest : (r : Rules) {s m : Tokens} {sort : Option TokenStart} → LooksAhead s m sort
    → rest_of r m ≡ rest_of r s
same_rest r look = (λ i. rest_from (record r { options = look.kept.options i }) (length (look.kept.text i)) (look.same_left i))

pub at_end : (r : Rules) {s m : Tokens} → LooksAhead s m None
    → (rest_of r s ≡ end_at (cut_place m)) × (cut_place m ≡ length (source m))
at_end r {s} {m} look =
    let none = none_left m look.ahead in (rw (← same_rest r look, none.0, ← none.1), none.1)

abbrev pub StartsWith : TokenStart → ℕ → Rest → Type 0
StartsWith sorts.Number at rest = (n : ℕ) × (more : Rest) × (rest ≡ terminal_at at (number n) more)
StartsWith sorts.Word at rest = (u : Option TimeUnit) × (more : Rest) × (rest ≡ terminal_at at (word u) more)
StartsWith (sorts.Operator op) at rest = (more : Rest) × (rest ≡ terminal_at at (operator op) more)
StartsWith sorts.Other at rest = (more : Rest) × (rest ≡ terminal_at at other more)

by_terminal : (terminal : Terminal) (at : ℕ) (rest more : Rest) → rest ≡ terminal_at at terminal more
    → StartsWith (sort_of terminal) at rest
by_terminal terminal at rest more is = search rules

pub starts : (r : Rules) {s m : Tokens} {ahead : Option TokenStart} {sort : TokenStart} → LooksAhead s m ahead
    → ahead ≡ Some sort → StartsWith sort (cut_place m) (rest_of r s)
starts r {s} {m} {sort = sort} look is =
    let (cs, rest, left_is, sort_is) = first_left r m sort (rw is at look.ahead) in
    let here = rw left_is at (sym (same_rest r look)) in
    rw sort_is (by_terminal (terminal_of (rules_at r m) cs) (cut_place m) (rest_of r s) _ here)

pub number_comes : (r : Rules) {s m : Tokens} {sort : Option TokenStart} → LooksAhead s m sort
    → number_fault (rest_of r s) ≡ (if is_number sort then None else Some (Syntax (cut_place m) expected_at_start))
number_comes r {sort = None} look = rw (at_end r look).0
number_comes r {sort = Some sorts.Number} look = rw (starts r look refl).2
number_comes r {sort = Some sorts.Word} look = rw (starts r look refl).2
number_comes r {sort = Some (sorts.Operator op)} look = rw (starts r look refl).1
number_comes r {sort = Some sorts.Other} look = rw (starts r look refl).1

pub after_token : {r : Rules} {s t : Tokens} {terminal : Terminal} → TakesToken r s t terminal
    → rest_of r s ≡ terminal_at (cut_place s) terminal (rest_of r t)
after_token {r} {s} {t} taken = search arith

pub is_on : (b : Bool) → not b ≡ false → b ≡ true
is_on true h = refl
is_on false h = cc h

pub no_number : (r : Rules) (rest : Rest) (cause : Cause) → number_fault rest ≡ Some cause
    → Err cause ≡ answer_left r rest
no_number r rest cause h = search (rules, cases_Bool)

module _ (r : Rules) (rest after : Rest) (at : ℕ) (op : CondUnit) (is : rest ≡ terminal_at at (operator op) after) where
  pub unit_omitted : r.options.no_calc ≡ false
      → unit_read r rest ≡ leaving rest (ok_or r.default_unit (Syntax at (expected_after_number r)))
  unit_omitted calc = rw (is, calc) refl

  pub unit_refused : r.options.no_calc ≡ true → unit_read r rest ≡ Err (Syntax at (expected_after_number r))
  unit_refused calc = rw (is, calc) refl

  pub operator_taken : r.options.no_calc ≡ false → number_fault after ≡ None
      → operator_read r rest ≡ leaving after (Ok (Some op))
  operator_taken calc none = rw (is, calc, none) refl

  pub operator_fault : (cause : Cause) → r.options.no_calc ≡ false → number_fault after ≡ Some cause
      → operator_read r rest ≡ Err cause
  operator_fault cause calc fault = rw (is, calc, fault) refl

  pub operator_refused : r.options.no_calc ≡ true → operator_read r rest ≡ Err (Syntax at (expected_after_unit r))
  operator_refused calc = rw (is, calc) refl

pub operator_of_sort : (terminal : Terminal) (op : CondUnit) → sorts.Operator op ≡ sort_of terminal
    → terminal ≡ operator op
operator_of_sort terminal op e = search rules
