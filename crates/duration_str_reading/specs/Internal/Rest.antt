-- What is left of a text while it is read, and what is read from it.
use Rattle.std.specs.Prelude.{◌≡◌, ℕ, zero, suc, ◌≤◌, List, [], ◌∷◌, length, take, drop, Option, Some, None, Result, Ok, Err, IfErr, if◌then◌else◌}
use Rattle.std.specs.Option.{ForSome, ok_or}
use Rattle.duration_str_base.specs.declared.unit.TimeUnit.{TimeUnit}
use Rattle.duration_str_base.specs.declared.operator.CondUnit.{CondUnit}
use Rattle.duration_str_base.specs.declared.operator.CondUnit.TheVariants.{Plus}
use Rattle.duration_str_base.specs.declared.cause.Cause.{Cause}
use Rattle.duration_str_base.specs.declared.cause.Cause.TheVariants.{Syntax, Overflow, Mixed}
use Rattle.duration_str_base.specs.declared.cause.Expected.{Expected}
use Rattle.duration_str_reading.specs.declared.token.Tokens.{Tokens}
use Rattle.duration_str_base.specs.Rules.{Rules}
use Rattle.duration_str_reading.specs.Grammar.{Terminal, number, word, operator, terminal_of}
use Rattle.duration_str_reading.specs.Tokens.{Token}
use Rattle.duration_str_reading.specs.Value.{combination, is_same_operator}
use Rattle.duration_str_base.specs.Term.{unless, fault_or}
use Rattle.duration_str_base.specs.Internal.Numbers.{u64_from, checked_term}
use Rattle.duration_str_reading.specs.Answer.{answer_at, expected_at_start, expected_after_number, expected_after_unit, front_of}
use Rattle.duration_str_base.specs.Causes.{place_of}
use Rattle.duration_str_reading.specs.Iteration.{source, cut_place, tokens_left}
use Rattle.duration_str_reading.specs.Internal.Steps.{IsAhead, rules_at}
use Rattle.duration_str_reading.specs.declared.token.TokenStart.TheVariants.{Number}

-- The terminals that are left, each with the byte at which it starts, and the byte at which the
-- text ends.
pub data Rest : Type 0 where
  terminal_at : ℕ → Terminal → Rest → Rest
  end_at : ℕ → Rest

abbrev pub rest_from : Rules → ℕ → List Token → Rest
rest_from r len [] = end_at len
rest_from r len (p ∷ tokens) = terminal_at p.start (terminal_of r p.characters) (rest_from r len tokens)

abbrev pub rest_of : Rules → Tokens → Rest
rest_of r s = rest_from (rules_at r s) (length (source s)) (tokens_left s)

-- the byte at which the terminal after the first n terminals starts, or at which the text ends if
-- there is none
abbrev pub start_left : ℕ → Rest → ℕ
start_left n (end_at at) = at
start_left zero (terminal_at at terminal rest) = at
start_left (suc n) (terminal_at at terminal rest) = start_left n rest

abbrev pub terminals_left : Rest → List Terminal
terminals_left (terminal_at at terminal rest) = terminal ∷ terminals_left rest
terminals_left (end_at at) = []

abbrev pub misplacement : Expected → Rest → Cause
misplacement expected rest = Syntax (start_left 0 rest) expected

pub record ReadItem (A : Type 0) : Type 0 where
  pub item : A
  pub rest : Rest

abbrev pub leaving : {A : Type 0} → Rest → Result A Cause → Result (ReadItem A) Cause
leaving rest (Ok item) = Ok (record { item = item; rest = rest })
leaving rest (Err cause) = Err cause

-- the fault if the rest does not start with a number, as it must at the start of a text and after
-- an operator
abbrev pub number_fault : Rest → Option Cause
number_fault (terminal_at at (number n) rest) = None
number_fault rest = Some (misplacement expected_at_start rest)

-- the unit after a number. Before an operator (not under `no_calc`) and at the end the unit can be
-- left out if there is a default unit, and is then that unit
abbrev pub unit_read : Rules → Rest → Result (ReadItem TimeUnit) Cause
unit_read r (terminal_at at (word (Some u)) rest) = leaving rest (Ok u)
unit_read r (terminal_at at (operator op) rest) =
    if r.options.no_calc then Err (Syntax at (expected_after_number r))
    else leaving (terminal_at at (operator op) rest) (ok_or r.default_unit (Syntax at (expected_after_number r)))
unit_read r (end_at at) = leaving (end_at at) (ok_or r.default_unit (Syntax at (expected_after_number r)))
unit_read r rest = Err (misplacement (expected_after_number r) rest)

-- the operator after a unit. A number must follow it. If the operator is left out, it is plus, and
-- at the end it is `None`
abbrev pub operator_read : Rules → Rest → Result (ReadItem (Option CondUnit)) Cause
operator_read r (terminal_at at (number n) rest) = leaving (terminal_at at (number n) rest) (Ok (Some Plus))
operator_read r (terminal_at at (operator op) rest) =
    if r.options.no_calc then Err (Syntax at (expected_after_unit r))
    else leaving rest (fault_or (number_fault rest) (Ok (Some op)))
operator_read r (end_at at) = leaving (end_at at) (Ok None)
operator_read r rest = Err (misplacement (expected_after_unit r) rest)

abbrev pub IsPlacedUpTo : ℕ → Cause → Type 0
IsPlacedUpTo at cause = ForSome (place_of cause) (λ place. place ≤ at)

abbrev pub IsPlaceless : Cause → Type 0
IsPlaceless cause = place_of cause ≡ None

-- the answer to a nonempty text whose terminals are all in this rest
abbrev pub answer_left : Rules → Rest → Result ℕ Cause
answer_left r rest =
    let terminals = terminals_left rest in
    let n = front_of r terminals in
    answer_at r (start_left n rest) (take n terminals) (drop n terminals)

abbrev pub checked_combination : CondUnit → ℕ → Result ℕ Cause → Result ℕ Cause
checked_combination op x (Ok y) = ok_or (u64_from (combination op x y)) (Overflow None)
checked_combination op x (Err cause) = Err cause

-- the total of the later terms after one more term, or the fault of that step. The first argument
-- has the operator and the total of those so far, if there are any, and `next` is the operator
-- before the new term
abbrev pub total_with : Option (CondUnit × ℕ) → CondUnit → Option ℕ → ℕ → Result ℕ Cause
total_with None next n length = checked_term None n length
total_with (Some (op, total)) next n length =
    fault_or (unless (is_same_operator op next) (Mixed op next))
    (checked_combination op total (checked_term None n length))

abbrev pub by_operator : CondUnit → Result ℕ Cause → Result (Option (CondUnit × ℕ)) Cause
by_operator op (Ok total) = Ok (Some (op, total))
by_operator op (Err cause) = Err cause

abbrev pub with_term : Result (Option (CondUnit × ℕ)) Cause → CondUnit → Option ℕ → ℕ
    → Result (Option (CondUnit × ℕ)) Cause
with_term (Ok later) next n length = by_operator next (total_with later next n length)
with_term (Err cause) next n length = Err cause

-- The result is what `f` reads from the rest, or its fault. If `f` reads an item, the rest after
-- that item is left.
abbrev pub ReadsItem : {A : Type 0} → Rules → (Rest → Result (ReadItem A) Cause) → Tokens → Tokens → Result A Cause
    → Type 0
ReadsItem r f old new result = leaving (rest_of r new) result ≡ f (rest_of r old)

-- The source stays the same. The place of a fault, if it has one, is not after the place reached.
pub record CutsOn {A : Type 0} (old new : Tokens) (result : Result A Cause) : Type 0 where
  pub same_source : source new ≡ source old
  pub reached : IfErr result (IsPlacedUpTo (cut_place new))

-- If there is an operator, a number is ahead. If there is none, the whole source is cut.
abbrev pub IsFollowed : Tokens → Option CondUnit → Type 0
IsFollowed s None = cut_place s ≡ length (source s)
IsFollowed s (Some op) = IsAhead s (Some Number)
