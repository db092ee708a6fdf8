-- One term by itself: its value, and its fault.
use Rattle.std.specs.Prelude.{ℕ, ◌<◌, Option, Some, None, Result, Ok, Err, IsTrue, length, ◌*◌, ◌^◌, Bool, true, false, nat_lt}
use Rattle.std.specs.List.{list_all}
use Rattle.duration_str_base.specs.declared.cause.Cause.{Cause}
use Rattle.duration_str_base.specs.declared.operator.CondUnit.TheVariants.{Plus}
use Rattle.duration_str_base.specs.declared.unit.TimeUnit.{TimeUnit}
use Rattle.duration_str_base.specs.Text.{Characters, is_digit}
use Rattle.duration_str_base.specs.Units.{nanos_of}
use Rattle.duration_str_base.specs.declared.operator.CondUnit.{CondUnit}
use Rattle.duration_str_base.specs.declared.cause.Cause.TheVariants.{NumberTooLarge, Overflow}

-- a term: the operator before it, its number, and its unit's length in nanoseconds
pub record Term : Type 0 where
  pub operator : CondUnit
  pub number : ℕ
  pub length : ℕ

-- the value of a term in nanoseconds
abbrev pub value_of_term : Term → ℕ
value_of_term t = t.number * t.length

-- whether a number is below 2^64
abbrev pub fits : ℕ → Bool
fits n = nat_lt n (2 ^ 64)

-- the first cause if there is one, and otherwise the second one
abbrev pub or_else : Option Cause → Option Cause → Option Cause
or_else (Some cause) _ = Some cause
or_else None next = next

-- the cause if the condition is false, and otherwise none
abbrev pub unless : Bool → Cause → Option Cause
unless true _ = None
unless false cause = Some cause

-- the fault of a single term, if it has one: its number is 2^64 or more, or otherwise its value is
abbrev pub term_fault : Option ℕ → Term → Option Cause
term_fault place t =
    or_else (unless (fits t.number) (NumberTooLarge place)) (unless (fits (value_of_term t)) (Overflow place))

abbrev pub IsNumber : Characters → Type 0
IsNumber text = (0 < length text) × IsTrue (list_all is_digit text)

abbrev pub term_of : ℕ → TimeUnit → Term
term_of n u = record { operator = Plus; number = n; length = nanos_of u }

-- the fault if there is one, and otherwise the result
abbrev pub fault_or : {A : Type 0} → Option Cause → Result A Cause → Result A Cause
fault_or (Some cause) result = Err cause
fault_or None result = result

-- the value of a term, or its fault with this place
abbrev pub term_answer : Option ℕ → Term → Result ℕ Cause
term_answer place t = fault_or (term_fault place t) (Ok (value_of_term t))
