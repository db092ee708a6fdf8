-- The terms of a sentence, their value, and their faults.
use Rattle.std.specs.Prelude.{◌≡◌, ℕ, ◌+◌, ◌*◌, ◌/◌, Bool, true, false, List, [], ◌∷◌, ◌++◌, Option, Some, None, if◌then◌else◌, map, unwrap_or}
use Rattle.std.specs.List.{list_all, fold}
use Rattle.duration_str_base.specs.declared.unit.TimeUnit.TheVariants.{Second}
use Rattle.duration_str_base.specs.declared.operator.CondUnit.{CondUnit}
use Rattle.duration_str_base.specs.declared.operator.CondUnit.TheVariants.{Plus, Star}
use Rattle.duration_str_base.specs.declared.cause.Cause.{Cause}
use Rattle.duration_str_base.specs.declared.cause.Cause.TheVariants.{Overflow, Mixed}
use Rattle.duration_str_base.specs.Text.{Characters}
use Rattle.duration_str_base.specs.Units.{nanos_of}
use Rattle.duration_str_base.specs.Rules.{Rules}
use Rattle.duration_str_reading.specs.Grammar.{Terminal, number, word, operator, terminal_of}
use Rattle.duration_str_base.specs.Term.{Term, value_of_term, fits, or_else, unless, term_fault}

abbrev pub one_second : ℕ
one_second = nanos_of Second

-- the terms that these terminals write after the operator `op`. If an operator is left out, it is
-- plus. If a unit is left out, it is the default unit. If there is no default unit, a sentence
-- leaves no unit out, so `Second` is then not used
abbrev pub terms_after : Rules → CondUnit → List Terminal → List Term
terms_after r op (number n ∷ word (Some u) ∷ more) =
    record { operator = op; number = n; length = (r.table u).nanos } ∷ terms_after r Plus more
terms_after r op (number n ∷ more) =
    record { operator = op; number = n; length = (r.table (unwrap_or r.default_unit Second)).nanos }
    ∷ terms_after r Plus more
terms_after r op (operator next ∷ more) = terms_after r next more
terms_after r op _ = []

-- the terms of a sentence. The operator of the first term is plus, and has no effect
abbrev pub terms_of : Rules → List Terminal → List Term
terms_of r terminals = terms_after r Plus terminals

-- the terms that the lexemes of a sentence write
abbrev pub written_terms : Rules → List Characters → List Term
written_terms r lexemes = terms_of r (map (terminal_of r) lexemes)

abbrev pub is_same_operator : CondUnit → CondUnit → Bool
is_same_operator Plus Plus = true
is_same_operator Star Star = true
is_same_operator _ _ = false

-- the sum of the terms' values
abbrev pub sum_of : List Term → ℕ
sum_of [] = 0
sum_of (t ∷ terms) = value_of_term t + sum_of terms

-- the nanoseconds of the product of the terms' values in seconds. It is computed from left to
-- right, and each step is rounded down to nanoseconds
abbrev pub product_of : List Term → ℕ
product_of terms = fold (λ p t. p * value_of_term t / one_second) one_second terms

-- the total of the later terms: their sum or their product
abbrev pub later_total : CondUnit → List Term → ℕ
later_total Plus later = sum_of later
later_total Star later = product_of later

-- `x` and `rest` combined: their sum, or their product in seconds, rounded down to nanoseconds
abbrev pub combination : CondUnit → ℕ → ℕ → ℕ
combination Plus x rest = x + rest
combination Star x rest = x * rest / one_second

-- the value of a sentence in nanoseconds, given its terms. It is `None` if there are no terms, or
-- if the operators are mixed. The first term is combined last: in `a*b*c` it is multiplied by the
-- product of `b` and `c`, which is rounded down first
abbrev pub value_of : List Term → Option ℕ
value_of [] = None
value_of (t ∷ []) = Some (value_of_term t)
value_of (t ∷ u ∷ later) =
    if list_all (λ v. is_same_operator u.operator v.operator) later
    then Some (combination u.operator (value_of_term t) (later_total u.operator (u ∷ later)))
    else None

-- the first fault of these later terms, given those before them, which have no fault. For each
-- term, an operator other than `op` comes first, then the fault of the term, then a total of 2^64
-- or more. `op` is the operator of the first later term
abbrev pub fault_of_terms : CondUnit → List Term → List Term → Option Cause
fault_of_terms op before [] = None
fault_of_terms op before (t ∷ later) =
    or_else (unless (is_same_operator op t.operator) (Mixed op t.operator))
    (or_else (term_fault None t)
    (or_else (unless (fits (later_total op (before ++ t ∷ []))) (Overflow None))
    (fault_of_terms op (before ++ t ∷ []) later)))

-- the fault of a sentence whose first term has no fault. It is the first fault of the later terms,
-- or, if they have none, the fault of the step that combines the first term with them
abbrev pub evaluation_fault : List Term → Option Cause
evaluation_fault (t ∷ u ∷ later) =
    or_else (fault_of_terms u.operator [] (u ∷ later))
    (unless (fits (combination u.operator (value_of_term t) (later_total u.operator (u ∷ later)))) (Overflow None))
evaluation_fault _ = None

-- There is a term. Every number, term and step is below 2^64, and the operators are not mixed.
abbrev pub Evaluates : List Term → Type 0
Evaluates [] = ⊥
Evaluates (t ∷ later) = (term_fault None t ≡ None) × (evaluation_fault (t ∷ later) ≡ None)
