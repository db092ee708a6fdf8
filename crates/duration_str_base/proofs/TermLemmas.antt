-- The value of one term.
use Rattle.duration_str_base.proofs.Common.{checked_term, fault_or, Ok, Option, rules, Term, term_fault, u64_from, value_of_term, ℕ, ◌≡◌}

pub checked_term_is : (place : Option ℕ) (t : Term)
    → checked_term place (u64_from t.number) t.length ≡ fault_or (term_fault place t) (Ok (value_of_term t))
checked_term_is place t = search (rules)
