use Rattle.duration_str_laws.proofs.Common.{[], arith, IsRead, IsSentenceOf, List, mul-div_cancel, mul_comm, refl, Rules, one_second, Some, Star, Term, TwoFactors, value_of, value_of_term, written_terms, ℕ, ◌*◌, ◌/◌, ◌<◌, ◌^◌, ◌↔◌, ◌∷◌, ◌≡◌}
use Rattle.duration_str_reading.proofs.Sentences.SumLemmas.{no_fault}
use Rattle.duration_str_reading.proofs.Sentences.AnswerLemmas.{read_sentence}

abbrev Fit : Term → Term → ℕ → Type 0
Fit t u nanos =
    (t.number < 2 ^ 64) × (value_of_term t < 2 ^ 64) × (u.number < 2 ^ 64) × (value_of_term u < 2 ^ 64)
    × (nanos < 2 ^ 64) × (nanos ≡ value_of_term t * value_of_term u / one_second)

one_step : (x : ℕ) → one_second * x / one_second ≡ x
one_step x = rw mul_comm (mul-div_cancel x (omega arith))

product_value : (t u : Term) → u.operator ≡ Star
    → value_of (t ∷ u ∷ []) ≡ Some (value_of_term t * value_of_term u / one_second)
product_value t u e = rw (e, one_step (value_of_term u))

product : (r : Rules) (text : List ℕ) (lexemes : List (List ℕ)) (t u : Term)
    (nanos : ℕ)
    → IsSentenceOf r lexemes text → written_terms r lexemes ≡ t ∷ u ∷ []
    → u.operator ≡ Star
    → (IsRead r text nanos ↔ Fit t u nanos)
product r text lexemes t u nanos s terms e = (
  λ is_read. let read = read_sentence lexemes s is_read in
      let first = simp no_fault at (rw terms at read.evaluates).0 in
      let later = simp (no_fault, one_step) at (rw (terms, e) at read.evaluates).1 in
      let value : nanos ≡ value_of_term t * value_of_term u / one_second =
      cc (rw terms at read.value, product_value t u e) in
      (first.0, first.1, later.0.0.0, later.0.0.1, rw value later.1, value),
  λ f. record {
    lexemes = lexemes;
    spells = s;
    evaluates = rw terms (
      simp no_fault (f.0, f.1),
      rw e (simp (no_fault, one_step) (((f.2, f.3), (f.3, refl)), rw f.5 at f.4)),
    );
    value = rw (terms, product_value t u e, f.5);
  },
)

pub two_factors_hold : TwoFactors
two_factors_hold = record {
  product = product;
  exchanged =
      λ r a b lexemes others t u v w nanos s s' terms e terms' e' number length other_number other_length read.
      let f = (product r a lexemes t u nanos s terms e).0 read in
      (product r b others v w nanos s' terms' e').1
      (rw (number, length, other_number, other_length, mul_comm (value_of_term u)) (f.2, f.3, f.0, f.1, f.4, f.5));
}
