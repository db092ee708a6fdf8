-- Parts, each a number of units, and the texts that multiply two parts.
use Rattle.std.specs.Prelude.{◌≡◌, ℕ, ◌*◌, List, [], ◌∷◌, ◌⊎◌}
use Rattle.uses.specs.Common.{Plus, Star, nanos_of, IsSentenceOf, Rules, Term, written_terms}
use Rattle.duration_str_base.specs.declared.operator.CondUnit.{CondUnit}
use Rattle.uses.specs.declared.product.Part.{Part}

abbrev pub nanos_in : Part → ℕ
nanos_in part = part.number * nanos_of part.unit

abbrev pub term_of_part : CondUnit → Part → Term
term_of_part op part = record { operator = op; number = part.number; length = nanos_of part.unit }

-- By these rules the text is an expression whose terms are these two parts, joined by `*`.
pub record Multiplies (r : Rules) (first later : Part) (text : List ℕ) : Type 0 where
  pub lexemes : List (List ℕ)
  pub spells : IsSentenceOf r lexemes text
  pub terms : written_terms r lexemes ≡ term_of_part Plus first ∷ term_of_part Star later ∷ []

abbrev pub MultipliesInEitherOrder : Rules → Part → Part → List ℕ → Type 0
MultipliesInEitherOrder r rate length text = Multiplies r rate length text ⊎ Multiplies r length rate text
