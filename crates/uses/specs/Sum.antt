-- Texts that add parts.
use Rattle.std.specs.Prelude.{◌≡◌, ℕ, List, map}
use Rattle.uses.specs.Common.{Plus, terminal_of, IsSentenceOf, AllPlus, Rules, written_terms}
use Rattle.uses.specs.declared.product.Part.{Part}
use Rattle.uses.specs.Product.{term_of_part}

-- By these rules the text is an expression without `*`, and its terms are these parts, in this
-- order.
pub record Adds (r : Rules) (parts : List Part) (text : List ℕ) : Type 0 where
  pub lexemes : List (List ℕ)
  pub spells : IsSentenceOf r lexemes text
  pub plus : AllPlus (map (terminal_of r) lexemes)
  pub terms : written_terms r lexemes ≡ map (term_of_part Plus) parts
