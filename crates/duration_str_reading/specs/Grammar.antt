-- Terminals, sentences, and the texts that a sentence spells.
use Rattle.std.specs.Prelude.{◌≡◌, ℕ, false, List, [], ◌∷◌, ◌++◌, Option, Some, None, IsSome, if◌then◌else◌, map, ⊤}
use Rattle.std.specs.List.{list_all}
use Rattle.duration_str_base.specs.declared.unit.TimeUnit.{TimeUnit}
use Rattle.duration_str_base.specs.declared.operator.CondUnit.{CondUnit}
use Rattle.duration_str_base.specs.Text.{Characters, is_digit, is_unit_letter, operator_of, IsBlank, number_of}
use Rattle.duration_str_base.specs.Rules.{Rules, unit_of_word}

-- A symbol of the grammar. No sentence contains `other`, or a word that names no unit.
pub data Terminal : Type 0 where
  number : ℕ → Terminal
  word : Option TimeUnit → Terminal
  operator : CondUnit → Terminal
  other : Terminal

-- the terminal of an operator, or `other` if there is none
abbrev pub operator_or_other : Option CondUnit → Terminal
operator_or_other None = other
operator_or_other (Some op) = operator op

-- the terminal of characters that are neither all digits nor all unit letters
abbrev pub sign_terminal : Characters → Terminal
sign_terminal (c ∷ []) = operator_or_other (operator_of c)
sign_terminal _ = other

-- the terminal that these characters stand for. Digits are a number, unit letters are a word with
-- the unit that it names, if any, `+` and `*` are operators, and anything else is `other`
abbrev pub terminal_of : Rules → Characters → Terminal
terminal_of r [] = other
terminal_of r (c ∷ cs) =
    if list_all is_digit (c ∷ cs) then number (number_of (c ∷ cs))
    else if list_all (is_unit_letter r.options) (c ∷ cs) then word (unit_of_word r (c ∷ cs))
    else sign_terminal (c ∷ cs)

-- The terminals are a sentence S of this grammar:
-- S = Number | Number Unit | Number Op S | Number Unit Op S | Number Unit S
-- Under `no_calc` it is:
-- S = Number | Number Unit | Number Unit S
-- A number without a unit has the default unit. If there is no default unit, the alternatives in
-- which a number has no unit are left out.
abbrev pub IsSentence : Rules → List Terminal → Type 0
IsSentence r (number n ∷ []) = IsSome r.default_unit
IsSentence r (number n ∷ operator op ∷ more) =
    IsSome r.default_unit × (r.options.no_calc ≡ false) × IsSentence r more
IsSentence r (number n ∷ word (Some u) ∷ []) = ⊤
IsSentence r (number n ∷ word (Some u) ∷ operator op ∷ more) = (r.options.no_calc ≡ false) × IsSentence r more
IsSentence r (number n ∷ word (Some u) ∷ number m ∷ more) = IsSentence r (number m ∷ more)
IsSentence r _ = ⊥

-- The text is blanks, the lexeme, and a rest for which `IsRest` holds.
pub record BeginsWith (lexeme : Characters) (IsRest : Characters → Type 0) (text : Characters) : Type 0 where
  pub blanks : Characters
  pub rest : Characters
  pub blank : IsBlank blanks
  pub parts : text ≡ blanks ++ (lexeme ++ rest)
  pub is_rest : IsRest rest

-- The text is blanks, then each lexeme followed by blanks. Here a lexeme need not be as long as
-- possible: `3` and `1` spell `31`.
abbrev pub Spells : List Characters → Characters → Type 0
Spells [] text = IsBlank text
Spells (w ∷ lexemes) text = BeginsWith w (Spells lexemes) text

-- The lexemes stand for the terminals of a sentence, and they spell the text.
abbrev pub IsSentenceOf : Rules → List Characters → Characters → Type 0
IsSentenceOf r lexemes text = IsSentence r (map (terminal_of r) lexemes) × Spells lexemes text
