-- The laws of mends: what is known of a refused text with its suggestion.
use Rattle.std.specs.Prelude.{◌≡◌, ℕ, ◌+◌, ◌*◌, ◌^◌, ◌≤◌, ◌++◌, ◌<◌, ◌⊎◌, List, [], ◌∷◌, Option, Some, None, IsUtf8, chars, codes, length, IsTrue}
use Rattle.std.specs.List.{list_all}
use Rattle.duration_str_base.specs.declared.cause.Cause.{Cause}
use Rattle.duration_str_base.specs.declared.cause.Cause.TheVariants.{Syntax}
use Rattle.duration_str_base.specs.declared.cause.Expected.{Expected}
use Rattle.duration_str_base.specs.declared.options.Options.{Options}
use Rattle.duration_str_base.specs.declared.rules.Rules.{Rules as CodeRules}
use Rattle.duration_str_base.specs.declared.unit.TimeUnit.{TimeUnit}
use Rattle.duration_str_base.specs.Meaning.{meaning_of}
use Rattle.duration_str_base.specs.Rules.{Rules}
use Rattle.duration_str_base.specs.Term.{Term}
use Rattle.duration_str_help.specs.declared.suggestion.Suggestion.{Suggestion}
use Rattle.duration_str_help.specs.Mends.{meant_unit, mend_of, Pieces, suggestion_of}
use Rattle.duration_str_reading.specs.Grammar.{Terminal, number, word}
use Rattle.duration_str_reading.specs.Place.{terminals_of}
use Rattle.duration_str_reading.specs.Reading.{IsRead, IsRefused}
use Rattle.duration_str_reading.specs.Tokens.{Token, tokens_from, tokens_of}
use Rattle.duration_str_reading.specs.Value.{terms_of, value_of}
use Rattle.duration_str_base.specs.Text.{Bytes, Characters, IsBlank, is_digit, number_of}

-- the text with the suggestion, in place of the part that it replaces
abbrev pub mended_text : Pieces → Bytes
mended_text new = new.front ++ (new.written ++ new.rest)

-- A text is refused, and it has a mend. If the text with the suggestion, read by the same rules,
-- has a syntax fault, then not before the end of the suggestion.
abbrev pub MendedTexts : Type 0
MendedTexts =
    (s : CodeRules) (text : Bytes) (cause : Cause) (new : Pieces) → IsUtf8 text
    → IsRefused (meaning_of s) (chars text) cause → mend_of (meaning_of s) text cause ≡ Some new
    → (later : ℕ) (others : Expected)
    → IsRefused (meaning_of s) (chars (mended_text new)) (Syntax later others)
    → length new.front + length new.written ≤ later

-- The tokens of the text are those of the front, those of the middle, and those of the rest, each
-- at its place in the text. So no token has characters of two of these parts.
abbrev pub HasTokensOf : Options → Bytes → Bytes → Bytes → Bytes → Type 0
HasTokensOf o text front middle rest =
    tokens_of o (chars text)
    ≡ tokens_of o (chars front)
    ++ (tokens_from o (length front) (chars middle) ++ tokens_from o (length front + length middle) (chars rest))

-- A text is refused, and it has a mend. Then each token of the text is a token of the front, of the
-- part that is replaced, or of the rest.
abbrev pub RefusedTokens : Type 0
RefusedTokens =
    (s : CodeRules) (text : Bytes) (cause : Cause) (new : Pieces) → IsUtf8 text
    → IsRefused (meaning_of s) (chars text) cause → mend_of (meaning_of s) text cause ≡ Some new
    → HasTokensOf s.options text new.front new.replaced new.rest

-- The text with the suggestion has the tokens of the front, of the suggestion, and of the rest.
abbrev pub KeepsTokens : Options → Pieces → Type 0
KeepsTokens o new = HasTokensOf o (mended_text new) new.front new.written new.rest

-- A `_` or a `'` is removed, and the front's last token and the rest's first one are digits. Then
-- they are one token, with the digits of the first and then those of the second. All other tokens
-- are those of the front and of the rest.
pub record JoinsNumbers (o : Options) (new : Pieces) : Type 0 where
  pub separator : (new.replaced ≡ codes "_") ⊎ (new.replaced ≡ codes "'")
  pub removed : new.written ≡ []
  pub before : List Token
  pub start : ℕ
  pub digits : Characters
  pub more : Characters
  pub after : List Token
  pub are_digits : IsTrue (list_all is_digit (digits ++ more))
  pub front : tokens_of o (chars new.front) ≡ before ++ record { start = start; characters = digits } ∷ []
  pub rest : tokens_from o (length new.front) (chars new.rest)
      ≡ record { start = length new.front; characters = more } ∷ after
  pub joined : tokens_of o (chars (mended_text new)) ≡ before ++ record { start = start; characters = digits ++ more } ∷ after

-- A text is refused, and it has a mend. Then each token of the front, of the suggestion and of the
-- rest is a token of the text with the suggestion, except that `_` or `'` can join two numbers.
abbrev pub MendedTokens : Type 0
MendedTokens =
    (s : CodeRules) (text : Bytes) (cause : Cause) (new : Pieces) → IsUtf8 text
    → IsRefused (meaning_of s) (chars text) cause → mend_of (meaning_of s) text cause ≡ Some new
    → KeepsTokens s.options new ⊎ JoinsNumbers s.options new

abbrev pub said_count : Option ℕ → List Terminal
said_count (Some count) = number count ∷ []
said_count None = []

abbrev pub said_unit : Option TimeUnit → List Terminal
said_unit (Some unit) = word (Some unit) ∷ []
said_unit None = []

-- the terminals that a suggestion says: its count as a number, and a word that names its unit
abbrev pub said : Suggestion → List Terminal
said suggestion = said_count suggestion.count ++ said_unit suggestion.unit

-- The bytes of a suggestion stand for what it says, by the rules by which the text is refused.
abbrev pub WrittenIsSaid : Type 0
WrittenIsSaid =
    (s : CodeRules) (text : Bytes) (cause : Cause) (new : Pieces) (suggestion : Suggestion) → IsUtf8 text
    → IsRefused (meaning_of s) (chars text) cause → mend_of (meaning_of s) text cause ≡ Some new
    → suggestion_of (meaning_of s) text cause ≡ Some suggestion
    → terminals_of (meaning_of s) (chars new.written) ≡ said suggestion

-- A number with a point and one or more digits after it, blanks, and a word that means this unit.
pub record IsFraction (s : CodeRules) (text whole decimals : Bytes) (unit : TimeUnit) : Type 0 where
  pub blanks : Bytes
  pub word : Bytes
  pub parts : text ≡ whole ++ (codes "." ++ (decimals ++ (blanks ++ word)))
  pub whole_digits : IsTrue (list_all is_digit whole)
  pub decimal_digits : IsTrue (list_all is_digit decimals)
  pub some_decimal : 1 ≤ length decimals
  pub blank : IsBlank blanks
  pub means : meant_unit (meaning_of s) (chars word) ≡ Some unit

-- A text that is only a number with a fraction and its unit is refused, and it has a mend. Then the
-- text with the suggestion, read by the same rules, has a value. This value, times 10 for each
-- digit after the point, is the number without its point times the unit's length.
abbrev pub MendedFractions : Type 0
MendedFractions =
    (s : CodeRules) (text whole decimals : Bytes) (unit : TimeUnit) (cause : Cause) (new : Pieces) → IsUtf8 text
    → IsFraction s text whole decimals unit
    → IsRefused (meaning_of s) (chars text) cause → mend_of (meaning_of s) text cause ≡ Some new
    → (nanos : ℕ) × IsRead (meaning_of s) (chars (mended_text new)) nanos
    × (nanos * 10 ^ length decimals ≡ number_of (whole ++ decimals) * ((meaning_of s).table unit).nanos)

-- Each such text that is refused for a syntax fault, and whose value is a whole number of
-- nanoseconds below 2^64, has a mend. It replaces the whole text.
abbrev pub FractionsAreMended : Type 0
FractionsAreMended =
    (s : CodeRules) (text whole decimals : Bytes) (unit : TimeUnit) (place : ℕ) (expected : Expected) (nanos : ℕ)
    → IsUtf8 text → IsFraction s text whole decimals unit → IsRefused (meaning_of s) (chars text) (Syntax place expected)
    → nanos * 10 ^ length decimals ≡ number_of (whole ++ decimals) * ((meaning_of s).table unit).nanos → nanos < 2 ^ 64
    → (new : Pieces) × (mend_of (meaning_of s) text (Syntax place expected) ≡ Some new) × (new.front ≡ []) × (new.rest ≡ [])

-- A number with a point and one or more digits after it, and without a unit, if this is the default
-- unit.
pub record IsBareFraction (s : CodeRules) (text whole decimals : Bytes) (unit : TimeUnit) : Type 0 where
  pub parts : text ≡ whole ++ (codes "." ++ decimals)
  pub digits : IsTrue (list_all is_digit (whole ++ decimals))
  pub some : 1 ≤ length decimals
  pub default : s.default_unit ≡ Some unit

-- The text is a number with a fraction, and this count of this unit is its value: times 10 for each
-- digit after the point, it is the number without its point times the length of the number's unit.
pub record IsExactly (s : CodeRules) (text : Bytes) (count : ℕ) (counted : TimeUnit) : Type 0 where
  pub whole : Bytes
  pub decimals : Bytes
  pub unit : TimeUnit
  pub fraction : IsFraction s text whole decimals unit ⊎ IsBareFraction s text whole decimals unit
  pub exact : count * ((meaning_of s).table counted).nanos * 10 ^ length decimals
      ≡ number_of (whole ++ decimals) * ((meaning_of s).table unit).nanos

-- the terms of the front with this number and this unit after it, and then the terms of the rest
abbrev pub terms_around : Rules → Pieces → ℕ → TimeUnit → List Term
terms_around r new count unit =
    terms_of r (terminals_of r (chars new.front) ++ number count ∷ word (Some unit) ∷ [])
    ++ terms_of r (terminals_of r (chars new.rest))

-- A text is refused, it has a mend, and the mend's suggestion has a count. Then the replaced part
-- is a number with a fraction, and the suggestion is exactly its value. If the text with the
-- suggestion is read, its value is that of the front's terms, the suggestion as one term, and the
-- rest's terms.
abbrev pub MendedValues : Type 0
MendedValues =
    (s : CodeRules) (text : Bytes) (cause : Cause) (new : Pieces) (count : ℕ) (unit : TimeUnit) → IsUtf8 text
    → IsRefused (meaning_of s) (chars text) cause → mend_of (meaning_of s) text cause ≡ Some new
    → suggestion_of (meaning_of s) text cause ≡ Some (record { count = Some count; unit = Some unit })
    → IsExactly s new.replaced count unit
    × ((nanos : ℕ) → IsRead (meaning_of s) (chars (mended_text new)) nanos
    → value_of (terms_around (meaning_of s) new count unit) ≡ Some nanos)
