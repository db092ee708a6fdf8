-- The laws of reading, each as one statement about the definitions.
use Rattle.std.specs.Prelude.{◌≡◌, ℕ, ◌+◌, ◌*◌, ◌/◌, ◌^◌, ◌<◌, ◌≤◌, Bool, true, false, if◌then◌else◌, List, [], ◌∷◌, ◌++◌, Option, Some, None, is_some, map, ⊤, ◌↔◌, ◌≢◌, take, drop, codes, Ok, Err, ◌⊎◌, IsTrue, not, ◌==◌}
use Rattle.std.specs.Char.{is_ascii_uppercase}
use Rattle.std.specs.List.{list_all}
use Rattle.duration_str_base.specs.declared.options.Options.{Options}
use Rattle.duration_str_base.specs.declared.operator.CondUnit.{CondUnit}
use Rattle.duration_str_base.specs.declared.operator.CondUnit.TheVariants.{Plus, Star}
use Rattle.duration_str_base.specs.declared.unit.TimeUnit.{TimeUnit}
use Rattle.duration_str_base.specs.declared.cause.Cause.{Cause}
use Rattle.duration_str_base.specs.declared.cause.Cause.TheVariants.{Overflow}
use Rattle.duration_str_base.specs.declared.cause.Expected.{Expected}
use Rattle.duration_str_base.specs.Text.{Characters, operator_of, is_chinese, IsBlank, is_blank, byte_len}
use Rattle.duration_str_base.specs.Rules.{Rules, rules_with}
use Rattle.duration_str_reading.specs.Grammar.{Terminal, operator, IsSentence, IsSentenceOf, Spells, terminal_of}
use Rattle.duration_str_reading.specs.Tokens.{Token, tokens_of, lexemes_of, are_of_one_run, goes_on}
use Rattle.duration_str_reading.specs.Place.{BeginsSentence, CanFollow, IsFront}
use Rattle.duration_str_base.specs.Term.{Term, value_of_term}
use Rattle.duration_str_reading.specs.Value.{written_terms, one_second}
use Rattle.duration_str_reading.specs.Reading.{IsRead, IsRefused}
use Rattle.duration_str_reading.specs.Answer.{answer, expected_after, last_of, front_of}

abbrev pub is_operator : ℕ → Bool
is_operator c = is_some (operator_of c)

abbrev pub HasNoStar : Characters → Type 0
HasNoStar text = IsTrue (list_all (λ c. not (c == 42)) text)

abbrev pub HasNoOperator : Characters → Type 0
HasNoOperator text = IsTrue (list_all (λ c. not (is_operator c)) text)

abbrev pub HasNoCapital : Characters → Type 0
HasNoCapital text = IsTrue (list_all (λ c. not (is_ascii_uppercase c)) text)

abbrev pub HasNoChinese : Characters → Type 0
HasNoChinese text = IsTrue (list_all (λ c. not (is_chinese c)) text)

-- Two sentences that spell a text have the same lexemes. A sentence spells a text exactly if the
-- sentence's lexemes are those of the text's tokens.
pub record OneSentence : Type 0 where
  pub equal : (r : Rules) (text : Characters) (lexemes others : List Characters)
      → IsSentenceOf r lexemes text → IsSentenceOf r others text → lexemes ≡ others
  pub tokens : (r : Rules) (text : Characters) (lexemes : List Characters) → IsSentence r (map (terminal_of r) lexemes)
      → (Spells lexemes text ↔ (lexemes ≡ lexemes_of (tokens_of r.options text)))

-- These characters are a run of digits or of unit letters, or a single character that is not a
-- blank.
abbrev pub IsLexeme : Options → Characters → Type 0
IsLexeme o [] = ⊥
IsLexeme o (c ∷ cs) = (is_blank c ≡ false) × IsTrue (list_all (are_of_one_run o c) cs)

-- The rest does not continue the run of these characters.
abbrev pub EndsRun : Options → Characters → Characters → Type 0
EndsRun o [] rest = ⊤
EndsRun o (c ∷ cs) rest = goes_on o c rest ≡ false

-- The text, which starts at byte `at`, is blanks, then the token, which is as long as possible, and
-- then the rest.
pub record IsNextToken (o : Options) (at : ℕ) (text : Characters) (token : Token) (rest : Characters) : Type 0 where
  pub blanks : Characters
  pub blank : IsBlank blanks
  pub parts : text ≡ blanks ++ (token.characters ++ rest)
  pub start : token.start ≡ at + byte_len blanks
  pub is_lexeme : IsLexeme o token.characters
  pub ends : EndsRun o token.characters rest

-- The text, which starts at byte `at`, is blanks, then each token followed by blanks.
abbrev pub AreTokens : Options → ℕ → Characters → List Token → Type 0
AreTokens o at text [] = IsBlank text
AreTokens o at text (token ∷ tokens) =
    (rest : Characters) × IsNextToken o at text token rest
    × AreTokens o (token.start + byte_len token.characters) rest tokens

-- The tokens of a text are those that `tokens_of` gives, and no others.
pub record OneCut : Type 0 where
  pub are : (o : Options) (text : Characters) → AreTokens o 0 text (tokens_of o text)
  pub only : (o : Options) (text : Characters) (tokens : List Token) → AreTokens o 0 text tokens
      → tokens ≡ tokens_of o text

-- A text is either read as one value or refused for one cause.
pub record OneReading : Type 0 where
  pub some : (r : Rules) (text : Characters)
      → ((nanos : ℕ) × IsRead r text nanos) ⊎ ((cause : Cause) × IsRefused r text cause)
  pub one_value : (r : Rules) (text : Characters) (m n : ℕ) → IsRead r text m → IsRead r text n → m ≡ n
  pub one_cause : (r : Rules) (text : Characters) (c d : Cause) → IsRefused r text c → IsRefused r text d → c ≡ d
  pub not_both : (r : Rules) (text : Characters) (nanos : ℕ) (cause : Cause)
      → IsRead r text nanos → IsRefused r text cause → ⊥

-- The computed answer is the value of the text, or the cause of its refusal.
pub record AnswerIsReading : Type 0 where
  pub read : (r : Rules) (text : Characters) (nanos : ℕ) → (answer r text ≡ Ok nanos ↔ IsRead r text nanos)
  pub refused : (r : Rules) (text : Characters) (cause : Cause) → (answer r text ≡ Err cause ↔ IsRefused r text cause)

-- The table `expected_after` says what can follow the beginning of a sentence, given the last
-- terminal of that beginning. The longest prefix of the terminals that begins a sentence is the one
-- that the table allows (`front_of`).
pub record PlaceAndKinds : Type 0 where
  pub kinds : (r : Rules) (front : List Terminal) (expected : Expected) → BeginsSentence r front
      → (CanFollow r front expected ↔ (expected ≡ expected_after r (last_of None front)))
  pub no_operator : (r : Rules) (front : List Terminal) (op : CondUnit) → r.options.no_calc ≡ true
      → BeginsSentence r front → last_of None front ≢ Some (operator op)
  pub front : (r : Rules) (terminals : List Terminal)
      → IsFront r terminals (take (front_of r terminals) terminals) (drop (front_of r terminals) terminals)
  pub only : (r : Rules) (terminals front rest : List Terminal) → IsFront r terminals front rest
      → (front ≡ take (front_of r terminals) terminals) × (rest ≡ drop (front_of r terminals) terminals)

abbrev pub with_no_calc : Rules → Bool → Rules
with_no_calc r on = record r { options = record (r.options) { no_calc = on } }

abbrev pub with_lowercase : Rules → Bool → Rules
with_lowercase r on = record r { options = record (r.options) { lowercase = on } }

-- For a text without operators, `no_calc` changes neither whether it is accepted nor its value.
abbrev pub NoCalcAgrees : Type 0
NoCalcAgrees = (r : Rules) (text : Characters) (nanos : ℕ) → HasNoOperator text
    → (IsRead (with_no_calc r true) text nanos ↔ IsRead (with_no_calc r false) text nanos)

-- With the option on and with the option off, the text is read as the same value or refused for the
-- same cause.
pub record IsIdle (choice : Bool → Rules) (text : Characters) : Type 0 where
  pub value : (nanos : ℕ) → (IsRead (choice true) text nanos ↔ IsRead (choice false) text nanos)
  pub cause : (cause : Cause) → (IsRefused (choice true) text cause ↔ IsRefused (choice false) text cause)

-- `lowercase` changes nothing for a text without ASCII capitals. By the library's own table
-- `cn_unit` changes nothing for a text without the Chinese characters of the units.
pub record OptionsIdle : Type 0 where
  pub lowercase : (r : Rules) (text : Characters) → HasNoCapital text → IsIdle (with_lowercase r) text
  pub cn_unit : (default_unit : Option TimeUnit) (o : Options) (text : Characters) → HasNoChinese text
      → IsIdle (λ on. rules_with (record o { cn_unit = on }) default_unit) text

-- Two texts that one sentence spells have the same value, or are refused for the same cause.
pub record BlanksFree : Type 0 where
  pub value : (r : Rules) (a b : Characters) (lexemes : List Characters) (nanos : ℕ)
      → IsSentenceOf r lexemes a → Spells lexemes b → IsRead r a nanos → IsRead r b nanos
  pub cause : (r : Rules) (a b : Characters) (lexemes : List Characters) (cause : Cause)
      → IsSentenceOf r lexemes a → Spells lexemes b → IsRefused r a cause → IsRefused r b cause

-- If `no_calc` is off, and two accepted texts without `*` are joined by a plus, the joined text has
-- the sum of their values, or is refused as an overflow if that sum is 2^64 or more.
pub record SumOfTexts : Type 0 where
  pub below : (r : Rules) (a b : Characters) (m n : ℕ) → r.options.no_calc ≡ false → HasNoStar a → HasNoStar b
      → IsRead r a m → IsRead r b n → m + n < 2 ^ 64 → IsRead r (a ++ codes "+" ++ b) (m + n)
  pub above : (r : Rules) (a b : Characters) (m n : ℕ) → r.options.no_calc ≡ false → HasNoStar a → HasNoStar b
      → IsRead r a m → IsRead r b n → 2 ^ 64 ≤ m + n → IsRefused r (a ++ codes "+" ++ b) (Overflow None)

-- how often a number is in a list
abbrev pub times_in : ℕ → List ℕ → ℕ
times_in n [] = 0
times_in n (m ∷ ms) = (if m == n then 1 else 0) + times_in n ms

-- Every operator that is written is plus.
abbrev pub AllPlus : List Terminal → Type 0
AllPlus [] = ⊤
AllPlus (operator op ∷ terminals) = (op ≡ Plus) × AllPlus terminals
AllPlus (terminal ∷ terminals) = AllPlus terminals

-- By the library's own table: if the terms of two sums have the same values, maybe in another
-- order, and one sum is accepted, the other sum is accepted too, and has the same value.
abbrev pub Reorder : Type 0
Reorder =
    (default_unit : Option TimeUnit) (o : Options) (a b : Characters) (lexemes others : List Characters) (nanos : ℕ)
    → let r = rules_with o default_unit in
    IsSentenceOf r lexemes a → IsSentenceOf r others b
    → AllPlus (map (terminal_of r) lexemes) → AllPlus (map (terminal_of r) others)
    → ((n : ℕ) → times_in n (map value_of_term (written_terms r lexemes))
    ≡ times_in n (map value_of_term (written_terms r others)))
    → IsRead r a nanos → IsRead r b nanos

-- A sentence of two terms joined by `*` is read exactly if both numbers, both terms and their
-- product are below 2^64, and it is read as that product. The product is that of the terms in
-- seconds, rounded down to nanoseconds. If the terms are exchanged, it is read as the same value.
pub record TwoFactors : Type 0 where
  pub product : (r : Rules) (text : Characters) (lexemes : List Characters) (t u : Term) (nanos : ℕ)
      → IsSentenceOf r lexemes text → written_terms r lexemes ≡ t ∷ u ∷ [] → u.operator ≡ Star
      → (IsRead r text nanos ↔ ((t.number < 2 ^ 64) × (value_of_term t < 2 ^ 64)
      × (u.number < 2 ^ 64) × (value_of_term u < 2 ^ 64)
      × (nanos < 2 ^ 64) × (nanos ≡ value_of_term t * value_of_term u / one_second)))
  pub exchanged : (r : Rules) (a b : Characters) (lexemes others : List Characters) (t u v w : Term) (nanos : ℕ)
      → IsSentenceOf r lexemes a → IsSentenceOf r others b
      → written_terms r lexemes ≡ t ∷ u ∷ [] → u.operator ≡ Star
      → written_terms r others ≡ v ∷ w ∷ [] → w.operator ≡ Star
      → v.number ≡ u.number → v.length ≡ u.length → w.number ≡ t.number → w.length ≡ t.length
      → IsRead r a nanos → IsRead r b nanos
