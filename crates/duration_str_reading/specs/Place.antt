-- The place of a syntax fault, and what could stand there.
use Rattle.std.specs.Prelude.{◌≡◌, ℕ, ◌≤◌, List, [], ◌∷◌, ◌++◌, Some, map, length, take, drop, IsTrue, ◌↔◌, chars}
use Rattle.duration_str_base.specs.declared.unit.TimeUnit.{TimeUnit}
use Rattle.duration_str_base.specs.declared.operator.CondUnit.{CondUnit}
use Rattle.duration_str_base.specs.declared.cause.Expected.{Expected}
use Rattle.duration_str_base.specs.Text.{Characters, Bytes}
use Rattle.duration_str_base.specs.Rules.{Rules}
use Rattle.duration_str_reading.specs.Grammar.{Terminal, terminal_of, IsSentence, number, word, operator}
use Rattle.duration_str_reading.specs.Tokens.{Token, tokens_of, lexemes_of}
use Rattle.duration_str_base.specs.declared.cause.Cause.{Cause}
use Rattle.duration_str_base.specs.declared.cause.Cause.TheVariants.{Syntax}

-- the terminals of a text: what its tokens stand for
abbrev pub terminals_of : Rules → Characters → List Terminal
terminals_of r text = map (terminal_of r) (lexemes_of (tokens_of r.options text))

-- Some sentence starts with these terminals.
abbrev pub BeginsSentence : Rules → List Terminal → Type 0
BeginsSentence r terminals = (more : List Terminal) × IsSentence r (terminals ++ more)

-- The front is the longest start of the terminals that begins a sentence, and the rest follows it.
pub record IsFront (r : Rules) (terminals front rest : List Terminal) : Type 0 where
  pub parts : terminals ≡ front ++ rest
  pub begins : BeginsSentence r front
  pub longest : (n : ℕ) → n ≤ length terminals → BeginsSentence r (take n terminals) → n ≤ length front

-- A number, a unit or an operator is expected exactly if the front, followed by one, begins a
-- sentence. The end is expected exactly if the front is a sentence.
pub record CanFollow (r : Rules) (front : List Terminal) (expected : Expected) : Type 0 where
  pub number_expected : IsTrue expected.number ↔ ((n : ℕ) × BeginsSentence r (front ++ number n ∷ []))
  pub unit_expected : IsTrue expected.unit_word ↔ ((u : TimeUnit) × BeginsSentence r (front ++ word (Some u) ∷ []))
  pub operator_expected : IsTrue expected.operator ↔ ((op : CondUnit) × BeginsSentence r (front ++ operator op ∷ []))
  pub end_expected : IsTrue expected.text_end ↔ IsSentence r front

-- the byte at which the first token starts, or `len` if there is none
abbrev pub start_or : ℕ → List Token → ℕ
start_or len [] = len
start_or len (token ∷ tokens) = token.start

-- the byte at which the token after the first n tokens starts, or `len` if there is none
abbrev pub start_after : ℕ → ℕ → List Token → ℕ
start_after n len tokens = start_or len (drop n tokens)

-- If the cause is a syntax fault, there are at least as many looks as characters before its place.
abbrev pub ReachesPlace : Bytes → Cause → ℕ → Type 0
ReachesPlace bytes cause looks =
    (place : ℕ) (expected : Expected) → cause ≡ Syntax place expected → length (chars (take place bytes)) ≤ looks
