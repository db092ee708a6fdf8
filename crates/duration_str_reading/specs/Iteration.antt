-- Definitions for the iterator `Tokens`, such as the tokens that are left.
use Rattle.std.specs.Prelude.{◌≡◌, ℕ, ◌+◌, List, length, Option, IfSome, IfNone, slice_range, chars, drop}
use Rattle.std.specs.Iterator.{YieldsFirstBy}
use Rattle.duration_str_base.specs.declared.options.Options.{Options}
use Rattle.duration_str_reading.specs.declared.token.What.{What}
use Rattle.duration_str_reading.specs.declared.token.What.TheVariants as whats
use Rattle.duration_str_reading.specs.declared.token.Token.{Token as RustToken}
use Rattle.duration_str_reading.specs.declared.token.Tokens.{Tokens}
use Rattle.duration_str_base.specs.Text.{Bytes}
use Rattle.duration_str_base.specs.Rules.{rules_of}
use Rattle.duration_str_reading.specs.Grammar.{Terminal, number, word, operator, other, terminal_of}
use Rattle.duration_str_reading.specs.Tokens.{Token, tokens_from}

abbrev pub what_of : Terminal → What
what_of (number n) = whats.Number
what_of (word u) = whats.Word u
what_of (operator op) = whats.Operator op
what_of other = whats.Other

-- the bytes of the text being cut
abbrev pub source : Tokens → Bytes
source s = s.eye.text.now

abbrev pub options_of : Tokens → Options
options_of s = s.options

-- the byte up to which the text is cut
abbrev pub cut_place : Tokens → ℕ
cut_place s = s.eye.place

-- how many times a character of the text was looked at
abbrev pub looks_of : Tokens → ℕ
looks_of s = s.eye.looks

abbrev pub tokens_left : Tokens → List Token
tokens_left s = tokens_from s.options s.eye.place (chars (drop s.eye.place s.eye.text.now))

-- the code's token as its start and its characters
abbrev pub token_of : RustToken → Token
token_of t = record { start = t.start; characters = chars t.text.now }

pub record KeepsInput (old new : Tokens) : Type 0 where
  pub text : source new ≡ source old
  pub options : options_of new ≡ options_of old

-- The token is the text from the token's start to `place`, and its `what` fits its characters.
pub record IsCutAt (o : Options) (text : Bytes) (place : ℕ) (token : RustToken) : Type 0 where
  pub end : place ≡ token.start + length token.text.now
  pub slice : token.text.now ≡ slice_range text token.start place
  pub sort : token.what ≡ what_of (terminal_of (rules_of o) (chars token.text.now))

-- The call returns the first token that is left. If none is left, the whole text is cut.
pub record YieldsNextToken (old : Tokens) (result : Option RustToken) (new : Tokens) : Type 0 where
  pub first : YieldsFirstBy token_of tokens_left old result new
  pub kept : KeepsInput old new
  pub token : IfSome result (IsCutAt (options_of old) (source old) (cut_place new))
  pub end : IfNone result (cut_place new ≡ length (source old))
