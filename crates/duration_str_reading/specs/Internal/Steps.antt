-- What the private calls of `Tokens` do: they look ahead, and take the token ahead.
use Rattle.std.specs.Prelude.{◌≡◌, ℕ, Bool, true, false, ◌∷◌, Option, Some, None, ⊤, if◌then◌else◌}
use Rattle.duration_str_base.specs.declared.options.Options.{Options}
use Rattle.duration_str_base.specs.declared.operator.CondUnit.{CondUnit}
use Rattle.duration_str_reading.specs.declared.token.TokenStart.{TokenStart}
use Rattle.duration_str_reading.specs.declared.token.TokenStart.TheVariants as sorts
use Rattle.duration_str_reading.specs.declared.token.Tokens.{Tokens}
use Rattle.duration_str_base.specs.Text.{Characters, is_blank, is_digit, is_unit_letter, operator_of}
use Rattle.duration_str_base.specs.Rules.{Rules}
use Rattle.duration_str_reading.specs.Grammar.{Terminal, number, word, operator, other, terminal_of}
use Rattle.duration_str_reading.specs.Iteration.{source, options_of, cut_place, tokens_left, KeepsInput}
use Rattle.duration_str_base.specs.Internal.Numbers.{u64_from}
use Rattle.duration_str_base.specs.Internal.Positions.{Between}

-- ---- Sorts

abbrev pub sign_sort : Option CondUnit → TokenStart
sign_sort (Some op) = sorts.Operator op
sign_sort None = sorts.Other

abbrev pub sort_at : Options → ℕ → TokenStart
sort_at o c = if is_digit c then sorts.Number else if is_unit_letter o c then sorts.Word else sign_sort (operator_of c)

abbrev pub sort_of : Terminal → TokenStart
sort_of (number n) = sorts.Number
sort_of (word u) = sorts.Word
sort_of (operator op) = sorts.Operator op
sort_of other = sorts.Other

-- ---- What is ahead

pub record StartsToken (s : Tokens) (sort : TokenStart) : Type 0 where
  pub character : ℕ
  pub is_head : s.head ≡ Some character
  pub not_blank : is_blank character ≡ false
  pub is_sort : sort ≡ sort_at (options_of s) character

-- A token of this sort is ahead. `None` means that the text ends here.
abbrev pub IsAhead : Tokens → Option TokenStart → Type 0
IsAhead s None = s.head ≡ None
IsAhead s (Some sort) = StartsToken s sort

-- Blanks are skipped, so the same tokens are left, and a token of this sort is ahead. `None` means
-- that the text ends here.
pub record LooksAhead (old new : Tokens) (sort : Option TokenStart) : Type 0 where
  pub kept : KeepsInput old new
  pub same_left : tokens_left new ≡ tokens_left old
  pub ahead : IsAhead new sort

abbrev pub is_number : Option TokenStart → Bool
is_number (Some sorts.Number) = true
is_number _ = false

pub record LooksForNumber (old new : Tokens) (answer : Bool) : Type 0 where
  pub sort : Option TokenStart
  pub look : LooksAhead old new sort
  pub is_answer : answer ≡ is_number sort

-- A token of this sort is a single character that is neither a digit nor a unit letter.
abbrev pub IsSign : TokenStart → Type 0
IsSign sorts.Number = ⊥
IsSign sorts.Word = ⊥
IsSign _ = ⊤

-- ---- What is taken

abbrev pub rules_at : Rules → Tokens → Rules
rules_at r s = record r { options = options_of s }

-- The first token that is left is taken. It starts at the place of `old`, and stands for this
-- terminal by these rules with the options of `old`.
pub record TakesToken (r : Rules) (old new : Tokens) (terminal : Terminal) : Type 0 where
  pub characters : Characters
  pub kept : KeepsInput old new
  pub first : tokens_left old ≡ record { start = cut_place old; characters = characters } ∷ tokens_left new
  pub between : Between (source old) (cut_place old) (cut_place new) characters
  pub is_terminal : terminal ≡ terminal_of (rules_at r old) characters

-- The first token that is left is taken. By all rules it is a number, and `value` is `None` if it
-- is 2^64 or more.
pub record TakesNumber (old new : Tokens) (value : Option ℕ) : Type 0 where
  pub n : ℕ
  pub kept : KeepsInput old new
  pub token : (r : Rules) → TakesToken r old new (number n)
  pub is_value : value ≡ u64_from n

pub record TakesTokenWith (r : Rules) (old new : Tokens) (Has : Terminal → Type 0) : Type 0 where
  pub terminal : Terminal
  pub token : TakesToken r old new terminal
  pub has : Has terminal

-- If a sign (`IsSign`) is ahead, it is taken. It stands for a terminal of its sort.
abbrev pub TakesSign : Tokens → Tokens → Type 0
TakesSign old new =
    (r : Rules) (sort : TokenStart) → IsSign sort → IsAhead old (Some sort)
    → TakesTokenWith r old new (λ terminal. sort ≡ sort_of terminal)
