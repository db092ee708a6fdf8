-- When a text is read as a value, and when it is refused for a cause.
use Rattle.std.specs.Prelude.{◌≡◌, ℕ, List, [], ◌∷◌, ◌++◌, Option, Some, None, if◌then◌else◌, is_some, length}
use Rattle.duration_str_base.specs.declared.cause.Cause.{Cause}
use Rattle.duration_str_base.specs.declared.cause.Cause.TheVariants.{Empty, Syntax, Overflow}
use Rattle.duration_str_base.specs.declared.cause.Expected.{Expected}
use Rattle.duration_str_base.specs.Text.{Characters, byte_len}
use Rattle.duration_str_base.specs.Rules.{Rules}
use Rattle.duration_str_reading.specs.Grammar.{Terminal, IsSentence, IsSentenceOf, number}
use Rattle.duration_str_reading.specs.Tokens.{tokens_of}
use Rattle.duration_str_reading.specs.Place.{IsFront, CanFollow, start_after, terminals_of}
use Rattle.duration_str_base.specs.Term.{Term, term_fault, fits, or_else, unless}
use Rattle.duration_str_reading.specs.Value.{sum_of, terms_of, written_terms, value_of, evaluation_fault, Evaluates}

-- Some sentence spells the text, and its evaluation has no fault and gives this value in
-- nanoseconds.
pub record IsRead (r : Rules) (text : Characters) (nanos : ℕ) : Type 0 where
  pub lexemes : List Characters
  pub spells : IsSentenceOf r lexemes text
  pub evaluates : Evaluates (written_terms r lexemes)
  pub value : value_of (written_terms r lexemes) ≡ Some nanos

-- the terminals, without a number at the end
abbrev pub without_last_number : List Terminal → List Terminal
without_last_number [] = []
without_last_number (number n ∷ []) = []
without_last_number (terminal ∷ terminals) = terminal ∷ without_last_number terminals

-- the front, without its last number if that is no complete term. A number at the end has no unit,
-- so it is a complete term only if there is a default unit and the front is the whole text
abbrev pub complete_terminals : Rules → List Terminal → List Terminal → List Terminal
complete_terminals r front [] = if is_some r.default_unit then front else without_last_number front
complete_terminals r front (terminal ∷ rest) = without_last_number front

abbrev pub complete_terms : Rules → List Terminal → List Terminal → List Term
complete_terms r front rest = terms_of r (complete_terminals r front rest)

-- the place in a term's fault, given the terms before it: 0 for the first term, and none for the
-- others
abbrev pub place_after : List Term → Option ℕ
place_after [] = Some 0
place_after (t ∷ before) = None

-- the fault of the first of these terms, if it has one, with the place 0
abbrev pub first_fault : List Term → Option Cause
first_fault [] = None
first_fault (t ∷ terms) = term_fault (place_after []) t

-- the first fault in adding these terms, one by one, to those in `before`
abbrev pub running_fault : List Term → List Term → Option Cause
running_fault before [] = None
running_fault before (t ∷ terms) =
    or_else (term_fault (place_after before) t)
    (or_else (unless (fits (sum_of (before ++ t ∷ []))) (Overflow None))
    (running_fault (before ++ t ∷ []) terms))

-- the fault that comes before a syntax fault. It is the fault of the first term if that term is
-- complete, or under `no_calc` the first fault in adding all complete terms
abbrev pub early_fault : Rules → List Terminal → List Terminal → Option Cause
early_fault r front rest =
    if r.options.no_calc then running_fault [] (complete_terms r front rest) else first_fault (complete_terms r front rest)

-- the fault that comes after a syntax fault. It is the fault of the evaluation. Under `no_calc`
-- there is none, since all faults of the evaluation come early
abbrev pub late_fault : Rules → List Terminal → Option Cause
late_fault r terminals = if r.options.no_calc then None else evaluation_fault (terms_of r terminals)

-- The terminals `front ++ rest` are refused for this cause. It is the early fault if there is one.
-- Otherwise it is a syntax fault at `place`, where the rest starts, if the terminals are no
-- sentence, and the late fault if they are one.
pub data IsRefusedAt (r : Rules) (place : ℕ) (front rest : List Terminal) (cause : Cause) : Type 0 where
  early : early_fault r front rest ≡ Some cause → IsRefusedAt r place front rest cause
  syntax_fault : (expected : Expected) → early_fault r front rest ≡ None → (IsSentence r (front ++ rest) → ⊥)
      → CanFollow r front expected
      → cause ≡ Syntax place expected → IsRefusedAt r place front rest cause
  late : early_fault r front rest ≡ None → IsSentence r (front ++ rest) → late_fault r (front ++ rest) ≡ Some cause
      → IsRefusedAt r place front rest cause

-- The empty text is refused as `Empty`. Any other text is refused for a cause that its front and
-- the rest after it decide.
abbrev pub IsRefused : Rules → Characters → Cause → Type 0
IsRefused r [] cause = cause ≡ Empty
IsRefused r (c ∷ text) cause =
    (front : List Terminal) × (rest : List Terminal) × IsFront r (terminals_of r (c ∷ text)) front rest
    × IsRefusedAt r (start_after (length front) (byte_len (c ∷ text)) (tokens_of r.options (c ∷ text))) front rest cause
