-- The laws, each as one statement about the definitions.
use Rattle.std.specs.Prelude.{◌≡◌, ℕ, ◌*◌, ◌^◌, ◌<◌, ◌≤◌, List, Option, Some, None, map, ◌↔◌}
use Rattle.std.specs.Duration.{FitsDuration}
use Rattle.duration_str_base.specs.declared.options.Options.{Options}
use Rattle.duration_str_base.specs.declared.unit.TimeUnit.{TimeUnit}
use Rattle.duration_str_base.specs.declared.unit.TimeUnit.TheVariants.{Year}
use Rattle.duration_str_base.specs.declared.cause.Cause.{Cause}
use Rattle.duration_str_base.specs.declared.cause.Cause.TheVariants.{Overflow}
use Rattle.duration_str_base.specs.Text.{Characters}
use Rattle.duration_str_base.specs.Units.{UnitRow, row_of, nanos_of, long_name}
use Rattle.duration_str_base.specs.Rules.{rules_of, rules_with, unit_of_word}
use Rattle.duration_str_base.specs.MoreNames.{more_row_of, more_rules}
use Rattle.duration_str_help.specs.Help.{near_name, near_unit}
use Rattle.duration_str_reading.specs.Grammar.{IsSentenceOf, terminal_of}
use Rattle.duration_str_reading.specs.Reading.{IsRead, IsRefused}
use Rattle.duration_str_laws.specs.Older.{older_row_of, older_rules, WasRefused}
use Rattle.duration_str_printing.specs.Printing.{IsPrintedIn}
use Rattle.duration_str_printing.specs.declared.format.Format.{Format}
use Rattle.duration_str_printing.specs.declared.format.Style.{Style}
use Rattle.duration_str_printing.specs.Format.{IsPrintedWithin}
use Rattle.duration_str_printing.specs.Rounding.{KeepsWithin}

-- Printed in full and in one style, two durations have the same text exactly if they are equal.
abbrev pub EqualTexts : Type 0
EqualTexts = (style : Style) (m n : ℕ) (a b : Characters) → FitsDuration m → FitsDuration n
    → IsPrintedIn style m a → IsPrintedIn style n b → (a ≡ b ↔ m ≡ n)

-- By the library's own table, a duration below 2^64 ns that is printed in full, in any style, is
-- read back as itself. The text of any other duration is refused as an overflow, from 585 years on
-- in its first term.
pub record ReadsBack : Type 0 where
  pub below : (default_unit : Option TimeUnit) (o : Options) (style : Style) (nanos : ℕ) (text : Characters)
      → nanos < 2 ^ 64
      → IsPrintedIn style nanos text → IsRead (rules_with o default_unit) text nanos
  pub above : (default_unit : Option TimeUnit) (o : Options) (style : Style) (nanos : ℕ) (text : Characters)
      → 2 ^ 64 ≤ nanos
      → nanos < 585 * nanos_of Year → IsPrintedIn style nanos text
      → IsRefused (rules_with o default_unit) text (Overflow None)
  pub far_above : (default_unit : Option TimeUnit) (o : Options) (style : Style) (nanos : ℕ) (text : Characters)
      → 585 * nanos_of Year ≤ nanos
      → FitsDuration nanos → IsPrintedIn style nanos text
      → IsRefused (rules_with o default_unit) text (Overflow (Some 0))

-- Two rows of a unit have the same length and the same printed names.
pub record IsSameUnit (older row : UnitRow) : Type 0 where
  pub length : row.nanos ≡ older.nanos
  pub printed : row.printed ≡ older.printed
  pub long : long_name row ≡ long_name older

-- Each name in the table from before the quarter still names its unit, and that unit has the same
-- length and the same printed names. A text that was read then is read as the same value, and a
-- text whose evaluation was refused then is refused for the same cause.
pub record OlderTexts : Type 0 where
  pub names : (o : Options) (name : Characters) (u : TimeUnit) → unit_of_word (older_rules o) name ≡ Some u
      → unit_of_word (rules_of o) name ≡ Some u
  pub units : (u : TimeUnit) (row : UnitRow) → older_row_of u ≡ Some row → IsSameUnit row (row_of u)
  pub terminals : (o : Options) (lexemes : List Characters) (text : Characters)
      → IsSentenceOf (older_rules o) lexemes text
      → map (terminal_of (older_rules o)) lexemes ≡ map (terminal_of (rules_of o)) lexemes
  pub sentence : (o : Options) (lexemes : List Characters) (text : Characters)
      → IsSentenceOf (older_rules o) lexemes text → IsSentenceOf (rules_of o) lexemes text
  pub value : (o : Options) (text : Characters) (nanos : ℕ) → IsRead (older_rules o) text nanos
      → IsRead (rules_of o) text nanos
  pub cause : (o : Options) (text : Characters) (cause : Cause) → WasRefused o text cause
      → IsRefused (rules_of o) text cause

-- The duration `most` prints as this text too. By the library's own table, the text is read as
-- `most` if `most` is below 2^64 nanoseconds. `most` is the greatest duration, up to `nanos`, that
-- fits into the format.
pub record IsMostWithin (format : Format) (nanos : ℕ) (text : Characters) (most : ℕ) : Type 0 where
  pub again : IsPrintedWithin format most text
  pub read : (default_unit : Option TimeUnit) (o : Options) → most < 2 ^ 64
      → IsRead (rules_with o default_unit) text most
  pub never_more : most ≤ nanos
  pub own : (counts : List ℕ) × KeepsWithin format most counts
  pub greatest : (between : ℕ) (counts : List ℕ) → most < between → between ≤ nanos
      → KeepsWithin format between counts → ⊥

-- For each text that is printed in a format, there is a duration as in `IsMostWithin`.
abbrev pub NeverMore : Type 0
NeverMore = (format : Format) (nanos : ℕ) (text : Characters) → IsPrintedWithin format nanos text
    → (most : ℕ) × IsMostWithin format nanos text most

-- By the library's own table and under these options, the word names no unit. The advised name
-- names the unit that the word is near.
pub record IsAdvised (o : Options) (word name : Characters) : Type 0 where
  pub unit : TimeUnit
  pub near : near_unit word ≡ Some unit
  pub unread : unit_of_word (rules_of o) word ≡ None
  pub read : unit_of_word (rules_of o) name ≡ Some unit

-- By the library's own table and under all options, the name that is advised for a word names the
-- unit that the word is near, and the word itself names no unit.
abbrev pub NearWords : Type 0
NearWords = (o : Options) (word name : Characters) → near_name word ≡ Some name → IsAdvised o word name

-- With more names, each word that named a unit still names it, and the unit has the same length. A
-- text that is read without them is read as the same value.
pub record MoreNames : Type 0 where
  pub names : (o : Options) (default_unit : Option TimeUnit) (word : Characters) (u : TimeUnit)
      → unit_of_word (rules_with o default_unit) word ≡ Some u → unit_of_word (more_rules o default_unit) word ≡ Some u
  pub lengths : (u : TimeUnit) → (more_row_of u).nanos ≡ nanos_of u
  pub value : (o : Options) (default_unit : Option TimeUnit) (text : Characters) (nanos : ℕ)
      → IsRead (rules_with o default_unit) text nanos → IsRead (more_rules o default_unit) text nanos
