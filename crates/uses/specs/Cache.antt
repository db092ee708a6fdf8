-- The canonical text of a value, and how it is read back.
use Rattle.std.specs.Prelude.{◌≡◌, ℕ, List, Option, Result, Ok, Err, chars}
use Rattle.uses.specs.Common.{Duration, as_nanos, Options, Cause, Fault, off, unit_lengths, IsRead, IsRefused, IsGreatestBreakdown, IsPrintedIn, counts_of, printed_counts, Rules, rules_of, rules_with}
use Rattle.std.specs.Duration.{FitsDuration}
use Rattle.duration_str_printing.specs.declared.format.Style.{Style}
use Rattle.duration_str_base.specs.declared.unit.TimeUnit.{TimeUnit}

-- the text of a value whose counts are found by division: what the longer units leave is divided by
-- the next unit
abbrev pub canonical_text : Style → ℕ → List ℕ
canonical_text style nanos = printed_counts style (counts_of unit_lengths nanos)

-- The key is the canonical text of the value, and the text's counts are the greatest breakdown of
-- the value. No other duration prints as this text.
pub record IsKey (style : Style) (nanos : ℕ) (key : List ℕ) : Type 0 where
  pub one : key ≡ canonical_text style nanos
  pub greatest : IsGreatestBreakdown unit_lengths nanos (counts_of unit_lengths nanos)
  pub no_other : (other : ℕ) → FitsDuration other → IsPrintedIn style other key → other ≡ nanos

-- The text is read as a value, and `key` is that value's key. Under every choice of options and
-- with each default unit or none, the key is read as the same value, and as no other.
pub record IsCanonical (style : Style) (text key : List ℕ) : Type 0 where
  pub nanos : ℕ
  pub read : IsRead (rules_of off) text nanos
  pub is_key : IsKey style nanos key
  pub read_back : (default_unit : Option TimeUnit) (o : Options) → IsRead (rules_with o default_unit) key nanos
  pub no_other : (default_unit : Option TimeUnit) (o : Options) (other : ℕ)
      → IsRead (rules_with o default_unit) key other → other ≡ nanos

abbrev pub Refuses : List ℕ → Fault → Type 0
Refuses text fault = (fault.text.now ≡ text) × IsRefused (rules_of off) (chars text) fault.cause

abbrev pub IsAnswerTo : Rules → List ℕ → Result Duration Cause → Type 0
IsAnswerTo r text (Ok d) = IsRead r text (as_nanos d)
IsAnswerTo r text (Err cause) = IsRefused r text cause
