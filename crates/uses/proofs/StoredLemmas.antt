-- Lemmas about results of reading, given the value or the cause of the text.
use Rattle.std.proofs.Common.{ap, Bool, chars, Err, false, IsErrAnd, IsOkAnd, List, Ok, Option, refl, Result, Some, true, ℕ, ◌↔◌, ◌∙◌, ◌≡◌}
use Rattle.std.specs.Duration.{as_nanos}
use Rattle.duration_str_reading.specs.ReadingLaws.{with_lowercase, with_no_calc}
use Rattle.duration_str.specs.OtherResults.{Reads}
use Rattle.duration_str_base.specs.Units.{UnitRow}
use Rattle.duration_str_base.specs.declared.unit.TimeUnit.{TimeUnit}
use Rattle.uses.proofs.Common.{Cause, Duration, Fault, Options, HasNoCapital, HasNoOperator, IsRead, IsRefused, nanos_of, NoCalcAgrees, older_row_of, older_rules, OlderTexts, OneReading, OptionsIdle, Parses, Rules, rules_of, unit_of_word}

module _ (law : OneReading) (o : Options) (bytes : List ℕ) where
  pub value_answered : (result : Result Duration Fault) (nanos : ℕ) → Parses (rules_of o) bytes result
      → IsRead (rules_of o) (chars bytes) nanos → IsOkAnd result (λ d. as_nanos d ≡ nanos)
  value_answered (Ok d) nanos parsed read = law.one_value (rules_of o) (chars bytes) (as_nanos d) nanos parsed.read read
  value_answered (Err f) nanos parsed read = absurd (law.not_both (rules_of o) (chars bytes) nanos f.cause read parsed.refused.1)

  pub cause_answered : (result : Result Duration Fault) (cause : Cause) → Parses (rules_of o) bytes result
      → IsRefused (rules_of o) (chars bytes) cause → IsErrAnd result (λ f. f.cause ≡ cause)
  cause_answered (Ok d) cause parsed r = absurd (law.not_both (rules_of o) (chars bytes) (as_nanos d) cause parsed.read r)
  cause_answered (Err f) cause parsed r = law.one_cause (rules_of o) (chars bytes) f.cause cause parsed.refused.1 r

pub named_unit_kept : OlderTexts → (o : Options) (name : List ℕ) (found unit : TimeUnit) (nanos : ℕ) (row : UnitRow)
    → Some found ≡ unit_of_word (rules_of o) name → nanos ≡ nanos_of found
    → unit_of_word (older_rules o) name ≡ Some unit → older_row_of unit ≡ Some row
    → ◌≡◌ {A = Option (TimeUnit × ℕ)} (Some (found, nanos)) (Some (unit, row.nanos))
named_unit_kept older o name found unit nanos row h is was there =
    let e : Some found ≡ Some unit = h ∙ older.names o name unit was in
    let same : found ≡ unit = cc in
    let length : nanos ≡ row.nanos = is ∙ (ap nanos_of same ∙ (older.units unit row there).length) in
    rw (same, length) refl

-- If the text is read as this value, the result is the value.
pub nanos_answered : OneReading → (r : Rules) (bytes : List ℕ) (result : Result ℕ Fault) (nanos : ℕ) → Reads r bytes result
    → IsRead r (chars bytes) nanos → result ≡ Ok nanos
nanos_answered law r bytes (Ok n) nanos reads read = ap Ok (law.one_value r (chars bytes) n nanos reads.read read)
nanos_answered law r bytes (Err fault) nanos reads read = absurd (let ok = reads.accepts nanos read in cc)

turned_on : (P : Bool → Type 0) (b : Bool) → (P true ↔ P false) → P b → P true
turned_on P true ways h = h
turned_on P false ways h = ways.1 h

pub strict_value : NoCalcAgrees → OptionsIdle → (r : Rules) (text : List ℕ) (nanos : ℕ) → HasNoOperator text
    → HasNoCapital text → IsRead r text nanos → IsRead (with_lowercase (with_no_calc r true) true) text nanos
strict_value agrees idle r text nanos plain small read =
    let first = turned_on (λ (b : Bool). IsRead (with_no_calc r b) text nanos) r.options.no_calc (agrees r text nanos plain) read in
    turned_on (λ (b : Bool). IsRead (with_lowercase (with_no_calc r true) b) text nanos) r.options.lowercase
    ((idle.lowercase (with_no_calc r true) text small).value nanos) first
