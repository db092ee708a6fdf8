-- Rows of definitions that say what calls return: what follows from each in one case. A definition
-- that said less would be refused here.
use Rattle.std.specs.Prelude.{◌≡◌, ℕ, ℤ, pos, neg_ℤ, [], codes, true, false, Option, None, IsSomeAnd, Result, Ok, Err}
use Rattle.std.specs.Str.{chars}
use Rattle.std.proofs.Common.{arith, inl, inr}
use Rattle.jiff.proofs.Family.{civil_nanos-parts, time_nanos_bound}
use Rattle.jiff.proofs.SpanFacts.{signed_arith}
use Rattle.jiff.specs.Types.{Date}
use Rattle.jiff.specs.Words.{epoch_day}
use Rattle.serde_json.specs.Data.{boolean, null, string}
use Rattle.duration_str.specs.Configuration.{IsOptional, IsRequired}
use Rattle.duration_str.specs.Dates.{IsCivilDay, IsDated, IsDateFault, IsInRange, last_instant}
use Rattle.duration_str.specs.OtherResults.{IsValueOrFault}
use Rattle.duration_str_refusals.specs.declared.fault.Fault.{Fault}
use Rattle.duration_str_base.specs.Options.{off}
use Rattle.duration_str_reading.specs.Reading.{IsRead, IsRefused}
use Rattle.duration_str_base.specs.Rules.{rules_of}
use Rattle.duration_str_base.specs.declared.cause.Cause.TheVariants.{NotText, OutOfRange}

pub first_day_of_1970 : (date : Date) → IsCivilDay (pos 0) date → epoch_day date ≡ pos 0
first_day_of_1970 date (at, civil, same) =
    rw same (omega (arith, signed_arith, civil, civil_nanos-parts at, time_nanos_bound at.time))

pub last_day_of_1969 : (date : Date) → IsCivilDay (neg_ℤ (pos 1)) date → epoch_day date ≡ neg_ℤ (pos 1)
last_day_of_1969 date (at, civil, same) =
    rw same (omega (arith, signed_arith, civil, civil_nanos-parts at, time_nanos_bound at.time))

pub last_instant_is_in_range : IsDateFault (λ nanos. last_instant) (codes "1x") OutOfRange
    → IsRefused (rules_of off) (chars (codes "1x")) OutOfRange
last_instant_is_in_range (inl refused) = refused
last_instant_is_in_range (inr (nanos, read, out, same)) = absurd (out (omega arith, omega arith))

pub dated_in_range : {T : Type 0} (shows : ℤ → T → Type 0) (reached : ℕ → ℤ) (v : T)
    → IsDated shows reached (codes "1s") (Ok v) → (nanos : ℕ) × IsInRange (reached nanos) × shows (reached nanos) v
dated_in_range shows reached v (nanos, read, inside, is) = (nanos, inside, is)

pub fault_of_this_text : (T : Type 0) (fault : Fault)
    → IsValueOrFault {T = T} (λ v. ⊥) (λ cause. cause ≡ OutOfRange) (codes "1s") (Err fault)
    → (fault.text.now ≡ codes "1s") × (fault.cause ≡ OutOfRange)
fault_of_this_text T fault is = is

pub no_value_is_read : {T : Type 0} (v : T)
    → IsValueOrFault {T = T} (λ v. ⊥) (λ cause. cause ≡ OutOfRange) (codes "1s") (Ok v) → ⊥
no_value_is_read v is = is

module _ {T : Type 0} (nanos_of : T → ℤ) where
  pub required-other_value : (v : T) → IsRequired nanos_of (boolean true) (Ok v) → ⊥
  required-other_value v is = is

  pub required-other_value_is_refused : (fault : Fault) → IsRequired nanos_of (boolean true) (Err fault)
      → (fault.text.now ≡ []) × (fault.cause ≡ NotText false)
  required-other_value_is_refused fault is = is

  pub required-text : (v : T) → IsRequired nanos_of (string (codes "1s")) (Ok v)
      → (nanos : ℕ) × IsRead (rules_of off) (chars (codes "1s")) nanos × (nanos_of v ≡ pos nanos)
  required-text v is = is

  pub optional-null : (result : Result (Option T) Fault) → IsOptional nanos_of null result → result ≡ Ok None
  optional-null result is = is

  pub optional-empty_text : (result : Result (Option T) Fault) → IsOptional nanos_of (string []) result → result ≡ Ok None
  optional-empty_text result is = is

  pub optional-text : (o : Option T) → IsOptional nanos_of (string (codes "1s")) (Ok o)
      → (nanos : ℕ) × IsRead (rules_of off) (chars (codes "1s")) nanos × IsSomeAnd o (λ v. nanos_of v ≡ pos nanos)
  optional-text o is = is

  pub optional-other_value_is_refused : (fault : Fault) → IsOptional nanos_of (boolean true) (Err fault)
      → (fault.text.now ≡ []) × (fault.cause ≡ NotText true)
  optional-other_value_is_refused fault is = is
