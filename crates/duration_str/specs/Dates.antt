-- The date in UTC that is before or after a moment by the value of a text.
use Rattle.std.specs.Prelude.{◌≡◌, ℕ, ℤ, pos, ◌≤ℤ◌, neg_ℤ, ◌⊎◌, Result, chars}
use Rattle.jiff.specs.Types.{Date, DateTime}
use Rattle.jiff.specs.Words.{civil_nanos}
use Rattle.duration_str_base.specs.declared.cause.Cause.{Cause}
use Rattle.duration_str_base.specs.declared.cause.Cause.TheVariants.{OutOfRange}
use Rattle.duration_str_refusals.specs.declared.fault.Fault.{Fault}
use Rattle.duration_str_base.specs.Text.{Bytes}
use Rattle.duration_str_base.specs.Options.{off}
use Rattle.duration_str.specs.OtherResults.{IsValueOrFault}
use Rattle.duration_str_reading.specs.Reading.{IsRead, IsRefused}
use Rattle.duration_str_base.specs.Rules.{rules_of}

-- This is the date and time, in UTC, of the instant, in nanoseconds since 1970-01-01T00:00:00Z.
-- `civil_nanos` counts them on a clock whose days have 24 hours.
abbrev pub IsCivil : ℤ → DateTime → Type 0
IsCivil instant at = civil_nanos at ≡ instant

abbrev pub IsCivilDay : ℤ → Date → Type 0
IsCivilDay instant date = (at : DateTime) × IsCivil instant at × (date ≡ at.date)

-- `Timestamp::MIN`, -9999-01-02T01:59:59Z
abbrev pub first_instant : ℤ
first_instant = neg_ℤ (pos 377_705_023_201_000_000_000)

-- `Timestamp::MAX`, 9999-12-30T22:00:00.999999999Z
abbrev pub last_instant : ℤ
last_instant = pos 253_402_207_200_999_999_999

-- The instant is one that a `Timestamp` can hold.
abbrev pub IsInRange : ℤ → Type 0
IsInRange instant = (first_instant ≤ℤ instant) × (instant ≤ℤ last_instant)

-- The text is refused for this cause. Or it is read, the instant that its value reaches is not in
-- range, and the cause is `OutOfRange`.
abbrev pub IsDateFault : (ℕ → ℤ) → Bytes → Cause → Type 0
IsDateFault reached bytes cause =
    IsRefused (rules_of off) (chars bytes) cause
    ⊎ ((nanos : ℕ) × IsRead (rules_of off) (chars bytes) nanos × (IsInRange (reached nanos) → ⊥) × (cause ≡ OutOfRange))

-- The text is read, the instant that its value reaches is in range, and `shows` holds for that
-- instant and the value in `Ok`. Or the result is a fault with this text, and `IsDateFault` holds
-- for its cause.
abbrev pub IsDated : {T : Type 0} → (ℤ → T → Type 0) → (ℕ → ℤ) → Bytes → Result T Fault → Type 0
IsDated shows reached bytes result =
    IsValueOrFault (λ v. (nanos : ℕ)
    × IsRead (rules_of off) (chars bytes) nanos × IsInRange (reached nanos) × shows (reached nanos) v)
    (IsDateFault reached bytes) bytes result
