-- The results of the calls that read signed durations and configuration values, with all options
-- off.
use Rattle.std.specs.Prelude.{◌≡◌, ℕ, ℤ, pos, [], ◌∷◌, Bool, true, false, Option, None, IsSomeAnd, Result, Ok, chars}
use Rattle.serde_json.specs.Data.{Data, null, string}
use Rattle.duration_str_base.specs.declared.cause.Cause.TheVariants.{NotText}
use Rattle.duration_str_refusals.specs.declared.fault.Fault.{Fault}
use Rattle.duration_str_base.specs.Text.{Bytes}
use Rattle.duration_str_base.specs.Options.{off}
use Rattle.duration_str_base.specs.Rules.{rules_of}
use Rattle.duration_str.specs.OtherResults.{IsValueOrFault}
use Rattle.duration_str_reading.specs.Reading.{IsRead, IsRefused}

-- With all options off, the bytes are read, and `shows` holds for the value in `Ok` and the
-- nanoseconds. Or they are refused for the cause in `Err`.
abbrev pub ParsesBy : {T : Type 0} → (T → ℕ → Type 0) → Bytes → Result T Fault → Type 0
ParsesBy shows bytes result =
    IsValueOrFault (λ v. (nanos : ℕ) × IsRead (rules_of off) (chars bytes) nanos × shows v nanos)
    (IsRefused (rules_of off) (chars bytes)) bytes result

abbrev pub ParsesAs : {T : Type 0} → (T → ℤ) → Bytes → Result T Fault → Type 0
ParsesAs nanos_of bytes result = ParsesBy (λ v nanos. nanos_of v ≡ pos nanos) bytes result

abbrev pub ParsesAsSome : {T : Type 0} → (T → ℤ) → Bytes → Result (Option T) Fault → Type 0
ParsesAsSome nanos_of bytes result = ParsesBy (λ o nanos. IsSomeAnd o (λ v. nanos_of v ≡ pos nanos)) bytes result

abbrev pub IsNotText : {T : Type 0} → Bool → Result T Fault → Type 0
IsNotText optional result = IsValueOrFault (λ v. ⊥) (λ cause. cause ≡ NotText optional) [] result

-- A required value: a text is read, or refused for its cause. Any other value is refused.
abbrev pub IsRequired : {T : Type 0} → (T → ℤ) → Data → Result T Fault → Type 0
IsRequired nanos_of (string text) result = ParsesAs nanos_of text result
IsRequired nanos_of _ result = IsNotText false result

-- An optional value: if it is null or the empty text, the result is `Ok None`. Any other text is
-- read, or refused for its cause. Any other value is refused.
abbrev pub IsOptional : {T : Type 0} → (T → ℤ) → Data → Result (Option T) Fault → Type 0
IsOptional nanos_of null result = result ≡ Ok None
IsOptional nanos_of (string []) result = result ≡ Ok None
IsOptional nanos_of (string (b ∷ text)) result = ParsesAsSome nanos_of (b ∷ text) result
IsOptional nanos_of _ result = IsNotText true result
