-- Results of calls that read a text: a value of any type, nanoseconds, or the number of looks.
use Rattle.std.specs.Prelude.{◌≡◌, ℕ, Result, Ok, Err, IfOk, IfErr, IsOk, chars}
use Rattle.duration_str_base.specs.declared.cause.Cause.{Cause}
use Rattle.duration_str_refusals.specs.declared.fault.Fault.{Fault}
use Rattle.duration_str_base.specs.Text.{Bytes}
use Rattle.duration_str_base.specs.Rules.{Rules}
use Rattle.duration_str_reading.specs.Reading.{IsRead, IsRefused}

-- The result is a value for which `reads` holds, or a fault with exactly these bytes, and `refuses`
-- holds for its cause.
abbrev pub IsValueOrFault : {T : Type 0} → (T → Type 0) → (Cause → Type 0) → Bytes → Result T Fault → Type 0
IsValueOrFault reads refuses bytes (Ok value) = reads value
IsValueOrFault reads refuses bytes (Err fault) = (fault.text.now ≡ bytes) × refuses fault.cause

-- By these rules the bytes are read as the nanoseconds in `Ok`, or refused for the cause in `Err`.
pub record Reads (r : Rules) (bytes : Bytes) (result : Result ℕ Fault) : Type 0 where
  pub read : IfOk result (IsRead r (chars bytes))
  pub accepts : (nanos : ℕ) → IsRead r (chars bytes) nanos → IsOk result
  pub refused : IfErr result (λ f. (f.text.now ≡ bytes) × IsRefused r (chars bytes) f.cause)
