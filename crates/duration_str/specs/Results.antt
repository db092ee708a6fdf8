-- The result of a call that reads a text.
use Rattle.std.specs.Prelude.{◌≡◌, ℕ, ◌^◌, ◌<◌, Result, IfOk, IfErr, IsOk, chars}
use Rattle.std.specs.Duration.{as_nanos}
use Rattle.std.specs.declared.time.Duration.{Duration}
use Rattle.duration_str_refusals.specs.declared.fault.Fault.{Fault}
use Rattle.duration_str_base.specs.Text.{Bytes}
use Rattle.duration_str_base.specs.Rules.{Rules}
use Rattle.duration_str_reading.specs.Reading.{IsRead, IsRefused}

-- By these rules the bytes are read as the value in `Ok`, which is below 2^64 nanoseconds, or
-- refused for the cause in `Err`, which also has the bytes. If they are read as a value, the result
-- is an `Ok` (`accepts`).
pub record Parses (r : Rules) (bytes : Bytes) (result : Result Duration Fault) : Type 0 where
  pub read : IfOk result (λ d. IsRead r (chars bytes) (as_nanos d))
  pub accepts : (nanos : ℕ) → IsRead r (chars bytes) nanos → IsOk result
  pub refused : IfErr result (λ f. (f.text.now ≡ bytes) × IsRefused r (chars bytes) f.cause)
  pub fits : IfOk result (λ d. as_nanos d < 2 ^ 64)
