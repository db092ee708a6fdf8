-- Numbers and values of terms, with a check that they are below 2^64.
use Rattle.std.specs.Prelude.{ℕ, ◌*◌, Option, Some, None, Result, Ok, Err, if◌then◌else◌}
use Rattle.duration_str_base.specs.declared.cause.Cause.{Cause}
use Rattle.duration_str_base.specs.declared.cause.Cause.TheVariants.{NumberTooLarge, Overflow}
use Rattle.duration_str_base.specs.Term.{fits}

abbrev pub u64_from : ℕ → Option ℕ
u64_from n = if fits n then Some n else None

-- the value of a term, or its fault with this place, given the unit's length and the number. The
-- number is `None` if it is 2^64 or more
abbrev pub checked_term : Option ℕ → Option ℕ → ℕ → Result ℕ Cause
checked_term place None length = Err (NumberTooLarge place)
checked_term place (Some n) length = if fits (n * length) then Ok (n * length) else Err (Overflow place)
