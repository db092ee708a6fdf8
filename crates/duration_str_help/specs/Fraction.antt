-- Numbers with a fraction, such as in `1.5h`: their nanoseconds, and the term to write instead,
-- such as `90min`.
use Rattle.std.specs.Prelude.{ℕ, ◌*◌, ◌/◌, ◌%◌, ◌^◌, ◌==◌, Bool, ◌&&◌, [], ◌∷◌, ◌++◌, Option, Some, None, unwrap_or, if◌then◌else◌, nat_le, length}
use Rattle.std.specs.List.{find, list_all}
use Rattle.duration_str_help.specs.declared.suggestion.Suggestion.{Suggestion}
use Rattle.duration_str_base.specs.declared.unit.TimeUnit.{TimeUnit}
use Rattle.duration_str_base.specs.declared.unit.TimeUnit.TheVariants.{NanoSecond}
use Rattle.duration_str_base.specs.Text.{Bytes, number_of}
use Rattle.duration_str_base.specs.Units.{UnitRow, units}
use Rattle.duration_str_base.specs.Term.{fits}

-- the longest end of the bytes in which all pass the test
abbrev pub end_run : (ℕ → Bool) → Bytes → Bytes
end_run test [] = []
end_run test (b ∷ bytes) = if list_all test (b ∷ bytes) then b ∷ bytes else end_run test bytes

-- the quotient, if it is a whole number below 2^64
abbrev pub whole_quotient : ℕ → ℕ → Option ℕ
whole_quotient m n = if m % n == 0 && fits (m / n) then Some (m / n) else None

-- The nanoseconds of a number with these digits before and after its point, if its unit has this
-- length: the number without its point times the unit's length, divided by 10 for each digit after
-- the point. There are none if they are no whole number, or 2^64 or more
abbrev pub nanos_of_fraction : Bytes → Bytes → ℕ → Option ℕ
nanos_of_fraction whole decimals unit_nanos =
    whole_quotient (number_of (whole ++ decimals) * unit_nanos) (10 ^ length decimals)

abbrev pub Table : Type 0
Table = TimeUnit → UnitRow

-- whether the unit `v` is not longer than `u`, and the nanoseconds are a whole number of it
abbrev pub is_whole_in : Table → TimeUnit → ℕ → TimeUnit → Bool
is_whole_in table u nanos v = nat_le (table v).nanos (table u).nanos && nanos % (table v).nanos == 0

-- the longest unit that divides the nanoseconds and is not longer than this one
abbrev pub longest_whole : Table → TimeUnit → ℕ → TimeUnit
longest_whole table u nanos = unwrap_or (find (is_whole_in table u nanos) units) NanoSecond

-- the nanoseconds as one term in that unit
abbrev pub as_term : Table → TimeUnit → ℕ → Suggestion
as_term table u nanos =
    let v = longest_whole table u nanos in record { count = Some (nanos / (table v).nanos); unit = Some v }
