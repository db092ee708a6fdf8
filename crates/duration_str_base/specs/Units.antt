-- The units: their lengths, the names that are printed, and the names that are read.
use Rattle.std.specs.Prelude.{ℕ, List, [], ◌∷◌, map, codes, count_by, nat_lt}
use Rattle.duration_str_base.specs.declared.unit.TimeUnit.{TimeUnit}
use Rattle.duration_str_base.specs.declared.unit.TimeUnit.TheVariants.{Year, Quarter, Month, Week, Day, Hour, Minute, Second, MilliSecond, MicroSecond, NanoSecond}
use Rattle.duration_str_base.specs.Text.{Characters}

-- a unit's length in nanoseconds, the name that the short and the compact style print, the names
-- that are read, and the names that are read only with `cn_unit`
pub record UnitRow : Type 0 where
  pub nanos : ℕ
  pub printed : Characters
  pub names : List Characters
  pub chinese : List Characters

-- The library's own table of units: the row of each. The last two of `names` are the long name and
-- its plural, which the long style prints.
abbrev pub row_of : TimeUnit → UnitRow
row_of Year = record { nanos = 31_536_000_000_000_000; printed = codes "y"; names = codes "y" ∷ codes "year" ∷ codes "years" ∷ []; chinese = codes "年" ∷ [] }
row_of Quarter = record { nanos = 7_862_400_000_000_000; printed = codes "q"; names = codes "q" ∷ codes "quarter" ∷ codes "quarters" ∷ []; chinese = [] }
row_of Month = record { nanos = 2_592_000_000_000_000; printed = codes "mon"; names = codes "mon" ∷ codes "month" ∷ codes "months" ∷ []; chinese = codes "月" ∷ [] }
row_of Week = record { nanos = 604_800_000_000_000; printed = codes "w"; names = codes "w" ∷ codes "week" ∷ codes "weeks" ∷ []; chinese = codes "周" ∷ [] }
row_of Day = record { nanos = 86_400_000_000_000; printed = codes "d"; names = codes "d" ∷ codes "day" ∷ codes "days" ∷ []; chinese = codes "日" ∷ codes "天" ∷ [] }
row_of Hour = record { nanos = 3_600_000_000_000; printed = codes "h"; names = codes "h" ∷ codes "hr" ∷ codes "hour" ∷ codes "hours" ∷ []; chinese = codes "时" ∷ [] }
row_of Minute = record { nanos = 60_000_000_000; printed = codes "min"; names = codes "m" ∷ codes "min" ∷ codes "minute" ∷ codes "minutes" ∷ []; chinese = codes "分" ∷ [] }
row_of Second = record { nanos = 1_000_000_000; printed = codes "s"; names = codes "s" ∷ codes "sec" ∷ codes "second" ∷ codes "seconds" ∷ []; chinese = codes "秒" ∷ [] }
row_of MilliSecond = record { nanos = 1_000_000; printed = codes "ms"; names = codes "ms" ∷ codes "msec" ∷ codes "millisecond" ∷ codes "milliseconds" ∷ []; chinese = codes "毫秒" ∷ [] }
row_of MicroSecond = record { nanos = 1_000; printed = codes "µs"; names = codes "µs" ∷ codes "µsec" ∷ codes "µsecond" ∷ codes "us" ∷ codes "usec" ∷ codes "usecond" ∷ codes "microsecond" ∷ codes "microseconds" ∷ []; chinese = codes "微秒" ∷ [] }
row_of NanoSecond = record { nanos = 1; printed = codes "ns"; names = codes "ns" ∷ codes "nsec" ∷ codes "nanosecond" ∷ codes "nanoseconds" ∷ []; chinese = codes "纳秒" ∷ [] }

-- the units, the longest first
abbrev pub units : List TimeUnit
units = Year ∷ Quarter ∷ Month ∷ Week ∷ Day ∷ Hour ∷ Minute ∷ Second ∷ MilliSecond ∷ MicroSecond ∷ NanoSecond ∷ []

-- the length of a unit in nanoseconds, by the library's own table
abbrev pub nanos_of : TimeUnit → ℕ
nanos_of u = (row_of u).nanos

-- how many units are longer than this one
abbrev pub rank_of : TimeUnit → ℕ
rank_of u = count_by (λ v. nat_lt (nanos_of u) (nanos_of v)) units

abbrev pub unit_lengths : List ℕ
unit_lengths = map nanos_of units

-- the last name but one, or the empty name if there are fewer than two names
abbrev pub last_but_one : List Characters → Characters
last_but_one [] = []
last_but_one (name ∷ last ∷ []) = name
last_but_one (_ ∷ names) = last_but_one names

-- the long name for a count of 1, which is the last name but one. In the library's own table, the
-- last name is this one with an `s` after it
abbrev pub long_name : UnitRow → Characters
long_name row = last_but_one row.names
