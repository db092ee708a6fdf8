-- More names of the units, which people write and the library's own table lacks.
use Rattle.std.specs.Prelude.{List, [], ◌∷◌, ◌++◌, Option, codes}
use Rattle.duration_str_base.specs.declared.options.Options.{Options}
use Rattle.duration_str_base.specs.declared.unit.TimeUnit.{TimeUnit}
use Rattle.duration_str_base.specs.declared.unit.TimeUnit.TheVariants.{Year, Quarter, Month, Week, Day, Hour, Minute, Second, MilliSecond, MicroSecond, NanoSecond}
use Rattle.duration_str_base.specs.Text.{Characters}
use Rattle.duration_str_base.specs.Units.{UnitRow, row_of}
use Rattle.duration_str_base.specs.Rules.{Rules}

abbrev pub more_names : TimeUnit → List Characters
more_names Year = codes "yr" ∷ codes "yrs" ∷ []
more_names Quarter = codes "qtr" ∷ codes "qtrs" ∷ []
more_names Month = codes "mons" ∷ codes "mth" ∷ codes "mths" ∷ []
more_names Week = codes "wk" ∷ codes "wks" ∷ []
more_names Day = []
more_names Hour = codes "hrs" ∷ []
more_names Minute = codes "mins" ∷ []
more_names Second = codes "secs" ∷ []
more_names MilliSecond = codes "msecs" ∷ codes "milli" ∷ codes "millis" ∷ []
more_names MicroSecond = codes "µsecs" ∷ codes "µseconds" ∷ codes "usecs" ∷ codes "useconds" ∷ codes "micro" ∷ codes "micros" ∷ []
more_names NanoSecond = codes "nsecs" ∷ codes "nano" ∷ codes "nanos" ∷ []

-- a row with further names. They stand before the others, since the last two names are the long
-- name and its plural
abbrev pub with_names : List Characters → UnitRow → UnitRow
with_names names row = record row { names = names ++ row.names }

-- the library's own table with more names: the lengths are the same
abbrev pub more_row_of : TimeUnit → UnitRow
more_row_of u = with_names (more_names u) (row_of u)

-- the rules with more names, this default unit and these options
abbrev pub more_rules : Options → Option TimeUnit → Rules
more_rules o default_unit = record { table = more_row_of; default_unit = default_unit; options = o }
