-- The table of units from before the quarter was added, and what a text was read as with that
-- table.
use Rattle.std.specs.Prelude.{◌≡◌, List, [], ◌∷◌, Option, Some, None, if◌then◌else◌, unwrap_or, codes}
use Rattle.duration_str_base.specs.declared.options.Options.{Options}
use Rattle.duration_str_base.specs.declared.unit.TimeUnit.{TimeUnit}
use Rattle.duration_str_base.specs.declared.unit.TimeUnit.TheVariants.{Year, Quarter, Month, Week, Day, Hour, Minute, Second, MilliSecond, MicroSecond, NanoSecond}
use Rattle.duration_str_base.specs.declared.cause.Cause.{Cause}
use Rattle.duration_str_base.specs.Text.{Characters}
use Rattle.duration_str_base.specs.Units.{UnitRow}
use Rattle.duration_str_base.specs.Rules.{Rules}
use Rattle.duration_str_reading.specs.Grammar.{IsSentenceOf}
use Rattle.duration_str_base.specs.Term.{Term, or_else}
use Rattle.duration_str_reading.specs.Value.{written_terms, evaluation_fault}
use Rattle.duration_str_reading.specs.Reading.{first_fault, running_fault}

-- The table of units from before the quarter was added. It does not change if today's table does.
abbrev pub older_row_of : TimeUnit → Option UnitRow
older_row_of Year = Some (record { nanos = 31_536_000_000_000_000; printed = codes "y"; names = codes "y" ∷ codes "year" ∷ codes "years" ∷ []; chinese = codes "年" ∷ [] })
older_row_of Quarter = None
older_row_of Month = Some (record { nanos = 2_592_000_000_000_000; printed = codes "mon"; names = codes "mon" ∷ codes "month" ∷ codes "months" ∷ []; chinese = codes "月" ∷ [] })
older_row_of Week = Some (record { nanos = 604_800_000_000_000; printed = codes "w"; names = codes "w" ∷ codes "week" ∷ codes "weeks" ∷ []; chinese = codes "周" ∷ [] })
older_row_of Day = Some (record { nanos = 86_400_000_000_000; printed = codes "d"; names = codes "d" ∷ codes "day" ∷ codes "days" ∷ []; chinese = codes "日" ∷ codes "天" ∷ [] })
older_row_of Hour = Some (record { nanos = 3_600_000_000_000; printed = codes "h"; names = codes "h" ∷ codes "hr" ∷ codes "hour" ∷ codes "hours" ∷ []; chinese = codes "时" ∷ [] })
older_row_of Minute = Some (record { nanos = 60_000_000_000; printed = codes "min"; names = codes "m" ∷ codes "min" ∷ codes "minute" ∷ codes "minutes" ∷ []; chinese = codes "分" ∷ [] })
older_row_of Second = Some (record { nanos = 1_000_000_000; printed = codes "s"; names = codes "s" ∷ codes "sec" ∷ codes "second" ∷ codes "seconds" ∷ []; chinese = codes "秒" ∷ [] })
older_row_of MilliSecond = Some (record { nanos = 1_000_000; printed = codes "ms"; names = codes "ms" ∷ codes "msec" ∷ codes "millisecond" ∷ codes "milliseconds" ∷ []; chinese = codes "毫秒" ∷ [] })
older_row_of MicroSecond = Some (record { nanos = 1_000; printed = codes "µs"; names = codes "µs" ∷ codes "µsec" ∷ codes "µsecond" ∷ codes "us" ∷ codes "usec" ∷ codes "usecond" ∷ codes "microsecond" ∷ codes "microseconds" ∷ []; chinese = codes "微秒" ∷ [] })
older_row_of NanoSecond = Some (record { nanos = 1; printed = codes "ns"; names = codes "ns" ∷ codes "nsec" ∷ codes "nanosecond" ∷ codes "nanoseconds" ∷ []; chinese = codes "纳秒" ∷ [] })

-- the row of a unit in that table. The quarter's row has no name, so no word named it
abbrev pub older_table : TimeUnit → UnitRow
older_table u = unwrap_or (older_row_of u) (record { nanos = 0; printed = []; names = []; chinese = [] })

abbrev pub older_rules : Options → Rules
older_rules o = record { table = older_table; default_unit = Some Second; options = o }

-- the fault of these terms. Under `no_calc` it is the first fault in adding them one by one.
-- Otherwise it is the fault of the first term, or, if there is none, the fault of the evaluation
abbrev pub sentence_fault : Options → List Term → Option Cause
sentence_fault o terms =
    if o.no_calc then running_fault [] terms else or_else (first_fault terms) (evaluation_fault terms)

-- A sentence spelled the text, and its terms had this fault.
pub record WasRefused (o : Options) (text : Characters) (cause : Cause) : Type 0 where
  pub lexemes : List Characters
  pub spells : IsSentenceOf (older_rules o) lexemes text
  pub refused : sentence_fault o (written_terms (older_rules o) lexemes) ≡ Some cause
