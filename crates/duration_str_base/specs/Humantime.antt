-- The table of units of the crate humantime, with the names that the library reads added.
use Rattle.std.specs.Prelude.{[], ◌∷◌, None, codes}
use Rattle.duration_str_base.specs.declared.options.Options.{Options}
use Rattle.duration_str_base.specs.declared.unit.TimeUnit.{TimeUnit}
use Rattle.duration_str_base.specs.declared.unit.TimeUnit.TheVariants.{Year, Month}
use Rattle.duration_str_base.specs.Units.{UnitRow}
use Rattle.duration_str_base.specs.MoreNames.{more_row_of, with_names}
use Rattle.duration_str_base.specs.Rules.{Rules}

-- The table: each unit has all names of the table with more names. A month has 30.44 days and a
-- year 365.25 days. `M` names the month only under `lowercase`.
abbrev pub humantime_row_of : TimeUnit → UnitRow
humantime_row_of Year = record (more_row_of Year) { nanos = 31_557_600_000_000_000 }
humantime_row_of Month = record (with_names (codes "M" ∷ []) (more_row_of Month)) { nanos = 2_630_016_000_000_000 }
humantime_row_of u = more_row_of u

-- the rules with this table and these options. Each number needs its unit
abbrev pub humantime_rules : Options → Rules
humantime_rules o = record { table = humantime_row_of; default_unit = None; options = o }
