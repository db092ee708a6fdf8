-- The rules that a value of the type `Rules` in the code stands for.
use Rattle.duration_str_base.specs.declared.rules.Rules.{Rules as CodeRules}
use Rattle.duration_str_base.specs.declared.table.UnitTable.{UnitTable}
use Rattle.duration_str_base.specs.declared.table.UnitTable.TheVariants.{Own, More, Humantime}
use Rattle.duration_str_base.specs.declared.unit.TimeUnit.{TimeUnit}
use Rattle.duration_str_base.specs.Humantime.{humantime_row_of}
use Rattle.duration_str_base.specs.MoreNames.{more_row_of}
use Rattle.duration_str_base.specs.Rules.{Rules}
use Rattle.duration_str_base.specs.Units.{row_of, UnitRow}

abbrev pub table_of : UnitTable → TimeUnit → UnitRow
table_of Own = row_of
table_of More = more_row_of
table_of Humantime = humantime_row_of

abbrev pub meaning_of : CodeRules → Rules
meaning_of s = record { table = table_of s.table; default_unit = s.default_unit; options = s.options }
