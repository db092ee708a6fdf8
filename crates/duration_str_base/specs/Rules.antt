-- The rules by which a text is read, and the units that words name by them.
use Rattle.std.specs.Prelude.{Bool, ◌&&◌, ◌||◌, Option, Some, if◌then◌else◌, map, bytes_eq}
use Rattle.std.specs.Char.{to_ascii_lowercase}
use Rattle.std.specs.List.{list_any, find}
use Rattle.duration_str_base.specs.declared.options.Options.{Options}
use Rattle.duration_str_base.specs.declared.unit.TimeUnit.{TimeUnit}
use Rattle.duration_str_base.specs.declared.unit.TimeUnit.TheVariants.{Second}
use Rattle.duration_str_base.specs.Text.{Characters}
use Rattle.duration_str_base.specs.Units.{UnitRow, row_of, units}

-- The rules by which a text is read: the row of each unit, the default unit, and the options. A
-- number without a unit has the default unit. If that is `None`, each number needs its unit.
pub record Rules : Type 0 where
  pub table : TimeUnit → UnitRow
  pub default_unit : Option TimeUnit
  pub options : Options

-- the rules with the library's own table, this default unit and these options
abbrev pub rules_with : Options → Option TimeUnit → Rules
rules_with o default_unit = record { table = row_of; default_unit = default_unit; options = o }

-- the rules with the library's own table, the second as the default unit, and these options
abbrev pub rules_of : Options → Rules
rules_of o = rules_with o (Some Second)

-- the word as compared with the names: its ASCII capitals become small letters, unless `lowercase`
-- is on
abbrev pub comparison_form : Options → Characters → Characters
comparison_form o word = if o.lowercase then word else map to_ascii_lowercase word

-- whether the word's comparison form is a name in the row. The Chinese names count only with
-- `cn_unit`. (`bytes_eq` compares two lists of numbers, which are characters here.)
abbrev pub is_in_row : Options → Characters → UnitRow → Bool
is_in_row o word row =
    list_any (bytes_eq (comparison_form o word)) row.names
    || (o.cn_unit && list_any (bytes_eq (comparison_form o word)) row.chinese)

-- whether the word is a name of the unit by these rules
abbrev pub is_named : Rules → Characters → TimeUnit → Bool
is_named r word u = is_in_row r.options word (r.table u)

-- the first of the units that have the word as a name, if any
abbrev pub unit_of_word : Rules → Characters → Option TimeUnit
unit_of_word r word = find (is_named r word) units
