-- All options off.
use Rattle.std.specs.Prelude.{false}
use Rattle.duration_str_base.specs.declared.options.Options.{Options}

abbrev pub off : Options
off = record { no_calc = false; lowercase = false; cn_unit = false }
