-- The numbers of units in C.
use Rattle.std.specs.Prelude.{ℤ, pos, negsuc, Option, None, Some}
use Rattle.duration_str_base.specs.declared.unit.TimeUnit.{TimeUnit}
use Rattle.duration_str_base.specs.Units.{rank_of}

-- the number of a unit, which is how many units are longer, or -1 if there is no unit
abbrev pub number_of : Option TimeUnit → ℤ
number_of None = negsuc 0
number_of (Some unit) = pos (rank_of unit)
