-- Options, and what can stand at the place of a syntax fault, which rows of several crates name.
use Rattle.duration_str_base.proofs.Common.{Expected, false, off, Options, true}

abbrev pub with_no_calc : Options
with_no_calc = record off { no_calc = true }

abbrev pub with_lowercase : Options
with_lowercase = record off { lowercase = true }

abbrev pub with_cn_unit : Options
with_cn_unit = record off { cn_unit = true }

-- ---- What can stand at the place of a syntax fault

abbrev pub number_alone : Expected
number_alone = record { number = true; unit_word = false; operator = false; text_end = false }

abbrev pub after_number : Expected
after_number = record { number = false; unit_word = true; operator = true; text_end = true }

abbrev pub after_unit : Expected
after_unit = record { number = true; unit_word = false; operator = true; text_end = true }

abbrev pub after_number-no_calc : Expected
after_number-no_calc = record { number = false; unit_word = true; operator = false; text_end = true }

abbrev pub after_unit-no_calc : Expected
after_unit-no_calc = record { number = true; unit_word = false; operator = false; text_end = true }

-- what can stand after a number that must have a unit
abbrev pub unit_alone : Expected
unit_alone = record { number = false; unit_word = true; operator = false; text_end = false }
