-- Formats whose units are given by bits, and whose style is given by a number.
use Rattle.std.specs.Prelude.{◌≡◌, ℕ, ◌==◌, ◌⊎◌, if◌then◌else◌, List, []}
use Rattle.duration_str_printing.specs.Rounding.{IsPrintedRounded}
use Rattle.duration_str_printing.specs.declared.format.Format.{Format}
use Rattle.duration_str_printing.specs.declared.format.Style.{Style}
use Rattle.duration_str_printing.specs.declared.format.Style.TheVariants.{Short, Compact, Long}
use Rattle.duration_str_printing.specs.declared.format.Units.{Units}
use Rattle.duration_str_c.specs.Rounding.{AreRight, NoneRounded, rounding_numbered}

abbrev pub style_numbered : ℕ → Style
style_numbered number = if number == 0 then Short else if number == 1 then Compact else Long

abbrev pub units_of : ℕ → Units
units_of bits = record { bits = bits }

abbrev pub format_of : ℕ → ℕ → Style → Format
format_of units parts style = record { units = units_of units; parts = parts; style = style }

-- The text is that of a duration of `nanos` nanoseconds, which is rounded and printed in this
-- format. If it can't be, the text is empty.
abbrev pub IsFormatted : ℕ → Format → ℕ → List ℕ → Type 0
IsFormatted rounding format nanos text =
    (AreRight rounding nanos × IsPrintedRounded (rounding_numbered rounding) format nanos text)
    ⊎ (NoneRounded rounding format nanos × (text ≡ []))
