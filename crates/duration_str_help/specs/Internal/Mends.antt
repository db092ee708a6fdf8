-- The part of a text that is replaced, and the unit that a help offers.
use Rattle.std.specs.Prelude.{◌≤◌, None, Option, Some}
use Rattle.std.specs.Str.{IsCharBoundary}
use Rattle.duration_str_help.specs.declared.help.Help.{Help}
use Rattle.duration_str_help.specs.declared.help.Help.TheVariants.{DidYouMean}
use Rattle.duration_str_help.specs.declared.suggestion.Replacement.{Replacement}
use Rattle.duration_str_base.specs.declared.unit.TimeUnit.{TimeUnit}
use Rattle.duration_str_base.specs.Text.{Bytes}

-- The part starts and ends at character boundaries of the text.
pub record IsCutOut (text : Bytes) (replacement : Replacement) : Type 0 where
  pub starts : IsCharBoundary text replacement.start
  pub ends : IsCharBoundary text replacement.end
  pub ordered : replacement.start ≤ replacement.end

-- the unit that a help offers, if it is `DidYouMean`
abbrev pub offered_unit : Option Help → Option TimeUnit
offered_unit (Some (DidYouMean unit)) = Some unit
offered_unit help = None
