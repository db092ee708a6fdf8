-- The words of a help.
use Rattle.std.specs.Prelude.{[]}
use Rattle.duration_str_base.specs.Text.{Bytes}
use Rattle.duration_str_help.specs.declared.help.Help.{Help}
use Rattle.duration_str_help.specs.declared.help.Help.TheVariants.{DidYouMean}
use Rattle.duration_str_help.specs.Help.{help_words}

-- the words of a help, or none for `DidYouMean`, whose words name a unit
abbrev pub fixed_words : Help → Bytes
fixed_words (DidYouMean unit) = []
fixed_words help = help_words help
