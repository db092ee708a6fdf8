-- The output for the bytes that are read.
use Rattle.std.specs.Prelude.{◌≡◌, ℕ, Bool, true, false, ◌&&◌, ◌⊎◌, List, [], ◌∷◌, ◌++◌, codes, encode_utf8_all}
use Rattle.std.specs.Fmt.{decimal}
use Rattle.std.specs.Str.{IsUtf8, chars}
use Rattle.duration_str_base.specs.declared.options.Options.{Options}
use Rattle.duration_str_base.specs.declared.cause.Cause.{Cause}
use Rattle.duration_str_base.specs.Rules.{rules_of}
use Rattle.duration_str_reading.specs.Reading.{IsRead, IsRefused}
use Rattle.duration_str_printing.specs.Printing.{IsPrinted}
use Rattle.duration_str_refusals.specs.Messages.{message_of}
use Rattle.durstr_run.specs.Lines.{lines_of}

-- For an accepted line its value in nanoseconds, a space, and the value as a duration are printed.
pub record PrintsValue (o : Options) (line text : List ℕ) : Type 0 where
  pub nanos : ℕ
  pub human : List ℕ
  pub utf8 : IsUtf8 line
  pub read : IsRead (rules_of o) (chars line) nanos
  pub human_printed : IsPrinted nanos human
  pub shown : text ≡ decimal nanos ++ (32 ∷ encode_utf8_all human)

pub record PrintsFault (o : Options) (line text : List ℕ) : Type 0 where
  pub cause : Cause
  pub utf8 : IsUtf8 line
  pub refused : IsRefused (rules_of o) (chars line) cause
  pub shown : text ≡ message_of line cause

abbrev pub PrintsNotUtf8 : List ℕ → List ℕ → Type 0
PrintsNotUtf8 line text = (IsUtf8 line → ⊥) × (text ≡ codes "not UTF-8")

-- The text is printed for this line, and the flag says whether the line is accepted.
unfoldable pub IsLineOutput : Options → List ℕ → List ℕ → Bool → Type 0
IsLineOutput o line text true = PrintsValue o line text
IsLineOutput o line text false = PrintsFault o line text ⊎ PrintsNotUtf8 line text

-- The bytes are the output for these lines, each followed by a line feed, and the flag says whether
-- all lines are accepted.
abbrev pub AreOutputs : Options → List (List ℕ) → List ℕ → Bool → Type 0
AreOutputs o [] out all = (out ≡ []) × (all ≡ true)
AreOutputs o (line ∷ lines) out all =
    (text rest : List ℕ) × (accepted others : Bool) × IsLineOutput o line text accepted × AreOutputs o lines rest others
    × (out ≡ text ++ (10 ∷ rest)) × (all ≡ (accepted && others))

abbrev pub IsOutput : Options → List ℕ → List ℕ → Bool → Type 0
IsOutput o input out all = AreOutputs o (lines_of input) out all
