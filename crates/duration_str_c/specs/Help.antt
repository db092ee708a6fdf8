-- The help for a refused text: its number, the suggestion, and the part of the text that the
-- suggestion replaces.
use Rattle.std.specs.Prelude.{◌≡◌, ℕ, ◌+◌, List, [], ◌∷◌, ◌++◌, length, drop, Option, Some, None}
use Rattle.duration_str_help.specs.declared.help.Help.{Help}
use Rattle.duration_str_help.specs.Help.{help_number, help_of}
use Rattle.duration_str_help.specs.Mends.{mend_of, Pieces}
use Rattle.duration_str_c.specs.Answers.{rules_of_bits, IsTold}

-- the number of a help, or 0 if there is none
abbrev pub number_of : Option Help → ℕ
number_of (Some help) = help_number help
number_of None = 0

-- the bytes to write instead. There are none if there is no mend
abbrev pub written_of : Option Pieces → List ℕ
written_of (Some mended) = mended.written
written_of None = []

-- the byte at which the part begins that is replaced, or 0 if there is no mend
abbrev pub start_of : Option Pieces → ℕ
start_of (Some mended) = length mended.front
start_of None = 0

-- how many bytes the part has that is replaced, or 0 if there is no mend
abbrev pub length_of : Option Pieces → ℕ
length_of (Some mended) = length mended.replaced
length_of None = 0

-- The number is the help's. What to write and a zero are at the start of the buffer, and the rest
-- of the buffer is unchanged. The start and the length are those of the part that is replaced.
pub record IsHelpShown (help : Option Help) (mended : Option Pieces) (old : List ℕ) (number : ℕ) (new : List ℕ) (start len : ℕ) : Type 0 where
  pub numbered : number ≡ number_of help
  pub written : new ≡ written_of mended ++ (0 ∷ drop (length (written_of mended) + 1) old)
  pub starts : start ≡ start_of mended
  pub long : len ≡ length_of mended

-- The number, the buffer, the start and the length show the help for the case that applies. There
-- is none if an option is unknown, if the bytes are not UTF-8, or if they are read.
abbrev pub ShowsHelp : ℕ → List ℕ → List ℕ → ℕ → List ℕ → ℕ → ℕ → Type 0
ShowsHelp bits bytes old number new start len =
    IsTold (IsHelpShown None None old number new start len) (IsHelpShown None None old number new start len)
    (λ nanos. IsHelpShown None None old number new start len)
    (λ cause. IsHelpShown (help_of bytes cause) (mend_of (rules_of_bits bits) bytes cause) old number new start len)
    bits bytes
