-- The messages of faults, and a law about their ends.
use Rattle.std.specs.Prelude.{◌≢◌, ℕ, Bool, ◌++◌, Option, Some, None, if◌then◌else◌, codes, replicate, decimal, encode_utf8_all, ◌==◌}
use Rattle.std.specs.List.{list_any, last_or}
use Rattle.duration_str_base.specs.declared.cause.Cause.{Cause}
use Rattle.duration_str_refusals.specs.declared.layout.Layout.{Layout}
use Rattle.duration_str_refusals.specs.declared.layout.Layout.TheVariants.{Line, Byte, Caret}
use Rattle.duration_str_base.specs.Text.{Bytes}
use Rattle.duration_str_base.specs.Causes.{place_of, chars_before, line_of}

-- the text, below it a caret after this many spaces, and below that the line
abbrev pub caret_text : Bytes → ℕ → Bytes → Bytes
caret_text text spaces line = text ++ (codes "\n" ++ (replicate spaces 32 ++ (codes "^\n" ++ line)))

abbrev pub byte_text : ℕ → Bytes → Bytes
byte_text place line = codes "byte " ++ (decimal place ++ (codes ": " ++ line))

abbrev pub has_line_feed : Bytes → Bool
has_line_feed text = list_any (λ b. b == 10) text

-- the message, given the place, if the fault has one
abbrev pub placed_text : Bytes → Option ℕ → Bytes → Bytes
placed_text text None line = line
placed_text text (Some place) line =
    if has_line_feed text then byte_text place line else caret_text text (chars_before text place) line

-- The bytes don't end with a line feed.
abbrev pub EndsInsideLine : Bytes → Type 0
EndsInsideLine bytes = last_or None bytes ≢ Some 10

-- the bytes that a fault prints as, given the bytes of the text that was read
abbrev pub message_of : Bytes → Cause → Bytes
message_of text cause = placed_text text (place_of cause) (encode_utf8_all (line_of cause))

-- the bytes of a message, given the bytes of the text and of the line
abbrev pub laid_out : Layout → Bytes → Bytes → Bytes
laid_out Line text line = line
laid_out (Byte place) text line = byte_text place line
laid_out (Caret spaces) text line = caret_text text spaces line

-- Neither the line of a cause nor the message of a fault ends with a line feed.
pub record LastLine : Type 0 where
  pub line : (cause : Cause) → EndsInsideLine (encode_utf8_all (line_of cause))
  pub text : (text : Bytes) (cause : Cause) → EndsInsideLine (message_of text cause)
