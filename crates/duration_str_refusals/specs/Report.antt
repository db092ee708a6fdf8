-- The report of a fault: its line, or the text, a caret and its line.
use Rattle.std.specs.Prelude.{ℕ, ◌+◌, Bool, ◌&&◌, if◌then◌else◌, nat_le, length, take, chars}
use Rattle.std.specs.List.{list_all, count_by}
use Rattle.duration_str_base.specs.declared.cause.Cause.{Cause}
use Rattle.duration_str_base.specs.declared.cause.Cause.TheVariants.{Syntax}
use Rattle.duration_str_base.specs.Text.{Bytes, Characters}
use Rattle.duration_str_refusals.specs.Messages.{caret_text}
use Rattle.duration_str_help.specs.Quotes.{is_clear}
use Rattle.duration_str_refusals.specs.OneLine.{one_line_of}
use Rattle.duration_str_base.specs.Rules.{Rules}

-- whether a text can stand above a caret: it has at most 80 characters, and none of them is escaped
abbrev pub is_clear_text : Characters → Bool
is_clear_text text = nat_le (length text) 80 && list_all is_clear text

-- whether a character counts as two columns of a terminal. Only digits, operators, blanks and the
-- letters of units stand before a syntax fault, and of these only the Chinese letters are from
-- U+2E80 on
abbrev pub is_wide : ℕ → Bool
is_wide c = nat_le 0x2E80 c

-- how many columns a text takes
abbrev pub columns_of : Characters → ℕ
columns_of text = length text + count_by is_wide text

-- the bytes of the report, given the rules and the bytes of the text that was read: the line, and
-- for a syntax fault in a text that can stand above a caret, the text and the caret above the line
abbrev pub report_of : Rules → Bytes → Cause → Bytes
report_of r text (Syntax place expected) =
    let line = one_line_of r text (Syntax place expected) in
    if is_clear_text (chars text) then caret_text text (columns_of (chars (take place text))) line else line
report_of r text cause = one_line_of r text cause
