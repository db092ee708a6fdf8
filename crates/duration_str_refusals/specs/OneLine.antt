-- A fault in one line: what is wrong, for a syntax fault at which column, and what stands there,
-- and then the words of its help. The reason is the line without the column.
use Rattle.std.specs.Prelude.{ℕ, ◌+◌, Bool, true, false, [], ◌∷◌, ◌++◌, Option, Some, None, if◌then◌else◌, ◌==◌, decimal, encode_utf8_all, drop, chars, codes}
use Rattle.std.specs.List.{list_any}
use Rattle.duration_str_base.specs.declared.cause.Expected.{Expected}
use Rattle.duration_str_base.specs.declared.cause.Cause.{Cause}
use Rattle.duration_str_base.specs.declared.cause.Cause.TheVariants.{Empty, Syntax, NumberTooLarge, Overflow, Mixed}
use Rattle.duration_str_help.specs.declared.help.Help.{Help}
use Rattle.duration_str_help.specs.declared.help.Help.TheVariants.{Fraction}
use Rattle.duration_str_help.specs.declared.suggestion.Replacement.{Replacement}
use Rattle.duration_str_help.specs.declared.suggestion.Suggestion.{Suggestion}
use Rattle.duration_str_base.specs.Text.{Bytes, Characters}
use Rattle.duration_str_base.specs.Rules.{Rules}
use Rattle.duration_str_base.specs.Causes.{chars_before, line_of}
use Rattle.duration_str_help.specs.Quotes.{quoted}
use Rattle.duration_str_help.specs.Help.{first_piece, help_words, is_unknown_unit, help_of}
use Rattle.duration_str_help.specs.Mends.{suggestion_text, replacement_of}

-- ---- The end of the line

-- the words of the help for a fraction that has a mend
abbrev pub fraction_words : Suggestion → Bytes
fraction_words suggestion = codes " (fractions are not read: write " ++ (suggestion_text suggestion ++ codes ")")

-- the end of a line: the words of its help, if any. Those of a fraction say its mend, if it has one
abbrev pub help_end : Option Help → Option Replacement → Bytes
help_end (Some Fraction) (Some replacement) = fraction_words replacement.suggestion
help_end (Some help) replacement = help_words help
help_end None replacement = []

-- ---- The whole line

abbrev pub expected_words : Expected → Bytes
expected_words expected =
    if expected.unit_word then
    (if expected.operator then codes "expected a unit, '+', '*' or the end"
    else if expected.text_end then codes "expected a unit or the end"
    else codes "expected a unit")
    else if expected.operator then codes "expected a number, '+', '*' or the end"
    else if expected.text_end then codes "expected a number or the end"
    else codes "expected a number"

-- the column of a place, counted in characters, from 1, if the line says it
abbrev pub column_of : Bool → Bytes → ℕ → Option ℕ
column_of with_column text place = if with_column then Some (chars_before text place + 1) else None

-- the words for a column, if there is one
abbrev pub at_column : Option ℕ → Bytes
at_column (Some column) = codes " at column " ++ decimal column
at_column None = []

abbrev pub found_words : Characters → Bytes
found_words [] = codes ", found the end"
found_words (c ∷ piece) = codes ", found " ++ quoted (c ∷ piece)

abbrev pub found_problem : Bytes → Option ℕ → Characters → Bytes
found_problem words column piece = words ++ (at_column column ++ found_words piece)

abbrev pub unknown_problem : Option ℕ → Characters → Bytes
unknown_problem column word = codes "unknown unit " ++ (quoted word ++ at_column column)

-- what is wrong at a place where this piece stands, and at which column, if the line says it
abbrev pub problem_at : Option ℕ → Expected → Characters → Bytes
problem_at column expected piece =
    if is_unknown_unit expected piece then unknown_problem column piece
    else found_problem (expected_words expected) column piece

abbrev pub text_problem : Bytes → Bytes → Bytes
text_problem problem text = problem ++ (codes " in " ++ quoted (chars text))

-- what is too large. If the text has a `*`, a step can be too large though the value is not
abbrev pub overflow_words : Bytes → Bytes
overflow_words text =
    if list_any (λ b. b == 42) text then codes "step of over 584 years" else codes "duration of over 584 years"

-- what is wrong, given the bytes of the text that was read, with the column or without it
abbrev pub problem_of : Bool → Bytes → Cause → Bytes
problem_of with_column text Empty = codes "empty text"
problem_of with_column text (Syntax place expected) =
    problem_at (column_of with_column text place) expected (first_piece (chars (drop place text)))
problem_of with_column text (NumberTooLarge place) = text_problem (codes "number of 2^64 or more") text
problem_of with_column text (Overflow place) = text_problem (overflow_words text) text
problem_of with_column text (Mixed first later) = text_problem (codes "sum and product mixed") text
problem_of with_column text cause = encode_utf8_all (line_of cause)

-- the bytes of a line, with the column or without it: what is wrong with a text that is refused by
-- these rules, and then the help, if any
abbrev pub line_with : Bool → Rules → Bytes → Cause → Bytes
line_with with_column r text cause = problem_of with_column text cause ++ help_end (help_of text cause) (replacement_of r text cause)

-- the line
abbrev pub one_line_of : Rules → Bytes → Cause → Bytes
one_line_of = line_with true

-- the reason: the line without the column
abbrev pub reason_of : Rules → Bytes → Cause → Bytes
reason_of = line_with false
