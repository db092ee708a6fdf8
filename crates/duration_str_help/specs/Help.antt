-- The help for a fault: what a user may have meant, or should write instead.
use Rattle.std.specs.Prelude.{ℕ, ◌+◌, ◌-◌, Bool, false, not, ◌&&◌, ◌||◌, List, [], ◌∷◌, ◌++◌, Option, Some, None, unwrap_or, if◌then◌else◌, ◌==◌, nat_le, encode_utf8_all, map, take, drop, length, slice_index, option_map, chars, bytes_eq, codes}
use Rattle.std.specs.Char.{is_ascii_alphabetic, to_ascii_lowercase}
use Rattle.std.specs.Int.{is_in_range}
use Rattle.std.specs.List.{list_any, list_all, find, take_while}
use Rattle.duration_str_base.specs.declared.cause.Expected.{Expected}
use Rattle.duration_str_base.specs.declared.cause.Cause.{Cause}
use Rattle.duration_str_base.specs.declared.cause.Cause.TheVariants.{Syntax, Overflow}
use Rattle.duration_str_help.specs.declared.help.Help.{Help}
use Rattle.duration_str_help.specs.declared.help.Help.TheVariants.{DidYouMean, Units, Fraction, DigitsOnly, ClockTime, Negative, LeadingPlus, Iso8601, OneDuration, NoPoint, Brackets, Division, QuotationMarks, MissingUnit, Zero, LargeNumber}
use Rattle.duration_str_base.specs.declared.unit.TimeUnit.{TimeUnit}
use Rattle.duration_str_base.specs.declared.unit.TimeUnit.TheVariants.{Month, MicroSecond}
use Rattle.duration_str_base.specs.Text.{Bytes, Characters, is_blank, is_digit}
use Rattle.duration_str_base.specs.Units.{units, row_of}
use Rattle.duration_str_base.specs.MoreNames.{more_names, more_rules}
use Rattle.duration_str_base.specs.Options.{off}
use Rattle.duration_str_base.specs.Rules.{unit_of_word}
use Rattle.duration_str_help.specs.Quotes.{is_plain}

-- whether a character is an ASCII letter, or a plain character beyond ASCII that is no sign. Signs
-- are, for example, `½`, `×`, `€` and the full-width colon
abbrev pub is_letter : ℕ → Bool
is_letter c =
    is_ascii_alphabetic c || (nat_le 0x80 c && is_plain c && not (is_in_range 0xA1 0xB4 c || is_in_range 0xB6 0xBF c
    || c == 0xD7 || c == 0xF7 || is_in_range 0x2010 0x2BFF c || is_in_range 0x3001 0x303F c || is_in_range 0xFF00 0xFF20 c))

abbrev pub begins_with_letter : Characters → Bool
begins_with_letter [] = false
begins_with_letter (c ∷ text) = is_letter c

abbrev pub is_like : ℕ → ℕ → Bool
is_like c d = (is_digit d && is_digit c) || (is_letter d && is_letter c)

-- the run of digits or of letters that a text begins with, or otherwise its first character, if
-- any. It has at most 41 characters, one more than a quote shows
abbrev pub first_piece : Characters → Characters
first_piece [] = []
first_piece (c ∷ text) = c ∷ take 40 (take_while (is_like c) text)

-- words for the month that count only in small letters, since `Mo` can mean a megabyte
abbrev pub small_words : List Characters
small_words = codes "mo" ∷ codes "mos" ∷ []

-- the word with the micro sign in place of the Greek letter mu (U+03BC), which looks like it
abbrev pub with_micro_sign : Characters → Characters
with_micro_sign word = map (λ c. if c == 0x3BC then 0xB5 else c) word

-- The unit for which people write a word that the library's own table lacks. These words are not
-- read, or only with more names.
abbrev pub near_unit : Characters → Option TimeUnit
near_unit word =
    if list_any (bytes_eq word) small_words then Some Month
    else if list_any (λ c. c == 0x3BC) word then unit_of_word (more_rules off None) (with_micro_sign word)
    else find (λ u. list_any (bytes_eq (map to_ascii_lowercase word)) (more_names u)) units

-- the name of a unit that a help names: the printed name, but `us` instead of `µs`
abbrev pub help_name : TimeUnit → Characters
help_name MicroSecond = codes "us"
help_name u = (row_of u).printed

-- the name to write instead of a word, if any
abbrev pub near_name : Characters → Option Characters
near_name word = option_map help_name (near_unit word)

-- the help for letters where a unit could stand: the unit that they are near, or otherwise the help
-- for their place, or otherwise a name of each unit
abbrev pub unit_help : Option TimeUnit → Option Help → Help
unit_help (Some unit) help = DidYouMean unit
unit_help None help = unwrap_or help Units

-- the help for a sign wherever it is, given the piece's bytes
abbrev pub sign_help : Bytes → Option Help
sign_help piece =
    if bytes_eq piece (codes "(") || bytes_eq piece (codes ")") then Some Brackets
    else if bytes_eq piece (codes "/") then Some Division
    else None

-- the help for a piece that has only blanks before it, given the piece's bytes and the byte after
-- it
abbrev pub first_help : Bytes → ℕ → Option Help
first_help piece next =
    let is_signed = is_digit next || next == 46 in
    let small = map to_ascii_lowercase piece in
    if is_signed && bytes_eq piece (codes "-") then Some Negative
    else if is_signed && bytes_eq piece (codes "+") then Some LeadingPlus
    else if is_digit next && (bytes_eq small (codes "p") || bytes_eq small (codes "pt")) then Some Iso8601
    else if bytes_eq piece (codes "\"") || bytes_eq piece (codes "'") then Some QuotationMarks
    else sign_help piece

-- the help for a piece after a digit, given the piece's bytes and the byte after it
abbrev pub digit_help : Bytes → ℕ → Option Help
digit_help piece next =
    let is_between = is_digit next in
    let is_exponent = (is_between || next == 43 || next == 45) && bytes_eq (map to_ascii_lowercase piece) (codes "e") in
    if is_exponent || (is_between && (bytes_eq piece (codes ",") || bytes_eq piece (codes "_") || bytes_eq piece (codes "'")))
    then Some DigitsOnly
    else if is_between && bytes_eq piece (codes ":") then Some ClockTime
    else sign_help piece

-- the help for the piece at byte `place`, given the piece's bytes. Both a number and the end can
-- stand at a place only after a unit
abbrev pub help_at : Expected → Bytes → ℕ → Bytes → Option Help
help_at expected text place piece =
    let before = take place text in
    let last = slice_index before (length before - 1) in
    let next = slice_index text (place + length piece) in
    if expected.number && expected.text_end
    && (bytes_eq piece (codes ",") || bytes_eq piece (codes "&") || bytes_eq (map to_ascii_lowercase piece) (codes "and"))
    then Some OneDuration
    else if bytes_eq piece (codes ".") && (is_ascii_alphabetic last || nat_le 0x80 last) then Some NoPoint
    else if bytes_eq piece (codes ".") && is_digit next then Some Fraction
    else if list_all is_blank before then first_help piece next
    else if is_digit last then digit_help piece next
    else sign_help piece

-- The help where no letters stand at a place for a unit. It is `help`, unless there is none and a
-- unit could stand there, but neither an operator nor the end. Then it is `MissingUnit`, or in a
-- text of zeros and blanks `Zero`, since zero is the same in each unit
abbrev pub missing_unit_help : Expected → Bytes → Option Help → Option Help
missing_unit_help expected text (Some help) = Some help
missing_unit_help expected text None =
    if expected.unit_word && not (expected.operator || expected.text_end)
    then (if list_all (λ b. b == 48 || is_blank b) text then Some Zero else Some MissingUnit)
    else None

-- whether a piece is taken for a word that should name a unit
abbrev pub is_unknown_unit : Expected → Characters → Bool
is_unknown_unit expected piece = expected.unit_word && begins_with_letter piece

-- the help for a syntax fault at byte `place`, where this piece stands
abbrev pub syntax_help : Bytes → ℕ → Expected → Characters → Option Help
syntax_help text place expected piece =
    let help = help_at expected text place (encode_utf8_all piece) in
    if is_unknown_unit expected piece then Some (unit_help (near_unit piece) help)
    else missing_unit_help expected text help

-- the help for an overflow: for a number alone, that a shorter unit may be meant
abbrev pub overflow_help : Bytes → Option Help
overflow_help text = if list_all (λ b. is_digit b || is_blank b) text then Some LargeNumber else None

-- the help for the bytes of a text that is refused for this cause, if any
abbrev pub help_of : Bytes → Cause → Option Help
help_of text (Syntax place expected) = syntax_help text place expected (first_piece (chars (drop place text)))
help_of text (Overflow place) = overflow_help text
help_of text cause = None

-- the number of a help for programs in other languages
abbrev pub help_number : Help → ℕ
help_number (DidYouMean unit) = 1
help_number Units = 2
help_number Fraction = 3
help_number DigitsOnly = 4
help_number ClockTime = 5
help_number Negative = 6
help_number LeadingPlus = 7
help_number Iso8601 = 8
help_number OneDuration = 9
help_number NoPoint = 10
help_number Brackets = 11
help_number Division = 12
help_number QuotationMarks = 13
help_number MissingUnit = 14
help_number Zero = 15
help_number LargeNumber = 16

-- the names that a help lists, one of each unit, and the bracket after them
abbrev pub listed_names : Bytes
listed_names = codes "y, q, mon, w, d, h, min, s, ms, us or ns)"

-- the words with which a help ends the line
abbrev pub help_words : Help → Bytes
help_words (DidYouMean unit) = codes " (did you mean \"" ++ (encode_utf8_all (help_name unit) ++ codes "\"?)")
help_words Units = codes " (write " ++ listed_names
help_words Fraction = codes " (numbers have digits only)"
help_words DigitsOnly = codes " (numbers have digits only)"
help_words ClockTime = codes " (clock times are not read: write 1h 30m or 1m 30s)"
help_words Negative = codes " (negative durations are not read)"
help_words LeadingPlus = codes " (a leading \"+\" is not read)"
help_words Iso8601 = codes " (ISO 8601 is not read: write 1mon 30m, for example)"
help_words OneDuration = codes " (one duration is read, without \",\" or \"and\")"
help_words NoPoint = codes " (units have no point)"
help_words Brackets = codes " (brackets are not read)"
help_words Division = codes " (division is not read)"
help_words QuotationMarks = codes " (quotation marks are not read)"
help_words MissingUnit = codes " (write the number's unit: " ++ listed_names
help_words Zero = codes " (write 0s)"
help_words LargeNumber = codes " (write the number's unit, such as ns)"
