use Rattle.duration_str_refusals.proofs.Common.{ahead, and_parts, ap, append-nil, append_assoc, arith, Bool, bytes_eq, bytes_eq-Decides, cases_Bool, Cause, chars, chars-encodes, chars_from_encodes, chars_past_char, codes, common_steps, cond, div-le_self, drop, Empty, encode_ascii, encode_utf8, encode_utf8_all, encodes-chars, eqb-true, Expected, false, fits, ForSome, if◌then◌else◌, inl, inr, is_blank, is_digit, IsCharBoundary, IsUtf8, IsUtf8-drop, leb-true, len_utf8_bounds, length, length-encode, List, list_all, Mixed, nat_le, nat_tests, None, NotText, number_of, NumberTooLarge, Option, option_map, OutOfRange, Overflow, place_of, refl, rules, Rules, scalar, scalars, scalars-chars, Some, suc, sym, Syntax, take, take_while, take_while-cons, TimeUnit, true, zero, [], ℕ, ◌%◌, ◌&&◌, ◌*◌, ◌++◌, ◌+◌, ◌-◌, ◌/◌, ◌<◌, ◌==◌, ◌^◌, ◌||◌, ◌∙◌, ◌∷◌, ◌≡◌, ◌≤◌}
use Rattle.std.proofs.Common.{lit≤, nat_lt}
use Rattle.std.proofs.lemmas.Bool.{le-leb, lt-leb}
use Rattle.duration_str_base.specs.Causes.{chars_before}
use Rattle.duration_str_help.specs.declared.help.Help.{Help}
use Rattle.duration_str_help.specs.declared.help.Help.TheVariants.{DidYouMean, Fraction, MissingUnit, Zero}
use Rattle.duration_str_help.specs.declared.suggestion.Replacement.{Replacement}
use Rattle.duration_str_help.specs.declared.suggestion.Suggestion.{Suggestion}
use Rattle.duration_str_help.specs.Fraction.{as_term, longest_whole, Table, whole_quotient}
use Rattle.duration_str_refusals.specs.OneLine.{at_column, column_of, expected_words, found_words, fraction_words, help_end, line_with, overflow_words, problem_at, text_problem}
use Rattle.duration_str_help.specs.Mends.{fraction_replacement, fraction_with, replacement_for, suggestion_text}
use Rattle.duration_str_help.specs.Help.{first_piece, help_at, is_like, is_unknown_unit, missing_unit_help, near_unit, overflow_help, syntax_help, unit_help}
use Rattle.duration_str_help.specs.Quotes.{is_clear, is_plain, quoted, quoted_end, shown}
use Rattle.std.specs.Char.Escape.{escape_default, escape_unicode, hex_digit_at, short_escape}
use Rattle.std.specs.Prelude.{not}
use Rattle.std.specs.Int.{is_in_range}
use Rattle.duration_str_base.proofs.CharacterLemmas.{chars_before_le, chars_of_none}
use Rattle.duration_str_help.proofs.ShortLemmas.{IsShort, less, joined, chosen, is_plain_byte, bytes_good, literal, decimal_short, name_short, suggestion_short}

found_chars : (cs bytes : List ℕ) → encode_utf8_all cs ≡ bytes → (length bytes == 0) ≡ false
    → found_words cs ≡ codes ", found " ++ quoted cs
found_chars cs bytes is some = search rules

-- ---- The column

pub record IsPlaced (text : List ℕ) (place : ℕ) : Type 0 where
  pub utf8 : IsUtf8 text
  pub small : length text < 2 ^ 63
  pub boundary : IsCharBoundary text place

column_short : (with_column : Bool) (text : List ℕ) (place : ℕ) → IsPlaced text place
    → IsShort 31 (at_column (column_of with_column text place))
column_short false text place is = literal 31 [] refl
column_short true text place is =
    let column = chars_before text place + 1 in
    let small : column < 2 ^ 64 =
    omega (arith, chars_before_le text place is.utf8 is.boundary, is.small, is.boundary.0) in
    joined (literal 11 (codes " at column ") refl) (decimal_short column small)

-- ---- Quotes

either : (b : Bool) (xs ys : List ℕ) → list_all is_plain_byte xs ≡ true → list_all is_plain_byte ys ≡ true
    → list_all is_plain_byte (cond b xs ys) ≡ true
either b xs ys first second = search rules

code_plain : (c : ℕ) → list_all is_plain_byte (escape_unicode c) ≡ true
code_plain c =
    let d0 : is_plain_byte (hex_digit_at 1 c) ≡ true = grind (arith, nat_tests) in
    let d1 : is_plain_byte (hex_digit_at 0x10 c) ≡ true = grind (arith, nat_tests) in
    let d2 : is_plain_byte (hex_digit_at 0x100 c) ≡ true = grind (arith, nat_tests) in
    grind (arith, common_steps, either)

pub escape_plain : (c : ℕ) → is_clear c ≡ false → list_all is_plain_byte (escape_default c) ≡ true
escape_plain c other = elim (cases_Bool (nat_lt 0 (short_escape c))) [
  | inl some ↦ let plain : is_plain_byte (short_escape c) ≡ true = grind (arith, nat_tests) in rw (some, plain) refl
  | inr none ↦ elim (cases_Bool (nat_lt c 32)) [
    | inl small ↦ rw (none, small, code_plain c) refl
    | inr big ↦ elim (cases_Bool (nat_lt c 127)) [
      | inl ascii ↦ let plain : is_plain_byte c ≡ true = grind (arith, nat_tests) in rw (none, big, ascii, plain) refl
      | inr wide ↦ rw (none, big, wide, code_plain c) refl
    ]
  ]
]

shown_short : (c : ℕ) → scalar c ≡ true → IsShort (4 * length (shown c)) (encode_utf8_all (shown c))
shown_short c e = elim (cases_Bool (is_clear c)) [
  | inl clear ↦
      let both = and_parts (is_plain c) _ clear in
      rw clear (record {
        characters = c ∷ [];
        good = rw (e, both.0) refl;
        spells = refl;
        short = omega (arith, length-encode c, len_utf8_bounds c, ap length (append-nil (encode_utf8 c)));
      })
  | inr other ↦
      let are = bytes_good (escape_default c) (escape_plain c other) in
      rw other (record { characters = escape_default c; good = are.1; spells = refl; short = omega (arith, ap length are.0) })
]

quoted_end_short : (room : ℕ) (cs : List ℕ) → scalars cs ≡ true → IsShort (4 * room + 4) (quoted_end room cs)
quoted_end_short room [] e = less (omega arith) (literal 4 (codes "\"") refl)
quoted_end_short room (c ∷ cs) e =
    let both = and_parts (scalar c) (scalars cs) e in
    let wide = length (shown c) in
    elim (cases_Bool (nat_le wide room)) [
      | inl fits ↦
          rw fits (less {m = 4 * wide + (4 * (room - wide) + 4)} (omega (arith, leb-true wide room fits))
          (joined (shown_short c both.0) (quoted_end_short (room - wide) cs both.1)))
      | inr full ↦ rw full (less (omega arith) (literal 4 (codes "\"...") refl))
    ]

quoted_short : (cs : List ℕ) → scalars cs ≡ true → IsShort 165 (quoted cs)
quoted_short cs e = joined (literal 1 (codes "\"") refl) (quoted_end_short 40 cs e)

first_scalars : (cs : List ℕ) → scalars cs ≡ true → scalars (first_piece cs) ≡ true
first_scalars [] e = refl
first_scalars (c ∷ cs) e =
    let both = and_parts (scalar c) (scalars cs) e in rw (both.0, piece_scalars c 40 cs both.1) refl
  where
    piece_scalars : (first most : ℕ) (cs : List ℕ) → scalars cs ≡ true
        → scalars (take most (take_while (is_like first) cs)) ≡ true
    piece_scalars first zero cs e = refl
    piece_scalars first (suc most) [] e = refl
    piece_scalars first (suc most) (c ∷ cs) e =
        let both = and_parts (scalar c) (scalars cs) e in
        elim (cases_Bool (is_like first c)) [
          | inl like ↦ rw (take_while-cons (is_like first) c cs, like, both.0) (piece_scalars first most cs both.1)
          | inr other ↦ rw (take_while-cons (is_like first) c cs, other) refl
        ]

found_short : (piece : List ℕ) → IsShort 165 (quoted piece) → IsShort 173 (found_words piece)
found_short [] is = literal 173 (codes ", found the end") refl
found_short (c ∷ piece) is = joined (literal 8 (codes ", found ") refl) is

-- ---- Help

expected_short : (expected : Expected) → IsShort 38 (expected_words expected)
expected_short expected = search (chosen, literal) depth 20

-- The words of a help have at most 52 bytes, whatever mend the line says. Only those of
-- `MissingUnit` and of a fraction that has a mend have more.
abbrev Fits : Option Help → Type 0
Fits help = (replacement : Option Replacement) → IsShort 52 (help_end help replacement)

fits_chosen : (b : Bool) (first second : Option Help) → Fits first → Fits second → Fits (if b then first else second)
fits_chosen b first second one other = search rules

-- The help is for a fraction only if the piece is a point.
at_fits : (expected : Expected) (text : List ℕ) (place : ℕ) (piece : List ℕ) → bytes_eq piece (codes ".") ≡ false
    → Fits (help_at expected text place piece)
at_fits expected text place piece other = rw other (search (fits_chosen, literal) depth 40)

near_fits : (u : TimeUnit) → Fits (Some (DidYouMean u))
near_fits u replacement =
    less (lit≤ tt) (joined (literal 16 (codes " (did you mean \"") refl) (joined (name_short u) (literal 3 (codes "\"?)") refl)))

unit_help_fits : (near : Option TimeUnit) (help : Option Help) → Fits help → Fits (Some (unit_help near help))
unit_help_fits (Some u) help fits = near_fits u
unit_help_fits None (Some help) fits = fits
unit_help_fits None None fits = λ replacement. literal 52 _ refl

-- ---- What to write instead

words_short_with : (suggestion : Suggestion) → IsShort 23 (suggestion_text suggestion) → IsShort 56 (fraction_words suggestion)
words_short_with suggestion short =
    joined (literal 32 (codes " (fractions are not read: write ") refl) (joined short (literal 1 (codes ")") refl))

term_short : (table : Table) (u : TimeUnit) (nanos : ℕ) → fits nanos ≡ true → IsShort 56 (fraction_words (as_term table u nanos))
term_short table u nanos small =
    let below : nanos < 2 ^ 64 = grind (arith, nat_tests) in
    let unit_nanos = (table (longest_whole table u nanos)).nanos in
    let term = as_term table u nanos in
    words_short_with term (suggestion_short term (omega (arith, div-le_self nanos unit_nanos, below)))

-- the words for a fraction have at most 56 bytes
record Ends (replacement : Option Replacement) : Type 0 where
  words : IsShort 56 (help_end (Some Fraction) replacement)

ends_none : Ends None
ends_none = record { words = literal 56 _ refl }

module _ (r : Rules) (u : TimeUnit) (start end : ℕ) where
  abbrev replacement_at : ℕ → Replacement
  replacement_at nanos = record { start = start; end = end; suggestion = as_term r.table u nanos }

  quotient_ends : (m n : ℕ) → Ends (option_map replacement_at (whole_quotient m n))
  quotient_ends m n = elim (cases_Bool (m % n == 0 && fits (m / n))) [
    | inl whole ↦
        let both = and_parts (m % n == 0) (fits (m / n)) whole in
        rw whole (record { words = term_short r.table u (m / n) both.1 })
    | inr other ↦ rw other ends_none
  ]

ends_unless : (b : Bool) (replacement : Option Replacement) → Ends replacement → Ends (if b then None else replacement)
ends_unless true replacement ends = ends_none
ends_unless false replacement ends = ends

with_ends : (r : Rules) (whole decimals : List ℕ) (start end : ℕ) (unit : Option (TimeUnit × ℕ))
    → Ends (fraction_with r whole decimals start end unit)
with_ends r whole decimals start end (Some (u, more)) =
    quotient_ends r u start (end + more) (number_of (whole ++ decimals) * (r.table u).nanos) (10 ^ length decimals)
with_ends r whole decimals start end None = ends_none

fraction_ends : (r : Rules) (text : List ℕ) (place : ℕ) (expected : Expected) → Ends (fraction_replacement r text place expected)
fraction_ends r text place expected = search (ends_unless, with_ends)

-- ---- The line

unknown_short : (column piece help : List ℕ) → IsShort 31 column → IsShort 165 piece → IsShort 52 help
    → IsShort 294 ((codes "unknown unit " ++ (piece ++ column)) ++ help)
unknown_short column piece help at is short =
    less (lit≤ tt) (joined (joined (literal 13 (codes "unknown unit ") refl) (joined is at)) short)

found_line_short : {words column found help : List ℕ} {most more : ℕ} → IsShort most words → IsShort 31 column
    → IsShort 173 found → IsShort more help → most + more ≤ 90
    → IsShort 294 ((words ++ (column ++ found)) ++ help)
found_line_short words column found help fits = less (omega (arith, fits)) (joined (joined words (joined column found)) help)

unit_alone : (expected : Expected) → (expected.unit_word && not (expected.operator || expected.text_end)) ≡ true
    → expected_words expected ≡ codes "expected a unit"
unit_alone expected only = grind (arith, common_steps)

missing_short : (text : List ℕ) (replacement : Option Replacement)
    → IsShort 68 (help_end (if list_all (λ b. b == 48 || is_blank b) text then Some Zero else Some MissingUnit) replacement)
missing_short text replacement = elim (cases_Bool (list_all (λ b. b == 48 || is_blank b) text)) [
  | inl zeros ↦ rw zeros (literal 68 _ refl)
  | inr some ↦ rw some (literal 68 _ refl)
]

-- The words of `MissingUnit` stand only after the shortest of the words that say what was expected,
-- so the line is no longer than with the longest of those words and another help.
words_short : (expected : Expected) (text : List ℕ) (help : Option Help) (replacement : Option Replacement) {column found : List ℕ}
    → IsShort 31 column → IsShort 173 found → Fits help
    → IsShort 294 ((expected_words expected ++ (column ++ found)) ++ help_end (missing_unit_help expected text help) replacement)
words_short expected text (Some help) replacement column found fits =
    found_line_short (expected_short expected) column found (fits replacement) (lit≤ tt)
words_short expected text None replacement column found fits =
    elim (cases_Bool (expected.unit_word && not (expected.operator || expected.text_end))) [
      | inl missing ↦
          rw (missing, unit_alone expected missing)
          (found_line_short (literal 15 (codes "expected a unit") refl) column found (missing_short text replacement) (lit≤ tt))
      | inr other ↦ rw other (found_line_short (expected_short expected) column found (fits replacement) (lit≤ tt))
    ]

-- Whatever the help, its words have at most 68 bytes.
end_short : (r : Rules) (text : List ℕ) (place : ℕ) (expected : Expected) (piece : List ℕ) (help : Option Help)
    → IsShort 68 (help_end help (replacement_for r text place expected piece help))
end_short r text place expected piece None = literal 68 _ refl
end_short r text place expected piece (Some (DidYouMean unit)) = less (lit≤ tt) (near_fits unit None)
end_short r text place expected piece (Some Fraction) = less (lit≤ tt) (fraction_ends r text place expected).words
end_short r text place expected piece (Some help) = literal 68 _ refl

one_char : chars (codes ".") ≡ codes "."
unfolding lib.Utf8.encode
one_char = chars-encodes (codes ".") refl

point_piece : (piece : List ℕ) → scalars piece ≡ true → bytes_eq (encode_utf8_all piece) (codes ".") ≡ true
    → piece ≡ codes "."
point_piece piece are point =
    let is : encode_utf8_all piece ≡ codes "." = (bytes_eq-Decides (encode_utf8_all piece) (codes ".")).0 point in
    sym (chars-encodes piece are) ∙ ap chars is ∙ one_char

found_point : IsShort 11 (found_words (codes "."))
unfolding lib.Utf8.encode
found_point = literal 11 _ refl

-- A point and its quote are short, so any help fits.
point_short : (r : Rules) (text : List ℕ) (place : ℕ) (expected : Expected) (column : Option ℕ) (piece : List ℕ)
    → IsShort 31 (at_column column) → piece ≡ codes "."
    → IsShort 294 (problem_at column expected piece ++ help_end (syntax_help text place expected piece)
    (replacement_for r text place expected (encode_utf8_all piece) (syntax_help text place expected piece)))
point_short r text place expected column piece at is =
    let known : is_unknown_unit expected (codes ".") ≡ false = search rules in
    let point = encode_utf8_all (codes ".") in
    let help = missing_unit_help expected text (help_at expected text place point) in
    rw (is, known) (less (lit≤ tt)
    (joined (joined (expected_short expected) (joined at found_point)) (end_short r text place expected point help)))

syntax_short : (with_column : Bool) (r : Rules) (text : List ℕ) (place : ℕ) (expected : Expected) → IsPlaced text place
    → IsShort 294 (line_with with_column r text (Syntax place expected))
syntax_short with_column r text place expected is =
    let piece = first_piece (ahead text place) in
    let are =
    first_scalars (ahead text place) (scalars-chars (drop place text) (IsUtf8-drop text place is.utf8 is.boundary)) in
    let column = column_short with_column text place is in
    elim (cases_Bool (bytes_eq (encode_utf8_all piece) (codes "."))) [
      | inl point ↦ point_short r text place expected (column_of with_column text place) piece column (point_piece piece are point)
      | inr wide ↦
          let fits = at_fits expected text place (encode_utf8_all piece) wide in
          elim (cases_Bool (is_unknown_unit expected piece)) [
            | inl unknown ↦ rw unknown (unknown_short _ _ _ column (quoted_short piece are) (unit_help_fits (near_unit piece) _ fits _))
            | inr other ↦ rw other (words_short expected text _ _ column (found_short _ (quoted_short piece are)) fits)
          ]
    ]

text_short : (problem text help : List ℕ) → IsUtf8 text → IsShort 26 problem → IsShort 41 help
    → IsShort 294 (text_problem problem text ++ help)
text_short problem text help utf8 first last =
    less (lit≤ tt)
    (joined (joined first (joined (literal 4 (codes " in ") refl) (quoted_short (chars text) (scalars-chars text utf8)))) last)

overflow_words_short : (text : List ℕ) → IsShort 26 (overflow_words text)
overflow_words_short text = search (chosen, literal)

large_short : (text : List ℕ) → IsShort 41 (help_end (overflow_help text) None)
large_short text = elim (cases_Bool (list_all (λ b. is_digit b || is_blank b) text)) [
  | inl number ↦ rw number (literal 41 _ refl)
  | inr other ↦ rw other (literal 41 _ refl)
]

pub line_short : (with_column : Bool) (r : Rules) (text : List ℕ) (cause : Cause) → IsUtf8 text → length text < 2 ^ 63
    → ForSome (place_of cause) (IsCharBoundary text) → IsShort 294 (line_with with_column r text cause)
unfolding lib.Utf8.encode
line_short with_column r text Empty utf8 small placed = literal 294 _ refl
line_short with_column r text (Syntax place expected) utf8 small placed = search (rules, syntax_short)
line_short with_column r text (NumberTooLarge place) utf8 small placed =
    text_short (codes "number of 2^64 or more") text [] utf8 (literal 26 _ refl) (literal 41 [] refl)
line_short with_column r text (Overflow place) utf8 small placed = text_short _ text _ utf8 (overflow_words_short text) (large_short text)
line_short with_column r text (Mixed first later) utf8 small placed =
    text_short (codes "sum and product mixed") text [] utf8 (literal 26 _ refl) (literal 41 [] refl)
line_short with_column r text OutOfRange utf8 small placed = literal 294 _ refl
line_short with_column r text (NotText true) utf8 small placed = literal 294 _ refl
line_short with_column r text (NotText false) utf8 small placed = literal 294 _ refl

-- ---- A quote

-- whether a byte is an ASCII character that is quoted as it is
abbrev is_clear_byte : ℕ → Bool
is_clear_byte b = is_in_range 32 126 b && not (b == 34 || b == 92)

clear_end : (text : List ℕ) (room : ℕ) → length text ≤ room → list_all is_clear_byte text ≡ true
    → (encode_utf8_all text ≡ text) × (quoted_end room text ≡ text ++ codes "\"")
clear_end [] room fits e = (refl, refl)
clear_end (c ∷ text) room fits e =
    grind (arith, common_steps, and_parts, leb-true, encode_ascii, le-leb, clear_end text (room - 1))

pub quoted_clear : (text : List ℕ) → IsUtf8 text → length text ≤ 40 → list_all is_clear_byte text ≡ true
    → quoted (chars text) ≡ codes "\"" ++ (text ++ codes "\"")
quoted_clear text utf8 fits e =
    let parts = clear_end text 40 fits e in rw (← chars_from_encodes text text utf8 parts.0, parts.1) refl

pub quoted_more : (written whole rest after : List ℕ) (room c : ℕ) → length (shown c) ≤ room → IsUtf8 rest
    → rest ≡ encode_utf8 c ++ after → written ++ quoted_end room (chars rest) ≡ whole
    → (written ++ encode_utf8_all (shown c)) ++ quoted_end (room - length (shown c)) (chars after) ≡ whole
quoted_more written whole rest after room c fits utf8 parts all = grind (arith, append_assoc, chars_past_char, le-leb)

pub quoted_cut : (written whole rest after : List ℕ) (room c : ℕ) → room < length (shown c) → IsUtf8 rest
    → rest ≡ encode_utf8 c ++ after → written ++ quoted_end room (chars rest) ≡ whole
    → written ++ codes "\"..." ≡ whole
quoted_cut written whole rest after room c full utf8 parts all =
    rw (chars_past_char rest after c utf8 parts, lt-leb (length (shown c)) room full) at all

pub quoted_all : (written whole rest : List ℕ) (left : ℕ) → length rest ≡ 0
    → written ++ quoted_end left (chars rest) ≡ whole → written ++ codes "\"" ≡ whole
quoted_all written whole rest left none all = rw (chars_of_none rest none) at all

pub found_none : (piece : List ℕ) → (length piece == 0) ≡ true
    → found_words (chars piece) ≡ codes ", found the end"
found_none piece none = rw (chars_of_none piece (eqb-true (length piece) 0 none)) refl

pub found_some : (piece : List ℕ) → (length piece == 0) ≡ false → IsUtf8 piece
    → found_words (chars piece) ≡ codes ", found " ++ quoted (chars piece)
found_some piece some utf8 = found_chars (chars piece) piece (encodes-chars piece utf8) some
