-- Which part of a refused text to replace, and by what.
use Rattle.std.specs.Prelude.{◌≡◌, ℕ, ◌+◌, ◌-◌, Bool, true, false, not, ◌&&◌, ◌||◌, [], ◌∷◌, ◌++◌, Option, Some, None, if◌then◌else◌, ◌==◌, decimal, encode_utf8_all, take, drop, length, option_map, is_some, chars, bytes_eq, codes}
use Rattle.std.specs.Char.{is_ascii_alphabetic}
use Rattle.std.specs.List.{list_all, prefix_len}
use Rattle.std.specs.Option.{option_or}
use Rattle.duration_str_base.specs.declared.cause.Expected.{Expected}
use Rattle.duration_str_base.specs.declared.cause.Cause.{Cause}
use Rattle.duration_str_base.specs.declared.cause.Cause.TheVariants.{Syntax}
use Rattle.duration_str_help.specs.declared.help.Help.{Help}
use Rattle.duration_str_help.specs.declared.help.Help.TheVariants.{DidYouMean, Fraction, DigitsOnly, LeadingPlus, Iso8601, NoPoint, Zero}
use Rattle.duration_str_help.specs.declared.suggestion.Replacement.{Replacement}
use Rattle.duration_str_help.specs.declared.mend.Mend.{Mend}
use Rattle.duration_str_help.specs.declared.suggestion.Suggestion.{Suggestion}
use Rattle.duration_str_base.specs.declared.unit.TimeUnit.{TimeUnit}
use Rattle.duration_str_base.specs.declared.unit.TimeUnit.TheVariants.{Second}
use Rattle.duration_str_help.specs.Fraction.{as_term, end_run, nanos_of_fraction}
use Rattle.duration_str_base.specs.Text.{Bytes, Characters, is_blank, is_digit, operator_of}
use Rattle.duration_str_base.specs.Rules.{Rules, unit_of_word}
use Rattle.duration_str_help.specs.Help.{begins_with_letter, first_piece, help_name, is_letter, near_unit, syntax_help}

-- the digits of a count, if there is one
abbrev pub count_text : Option ℕ → Bytes
count_text (Some count) = decimal count
count_text None = []

-- the name of a unit that a help names, if there is a unit
abbrev pub unit_text : Option TimeUnit → Bytes
unit_text (Some unit) = encode_utf8_all (help_name unit)
unit_text None = []

-- what a suggestion says to write: the count's digits, and the unit's name after them
abbrev pub suggestion_text : Suggestion → Bytes
suggestion_text s = count_text s.count ++ unit_text s.unit

abbrev pub name_alone : TimeUnit → Suggestion
name_alone unit = record { count = None; unit = Some unit }

abbrev pub nothing : Suggestion
nothing = record { count = None; unit = None }

-- the replacement that removes the bytes from `start` to `end`, if the condition is true
abbrev pub removed_if : Bool → ℕ → ℕ → Option Replacement
removed_if condition start end =
    if condition then Some (record { start = start; end = end; suggestion = nothing }) else None

-- the unit that a word names, or otherwise the unit that it is near
abbrev pub meant_unit : Rules → Characters → Option TimeUnit
meant_unit r word = option_or (unit_of_word r word) (near_unit word)

-- whether a number without a unit can stand before these bytes: they are none, or begin with an
-- operator that is read
abbrev pub can_end_number : Rules → Bytes → Bool
can_end_number r [] = true
can_end_number r (b ∷ bytes) = not r.options.no_calc && is_some (operator_of b)

-- the unit of the number before these bytes, and the length of the blanks and the word that name
-- it. The length is 0 if the number has the default unit
abbrev pub unit_ahead : Rules → Bytes → Option (TimeUnit × ℕ)
unit_ahead r bytes =
    let blanks = prefix_len is_blank bytes in
    let word = first_piece (chars (drop blanks bytes)) in
    if begins_with_letter word
    then option_map (λ u. (u, blanks + length (encode_utf8_all word))) (meant_unit r word)
    else if can_end_number r (drop blanks bytes) then option_map (λ u. (u, 0)) r.default_unit
    else None

-- what to replace in a text that has a number with these digits before and after its point: it
-- starts at byte `start`, its digits end at byte `end`, and this is its unit, with the length of
-- the blanks and the word that name it
abbrev pub fraction_with : Rules → Bytes → Bytes → ℕ → ℕ → Option (TimeUnit × ℕ) → Option Replacement
fraction_with r whole decimals start end (Some (u, more)) =
    option_map (λ nanos. record { start = start; end = end + more; suggestion = as_term r.table u nanos })
    (nanos_of_fraction whole decimals (r.table u).nanos)
fraction_with r whole decimals start end None = None

-- what to replace in a text with a point at byte `place`: one term goes in place of the number
-- and its unit. The digits directly before the point can be missing where a number can stand
abbrev pub fraction_replacement : Rules → Bytes → ℕ → Expected → Option Replacement
fraction_replacement r text place expected =
    let whole = end_run is_digit (take place text) in
    let after = drop (place + 1) text in
    let decimals = take (prefix_len is_digit after) after in
    let end = place + 1 + length decimals in
    if length decimals == 0 || (length whole == 0 && not expected.number) then None
    else fraction_with r whole decimals (place - length whole) end (unit_ahead r (drop end text))

-- whether a point can go that these characters follow directly: they begin with no letter, which
-- would join the unit's word, with no digit, since the point can begin a fraction, and with no
-- point, since two can stand between the ends of a range
abbrev pub ends_unit : Characters → Bool
ends_unit [] = true
ends_unit (c ∷ text) = not (is_letter c || is_digit c || c == 46)

-- whether a mark can go that these bytes follow directly: they begin with exactly three digits, so
-- that the mark separates thousands. With fewer or more digits it can stand in a time or a date
abbrev pub separates_thousands : Bytes → Bool
separates_thousands bytes = prefix_len is_digit bytes == 3

-- whether `PT` can go from a text with these bytes: the last one that isn't blank is a letter, as
-- in ISO 8601. Otherwise the last number has no unit there
abbrev pub ends_with_letter : Bytes → Bool
ends_with_letter [] = false
ends_with_letter (b ∷ bytes) =
    if list_all is_blank bytes then is_ascii_alphabetic b else ends_with_letter bytes

-- What to replace for a help, if that is certain, given the bytes of the piece at byte `place`. A
-- zero gets a unit only at the end: in `0 0` the second one would still lack its unit
abbrev pub replacement_for : Rules → Bytes → ℕ → Expected → Bytes → Option Help → Option Replacement
replacement_for r text place expected piece (Some (DidYouMean unit)) =
    Some (record { start = place; end = place + length piece; suggestion = name_alone unit })
replacement_for r text place expected piece (Some Fraction) = fraction_replacement r text place expected
replacement_for r text place expected piece (Some LeadingPlus) = removed_if true place (place + length piece)
replacement_for r text place expected piece (Some NoPoint) =
    removed_if (ends_unit (chars (drop (place + length piece) text))) place (place + length piece)
replacement_for r text place expected piece (Some DigitsOnly) =
    removed_if ((bytes_eq piece (codes "_") || bytes_eq piece (codes "'")) && separates_thousands (drop (place + length piece) text))
    place (place + length piece)
replacement_for r text place expected piece (Some Iso8601) =
    removed_if (length piece == 2 && not r.options.lowercase && ends_with_letter text) place (place + length piece)
replacement_for r text place expected piece (Some Zero) =
    if length piece == 0 then Some (record { start = place; end = place; suggestion = name_alone Second }) else None
replacement_for r text place expected piece help = None

-- what to replace in the bytes of a text that is refused by these rules for this cause,
-- if that is certain
abbrev pub replacement_of : Rules → Bytes → Cause → Option Replacement
replacement_of r text (Syntax place expected) =
    let piece = first_piece (chars (drop place text)) in
    replacement_for r text place expected (encode_utf8_all piece) (syntax_help text place expected piece)
replacement_of r text cause = None

-- what to write there, if anything is replaced
abbrev pub suggestion_of : Rules → Bytes → Cause → Option Suggestion
suggestion_of r text cause = option_map (λ replacement. replacement.suggestion) (replacement_of r text cause)

-- The refused text is the front, the part that is replaced, and the rest. With the suggestion it is
-- the front, what is written instead, and the rest.
pub record Pieces : Type 0 where
  pub front : Bytes
  pub replaced : Bytes
  pub written : Bytes
  pub rest : Bytes

-- the pieces of a text in which this is replaced
abbrev pub pieces_of : Bytes → Replacement → Pieces
pieces_of text replacement = record {
  front = take replacement.start text;
  replaced = take (replacement.end - replacement.start) (drop replacement.start text);
  written = suggestion_text replacement.suggestion;
  rest = drop replacement.end text;
}

-- the pieces of a refused text, if it is certain what to replace, and by what
abbrev pub mend_of : Rules → Bytes → Cause → Option Pieces
mend_of r text cause = option_map (pieces_of text) (replacement_of r text cause)

-- The result has these pieces, or is `None` if there are none.
abbrev pub HasPieces : Option Pieces → Option Mend → Type 0
HasPieces pieces None = pieces ≡ None
HasPieces pieces (Some new) =
    pieces ≡ Some (record {
      front = new.front.now;
      replaced = new.replaced.now;
      written = suggestion_text new.suggestion;
      rest = new.rest.now;
    })
