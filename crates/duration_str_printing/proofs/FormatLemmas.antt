-- Lemmas about the steps of printing in a format, and about the most bytes that a text has.
use Rattle.duration_str_printing.proofs.Common.{append_assoc, ap, arith, between, byte_len, cases_Bool, chars, chars_from_encodes, counts_within, decimal, div-le_self, drop, encode_utf8_all, Format, inl, inr, IsPrintedWithin, IsUtf8, le-div_iff_mul-le, leb, leb-true, length, length-append, lengths_within, List, map, most_len, nanos_of, nat_tests, part_bytes, printed_row, refl, row_of, rules, Style, sym, take, take-append-add, text_within, TimeUnit, units, units_within, with_counts, with_gap, with_part, Year, zero-div, zero_unit, [], ℕ, ◌%◌, ◌*◌, ◌++◌, ◌+◌, ◌-◌, ◌∙◌, ◌/◌, ◌<◌, ◌==◌, ◌^◌, ◌∷◌, ◌≡◌, ◌≤◌, Bool, Day, Hour, Month, Quarter, Short, Week, list_all, true, and_parts, with_parts, Units, common_steps, cases_lt}
use Rattle.duration_str_printing.proofs.SetLemmas.{chosen_in, chosen_none, chosen_out, hours_chosen}
use Rattle.duration_str_printing.specs.Format.{chosen, is_in, up_to}
use Rattle.std.specs.Prelude.{max}
use Rattle.duration_str_base.proofs.UnitLemmas.{all_units, each_short, each_unit, length_name, some_length}
use Rattle.duration_str_printing.proofs.PrintedBytesLemmas.{length_part, name_len, AreShort, ended, ended_parts, IsUtf8-joined, no_gap}
use Rattle.duration_str_base.proofs.DigitLemmas.{length_smaller}
use Rattle.duration_str_printing.proofs.GreatestWithin.{greatest_within}
use Rattle.duration_str_printing.specs.Internal.PrintedBytes.{digits}
use borrow.Rule.Slice.PartMut.{put_mid}
use Rattle.std.proofs.lemmas.List.{take-append-le}

-- ---- Units of a day or longer

abbrev is_days : TimeUnit → Bool
is_days u = leb (nanos_of Day) (nanos_of u)

without_days : (style : Style) (longer shorter : List TimeUnit) (bytes : List ℕ) (most nanos : ℕ)
    → list_all is_days longer ≡ true → nanos < nanos_of Day
    → with_parts style bytes shorter most nanos ≡ with_parts style bytes (longer ++ shorter) most nanos
without_days style [] shorter bytes most nanos long h = refl
without_days style (u ∷ longer) shorter bytes most nanos long h =
    let parts = and_parts (is_days u) (list_all is_days longer) long in
    let more : nanos < nanos_of u = omega (arith, leb-true (nanos_of Day) (nanos_of u) parts.0) in
    without_days style longer shorter bytes most nanos parts.1 h
    ∙ search rules

days_chosen : (set : Units) (us : List TimeUnit) → list_all is_days us ≡ true
    → list_all is_days (chosen set us) ≡ true
days_chosen set [] long = rw (chosen_none set)
days_chosen set (u ∷ us) long =
    let parts = and_parts (is_days u) (list_all is_days us) long in
    elim (cases_Bool (is_in set u)) [
      | inl inside ↦ rw (chosen_in set u us inside, parts.0) (days_chosen set us parts.1)
      | inr out ↦ rw (chosen_out set u us out) (days_chosen set us parts.1)
    ]

pub chosen-append : (set : Units) (a b : List TimeUnit) → chosen set (a ++ b) ≡ chosen set a ++ chosen set b
chosen-append set [] b = rw (chosen_none set)
chosen-append set (u ∷ a) b = search (rules, cases_Bool, chosen_in, chosen_out, chosen-append set a b)

pub chosen_below_day : (style : Style) (set : Units) (bytes : List ℕ) (most nanos : ℕ) → nanos < nanos_of Day
    → with_parts style bytes (chosen (up_to Hour set) units) most nanos
    ≡ with_parts style bytes (chosen set units) most nanos
chosen_below_day style set bytes most nanos h =
    rw (hours_chosen set, chosen-append set (take 5 units) (drop 5 units))
    (without_days style (chosen set (take 5 units)) (chosen set (drop 5 units)) bytes most nanos
    (days_chosen set (take 5 units) refl) h)

-- ---- The parts

pub with_none : (style : Style) (us : List TimeUnit) (bytes : List ℕ) (most nanos : ℕ) → most ≡ 0
    → bytes ≡ with_counts style bytes us (counts_within (map nanos_of us) most nanos)
with_none style [] bytes most nanos none = refl
with_none style (u ∷ us) bytes most nanos none = rw none (with_none style us bytes 0 nanos refl)

pub with_nothing : (style : Style) (us : List TimeUnit) (bytes : List ℕ) (most nanos : ℕ) → nanos ≡ 0
    → bytes ≡ with_counts style bytes us (counts_within (map nanos_of us) most nanos)
with_nothing style [] bytes most nanos none = refl
with_nothing style (u ∷ us) bytes most nanos none =
    search (rules, zero-div, with_nothing style us bytes most nanos none)

-- ---- The most bytes

-- a bound on the bytes of the parts of less than `limit` nanoseconds in these units, with `between`
-- after each part
abbrev most_bytes : Style → ℕ → List TimeUnit → ℕ
most_bytes style limit [] = 0
most_bytes style limit (u ∷ us) =
    length (decimal ((limit - 1) / nanos_of u)) + name_len style u + length (between style)
    + most_bytes style (nanos_of u) us

gap_more : (style : Style) (bytes : List ℕ) → length (with_gap style bytes) ≤ length bytes + length (between style)
gap_more style bytes = search (rules, length-append)

part_more : (style : Style) (bytes : List ℕ) (u : TimeUnit) (n most : ℕ) → n ≤ most → most < 10 ^ 64
    → length (with_gap style (with_part style bytes u n))
    ≤ length (with_gap style bytes) + (length (decimal most) + name_len style u + length (between style))
part_more style bytes u n most h small = search (rules, gap_more, length-append, length_part, length_smaller)

parts_fit : (style : Style) (us : List TimeUnit) (limit : ℕ) (bytes : List ℕ) (most nanos : ℕ)
    → nanos < limit → limit ≤ 10 ^ 64
    → length (with_gap style (with_counts style bytes us (counts_within (map nanos_of us) most nanos)))
    ≤ length (with_gap style bytes) + most_bytes style limit us
parts_fit style [] limit bytes most nanos h small = omega arith
parts_fit style (u ∷ us) limit bytes most nanos h small = elim (cases_Bool (most == 0)) [
  | inl none ↦
      let no : most ≡ 0 = grind (arith, nat_tests) in
      rw (← with_none style (u ∷ us) bytes most nanos no) (omega arith)
  | inr some ↦
      let l = nanos_of u in
      let positive : 1 ≤ l = some_length u in
      let short : l < 10 ^ 64 = omega (arith, each_short u) in
      elim (cases_Bool (nanos / l == 0)) [
        | inl nothing ↦
            let none : nanos / l ≡ 0 = grind (arith, nat_tests) in
            let below : nanos < l = search (rules, cases_lt, le-div_iff_mul-le) in
            rw (some, nothing) (omega (arith, parts_fit style us l bytes most nanos below (omega arith)))
        | inr count ↦
            let below : nanos % l < l = omega arith in
            let product : nanos / l * l ≤ limit - 1 = omega arith in
            let fewer : nanos / l ≤ (limit - 1) / l = (le-div_iff_mul-le positive).1 product in
            rw (some, count)
            (omega (
              arith,
              part_more style bytes u (nanos / l) ((limit - 1) / l) fewer (omega (arith, div-le_self (limit - 1) l)),
              parts_fit style us l (with_part style bytes u (nanos / l)) (most - 1) (nanos % l) below (omega arith),
            ))
      ]
]

pub days_fit : (y q m w d : ℕ) → y ≤ 999 → q ≤ 9 → m ≤ 9 → w ≤ 9 → d ≤ 9
    → length (with_gap Short (with_counts Short [] units (y ∷ q ∷ m ∷ w ∷ d ∷ []))) ≤ 19
unfolding digits
days_fit y q m w d y_fits q_fits m_fits w_fits d_fits =
    let years = with_part Short [] Year y in
    let quarters = with_part Short years Quarter q in
    let months = with_part Short quarters Month m in
    let weeks = with_part Short months Week w in
    omega (
      arith,
      part_more Short [] Year y 999 y_fits (omega arith),
      part_more Short years Quarter q 9 q_fits (omega arith),
      part_more Short quarters Month m 9 m_fits (omega arith),
      part_more Short months Week w 9 w_fits (omega arith),
      part_more Short weeks Day d 9 d_fits (omega arith),
    )

-- the greatest `most_bytes` of all choices of these units
abbrev worst : Style → ℕ → List TimeUnit → ℕ
worst style limit [] = 0
worst style limit (u ∷ us) =
    max (worst style limit us)
    (length (decimal ((limit - 1) / nanos_of u)) + name_len style u + length (between style) + worst style (nanos_of u) us)

chosen_most : (style : Style) (set : Units) (limit : ℕ) (us : List TimeUnit)
    → most_bytes style limit (chosen set us) ≤ worst style limit us
chosen_most style set limit [] = rw (chosen_none set) (omega arith)
chosen_most style set limit (u ∷ us) =
    search (rules, cases_Bool, chosen_in, chosen_out, chosen_most style set (nanos_of u) us, chosen_most style set limit us)

worst_fits : (style : Style) → worst style (2 ^ 64 * 10 ^ 9) units ≤ most_len style + length (between style)
unfolding digits
worst_fits style = search (rules, leb-true)

less_gap : (style : Style) (bytes : List ℕ) (most : ℕ) → length (with_gap style bytes) ≤ most + length (between style)
    → length bytes ≤ most
less_gap style bytes most h = search (rules, length-append)

pub within_fits : (format : Format) (nanos : ℕ) → nanos < 2 ^ 64 * 10 ^ 9
    → length (with_counts format.style [] (units_within format)
    (counts_within (lengths_within format) format.parts nanos)) ≤ most_len format.style
within_fits format nanos h =
    let style = format.style in
    let none = ap length (no_gap style) in
    less_gap style _ (most_len style) (omega (
      arith,
      none,
      parts_fit style (units_within format) (2 ^ 64 * 10 ^ 9) [] format.parts nanos h (omega arith),
      chosen_most style format.units (2 ^ 64 * 10 ^ 9) units,
      worst_fits style,
    ))

-- ---- The text

pub within_short : (lengths : List ℕ) (most nanos : ℕ) → nanos < 10 ^ 64 → AreShort (counts_within lengths most nanos)
within_short [] most nanos h = tt
within_short (l ∷ lengths) most nanos h = search (rules, within_short lengths)

pub within_ended : (format : Format) (nanos : ℕ) → nanos < 10 ^ 64
    → ended (part_bytes format.style 0 (zero_unit (units_within format)))
    (with_counts format.style [] (units_within format) (counts_within (lengths_within format) format.parts nanos))
    ≡ encode_utf8_all (text_within format (counts_within (lengths_within format) format.parts nanos))
within_ended format nanos h = search (rules, ended_parts, within_short)

pub within_utf8 : (format : Format) (nanos : ℕ) → nanos < 10 ^ 64
    → IsUtf8 (encode_utf8_all (text_within format (counts_within (lengths_within format) format.parts nanos)))
within_utf8 format nanos h = search (rules, IsUtf8-joined, within_short)

pub printed_within : (format : Format) (nanos : ℕ) (bytes : List ℕ) → IsUtf8 bytes
    → bytes ≡ encode_utf8_all (text_within format (counts_within (lengths_within format) format.parts nanos))
    → IsPrintedWithin format nanos (chars bytes)
printed_within format nanos bytes utf8 same =
    let counts = counts_within (lengths_within format) format.parts nanos in
    (counts, greatest_within format nanos, sym (chars_from_encodes (text_within format counts) bytes utf8 (sym same)))

-- ---- The table of the units for printing

pub name_short : (u : TimeUnit) → length (encode_utf8_all (row_of u).printed) ≤ 3
name_short u = rw (length_name u) (leb-true _ 3 (all_units (λ u. leb (byte_len (row_of u).printed) 3) refl u))

name_first : (u : TimeUnit)
    → take (length (encode_utf8_all (row_of u).printed)) (printed_row u).letters ≡ encode_utf8_all (row_of u).printed
unfolding lib.Utf8.encode
name_first = search rules

name_space : (u : TimeUnit)
    → take (length (encode_utf8_all (row_of u).printed) + 1) (printed_row u).letters
    ≡ encode_utf8_all (row_of u).printed ++ 32 ∷ []
unfolding lib.Utf8.encode
name_space = search (rules, each_unit)

letters_len : (u : TimeUnit) → length (printed_row u).letters ≡ 4
unfolding lib.Utf8.encode
letters_len = each_unit (λ u. length (printed_row u).letters ≡ 4) assumption

pub take_part : (at k end : ℕ) (bytes part : List ℕ) → at ≤ length bytes → end ≤ length part
    → take (at + end) (put_mid at k bytes part) ≡ take at bytes ++ take end part
take_part at k end bytes part inside short = search (rules, take-append-add, take-append-le)

pub name_copied : (at k : ℕ) (bytes : List ℕ) (u : TimeUnit) → at ≤ length bytes
    → take (at + length (encode_utf8_all (row_of u).printed)) (put_mid at k bytes (printed_row u).letters)
    ≡ take at bytes ++ encode_utf8_all (row_of u).printed
name_copied at k bytes u inside = search (rules, letters_len, name_first, name_short, take_part)

pub name_spaced : (at k : ℕ) (bytes : List ℕ) (u : TimeUnit) → at ≤ length bytes
    → take (at + length (encode_utf8_all (row_of u).printed) + 1) (put_mid at k bytes (printed_row u).letters)
    ≡ take at bytes ++ encode_utf8_all (row_of u).printed ++ 32 ∷ []
name_spaced at k bytes u inside =
    grind (arith, common_steps, take_part, letters_len, name_short, name_space, append_assoc)
