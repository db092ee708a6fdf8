-- The bytes built unit by unit are the UTF-8 of the printed text.
use Rattle.duration_str_printing.proofs.Common.{append-nil, append_assoc, arith, between, codes, Compact, decimal, encode_utf8_all, encodes-append, encodes-IsAscii, flat_map, IsAscii-decimal_wide, IsUtf8, IsUtf8-append, IsUtf8-from_ascii, IsUtf8-nil, joined_parts, length, length-append, List, Long, part_bytes, printed_part, printed_parts, rules, Short, Style, sym, TimeUnit, with_counts, with_gap, [], ℕ, ⊤, ◌++◌, ◌<◌, ◌^◌, ◌∷◌, ◌≡◌, Bool, byte_len, false, leb-true, name_part, ◌≤◌}
use Rattle.duration_str_base.proofs.DigitLemmas.{some_decimal}
use lib.Utf8.{encode}
use Rattle.duration_str_base.proofs.UnitLemmas.{all_units}

pub encode_part : (style : Style) (n : ℕ) (u : TimeUnit) → n < 10 ^ 64
    → encode_utf8_all (printed_part style n u) ≡ part_bytes style n u
encode_part style n u h = rw (encodes-append (decimal n), encodes-IsAscii (decimal n) (IsAscii-decimal_wide n h))

pub no_gap : (style : Style) → with_gap style [] ≡ []
no_gap style = search rules

gap_some : (style : Style) (bytes : List ℕ) → 0 < length bytes
    → with_gap style bytes ≡ bytes ++ encode_utf8_all (between style)
unfolding lib.Utf8.encode
gap_some style bytes h = search (rules, append-nil)

abbrev pub AreShort : List ℕ → Type 0
AreShort [] = ⊤
AreShort (n ∷ counts) = (n < 10 ^ 64) × AreShort counts

some_part : (style : Style) (bytes : List ℕ) (n : ℕ) (u : TimeUnit) → n < 10 ^ 64
    → 0 < length (bytes ++ part_bytes style n u)
some_part style bytes n u h = search (rules, length-append, some_decimal)

parts_after : (style : Style) (us : List TimeUnit) (bytes counts : List ℕ) → 0 < length bytes → AreShort counts
    → with_counts style bytes us counts
    ≡ bytes ++ encode_utf8_all (flat_map (λ part. between style ++ part) (printed_parts style us counts))
parts_after style (u ∷ us) bytes (n ∷ counts) some short =
    search (rules, some_part, gap_some, encodes-append, encode_part, append_assoc, parts_after style us)
parts_after style _ bytes _ some short = sym (append-nil bytes)

-- the bytes, or `zero` if there are none
abbrev pub ended : List ℕ → List ℕ → List ℕ
ended zero [] = zero
ended zero (b ∷ bytes) = b ∷ bytes

pub ended_parts : (style : Style) (zero : TimeUnit) (us : List TimeUnit) (counts : List ℕ) → AreShort counts
    → ended (part_bytes style 0 zero) (with_counts style [] us counts)
    ≡ encode_utf8_all (joined_parts style zero (printed_parts style us counts))
ended_parts style zero (u ∷ us) (n ∷ counts) short =
    search (rules, encode_part, encodes-append, length-append, parts_after, some_part, ended_parts style zero us counts)
ended_parts style zero _ _ short = sym (encode_part style 0 zero (omega arith))

utf8_gap : (style : Style) (bytes : List ℕ) → IsUtf8 bytes → IsUtf8 (with_gap style bytes)
utf8_gap Compact bytes utf8 = utf8
utf8_gap style [] utf8 = rw (no_gap style) utf8
utf8_gap Short (b ∷ bytes) utf8 = IsUtf8-append (b ∷ bytes) _ utf8 (IsUtf8-from_ascii (codes " ") (search rules))
utf8_gap Long (b ∷ bytes) utf8 = IsUtf8-append (b ∷ bytes) _ utf8 (IsUtf8-from_ascii (codes " ") (search rules))

pub utf8_part : (style : Style) (n : ℕ) (u : TimeUnit) → n < 10 ^ 64 → IsUtf8 (part_bytes style n u)
utf8_part style n u h = search (rules, IsAscii-decimal_wide, IsUtf8-append, IsUtf8-from_ascii)

utf8_parts : (style : Style) (us : List TimeUnit) (bytes counts : List ℕ) → IsUtf8 bytes → AreShort counts
    → IsUtf8 (with_counts style bytes us counts)
utf8_parts style (u ∷ us) bytes (n ∷ counts) utf8 short =
    search (
      rules,
      IsUtf8-append,
      utf8_gap,
      utf8_part,
      utf8_parts style us bytes counts utf8 short.1,
      utf8_parts style us _ counts
          (IsUtf8-append (with_gap style bytes) _ (utf8_gap style bytes utf8) (utf8_part style n u short.0)) short.1,
    )
utf8_parts style _ bytes _ utf8 short = utf8

utf8_ended : (zero bytes : List ℕ) → IsUtf8 zero → IsUtf8 bytes → IsUtf8 (ended zero bytes)
utf8_ended zero [] zero_utf8 utf8 = zero_utf8
utf8_ended zero (b ∷ bytes) zero_utf8 utf8 = utf8

pub IsUtf8-joined : (style : Style) (zero : TimeUnit) (us : List TimeUnit) (counts : List ℕ) → AreShort counts
    → IsUtf8 (encode_utf8_all (joined_parts style zero (printed_parts style us counts)))
IsUtf8-joined style zero us counts short =
    rw (← ended_parts style zero us counts short) (utf8_ended (part_bytes style 0 zero) _
    (utf8_part style 0 zero (omega arith)) (utf8_parts style us [] counts IsUtf8-nil short))

-- the greatest length in bytes of what follows a count of the unit in a style
abbrev pub name_len : Style → TimeUnit → ℕ
name_len style u = byte_len (name_part style false u)

pub length_part : (style : Style) (one : Bool) (u : TimeUnit)
    → length (encode_utf8_all (name_part style one u)) ≤ name_len style u
unfolding lib.Utf8.encode
length_part style one u = search (arith, leb-true, all_units)
