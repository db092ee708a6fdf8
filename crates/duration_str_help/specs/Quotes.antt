-- How a text is quoted.
use Rattle.std.specs.Prelude.{ℕ, ◌-◌, Bool, not, ◌&&◌, ◌||◌, [], ◌∷◌, ◌++◌, if◌then◌else◌, ◌==◌, nat_le, encode_utf8_all, length, codes}
use Rattle.std.specs.Char.{is_control}
use Rattle.std.specs.Char.Escape.{escape_default}
use Rattle.std.specs.Int.{is_in_range}
use Rattle.duration_str_base.specs.Text.{Bytes, Characters}

-- whether a character is plain. Control characters and white space other than the space are not
-- plain. Nor are some others that can't be seen, such as marks of direction, tags and the soft
-- hyphen
abbrev pub is_plain : ℕ → Bool
is_plain c =
    not (is_control c || c == 0xA0 || c == 0xAD || c == 0x34F || c == 0x61C || is_in_range 0x115F 0x1160 c
    || c == 0x1680 || is_in_range 0x17B4 0x17B5 c || is_in_range 0x180B 0x180F c || is_in_range 0x2000 0x200F c
    || is_in_range 0x2028 0x202F c || is_in_range 0x205F 0x206F c || c == 0x2800 || c == 0x3000 || c == 0x3164
    || is_in_range 0xFE00 0xFE0F c || c == 0xFEFF || c == 0xFFA0 || is_in_range 0xFFF0 0xFFFB c
    || is_in_range 0x1BCA0 0x1BCA3 c || is_in_range 0x1D173 0x1D17A c || is_in_range 0xE0000 0xE0FFF c)

-- whether a character is quoted as it is
abbrev pub is_clear : ℕ → Bool
is_clear c = is_plain c && not (c == 34 || c == 92)

-- the characters that show a character in a quote. They are the character itself, or its escape as
-- Rust writes it, such as `\"` or `\u{1b}`
abbrev pub shown : ℕ → Characters
shown c = if is_clear c then c ∷ [] else escape_default c

-- as much of the text as fits into `room` characters, the closing quote, and three dots if
-- something is left out
abbrev pub quoted_end : ℕ → Characters → Bytes
quoted_end room [] = codes "\""
quoted_end room (c ∷ text) =
    if nat_le (length (shown c)) room then encode_utf8_all (shown c) ++ quoted_end (room - length (shown c)) text
    else codes "\"..."

-- a text in quotes, with at most 40 characters between them
abbrev pub quoted : Characters → Bytes
quoted text = codes "\"" ++ quoted_end 40 text
