-- Texts as lists of character codes, the classes of characters, and the numbers that digits write.
use Rattle.std.specs.Prelude.{ℕ, ◌+◌, ◌*◌, ◌-◌, Bool, ◌&&◌, ◌||◌, List, [], ◌∷◌, nat_le, ◌==◌, IsTrue, Option, Some, None, if◌then◌else◌, codes}
use Rattle.std.specs.Char.{is_ascii_digit, is_ascii_alphabetic, len_utf8}
use Rattle.std.specs.List.{list_any, list_all}
use Rattle.duration_str_base.specs.declared.options.Options.{Options}
use Rattle.duration_str_base.specs.declared.operator.CondUnit.{CondUnit}
use Rattle.duration_str_base.specs.declared.operator.CondUnit.TheVariants.{Plus, Star}

-- characters, each by its code
abbrev pub Characters : Type 0
Characters = List ℕ

-- bytes, such as a text in UTF-8
abbrev pub Bytes : Type 0
Bytes = List ℕ

-- whether a character is a space, a tab, a carriage return or a line feed
abbrev pub is_blank : ℕ → Bool
is_blank c = c == 32 || c == 9 || c == 13 || c == 10

-- whether a character is one of the digits 0 to 9
abbrev pub is_digit : ℕ → Bool
is_digit c = is_ascii_digit c

-- the characters that the option `cn_unit` adds to the unit letters
abbrev pub chinese_letters : Characters
chinese_letters = codes "年月周日天时分秒毫微纳"

-- whether `cn_unit` adds this character to the unit letters
abbrev pub is_chinese : ℕ → Bool
is_chinese c = list_any (λ d. d == c) chinese_letters

-- whether a character is an ASCII letter, µ (U+00B5), or, with `cn_unit`, one of the Chinese
-- letters
abbrev pub is_unit_letter : Options → ℕ → Bool
is_unit_letter o c = is_ascii_alphabetic c || c == 0xB5 || (o.cn_unit && is_chinese c)

-- the operator that a character stands for, if any: 43 is `+`, 42 is `*`
abbrev pub operator_of : ℕ → Option CondUnit
operator_of c = if c == 43 then Some Plus else if c == 42 then Some Star else None

-- Every character is a blank.
abbrev pub IsBlank : Characters → Type 0
IsBlank text = IsTrue (list_all is_blank text)

-- the decimal number that has the digits of n and then these digits
abbrev pub number_after : ℕ → Characters → ℕ
number_after n [] = n
number_after n (c ∷ digits) = number_after (n * 10 + (c - 48)) digits

-- the decimal number with these digits
abbrev pub number_of : Characters → ℕ
number_of digits = number_after 0 digits

-- the length of a character in UTF-8, in bytes. A number that is not a character counts as four
abbrev pub width : ℕ → ℕ
width c = if nat_le 0xD800 c && nat_le c 0xDFFF then 4 else len_utf8 c

-- the length of a text in UTF-8, in bytes
abbrev pub byte_len : Characters → ℕ
byte_len [] = 0
byte_len (c ∷ text) = width c + byte_len text
