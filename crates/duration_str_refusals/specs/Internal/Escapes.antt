-- The code of a character in its escape.
use Rattle.std.specs.Prelude.{ℕ, ◌-◌, length, take, drop}
use Rattle.std.specs.Char.Escape.{escape_unicode}
use Rattle.duration_str_base.specs.Text.{Bytes}

-- the digits of a number below 2^24 to the base 16, without zeros in front. They stand between the
-- brackets of an escape such as `\u{1b}`
abbrev pub hex_digits : ℕ → Bytes
hex_digits n = take (length (escape_unicode n) - 4) (drop 3 (escape_unicode n))
