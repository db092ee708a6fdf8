-- The place and the line of a cause, and the characters before a place.
use Rattle.std.specs.Prelude.{ℕ, Option, Some, None, ◌++◌, if◌then◌else◌, codes, chars, length, take}
use Rattle.duration_str_base.specs.Text.{Bytes, Characters}
use Rattle.duration_str_base.specs.declared.cause.Cause.{Cause}
use Rattle.duration_str_base.specs.declared.cause.Cause.TheVariants.{NumberTooLarge, Overflow, Syntax, Empty, Mixed, OutOfRange, NotText}
use Rattle.duration_str_base.specs.declared.operator.CondUnit.{CondUnit}
use Rattle.duration_str_base.specs.declared.operator.CondUnit.TheVariants.{Plus, Star}

-- the place of a fault, if it has one
abbrev pub place_of : Cause → Option ℕ
place_of (Syntax place expected) = Some place
place_of (NumberTooLarge place) = place
place_of (Overflow place) = place
place_of cause = None

-- how many characters a text has before this byte, given its bytes
abbrev pub chars_before : Bytes → ℕ → ℕ
chars_before text place = length (chars (take place text))

abbrev pub sign_of : CondUnit → Characters
sign_of Plus = codes "+"
sign_of Star = codes "*"

-- the line that says what is wrong
abbrev pub line_of : Cause → Characters
line_of Empty = codes "Empty input"
line_of (Syntax place expected) =
    if expected.unit_word then
    codes "expected [\"y\", \"q\", \"mon\", \"w\", \"d\", \"h\", \"m\", \"s\", \"ms\", \"µs\", \"us\", \"ns\"]"
    else if expected.operator then codes "expected ['+', '*']"
    else codes "expected number"
line_of (NumberTooLarge place) = codes "number too large to fit in target type"
line_of (Overflow place) = codes "overflow error"
line_of (Mixed first later) =
    codes "not support '" ++ (sign_of first ++ (codes "' with '" ++ (sign_of later ++ codes "' calculate")))
line_of OutOfRange = codes "date out of range"
line_of (NotText optional) =
    if optional then codes "expect duration string, null, or missing field"
    else codes "expect duration string, e.g: '1min+30'"
