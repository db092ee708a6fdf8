-- The bytes of a printed duration, built unit by unit.
use Rattle.std.specs.Prelude.{ℕ, Bool, List, [], ◌∷◌, ◌++◌, if◌then◌else◌, ◌==◌, decimal, encode_utf8_all, map}
unfoldable pub use Rattle.std.specs.Fmt.{digits}
use Rattle.duration_str_base.specs.declared.unit.TimeUnit.{TimeUnit}
use Rattle.duration_str_printing.specs.declared.format.Style.{Style}
use Rattle.duration_str_printing.specs.declared.format.Style.TheVariants.{Compact}
use Rattle.duration_str_base.specs.Text.{Bytes, Characters}
use Rattle.duration_str_printing.specs.Printing.{before_name, name_in}
use Rattle.duration_str_base.specs.Units.{nanos_of}
use Rattle.duration_str_printing.specs.Format.{counts_within}

-- the bytes, followed by the space between two parts, unless the bytes are empty or the style is
-- compact
abbrev pub with_gap : Style → Bytes → Bytes
with_gap Compact bytes = bytes
with_gap style [] = []
with_gap style (b ∷ bytes) = (b ∷ bytes) ++ 32 ∷ []

abbrev pub name_part : Style → Bool → TimeUnit → Characters
name_part style one u = before_name style ++ name_in style one u

abbrev pub part_bytes : Style → ℕ → TimeUnit → Bytes
part_bytes style n u = decimal n ++ encode_utf8_all (name_part style (n == 1) u)

abbrev pub with_part : Style → Bytes → TimeUnit → ℕ → Bytes
with_part style bytes u n = if n == 0 then bytes else with_gap style bytes ++ part_bytes style n u

abbrev pub with_counts : Style → Bytes → List TimeUnit → List ℕ → Bytes
with_counts style bytes (u ∷ us) (n ∷ counts) = with_counts style (with_part style bytes u n) us counts
with_counts style bytes _ _ = bytes

abbrev pub with_parts : Style → Bytes → List TimeUnit → ℕ → ℕ → Bytes
with_parts style bytes us most nanos = with_counts style bytes us (counts_within (map nanos_of us) most nanos)

abbrev pub with_each : Style → Bytes → List (TimeUnit × ℕ) → Bytes
with_each style bytes [] = bytes
with_each style bytes ((u, n) ∷ parts) = with_each style (with_part style bytes u n) parts
