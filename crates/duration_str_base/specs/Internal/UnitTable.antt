-- The tables in the code: of units, and of names by their packed numbers.
use Rattle.std.specs.Prelude.{Bool, true, List, Option, Some, None, encode_utf8_all, length, map, take, [], ℕ, ◌&&◌, ◌++◌, ◌-◌, ◌/◌, ◌==◌, ◌^◌, ◌∷◌, if◌then◌else◌, nat_le}
use Rattle.std.specs.List.{find, list_all, list_any}
use Rattle.duration_str_base.specs.declared.unit.Printed.{Printed}
use Rattle.duration_str_base.specs.declared.unit.TimeUnit.{TimeUnit}
use Rattle.duration_str_base.specs.Text.{Characters, byte_len, is_unit_letter}
use Rattle.duration_str_base.specs.MoreNames.{more_names}
use Rattle.duration_str_base.specs.Units.{nanos_of, row_of, UnitRow, units}
use Rattle.duration_str_base.specs.declared.options.Options.{Options}
use Rattle.duration_str_base.specs.Options.{off}
use Rattle.duration_str_base.specs.Internal.Positions.{packed_number}

-- the row of a unit in the table for printing
abbrev pub printed_row : TimeUnit → Printed
printed_row u = record {
  unit = u;
  nanos = nanos_of u;
  most = (2 ^ 64 - 1) / nanos_of u;
  letters = take 4 (encode_utf8_all (row_of u).printed ++ 32 ∷ 32 ∷ 32 ∷ []);
  width = length (encode_utf8_all (row_of u).printed);
}

abbrev pub Table : Type 0
Table = TimeUnit → UnitRow

-- the names that the table with more names adds
abbrev pub added_row_of : Table
added_row_of u = record (row_of u) { names = more_names u; chinese = [] }

abbrev pub all_names_in : Table → TimeUnit → List Characters
all_names_in table u = (table u).names ++ (table u).chinese

abbrev pub all_names : TimeUnit → List Characters
all_names u = all_names_in row_of u

-- whether the packed number of a name is n. The name is packed under `lowercase`, so that `M`
-- differs from `m`
abbrev pub packs_to : ℕ → Characters → Bool
packs_to n name = packed_number (record off { lowercase = true }) name == n

-- the first unit that has a name with the packed number n in this table
unfoldable pub unit_of_packed : Table → ℕ → Option TimeUnit
unit_of_packed table n = find (λ u. list_any (packs_to n) (all_names_in table u)) units

-- the packed number of a word, if all its characters are unit letters and it has no more bytes than
-- the longest name
abbrev pub packed_word : Options → Characters → Option ℕ
packed_word o word =
    if nat_le (byte_len word) 12 && list_all (is_unit_letter o) word then Some (packed_number o word) else None

-- whether the character is the Greek letter mu, which looks like the micro sign
abbrev pub is_greek_mu : ℕ → Bool
is_greek_mu c = c == 0x3BC

-- the character, but the micro sign in place of the Greek letter mu if `folds` is true
abbrev pub micro_if : Bool → ℕ → ℕ
micro_if folds c = if folds && c == 0x3BC then 0xB5 else c

abbrev pub with_micro : Bool → Characters → Characters
with_micro folds word = map (micro_if folds) word
