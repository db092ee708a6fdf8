-- A duration printed in a format: in the units of a set, with a greatest number of parts, and in a
-- style.
use Rattle.std.specs.Prelude.{◌≡◌, ℕ, ◌+◌, ◌-◌, ◌/◌, ◌%◌, ◌≤◌, ◌*◌, ◌^◌, Bool, List, [], ◌∷◌, if◌then◌else◌, length, ◌⊎◌, ◌==◌, nat_lt, map, filter, bit_and, bit_or}
use Rattle.std.specs.Int.{bit_at, bit_not, w16}
use Rattle.std.specs.List.{list_any}
use Rattle.duration_str_printing.specs.declared.format.Format.{Format}
use Rattle.duration_str_base.specs.declared.unit.TimeUnit.{TimeUnit}
use Rattle.duration_str_base.specs.declared.unit.TimeUnit.TheVariants.{Second}
use Rattle.duration_str_printing.specs.declared.format.Units.{Units}
use Rattle.duration_str_printing.specs.declared.format.TheConstants.Units.{ALL}
use Rattle.duration_str_base.specs.Text.{Characters}
use Rattle.duration_str_base.specs.Units.{units, nanos_of, rank_of}
use Rattle.duration_str_printing.specs.declared.format.Style.{Style}
use Rattle.duration_str_printing.specs.declared.format.Style.TheVariants.{Long, Short}
use Rattle.duration_str_printing.specs.declared.printing.TheConstants.{MAX_LONG_LEN, MAX_PRINTED_LEN}
use Rattle.duration_str_printing.specs.Printing.{weighted_sum, IsBefore, printed_parts, joined_parts}

-- whether the unit is in the set. The bit 2^n stands for the unit at index n of `units`
unfoldable pub is_in : Units → TimeUnit → Bool
is_in set u = bit_at set.bits (rank_of u) == 1

unfoldable pub chosen : Units → List TimeUnit → List TimeUnit
chosen set us = filter (is_in set) us

abbrev pub with_unit : TimeUnit → Units → Units
with_unit u set = record { bits = bit_or set.bits (2 ^ rank_of u) }

abbrev pub without_unit : TimeUnit → Units → Units
without_unit u set = record { bits = bit_and set.bits (bit_not w16 (2 ^ rank_of u)) }

abbrev pub with_each : List TimeUnit → Units → Units
with_each [] set = set
with_each (u ∷ us) set = with_each us (with_unit u set)

abbrev pub set_of : List TimeUnit → Units
set_of us = with_each us (record { bits = 0 })

abbrev pub is_one_of : List TimeUnit → TimeUnit → Bool
is_one_of us u = list_any (λ v. nanos_of u == nanos_of v) us

abbrev pub intersection : Units → Units → Units
intersection a b = record { bits = bit_and a.bits b.bits }

-- the set without the units that are longer than this one
abbrev pub up_to : TimeUnit → Units → Units
up_to largest set = record { bits = set.bits / 2 ^ rank_of largest * 2 ^ rank_of largest }

-- the set without the units that are shorter than this one
abbrev pub down_to : TimeUnit → Units → Units
down_to smallest set = record { bits = set.bits % 2 ^ (rank_of smallest + 1) }

abbrev pub whole_format : Format
whole_format = record { units = ALL; parts = length units; style = Short }

abbrev pub units_within : Format → List TimeUnit
units_within format = chosen format.units units

abbrev pub lengths_within : Format → List ℕ
lengths_within format = map nanos_of (units_within format)

-- how many of the counts are not 0
abbrev pub part_count : List ℕ → ℕ
part_count [] = 0
part_count (n ∷ counts) = if n == 0 then part_count counts else 1 + part_count counts

-- There is one count for each length, at most `parts` counts are not 0, and the counts times their
-- lengths add up to at most the duration.
pub record IsWithin (lengths : List ℕ) (parts nanos : ℕ) (counts : List ℕ) : Type 0 where
  pub one_each : length counts ≡ length lengths
  pub few : part_count counts ≤ parts
  pub no_more : weighted_sum lengths counts ≤ nanos

-- The counts fit (`IsWithin`), and all other counts that fit come before them.
pub record IsGreatestWithin (lengths : List ℕ) (parts nanos : ℕ) (counts : List ℕ) : Type 0 where
  pub within : IsWithin lengths parts nanos counts
  pub greatest : (others : List ℕ) → IsWithin lengths parts nanos others → (others ≡ counts) ⊎ IsBefore others counts

-- the last of these units, or `u` if there are none
abbrev pub last_unit : TimeUnit → List TimeUnit → TimeUnit
last_unit u [] = u
last_unit u (v ∷ us) = last_unit v us

-- the units that are shorter than the last of these, or shorter than a second if there are none
abbrev pub shorter_units : List TimeUnit → List TimeUnit
shorter_units us = filter (λ u. nat_lt (nanos_of u) (nanos_of (last_unit Second us))) units

-- the unit with which a zero is printed: the second if there are no units or the last one is
-- shorter than a second, and otherwise the last one
abbrev pub zero_unit : List TimeUnit → TimeUnit
zero_unit us = if nat_lt (nanos_of (last_unit Second us)) (nanos_of Second) then Second else last_unit Second us

abbrev pub text_within : Format → List ℕ → Characters
text_within format counts =
    joined_parts format.style (zero_unit (units_within format))
    (printed_parts format.style (units_within format) counts)

-- A duration of `nanos` nanoseconds prints in this format as this text.
abbrev pub IsPrintedWithin : Format → ℕ → Characters → Type 0
IsPrintedWithin format nanos text =
    (counts : List ℕ)
    × IsGreatestWithin (lengths_within format) format.parts nanos counts × (text ≡ text_within format counts)

-- a bound on the bytes of a printed `Duration` in this style
abbrev pub most_len : Style → ℕ
most_len Long = MAX_LONG_LEN
most_len style = MAX_PRINTED_LEN

-- the counts by quotients and remainders. The first `parts` counts that are not 0 are kept, and the
-- others are 0
abbrev pub counts_within : List ℕ → ℕ → ℕ → List ℕ
counts_within [] parts nanos = []
counts_within (l ∷ lengths) parts nanos =
    if parts == 0 then 0 ∷ counts_within lengths parts nanos
    else if nanos / l == 0 then 0 ∷ counts_within lengths parts nanos
    else nanos / l ∷ counts_within lengths (parts - 1) (nanos % l)

abbrev pub units_of : ℕ → List TimeUnit
units_of bits = chosen (record { bits = bits }) units
