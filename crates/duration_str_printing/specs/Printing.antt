-- The breakdown of a duration, and its printed text.
use Rattle.std.specs.Prelude.{◌≡◌, ℕ, Bool, ◌+◌, ◌*◌, ◌<◌, List, [], ◌∷◌, ◌++◌, if◌then◌else◌, length, ◌⊎◌, ◌==◌, codes, decimal, flat_map, map}
use Rattle.duration_str_base.specs.declared.unit.TimeUnit.{TimeUnit}
use Rattle.duration_str_base.specs.declared.unit.TimeUnit.TheVariants.{Second}
use Rattle.duration_str_printing.specs.declared.format.Style.{Style}
use Rattle.duration_str_printing.specs.declared.format.Style.TheVariants.{Short, Compact, Long}
use Rattle.duration_str_base.specs.Text.{Characters}
use Rattle.duration_str_base.specs.Units.{units, row_of, unit_lengths, long_name}

-- the sum of the counts, each multiplied by its length. If one list is longer, its end is left out
abbrev pub weighted_sum : List ℕ → List ℕ → ℕ
weighted_sum (l ∷ lengths) (n ∷ counts) = n * l + weighted_sum lengths counts
weighted_sum _ _ = 0

-- At the first position where the two lists differ, the first list has the smaller count.
abbrev pub IsBefore : List ℕ → List ℕ → Type 0
IsBefore (m ∷ ms) (n ∷ ns) = (m < n) ⊎ ((m ≡ n) × IsBefore ms ns)
IsBefore _ _ = ⊥

-- There is one count for each length, and the counts times their lengths add up to the duration.
pub record IsBreakdown (lengths : List ℕ) (nanos : ℕ) (counts : List ℕ) : Type 0 where
  pub one_each : length counts ≡ length lengths
  pub whole : weighted_sum lengths counts ≡ nanos

-- The counts are a breakdown, and every other breakdown comes before them (`IsBefore`).
pub record IsGreatestBreakdown (lengths : List ℕ) (nanos : ℕ) (counts : List ℕ) : Type 0 where
  pub breakdown : IsBreakdown lengths nanos counts
  pub greatest : (others : List ℕ) → IsBreakdown lengths nanos others → (others ≡ counts) ⊎ IsBefore others counts

-- a unit's name after a count. In the long style it is the long name, with an `s` unless `one` says
-- that the count is 1
abbrev pub name_in : Style → Bool → TimeUnit → Characters
name_in Long one u = long_name (row_of u) ++ (if one then [] else codes "s")
name_in style one u = (row_of u).printed

-- what stands between a count and its unit's name
abbrev pub before_name : Style → Characters
before_name Long = codes " "
before_name style = []

-- what stands between two parts
abbrev pub between : Style → Characters
between Compact = []
between style = codes " "

-- a count in decimal, followed by its unit's name, in a style
abbrev pub printed_part : Style → ℕ → TimeUnit → Characters
printed_part style n u = decimal n ++ (before_name style ++ name_in style (n == 1) u)

-- the counts that are not 0, each with its unit
abbrev pub nonzero : List TimeUnit → List ℕ → List (TimeUnit × ℕ)
nonzero (u ∷ us) (n ∷ counts) = if n == 0 then nonzero us counts else (u, n) ∷ nonzero us counts
nonzero _ _ = []

-- the printed parts of these counts, one for each count that is not 0
abbrev pub printed_parts : Style → List TimeUnit → List ℕ → List Characters
printed_parts style us counts = map (λ part. printed_part style part.1 part.0) (nonzero us counts)

-- the parts, with what stands between two of them (`between`), or a part with the count 0 and this
-- unit if there are none
abbrev pub joined_parts : Style → TimeUnit → List Characters → Characters
joined_parts style u [] = printed_part style 0 u
joined_parts style u (part ∷ parts) = part ++ flat_map (λ p. between style ++ p) parts

-- the text that prints these counts in a style
abbrev pub printed_counts : Style → List ℕ → Characters
printed_counts style counts = joined_parts style Second (printed_parts style units counts)

-- A duration of `nanos` nanoseconds prints in full and in this style as this text.
abbrev pub IsPrintedIn : Style → ℕ → Characters → Type 0
IsPrintedIn style nanos text =
    (counts : List ℕ) × IsGreatestBreakdown unit_lengths nanos counts × (text ≡ printed_counts style counts)

-- A duration of `nanos` nanoseconds prints in full and in the short style as this text.
abbrev pub IsPrinted : ℕ → Characters → Type 0
IsPrinted = IsPrintedIn Short
