-- Examples that were worked out by hand, and are computed here, such as the names that are read.
use Rattle.duration_str_base.proofs.Common.{[], flat_map, humantime_row_of, length, List, map, more_names, more_row_of, more_rules, None, off, Options, refl, row_of, rules_of, Some, TimeUnit, unit_of_word, units, width, ℕ, ◌++◌, ◌∷◌, ◌≡◌}
use Rattle.duration_str_base.proofs.Samples.{with_cn_unit, with_lowercase}
use Rattle.duration_str_base.proofs.UnitLemmas.{Each}

-- ---- The names of the units

abbrev AreNamesOf : Options → TimeUnit → List (List ℕ) → Type 0
AreNamesOf o u names = map (unit_of_word (rules_of o)) names ≡ map (λ name. Some u) names

-- No two units share a name, since each name is read as its unit.
pub names_of_one_unit : Each (λ u.
    AreNamesOf off u (row_of u).names × AreNamesOf with_lowercase u (row_of u).names
    × AreNamesOf with_cn_unit u ((row_of u).names ++ (row_of u).chinese)) units
names_of_one_unit = assumption

-- Each name of the library's own table names its unit with more names, too.
pub more_names_of_one_unit : Each (λ u.
    map (unit_of_word (more_rules with_cn_unit None)) ((more_row_of u).names ++ (row_of u).chinese)
    ≡ map (λ name. Some u) ((more_row_of u).names ++ (row_of u).chinese)) units
more_names_of_one_unit = assumption

pub forty_three_names : length (flat_map (λ u. (row_of u).names) units) ≡ 43
forty_three_names = refl

pub more_names-counted : map (λ u. length (more_names u)) units ≡ 2 ∷ 2 ∷ 3 ∷ 2 ∷ 0 ∷ 1 ∷ 1 ∷ 1 ∷ 3 ∷ 6 ∷ 3 ∷ []
more_names-counted = refl

pub humantime_names-counted : map (λ u. length (humantime_row_of u).names) units
    ≡ 5 ∷ 5 ∷ 7 ∷ 5 ∷ 3 ∷ 5 ∷ 5 ∷ 5 ∷ 7 ∷ 14 ∷ 7 ∷ []
humantime_names-counted = refl

-- ---- Characters

-- A number that is no character counts as four bytes.
pub widths : map width (
    0x7F ∷ 0x80 ∷ 0x7FF ∷ 0x800 ∷ 0xD7FF ∷ 0xD800 ∷ 0xDFFF ∷ 0xE000 ∷ 0xFFFF ∷ 0x10000 ∷ 0x110000 ∷ [])
    ≡ 1 ∷ 2 ∷ 2 ∷ 3 ∷ 3 ∷ 4 ∷ 4 ∷ 3 ∷ 3 ∷ 4 ∷ 4 ∷ []
widths = refl
