-- Examples that are computed: the names of units from before the quarter was added.
use Rattle.duration_str_laws.proofs.Common.{[], bytes_eq, flat_map, List, map, None, off, older_row_of, older_rules, Quarter, refl, replicate, row_of, Some, unit_of_word, units, ℕ, ◌++◌, ◌∷◌, ◌≡◌}
use Rattle.duration_str_base.proofs.Samples.{with_cn_unit}
use Rattle.duration_str_base.proofs.UnitLemmas.{Each}
use Rattle.std.specs.List.{count_by}
use Rattle.std.specs.Option.{option_map_or}

pub quarter_was_no_unit : map (unit_of_word (older_rules off)) (row_of Quarter).names ≡ None ∷ None ∷ None ∷ []
quarter_was_no_unit = refl

-- the names from before the quarter, including the eleven that `cn_unit` adds
abbrev older_names : List (List ℕ)
older_names = flat_map (λ u. option_map_or (λ row. row.names ++ row.chinese) (older_row_of u) []) units

pub fifty_one_older_names : map (λ name. count_by (bytes_eq name) older_names) older_names ≡ replicate 51 1
fifty_one_older_names = refl

pub older_names_of_one_unit : Each (λ u.
    map (unit_of_word (older_rules with_cn_unit)) (option_map_or (λ row. row.names ++ row.chinese) (older_row_of u) [])
    ≡ option_map_or (λ row. map (λ name. Some u) (row.names ++ row.chinese)) (older_row_of u) []) units
older_names_of_one_unit = assumption
