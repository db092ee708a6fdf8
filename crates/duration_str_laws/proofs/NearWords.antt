use Rattle.duration_str_laws.proofs.Common.{[], all_names, arith, bytes_eq, bytes_eq-Decides, Bool, cases_Bool, codes, comparison_form, false, find, inl, inr, List, list_all, list_any, map, more_names, None, not, Option, Options, or_cases, refl, row_of, rules, rules_of, Some, sym, TimeUnit, to_ascii_lowercase, true, unit_of_word, units, ℕ, ◌∷◌, ◌≡◌, ◌||◌, ◌==◌}
use Rattle.std.specs.Option.{option_map}
use Rattle.duration_str_laws.specs.Laws.{IsAdvised, NearWords}
use Rattle.duration_str_help.specs.Help.{help_name, near_unit, small_words}
use Rattle.duration_str_base.proofs.UnitLemmas.{all_units, each_unit, named_unit}
use Rattle.duration_str_base.proofs.PackedLemmas.{no_letter_mu, no_letter_name, no_name}

lower_twice : (word : List ℕ) → map to_ascii_lowercase (map to_ascii_lowercase word) ≡ map to_ascii_lowercase word
lower_twice [] = refl
lower_twice (c ∷ word) = search (rules, lower_twice word)

lower_form : (o : Options) (word : List ℕ)
    → map to_ascii_lowercase (comparison_form o word) ≡ map to_ascii_lowercase word
lower_form o word = elim (cases_Bool o.lowercase) [ inl on ↦ rw on refl | inr off ↦ rw off (lower_twice word) ]

-- whether a name is not among these words in small letters
abbrev is_apart : List (List ℕ) → List ℕ → Bool
is_apart words name = not (list_any (bytes_eq (map to_ascii_lowercase name)) words)

abbrev are_apart : List (List ℕ) → Bool
are_apart words = list_all (λ v. list_all (is_apart words) (all_names v)) units

more_apart : (u : TimeUnit) → are_apart (more_names u) ≡ true
more_apart = all_units (λ u. are_apart (more_names u)) refl

unread_among : (o : Options) (word : List ℕ) (words : List (List ℕ)) → are_apart words ≡ true
    → list_any (bytes_eq (map to_ascii_lowercase word)) words ≡ true → None ≡ unit_of_word (rules_of o) word
unread_among o word words apart among = no_name (rules_of o) word (is_apart words) apart (rw (lower_form o word, among) refl)

pub found_among : (small : List ℕ) (us : List TimeUnit) (u : TimeUnit)
    → find (λ v. list_any (bytes_eq small) (more_names v)) us ≡ Some u → list_any (bytes_eq small) (more_names u) ≡ true
found_among small [] u e = absurd cc
found_among small (v ∷ us) u e = elim (cases_Bool (list_any (bytes_eq small) (more_names v))) [
  | inl near ↦ let found = rw near at e in let same : v ≡ u = cc in rw (← same) near
  | inr far ↦ found_among small us u (rw far at e)
]

unread_small : (o : Options) (word : List ℕ) → list_any (bytes_eq word) small_words ≡ true → None ≡ unit_of_word (rules_of o) word
unread_small o word small = elim (or_cases (bytes_eq word (codes "mo")) (bytes_eq word (codes "mos") || false) small) [
  | inl mo ↦ rw ((bytes_eq-Decides word (codes "mo")).0 mo) (unread_among o (codes "mo") small_words refl refl)
  | inr mos ↦ rw ((bytes_eq-Decides word (codes "mos")).0 (grind arith)) (unread_among o (codes "mos") small_words refl refl)
]

unread : (o : Options) (word : List ℕ) (u : TimeUnit) → near_unit word ≡ Some u → None ≡ unit_of_word (rules_of o) word
unread o word u near = elim (cases_Bool (list_any (bytes_eq word) small_words)) [
  | inl small ↦ unread_small o word small
  | inr other ↦ elim (cases_Bool (list_any (λ c. c == 0x3BC) word)) [
    | inl greek ↦ no_letter_name o word (no_letter_mu o word greek)
    | inr latin ↦
        let found = rw (other, latin) at near in
        unread_among o word (more_names u) (more_apart u) (found_among (map to_ascii_lowercase word) units u found)
  ]
]

pub advised_small : (u : TimeUnit) → map to_ascii_lowercase (help_name u) ≡ help_name u
advised_small = each_unit (λ u. map to_ascii_lowercase (help_name u) ≡ help_name u) assumption

advised_named : (u : TimeUnit) → list_any (bytes_eq (help_name u)) (row_of u).names ≡ true
advised_named = all_units (λ u. list_any (bytes_eq (help_name u)) (row_of u).names) refl

named : (o : Options) (name : List ℕ) (u : TimeUnit) → map to_ascii_lowercase name ≡ name
    → list_any (bytes_eq name) (row_of u).names ≡ true → unit_of_word (rules_of o) name ≡ Some u
named o name u small among =
    let form : comparison_form o name ≡ name = elim (cases_Bool o.lowercase) [ inl on ↦ rw on refl | inr off ↦ rw off small ] in
    named_unit o name u (rw (form, among) refl)

advised : (o : Options) (word name : List ℕ) (unit : Option TimeUnit) → near_unit word ≡ unit
    → option_map help_name unit ≡ Some name → IsAdvised o word name
advised o word name None near e = absurd cc
advised o word name (Some u) near e =
    let same : help_name u ≡ name = cc in
    record {
      unit = u;
      near = near;
      unread = sym (unread o word u near);
      read = rw (← same) (named o (help_name u) u (advised_small u) (advised_named u));
    }

pub near_words_hold : NearWords
near_words_hold o word name e = advised o word name (near_unit word) refl e
