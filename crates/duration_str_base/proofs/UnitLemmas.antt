use Rattle.duration_str_base.proofs.Common.{[], all_names, all_names_in, and_parts, arith, Bool, byte_len, bytes_eq, bytes_eq-Decides, cases_Bool, common_steps, comparison_form, encode_utf8_all, encodes, encodes_same, eqb, eqb-true, find, inl, inr, is_in_row, is_named, leb-true, length, List, list_all, list_any, list_any-append, map, map-append, nanos_of, not, Options, or_cases, refl, row_of, rules, rules_of, same_from_decides, Some, Table, TimeUnit, to_ascii_lowercase, true, unit_of_word, units, ℕ, ⊤, ◌||◌, ◌∷◌, ◌≡◌, ◌≤◌, leb, ltb, ltb-true, ◌<◌, ◌^◌, Printed, printed_row, rank_of, slice_index_or, Year}
use lib.Utf8.{encode}

abbrev pub Each : (TimeUnit → Type 0) → List TimeUnit → Type 0
Each P [] = ⊤
Each P (u ∷ us) = P u × Each P us

pub each_unit : (P : TimeUnit → Type 0) → Each P units → (u : TimeUnit) → P u
each_unit P each u = search rules

each_passes : (test : TimeUnit → Bool) (us : List TimeUnit) → list_all test us ≡ true → Each (λ u. test u ≡ true) us
each_passes test [] h = tt
each_passes test (u ∷ us) h =
    let parts = and_parts (test u) (list_all test us) h in (parts.0, each_passes test us parts.1)

pub all_units : (test : TimeUnit → Bool) → list_all test units ≡ true → (u : TimeUnit) → test u ≡ true
all_units test h = each_unit (λ u. test u ≡ true) (each_passes test units h)

pub some_length : (u : TimeUnit) → 1 ≤ nanos_of u
some_length u = leb-true 1 (nanos_of u) (all_units (λ v. leb 1 (nanos_of v)) refl u)

pub each_short : (u : TimeUnit) → nanos_of u < 2 ^ 60
each_short u = ltb-true (nanos_of u) (2 ^ 60) (all_units (λ v. ltb (nanos_of v) (2 ^ 60)) refl u)

lower_encode_big : (c : ℕ) → 128 ≤ c → map to_ascii_lowercase (encode c) ≡ encode c
unfolding encode
lower_encode_big c h = search rules

lower-encode : (c : ℕ) → map to_ascii_lowercase (encode c) ≡ encode (to_ascii_lowercase c)
lower-encode c = grind (arith, common_steps, lower_encode_big)

pub lower-encodes : (cs : List ℕ) → map to_ascii_lowercase (encodes cs) ≡ encodes (map to_ascii_lowercase cs)
lower-encodes [] = refl
lower-encodes (c ∷ cs) = rw (map-append to_ascii_lowercase (encode c) (encodes cs), lower-encode c, lower-encodes cs)

pub bytes_eq-encodes : (v w : List ℕ) → bytes_eq (encodes v) (encodes w) ≡ bytes_eq v w
bytes_eq-encodes v w = search (rules, bytes_eq-Decides, same_from_decides, encodes_same)

-- whether the two units share no name
abbrev are_apart : TimeUnit → TimeUnit → Bool
are_apart u v = list_all (λ name. not (list_any (bytes_eq name) (all_names v))) (all_names u)

abbrev same_or_apart : TimeUnit → TimeUnit → Bool
same_or_apart u v = eqb (nanos_of u) (nanos_of v) || are_apart u v

all_apart : (u v : TimeUnit) → same_or_apart u v ≡ true
all_apart u v = all_units (same_or_apart u) (all_units (λ w. list_all (same_or_apart w) units) refl u) v

unit_by_length : (u : TimeUnit) → find (λ v. eqb (nanos_of v) (nanos_of u)) units ≡ Some u
unit_by_length = each_unit (λ u. find (λ v. eqb (nanos_of v) (nanos_of u)) units ≡ Some u) assumption

pub same_length : (u v : TimeUnit) → nanos_of u ≡ nanos_of v → u ≡ v
same_length u v e = let found = rw e at (unit_by_length u) in cc (unit_by_length v)

pub named_passes : (test : List ℕ → Bool) (w : List ℕ) (names : List (List ℕ)) → list_all test names ≡ true
    → list_any (bytes_eq w) names ≡ true → test w ≡ true
named_passes test w [] all h = cc
named_passes test w (name ∷ names) all h =
    search (rules, and_parts, or_cases, bytes_eq-Decides, named_passes test w names)

pub among_all : (table : Table) (o : Options) (w : List ℕ) (u : TimeUnit) → is_in_row o w (table u) ≡ true
    → list_any (bytes_eq (comparison_form o w)) (all_names_in table u) ≡ true
among_all table o w u h = rw (list_any-append (bytes_eq (comparison_form o w)) (table u).names) (grind arith)

module _ (o : Options) where
  one_unit : (w : List ℕ) (u v : TimeUnit) → is_named (rules_of o) w u ≡ true → is_named (rules_of o) w v ≡ true → u ≡ v
  one_unit w u v h k = elim (or_cases (eqb (nanos_of u) (nanos_of v)) (are_apart u v) (all_apart u v)) [
    | inl same ↦ same_length u v (eqb-true (nanos_of u) (nanos_of v) same)
    | inr apart ↦
        let other = λ (name : List ℕ). not (list_any (bytes_eq name) (all_names v)) in
        cc (named_passes other (comparison_form o w) (all_names u) apart (among_all row_of o w u h), among_all row_of o w v k)
  ]

  found_only : (w : List ℕ) (us : List TimeUnit) (u : TimeUnit) → is_named (rules_of o) w u ≡ true
      → list_any (λ v. eqb (nanos_of v) (nanos_of u)) us ≡ true → find (is_named (rules_of o) w) us ≡ Some u
  found_only w [] u h there = cc
  found_only w (v ∷ us) u h there = elim (cases_Bool (is_named (rules_of o) w v)) [
    | inl e ↦ rw (e, one_unit w v u e h)
    | inr e ↦ elim (or_cases (eqb (nanos_of v) (nanos_of u)) _ there) [
      | inl same ↦ cc (rw (same_length v u (eqb-true (nanos_of v) (nanos_of u) same), h) at e)
      | inr later ↦ rw e (found_only w us u h later)
    ]
  ]

  pub named_unit : (w : List ℕ) (u : TimeUnit) → is_named (rules_of o) w u ≡ true → unit_of_word (rules_of o) w ≡ Some u
  named_unit w u h =
      found_only w units u h (all_units (λ u. list_any (λ v. eqb (nanos_of v) (nanos_of u)) units) refl u)

pub length_name : (u : TimeUnit) → length (encode_utf8_all (row_of u).printed) ≡ byte_len (row_of u).printed
unfolding lib.Utf8.encode
length_name = each_unit (λ u. length (encode_utf8_all (row_of u).printed) ≡ byte_len (row_of u).printed) assumption

-- the row at an index beyond the end of the table
abbrev pub beyond : Printed
beyond = record { unit = Year; nanos = 0; most = 0; letters = []; width = 0 }

pub row_at : (u : TimeUnit) → slice_index_or (map printed_row units) (rank_of u) beyond ≡ printed_row u
row_at = each_unit (λ u. slice_index_or (map printed_row units) (rank_of u) beyond ≡ printed_row u) assumption
