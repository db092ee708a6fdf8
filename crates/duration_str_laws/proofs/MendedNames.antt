-- The names of units that a mend writes, and the words that it replaces.
use Rattle.duration_str_laws.proofs.Common.{[], and_parts, arith, Bool, bytes_eq, cases_Bool, chinese_letters, comparison_form, EndsRun, eqb-true, false, false_from_ne_true, find, Humantime, if◌then◌else◌, inl, inr, is_ascii_alphabetic, is_chinese, is_unit_letter, IsLexeme, leb, leb-true, length, List, list_all, list_any, map, meaning_of, More, more_names, nat_tests, None, off, Option, Options, or_cases, Own, refl, Rules, scalars, Some, table_of, terminal_of, TimeUnit, to_ascii_lowercase, true, unit_of_word, UnitRow, units, UnitTable, word, ℕ, ◌&&◌, ◌==◌, ◌||◌, ◌∙◌, ◌∷◌, ◌≡◌, ◌≤◌, all_names_in, nat_lt, ◌+◌, sym}
use Rattle.duration_str_base.proofs.UnitLemmas.{all_units, each_unit, named_passes}
use Rattle.duration_str_base.specs.declared.rules.Rules.{Rules as CodeRules}
use Rattle.duration_str_base.proofs.PackedLemmas.{no_name}
use Rattle.duration_str_laws.proofs.NearWords.{advised_small, found_among}
use Rattle.duration_str_base.proofs.CharacterLemmas.{letter-not_digit}
use Rattle.duration_str_help.specs.Help.{begins_with_letter, help_name, is_letter, near_unit, small_words, with_micro_sign}
use Rattle.duration_str_help.specs.Mends.{meant_unit}
use Rattle.std.proofs.lemmas.List.{length-map}

-- ---- A suggested name

any_passes : (test : ℕ → Bool) (d : ℕ) (cs : List ℕ) → list_all test cs ≡ true → list_any (λ c. c == d) cs ≡ true
    → test d ≡ true
any_passes test d [] all h = cc
any_passes test d (c ∷ cs) all h =
    let parts = and_parts (test c) (list_all test cs) all in
    elim (or_cases (c == d) (list_any (λ e. e == d) cs) h) [
      | inl same ↦ rw (eqb-true c d same) at parts.0
      | inr later ↦ any_passes test d cs parts.1 later
    ]

pub unit_letter_is_letter : (o : Options) (d : ℕ) → is_unit_letter o d ≡ true → is_letter d ≡ true
unit_letter_is_letter o d h = elim (cases_Bool (is_ascii_alphabetic d)) [
  | inl ascii ↦ rw ascii refl
  | inr wide ↦ elim (or_cases (d == 0xB5) (o.cn_unit && is_chinese d) (rw wide at h)) [
    | inl micro ↦ rw (eqb-true d 0xB5 micro) refl
    | inr chinese ↦ any_passes is_letter d chinese_letters refl (and_parts o.cn_unit (is_chinese d) chinese).1
  ]
]

pub ends_word : (o : Options) (c : ℕ) (cs rest : List ℕ) → is_unit_letter o c ≡ true → begins_with_letter rest ≡ false
    → EndsRun o (c ∷ cs) rest
ends_word o c cs [] letter h = refl
ends_word o c cs (d ∷ rest) letter h =
    let other : is_unit_letter o d ≡ false =
    false_from_ne_true (is_unit_letter o d) (λ t. cc (unit_letter_is_letter o d t, h)) in
    rw (letter-not_digit o c letter, letter, other) refl

abbrev pub IsWritten : Rules → List ℕ → Type 0
IsWritten r [] = ⊥
IsWritten r (c ∷ cs) =
    (is_unit_letter r.options c ≡ true) × IsLexeme r.options (c ∷ cs)
    × (terminal_of r (c ∷ cs) ≡ word (unit_of_word r (c ∷ cs)))

pub written : (r : Rules) (u : TimeUnit) → IsWritten r (help_name u)
written r = each_unit (λ u. IsWritten r (help_name u)) assumption

-- ---- The suggested name by the rules that the code has

-- whether the word is a name in the row
abbrev is_found : List ℕ → UnitRow → Bool → Bool
is_found w row chinese = list_any (bytes_eq w) row.names || (chinese && list_any (bytes_eq w) row.chinese)

found_by_table : (table : UnitTable) (chinese : Bool) (u : TimeUnit)
    → find (λ v. is_found (help_name u) (table_of table v) chinese) units ≡ Some u
found_by_table Own true = each_unit (λ u. find (λ v. is_found (help_name u) (table_of Own v) true) units ≡ Some u) assumption
found_by_table Own false = each_unit (λ u. find (λ v. is_found (help_name u) (table_of Own v) false) units ≡ Some u) assumption
found_by_table More true = each_unit (λ u. find (λ v. is_found (help_name u) (table_of More v) true) units ≡ Some u) assumption
found_by_table More false = each_unit (λ u. find (λ v. is_found (help_name u) (table_of More v) false) units ≡ Some u) assumption
found_by_table Humantime true = each_unit (λ u. find (λ v. is_found (help_name u) (table_of Humantime v) true) units ≡ Some u) assumption
found_by_table Humantime false = each_unit (λ u. find (λ v. is_found (help_name u) (table_of Humantime v) false) units ≡ Some u) assumption

same_form : (o : Options) (u : TimeUnit) → comparison_form o (help_name u) ≡ help_name u
same_form o u = elim (cases_Bool o.lowercase) [ inl on ↦ rw on refl | inr off ↦ rw off (advised_small u) ]

pub name_read : (s : CodeRules) (u : TimeUnit) → unit_of_word (meaning_of s) (help_name u) ≡ Some u
name_read s u = rw (same_form s.options u) (found_by_table s.table s.options.cn_unit u)

-- ---- Words that mean a unit

abbrev pub are_letters : List ℕ → Bool
are_letters w = begins_with_letter w && list_all is_letter w

lower_letter : (c : ℕ) → is_letter (to_ascii_lowercase c) ≡ is_letter c
lower_letter c = elim (cases_Bool (nat_lt c 65)) [
  | inl below ↦ rw below refl
  | inr above ↦ elim (cases_Bool (nat_lt c 91)) [
    | inl capital ↦
        let own : is_ascii_alphabetic c ≡ true = grind (arith, nat_tests) in
        let small : is_ascii_alphabetic (c + 32) ≡ true = grind (arith, nat_tests) in
        rw (above, capital, own, small) refl
    | inr small ↦ rw (above, small) refl
  ]
]

same_letters : (change : ℕ → ℕ) → ((c : ℕ) → is_letter (change c) ≡ is_letter c) → (w : List ℕ)
    → are_letters (map change w) ≡ are_letters w
same_letters change same [] = refl
same_letters change same (c ∷ cs) = rw (same c, all cs) refl
  where
    all : (cs : List ℕ) → list_all is_letter (map change cs) ≡ list_all is_letter cs
    all [] = refl
    all (c ∷ cs) = rw (same c, all cs) refl

micro_letter : (c : ℕ) → is_letter (if c == 0x3BC then 0xB5 else c) ≡ is_letter c
micro_letter c = elim (cases_Bool (c == 0x3BC)) [
  | inl mu ↦ rw (eqb-true c 0x3BC mu) refl
  | inr plain ↦ rw plain refl
]

-- whether a word has letters only, and at most 12
abbrev is_like_name : List ℕ → Bool
is_like_name w = are_letters w && leb (length w) 12

lower_like : (w : List ℕ) → is_like_name (map to_ascii_lowercase w) ≡ is_like_name w
lower_like w = rw (same_letters to_ascii_lowercase lower_letter w, length-map) refl

micro_like : (w : List ℕ) → is_like_name (with_micro_sign w) ≡ is_like_name w
micro_like w = rw (same_letters (λ c. if c == 0x3BC then 0xB5 else c) micro_letter w, length-map) refl

form_like : (o : Options) (w : List ℕ) → is_like_name (comparison_form o w) ≡ is_like_name w
form_like o w = elim (cases_Bool o.lowercase) [ inl on ↦ rw on refl | inr off ↦ rw off (lower_like w) ]

names_like : (table : UnitTable) → list_all (λ u. list_all is_like_name (all_names_in (table_of table) u)) units ≡ true
names_like Own = refl
names_like More = refl
names_like Humantime = refl

name_like : (s : CodeRules) (w : List ℕ) (u : TimeUnit) → unit_of_word (meaning_of s) w ≡ Some u → is_like_name w ≡ true
name_like s w u named = elim (cases_Bool (is_like_name w)) [
  | inl like ↦ like
  | inr other ↦
      let clash : None ≡ Some u = no_name (meaning_of s) w is_like_name (names_like s.table) (form_like s.options w ∙ other) ∙ named in
      absurd (cc clash)
]

abbrev own_more : CodeRules
own_more = record { table = More; default_unit = None; options = off }

added_like : (u : TimeUnit) → list_all is_like_name (more_names u) ≡ true
added_like = all_units (λ u. list_all is_like_name (more_names u)) refl

near_like : (w : List ℕ) (u : TimeUnit) → near_unit w ≡ Some u → is_like_name w ≡ true
near_like w u near = elim (cases_Bool (list_any (bytes_eq w) small_words)) [
  | inl small ↦ named_passes is_like_name w small_words refl small
  | inr large ↦ elim (cases_Bool (list_any (λ c. c == 0x3BC) w)) [
    | inl greek ↦ sym (micro_like w) ∙ name_like own_more (with_micro_sign w) u (rw (large, greek) at near)
    | inr latin ↦
        let found = found_among (map to_ascii_lowercase w) units u (rw (large, latin) at near) in
        sym (lower_like w) ∙ named_passes is_like_name (map to_ascii_lowercase w) (more_names u) (added_like u) found
  ]
]

meant_like : (s : CodeRules) (w : List ℕ) (u : TimeUnit) → meant_unit (meaning_of s) w ≡ Some u → is_like_name w ≡ true
meant_like s w u meant = by (unit_of_word (meaning_of s) w) refl
  where
    by : (unit : Option TimeUnit) → unit_of_word (meaning_of s) w ≡ unit → is_like_name w ≡ true
    by (Some v) named = name_like s w v named
    by None named = near_like w u (rw named at meant)

pub near_short : (w : List ℕ) (u : TimeUnit) → near_unit w ≡ Some u → length w ≤ 12
near_short w u near = leb-true (length w) 12 (and_parts (are_letters w) _ (near_like w u near)).1

pub meant_short : (s : CodeRules) (w : List ℕ) (u : TimeUnit) → meant_unit (meaning_of s) w ≡ Some u → length w ≤ 12
meant_short s w u meant = leb-true (length w) 12 (and_parts (are_letters w) _ (meant_like s w u meant)).1

pub meant_letters : (s : CodeRules) (w : List ℕ) (u : TimeUnit) → meant_unit (meaning_of s) w ≡ Some u → are_letters w ≡ true
meant_letters s w u meant = (and_parts (are_letters w) _ (meant_like s w u meant)).0

-- ---- The characters of a name

pub name_scalars : (u : TimeUnit) → scalars (help_name u) ≡ true
name_scalars = all_units (λ u. scalars (help_name u)) refl
