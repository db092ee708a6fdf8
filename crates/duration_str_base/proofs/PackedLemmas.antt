-- Lemmas about packed names and their slots in the table.
use Rattle.duration_str_base.proofs.Common.{[], all_names_in, and_from, and_parts, ap, arith, Bool, byte_len, bytes_eq, cases_Bool, chinese_letters, comparison_form, eq-eqb, eqb, eqb-true, false, false_from_ne_true, get_or, Humantime, if◌then◌else◌, inl, inr, is_chinese, is_in_row, is_named, is_some, is_unit_letter, leb, leb-true, length, length-reverse, letter_number, List, list_all, list_any, list_any-append, lit<, map, Month, meaning_of, nat_tests, None, off, Option, Options, or_cases, Own, packed_number, packed_number_after, packs_to, pow-le-pow_right, pow-succ', refl, reverse-reverse, row_of, table_of, Rules, rules, rules_of, Second, Some, subst, suc, sym, Table, TimeUnit, to_ascii_lowercase, true, unit_of_word, units, UnitTable, width, ℕ, ◌%◌, ◌&&◌, ◌*◌, ◌+◌, ◌-◌, ◌/◌, ◌<◌, ◌==◌, ◌^◌, ◌||◌, ◌∙◌, ◌∷◌, ◌≡◌, ◌≤◌, ◌⊎◌, added_row_of, humantime_row_of, More, more_row_of, nat_le, packed_word, nanos_of, more_rules, micro_if, with_micro, append-nil, append_assoc, IsTrue, list_all-append, ◌++◌}
use mathlib.Core.List.{reverse, reverse_aux}
use Rattle.duration_str_base.specs.declared.rules.Rules.{Rules as CodeRules}
use Rattle.duration_str_base.specs.Internal.UnitTable.{unit_of_packed}
use Rattle.std.specs.Option.{option_map}
use Rattle.std.proofs.lemmas.List.{get_or-map, length-map}
use Rattle.std.proofs.lemmas.List.Folds.{list_all_at}
use Rattle.duration_str_base.proofs.UnitLemmas.{all_units, among_all, named_passes, same_length}
use Rattle.duration_str_base.proofs.CharacterLemmas.{width_some}

-- ---- the numbers of letters

-- the options under which names are packed
abbrev pub kept_capitals : Options
kept_capitals = record off { lowercase = true }

abbrev wide_letters : List ℕ
wide_letters = 0xB5 ∷ chinese_letters

abbrev is_wide_letter : ℕ → Bool
is_wide_letter c = list_any (λ d. d == c) wide_letters

abbrev is_between : ℕ → ℕ → ℕ → Bool
is_between first last c = leb first c && leb c last

abbrev is_name_letter : ℕ → Bool
is_name_letter c = is_between 97 121 c || (is_between 77 77 c || is_wide_letter c)

abbrev are_name_letters : List ℕ → Bool
are_name_letters cs = list_all is_name_letter cs

abbrev is_letter : ℕ → Bool
is_letter c = is_between 97 122 c || (is_between 65 90 c || is_wide_letter c)

abbrev are_letters : List ℕ → Bool
are_letters cs = list_all is_letter cs

letter_number-below : (o : Options) (c : ℕ) → letter_number o c < 40
letter_number-below o c = search rules

letter_number-some : (c : ℕ) → is_letter c ≡ true → 0 < letter_number kept_capitals c
letter_number-some c h = search rules

abbrev letter_of : ℕ → ℕ
letter_of n = if leb n 25 then n + 96 else if n == 39 then 77 else get_or wide_letters (n - 27) 0

name_letter_known : (y : ℕ) → is_name_letter y ≡ true → letter_of (letter_number kept_capitals y) ≡ y
name_letter_known y k = search rules

name_letter_not_z : (y : ℕ) → is_name_letter y ≡ true → eqb (letter_number kept_capitals y) 26 ≡ false
name_letter_not_z y k = search rules

letter_known : (x : ℕ) → is_letter x ≡ true
    → (letter_number kept_capitals x ≡ 26) ⊎ (letter_of (letter_number kept_capitals x) ≡ x)
letter_known x h = search (rules, cases_Bool, eqb-true)

letter_number-same : (x y : ℕ) → is_letter x ≡ true → is_name_letter y ≡ true
    → letter_number kept_capitals x ≡ letter_number kept_capitals y → x ≡ y
letter_number-same x y h k e = elim (letter_known x h) [
  | inl z ↦ cc (eq-eqb (letter_number kept_capitals y) 26 (sym e ∙ z), name_letter_not_z y k)
  | inr known ↦ sym known ∙ ap letter_of e ∙ name_letter_known y k
]

-- ---- words whose packed numbers are exact and different

-- the packed number of letters that are listed from the last one to the first
abbrev packed_back : Options → List ℕ → ℕ
packed_back o [] = 0
packed_back o (c ∷ cs) = packed_back o cs * 40 + letter_number o c

packed_turned : (o : Options) (cs done : List ℕ)
    → packed_number_after o (packed_back o done) cs ≡ packed_back o (reverse_aux cs done)
packed_turned o [] done = refl
packed_turned o (c ∷ cs) done = packed_turned o cs (c ∷ done)

passes_turned : (test : ℕ → Bool) (cs done : List ℕ) → list_all test cs ≡ true → list_all test done ≡ true
    → list_all test (reverse_aux cs done) ≡ true
passes_turned test [] done h k = k
passes_turned test (c ∷ cs) done h k =
    let b = and_parts _ _ h in passes_turned test cs (c ∷ done) b.1 (and_from _ _ b.0 k)

below : (o : Options) (cs : List ℕ) → packed_back o cs < 40 ^ length cs
below o [] = omega arith
below o (c ∷ cs) = rw (pow-succ' 40 (length cs)) (omega (arith, below o cs, letter_number-below o c))

pub exact : (o : Options) (w : List ℕ) (n : ℕ) → length w ≤ 12 → n ≡ packed_number o w % 2 ^ 64 → n ≡ packed_number o w
exact o w n h e =
    let pow : 40 ^ length w ≤ 40 ^ 12 = pow-le-pow_right (lit< tt) h in
    omega (arith, rw (length-reverse w) at (below o (reverse w)), packed_turned o w [], pow, e)

same_back : (xs ys : List ℕ) → are_letters xs ≡ true → are_name_letters ys ≡ true
    → packed_back kept_capitals xs ≡ packed_back kept_capitals ys → xs ≡ ys
same_back [] [] h k e = refl
same_back [] (y ∷ ys) h k e =
    absurd (omega (arith, letter_number-some y (search rules), e))
same_back (x ∷ xs) [] h k e = absurd (omega (arith, letter_number-some x (and_parts _ _ h).0, e))
same_back (x ∷ xs) (y ∷ ys) h k e =
    let bx = and_parts (is_letter x) (are_letters xs) h in
    let by = and_parts (is_name_letter y) (are_name_letters ys) k in
    let number : letter_number kept_capitals x ≡ letter_number kept_capitals y =
    omega (arith, letter_number-below kept_capitals x, letter_number-below kept_capitals y, e) in
    cc (letter_number-same x y bx.0 by.0 number, same_back xs ys bx.1 by.1 (omega (arith, number, e)))

packed_same : (xs ys : List ℕ) → are_letters xs ≡ true → are_name_letters ys ≡ true
    → packed_number kept_capitals xs ≡ packed_number kept_capitals ys → xs ≡ ys
packed_same xs ys h k e =
    let turned : reverse xs ≡ reverse ys = same_back (reverse xs) (reverse ys) (passes_turned is_letter xs [] h refl)
    (passes_turned is_name_letter ys [] k refl)
    (sym (packed_turned kept_capitals xs []) ∙ e ∙ packed_turned kept_capitals ys []) in
    cc (turned, reverse-reverse xs, reverse-reverse ys)

-- ---- a word in the form that is compared with names

lower_number : (c : ℕ) → letter_number kept_capitals (to_ascii_lowercase c) ≡ letter_number off c
lower_number c = search (rules)

lower_letter : (o : Options) (c : ℕ) → is_unit_letter o c ≡ true
    → (is_letter c ≡ true) × (is_letter (to_ascii_lowercase c) ≡ true)
lower_letter o c h = search rules

pub numbered_letter : (o : Options) (c n : ℕ) → Some n ≡ (if is_unit_letter o c then Some (letter_number o c) else None)
    → (is_unit_letter o c ≡ true) × (n ≡ letter_number o c)
numbered_letter o c n is = search (rules)

pub unnumbered : (o : Options) (c : ℕ) → None ≡ (if is_unit_letter o c then Some (letter_number o c) else None)
    → is_unit_letter o c ≡ false
unnumbered o c is = false_from_ne_true _ (λ letter. let some = rw letter at is in absurd cc)

form_letters : (o : Options) (w : List ℕ) → list_all (is_unit_letter o) w ≡ true
    → are_letters (comparison_form o w) ≡ true
form_letters o [] h = search (rules, cases_Bool)
form_letters o (c ∷ w) h = search (rules, cases_Bool, and_parts, lower_letter, form_letters o w)

form_packed_after : (o : Options) (n : ℕ) (w : List ℕ)
    → packed_number_after o n w ≡ packed_number_after kept_capitals n (comparison_form o w)
form_packed_after o n [] = search (rules, cases_Bool)
form_packed_after o n (c ∷ w) =
    search (rules, cases_Bool, lower_number, form_packed_after o (n * 40 + letter_number o c) w)

form_packed : (o : Options) (w : List ℕ) → packed_number o w ≡ packed_number kept_capitals (comparison_form o w)
form_packed o w = form_packed_after o 0 w

-- ---- a word is a name if both have the same packed number

name_test : (v name : List ℕ) → are_letters v ≡ true → are_name_letters name ≡ true
    → bytes_eq v name ≡ packs_to (packed_number kept_capitals v) name
name_test v name letters own = search (rules, eq-eqb, eqb-true, packed_same)

names_test : (v : List ℕ) (names : List (List ℕ)) → are_letters v ≡ true → list_all are_name_letters names ≡ true
    → list_any (bytes_eq v) names ≡ list_any (packs_to (packed_number kept_capitals v)) names
names_test v [] letters own = refl
names_test v (name ∷ names) letters own =
    let parts = and_parts (are_name_letters name) _ own in
    rw (name_test v name letters parts.0, names_test v names letters parts.1)

-- The letters of these names are those that are packed, and the Chinese names have a Chinese
-- letter.
pub record IsPackable (table : Table) : Type 0 where
  pub letters : (u : TimeUnit) → list_all are_name_letters (all_names_in table u) ≡ true
  pub chinese : (u : TimeUnit) → list_all (list_any is_chinese) (table u).chinese ≡ true

abbrev are_packed : Table → TimeUnit → Bool
are_packed table u = list_all are_name_letters (all_names_in table u) && list_all (list_any is_chinese) (table u).chinese

packable : (table : Table) → list_all (are_packed table) units ≡ true → IsPackable table
packable table all = record {
  letters = λ u. (and_parts _ _ (all_units (are_packed table) all u)).0;
  chinese = λ u. (and_parts _ _ (all_units (are_packed table) all u)).1;
}

pub is_packable : (table : UnitTable) → IsPackable (table_of table)
is_packable Own = packable row_of refl
is_packable More = packable more_row_of refl
is_packable Humantime = packable humantime_row_of refl

no_chinese_letter : (o : Options) (w : List ℕ) → o.cn_unit ≡ false → list_all (is_unit_letter o) w ≡ true
    → list_any is_chinese (comparison_form o w) ≡ false
no_chinese_letter o [] off e = search (rules, cases_Bool)
no_chinese_letter o (c ∷ w) off e = search (rules, cases_Bool, and_parts, no_chinese_letter o w)

no_chinese_name : (table : Table) (o : Options) (w : List ℕ) (u : TimeUnit) → IsPackable table → o.cn_unit ≡ false
    → list_all (is_unit_letter o) w ≡ true
    → list_any (bytes_eq (comparison_form o w)) (table u).chinese ≡ false
no_chinese_name table o w u is off e = false_from_ne_true _ (λ named. cc (
  no_chinese_letter o w off e,
  named_passes (list_any is_chinese) (comparison_form o w) (table u).chinese (is.chinese u) named,
))

named_by_number : (table : Table) (o : Options) (w : List ℕ) (u : TimeUnit) → IsPackable table
    → list_all (is_unit_letter o) w ≡ true
    → is_in_row o w (table u) ≡ list_any (packs_to (packed_number o w)) (all_names_in table u)
named_by_number table o w u is letters =
    let form = comparison_form o w in
    let all = names_test form (all_names_in table u) (form_letters o w letters) (is.letters u) in
    let parts = list_any-append (bytes_eq form) (table u).names (table u).chinese in
    rw (form_packed o w, ← all, parts) (elim (cases_Bool o.cn_unit) [
      | inl on ↦ rw on refl
      | inr off ↦ rw (off, no_chinese_name table o w u is off letters) (grind arith)
    ])

-- ---- words that name no unit

pub no_name : (r : Rules) (w : List ℕ) (test : List ℕ → Bool)
    → list_all (λ u. list_all test (all_names_in r.table u)) units ≡ true
    → test (comparison_form r.options w) ≡ false → None ≡ unit_of_word r w
no_name r w test all fails =
    let unnamed = λ (u : TimeUnit). false_from_ne_true (is_named r w u) (λ t. cc (
      fails,
      named_passes test (comparison_form r.options w) (all_names_in r.table u)
          (all_units (λ v. list_all test (all_names_in r.table v)) all u) (among_all r.table r.options w u t),
    )) in
    simp unnamed

letters_form : (o : Options) (w : List ℕ)
    → list_all (is_unit_letter o) (comparison_form o w) ≡ list_all (is_unit_letter o) w
letters_form o w = elim (cases_Bool o.lowercase) [ inl on ↦ rw on refl | inr off ↦ rw off (lower w) ]
  where
    lower : (w : List ℕ) → list_all (is_unit_letter o) (map to_ascii_lowercase w) ≡ list_all (is_unit_letter o) w
    lower [] = refl
    lower (c ∷ cs) =
        let same : is_unit_letter o (to_ascii_lowercase c) ≡ is_unit_letter o c = search rules in rw (same, lower cs)

letters_of_names : (o : Options) (u : TimeUnit) → list_all (list_all (is_unit_letter o)) (row_of u).names ≡ true
letters_of_names o = all_units (λ u. list_all (list_all (is_unit_letter o)) (row_of u).names) refl

named_letters : (o : Options) (w : List ℕ) (u : TimeUnit) → is_named (rules_of o) w u ≡ true → list_all (is_unit_letter o) w ≡ true
named_letters o w u h =
    search (rules, or_cases, and_parts, named_passes, letters_of_names, letters_form)

pub no_letter_name : (o : Options) (w : List ℕ) → list_all (is_unit_letter o) w ≡ false → None ≡ unit_of_word (rules_of o) w
no_letter_name o w other =
    let unnamed = λ (u : TimeUnit). false_from_ne_true (is_named (rules_of o) w u) (λ t. cc (other, named_letters o w u t)) in
    simp unnamed

letters_in_table : (o : Options) (table : UnitTable) (u : TimeUnit)
    → list_all (list_all (is_unit_letter o)) (table_of table u).names ≡ true
letters_in_table o Own = all_units (λ u. list_all (list_all (is_unit_letter o)) (table_of Own u).names) refl
letters_in_table o More = all_units (λ u. list_all (list_all (is_unit_letter o)) (table_of More u).names) refl
letters_in_table o Humantime = all_units (λ u. list_all (list_all (is_unit_letter o)) (table_of Humantime u).names) refl

chinese_on : (no_calc lowercase : Bool) (table : UnitTable) (u : TimeUnit)
    → list_all (list_all (is_unit_letter (record { no_calc = no_calc; lowercase = lowercase; cn_unit = true })))
    (table_of table u).chinese ≡ true
chinese_on no_calc lowercase Own =
    all_units (λ u. list_all (list_all (is_unit_letter (record { no_calc = no_calc; lowercase = lowercase; cn_unit = true }))) (table_of Own u).chinese) refl
chinese_on no_calc lowercase More =
    all_units (λ u. list_all (list_all (is_unit_letter (record { no_calc = no_calc; lowercase = lowercase; cn_unit = true }))) (table_of More u).chinese) refl
chinese_on no_calc lowercase Humantime =
    all_units (λ u. list_all (list_all (is_unit_letter (record { no_calc = no_calc; lowercase = lowercase; cn_unit = true }))) (table_of Humantime u).chinese) refl

chinese_in_table : (o : Options) (table : UnitTable) (u : TimeUnit) → o.cn_unit ≡ true
    → list_all (list_all (is_unit_letter o)) (table_of table u).chinese ≡ true
chinese_in_table o table u on =
    let same : record { no_calc = o.no_calc; lowercase = o.lowercase; cn_unit = true } ≡ o =
    ap (λ (b : Bool). record o { cn_unit = b }) (sym on) in
    subst (λ (p : Options). list_all (list_all (is_unit_letter p)) (table_of table u).chinese ≡ true) same
    (chinese_on o.no_calc o.lowercase table u)

named_by_letters : (given : CodeRules) (w : List ℕ) (u : TimeUnit) → is_named (meaning_of given) w u ≡ true
    → list_all (is_unit_letter given.options) w ≡ true
named_by_letters given w u h =
    let o = given.options in
    let form = comparison_form o w in
    let row = table_of given.table u in
    let letters : list_all (is_unit_letter o) form ≡ true = elim (or_cases (list_any (bytes_eq form) row.names) _ h) [
      | inl name ↦ named_passes (list_all (is_unit_letter o)) form row.names (letters_in_table o given.table u) name
      | inr chinese ↦
          let both = and_parts o.cn_unit _ chinese in
          named_passes (list_all (is_unit_letter o)) form row.chinese (chinese_in_table o given.table u both.0) both.1
    ] in
    sym (letters_form o w) ∙ letters

-- A word with a character that is no unit letter names no unit.
pub no_letters : (given : CodeRules) (w : List ℕ) → list_all (is_unit_letter given.options) w ≡ false
    → None ≡ unit_of_word (meaning_of given) w
no_letters given w other =
    let unnamed = λ (u : TimeUnit).
    false_from_ne_true (is_named (meaning_of given) w u) (λ t. cc (other, named_by_letters given w u t)) in
    simp unnamed

byte_len-form : (o : Options) (w : List ℕ) → byte_len (comparison_form o w) ≡ byte_len w
byte_len-form o w = elim (cases_Bool o.lowercase) [ inl on ↦ rw on refl | inr off ↦ rw off (lower w) ]
  where
    lower : (w : List ℕ) → byte_len (map to_ascii_lowercase w) ≡ byte_len w
    lower [] = refl
    lower (c ∷ cs) =
        let same : width (to_ascii_lowercase c) ≡ width c = grind (arith, nat_tests) in rw (same, lower cs)

short_names : (table : UnitTable)
    → list_all (λ u. list_all (λ name. leb (byte_len name) 12) (all_names_in (table_of table) u)) units ≡ true
short_names Own = refl
short_names More = refl
short_names Humantime = refl

pub no_long_name : (given : CodeRules) (w : List ℕ) → 12 < byte_len w → None ≡ unit_of_word (meaning_of given) w
no_long_name given w long = no_name (meaning_of given) w (λ name. leb (byte_len name) 12) (short_names given.table)
    (false_from_ne_true _ (λ t. absurd (omega (arith, leb-true _ _ t, byte_len-form given.options w))))

absent : (test : ℕ → Bool) (n : ℕ) → test n ≡ false → (ns : List (List ℕ))
    → list_all (λ name. test (packed_number kept_capitals name)) ns ≡ true → list_any (packs_to n) ns ≡ false
absent test n fails [] all = refl
absent test n fails (name ∷ ns) all =
    let parts = and_parts (test (packed_number kept_capitals name)) _ all in
    let other = false_from_ne_true (packs_to n name)
    (λ e. let same = eqb-true (packed_number kept_capitals name) n e in cc (fails, rw same at parts.0)) in
    rw (other, absent test n fails ns parts.1)

pub no_packed_name : (table : Table) (test : ℕ → Bool) (n : ℕ) → test n ≡ false
    → list_all (λ u. list_all (λ name. test (packed_number kept_capitals name)) (all_names_in table u)) units ≡ true
    → None ≡ unit_of_packed table n
unfolding unit_of_packed
no_packed_name table test n fails all =
    let none = λ (u : TimeUnit). absent test n fails (all_names_in table u)
    (all_units (λ v. list_all (λ name. test (packed_number kept_capitals name)) (all_names_in table v)) all u) in
    simp none

abbrev pub own_rules : Options → CodeRules
own_rules o = record { table = Own; default_unit = Some Second; options = o }

by_number : (table : Table) (default_unit : Option TimeUnit) (o : Options) (w : List ℕ) → IsPackable table
    → list_all (is_unit_letter o) w ≡ true
    → unit_of_word (record { table = table; default_unit = default_unit; options = o }) w
    ≡ unit_of_packed table (packed_number o w)
unfolding unit_of_packed
by_number table default_unit o w is letters = search (rules, named_by_number)

pub unit_by_number : (given : CodeRules) (w : List ℕ) → list_all (is_unit_letter given.options) w ≡ true
    → unit_of_word (meaning_of given) w ≡ unit_of_packed (table_of given.table) (packed_number given.options w)
unit_by_number given w letters =
    by_number (table_of given.table) given.default_unit given.options w (is_packable given.table) letters

-- ---- words that are packed

packed_some : (o : Options) (w : List ℕ) (n : ℕ) → Some n ≡ packed_word o w
    → (list_all (is_unit_letter o) w ≡ true) × (n ≡ packed_number o w)
packed_some o w n is = elim (cases_Bool (nat_le (byte_len w) 12 && list_all (is_unit_letter o) w)) [
  | inl fits ↦ ((and_parts _ _ fits).1, (let some = rw fits at is in cc))
  | inr other ↦ absurd (let none = rw other at is in cc)
]

packed_none : (o : Options) (w : List ℕ) → None ≡ packed_word o w → (12 < byte_len w) ⊎ (list_all (is_unit_letter o) w ≡ false)
packed_none o w is = elim (cases_Bool (nat_le (byte_len w) 12 && list_all (is_unit_letter o) w)) [
  | inl fits ↦ absurd (let none = rw fits at is in cc)
  | inr other ↦ grind (arith, nat_tests)
]

pub own_word_some : (o : Options) (w : List ℕ) (n : ℕ) → Some n ≡ packed_word o w
    → unit_of_packed row_of n ≡ unit_of_word (rules_of o) w
own_word_some o w n is =
    let packed = packed_some o w n is in
    ap (unit_of_packed row_of) packed.1 ∙ sym (unit_by_number (own_rules o) w packed.0)

pub own_word_none : (o : Options) (w : List ℕ) → None ≡ packed_word o w → None ≡ unit_of_word (rules_of o) w
own_word_none o w is = elim (packed_none o w is) [
  | inl long ↦ no_long_name (own_rules o) w long
  | inr other ↦ no_letter_name o w other
]

pub word_some : (given : CodeRules) (w : List ℕ) (n : ℕ) → Some n ≡ packed_word given.options w
    → unit_of_packed (table_of given.table) n ≡ unit_of_word (meaning_of given) w
word_some given w n is =
    let packed = packed_some given.options w n is in
    ap (unit_of_packed (table_of given.table)) packed.1 ∙ sym (unit_by_number given w packed.0)

pub word_none : (given : CodeRules) (w : List ℕ) → None ≡ packed_word given.options w
    → None ≡ unit_of_word (meaning_of given) w
word_none given w is = elim (packed_none given.options w is) [
  | inl long ↦ no_long_name given w long
  | inr other ↦ no_letters given w other
]

-- the rules by which only the added names are read
abbrev pub added_rules : Rules
added_rules = record { table = added_row_of; default_unit = None; options = off }

pub added_word_some : (w : List ℕ) (n : ℕ) → Some n ≡ packed_word off w
    → unit_of_packed added_row_of n ≡ unit_of_word added_rules w
added_word_some w n is =
    let packed = packed_some off w n is in
    ap (unit_of_packed added_row_of) packed.1 ∙ sym (by_number added_row_of None off w (packable added_row_of refl) packed.0)

pub added_word_none : (w : List ℕ) → None ≡ packed_word off w → None ≡ unit_of_word added_rules w
added_word_none w is = elim (packed_none off w is) [
  | inl long ↦ no_name added_rules w (λ name. leb (byte_len name) 12) refl
      (false_from_ne_true _ (λ t. absurd (omega (arith, leb-true _ _ t, byte_len-form off w, long))))
  | inr other ↦ no_name added_rules w (list_all (is_unit_letter off)) refl (letters_form off w ∙ other)
]

abbrev pub more_off : Rules
more_off = more_rules off None

pub more_word_some : (w : List ℕ) (n : ℕ) → Some n ≡ packed_word off w
    → unit_of_packed more_row_of n ≡ unit_of_word more_off w
more_word_some w n is =
    let packed = packed_some off w n is in
    ap (unit_of_packed more_row_of) packed.1 ∙ sym (by_number more_row_of None off w (packable more_row_of refl) packed.0)

more_letters : (u : TimeUnit) → list_all (list_all (is_unit_letter off)) (more_row_of u).names ≡ true
more_letters = all_units (λ u. list_all (list_all (is_unit_letter off)) (more_row_of u).names) refl

pub more_word_none : (w : List ℕ) → None ≡ packed_word off w → None ≡ unit_of_word more_off w
more_word_none w is = elim (packed_none off w is) [
  | inl long ↦ no_name more_off w (λ name. leb (byte_len name) 12) refl
      (false_from_ne_true _ (λ t. absurd (omega (arith, leb-true _ _ t, byte_len-form off w, long))))
  | inr other ↦
      let unnamed = λ (u : TimeUnit). false_from_ne_true (is_named more_off w u) (λ t.
      let among : list_any (bytes_eq (comparison_form off w)) (more_row_of u).names ≡ true = grind arith in
      cc (
        other,
        letters_form off w,
        named_passes (list_all (is_unit_letter off)) (comparison_form off w) (more_row_of u).names (more_letters u) among,
      )) in
      simp unnamed
]

-- ---- the micro sign in place of the Greek letter mu

micro_width : (greek : Bool) (c : ℕ) → width (micro_if greek c) ≡ width c
micro_width greek c = elim (cases_Bool (greek && c == 0x3BC)) [
  | inl is ↦ let same : c ≡ 0x3BC = eqb-true c 0x3BC (and_parts _ _ is).1 in rw is (rw same refl)
  | inr other ↦ rw other refl
]

pub micro_len : (greek : Bool) (w : List ℕ) → byte_len (with_micro greek w) ≡ byte_len w
micro_len greek [] = refl
micro_len greek (c ∷ w) = rw (micro_width greek c, micro_len greek w) refl

pub no_micro : (w : List ℕ) → with_micro false w ≡ w
no_micro [] = refl
no_micro (c ∷ w) = rw (no_micro w) refl

-- ---- a packed number with a flag

abbrev pub flagged : Bool → ℕ → ℕ × Bool
flagged flag n = (n, flag)

pub or_assoc : (a b c : Bool) → (a || (b || c)) ≡ ((a || b) || c)
or_assoc true b c = refl
or_assoc false b c = refl

pub unpacked : (found : Option ℕ) (flag : Bool) → None ≡ found → None ≡ option_map (flagged flag) found
unpacked None flag e = refl
unpacked (Some n) flag e = absurd cc

pub packed_with : (found : Option ℕ) (flag seen : Bool) (n : ℕ) → Some n ≡ found → flag ≡ (seen || false)
    → Some (flagged seen n) ≡ option_map (flagged flag) found
packed_with found flag seen n is same =
    let flags : flag ≡ seen = grind arith in rw (← is, flags) refl

pub packed_parts : (found : Option ℕ) (flag : Bool) (pair : ℕ × Bool) → Some pair ≡ option_map (flagged flag) found
    → (Some pair.0 ≡ found) × (pair.1 ≡ flag)
packed_parts None flag pair e = absurd cc
packed_parts (Some n) flag pair e = let same : pair ≡ flagged flag n = cc in rw same (refl, refl)

pub packed_empty : (found : Option ℕ) (flag : Bool) → None ≡ option_map (flagged flag) found → None ≡ found
packed_empty None flag e = refl
packed_empty (Some n) flag e = absurd cc

pub no_letter_mu : (o : Options) (w : List ℕ) → list_any (λ c. c == 0x3BC) w ≡ true → list_all (is_unit_letter o) w ≡ false
no_letter_mu o [] h = absurd cc
no_letter_mu o (c ∷ w) h = elim (or_cases (c == 0x3BC) (list_any (λ d. d == 0x3BC) w) h) [
  | inl is ↦
      let same : c ≡ 0x3BC = eqb-true c 0x3BC is in
      let other : is_unit_letter o 0x3BC ≡ false = search (rules, cases_Bool) in
      rw same (rw other refl)
  | inr more ↦ elim (cases_Bool (is_unit_letter o c)) [
    | inl letter ↦ rw letter (no_letter_mu o w more)
    | inr none ↦ rw none refl
  ]
]

-- ---- tables that have the names of another one

abbrev is_same : Option TimeUnit → Option TimeUnit → Bool
is_same None None = true
is_same (Some u) (Some v) = eqb (nanos_of u) (nanos_of v)
is_same _ _ = false

is_same-true : (u : TimeUnit) (found : Option TimeUnit) → is_same (Some u) found ≡ true → found ≡ Some u
is_same-true u None e = absurd cc
is_same-true u (Some v) e = ap Some (sym (same_length u v (eqb-true (nanos_of u) (nanos_of v) e)))

-- whether a packed number names the same unit in both tables
abbrev pub agree : Table → Table → ℕ → Bool
agree table wide n = is_same (unit_of_packed table n) (unit_of_packed wide n)

pub wider_unit : (table wide : Table) (n : ℕ) (u : TimeUnit)
    → list_all (λ v. list_all (λ name. agree table wide (packed_number kept_capitals name)) (all_names_in table v)) units
    ≡ true
    → Some u ≡ unit_of_packed table n → Some u ≡ unit_of_packed wide n
wider_unit table wide n u all found = elim (cases_Bool (agree table wide n)) [
  | inl same ↦ sym (is_same-true u (unit_of_packed wide n) (rw (← found) at same))
  | inr other ↦ absurd (let none = no_packed_name table (agree table wide) n other all in cc)
]

abbrev all_numbers : (ℕ → Bool) → Table → Bool
all_numbers test table = list_all (λ u. list_all (λ name. test (packed_number kept_capitals name)) (all_names_in table u)) units

own_kept : all_numbers (agree row_of more_row_of) row_of ≡ true
unfolding unit_of_packed
own_kept = refl

added_kept : all_numbers (agree added_row_of more_row_of) added_row_of ≡ true
unfolding unit_of_packed
added_kept = refl

more_known : all_numbers (λ n. is_some (unit_of_packed row_of n) || is_some (unit_of_packed added_row_of n)) more_row_of ≡ true
unfolding unit_of_packed
more_known = refl

more_kept : all_numbers (agree more_row_of humantime_row_of) more_row_of ≡ true
unfolding unit_of_packed
more_kept = refl

humantime_known : all_numbers (λ n. is_some (unit_of_packed more_row_of n) || eqb n 39) humantime_row_of ≡ true
unfolding unit_of_packed
humantime_known = refl

pub own_in_more : (n : ℕ) (u : TimeUnit) → Some u ≡ unit_of_packed row_of n → Some u ≡ unit_of_packed more_row_of n
own_in_more n u = wider_unit row_of more_row_of n u own_kept

pub added_in_more : (n : ℕ) (found : Option TimeUnit) → None ≡ unit_of_packed row_of n → found ≡ unit_of_packed added_row_of n
    → found ≡ unit_of_packed more_row_of n
added_in_more n (Some u) none is = wider_unit added_row_of more_row_of n u added_kept is
added_in_more n None none is =
    no_packed_name more_row_of (λ m. is_some (unit_of_packed row_of m) || is_some (unit_of_packed added_row_of m)) n
    (rw (← none, ← is) refl) more_known

pub month_in_humantime : Some Month ≡ unit_of_packed humantime_row_of 39
unfolding unit_of_packed
month_in_humantime = refl

pub more_in_humantime : (n : ℕ) (found : Option TimeUnit) → eqb n 39 ≡ false → found ≡ unit_of_packed more_row_of n
    → found ≡ unit_of_packed humantime_row_of n
more_in_humantime n (Some u) other is = wider_unit more_row_of humantime_row_of n u more_kept is
more_in_humantime n None other is =
    no_packed_name humantime_row_of (λ m. is_some (unit_of_packed more_row_of m) || eqb m 39) n
    (rw (← is, other) refl) humantime_known

-- A word that names a unit by the library's own table names it with more names, too.
pub named_with_more : (default_unit : Option TimeUnit) (o : Options) (w : List ℕ) (u : TimeUnit)
    → unit_of_word (record { table = row_of; default_unit = default_unit; options = o }) w ≡ Some u
    → unit_of_word (record { table = more_row_of; default_unit = default_unit; options = o }) w ≡ Some u
named_with_more default_unit o w u is = elim (cases_Bool (list_all (is_unit_letter o) w)) [
  | inl letters ↦
      let own = by_number row_of default_unit o w (packable row_of refl) letters in
      let wide = by_number more_row_of default_unit o w (packable more_row_of refl) letters in
      wide ∙ sym (own_in_more (packed_number o w) u (sym is ∙ own))
  | inr other ↦ absurd (let none = no_letter_name o w other in cc)
]

-- ---- slots

-- the slot of a packed number among 2 ^ bits slots
abbrev pub slot : ℕ → ℕ → ℕ → ℕ
slot bits spread n = n * spread % 2 ^ 64 / 2 ^ (64 - bits)

pub slot_below : (slots : List ℕ) (count i : ℕ) → i < length slots
    → list_all (λ s. leb (suc s) count) slots ≡ true → get_or slots i 0 < count
slot_below slots count i less all = search (rules, leb-true, list_all_at)

pub name_found : (table : Table) (names : List ℕ) (found_units : List TimeUnit) (i m n : ℕ) (u : TimeUnit)
    → map (unit_of_packed table) names ≡ map Some found_units → i < length names → get_or names i m ≡ n
    → Some (get_or found_units i u) ≡ unit_of_packed table n
name_found table names found_units i m n u same less key =
    let many : length names ≡ length found_units =
    sym (length-map names (unit_of_packed table)) ∙ ap length same ∙ length-map found_units Some in
    let there = get_or-map Some found_units i u None (omega (arith, many, less)) in
    let here = get_or-map (unit_of_packed table) names i m None less in
    sym there ∙ ap (λ units. get_or units i None) (sym same) ∙ here ∙ ap (unit_of_packed table) key

-- whether the slot of a number holds the index of that number
abbrev pub is_kept : ℕ → ℕ → List ℕ → List ℕ → ℕ → ℕ → ℕ → Bool
is_kept bits spread slots names s m n = eqb (get_or names (get_or slots (slot bits spread n) s) m) n

pub packed_after-push : (o : Options) (n : ℕ) (cs : List ℕ) (c : ℕ)
    → packed_number_after o n (cs ++ c ∷ []) ≡ packed_number_after o n cs * 40 + letter_number o c
packed_after-push o n [] c = refl
packed_after-push o n (d ∷ cs) c = packed_after-push o (n * 40 + letter_number o d) cs c

pub length-le-byte_len : (cs : List ℕ) → length cs ≤ byte_len cs
length-le-byte_len [] = omega arith
length-le-byte_len (c ∷ cs) = omega (arith, width_some c, length-le-byte_len cs)

pub record Packs (o : Options) (word rest : List ℕ) (n : ℕ) : Type 0 where
  pub letters : List ℕ
  pub whole : word ≡ letters ++ rest
  pub all : IsTrue (list_all (is_unit_letter o) letters)
  pub number : n ≡ packed_number o letters % 2 ^ 64

pub packs_none : {o : Options} {word : List ℕ} → Packs o word word 0
packs_none = record { letters = []; whole = refl; all = refl; number = refl }

pub packs_more : {o : Options} {word rest : List ℕ} {c n m : ℕ} → Packs o word (c ∷ rest) n → is_unit_letter o c ≡ true
    → m ≡ (n * 40 + letter_number o c) % 2 ^ 64 → Packs o word rest m
packs_more {o} {c = c} passed letter more = record {
  letters = passed.letters ++ c ∷ [];
  whole = rw append_assoc passed.whole;
  all = list_all-append (is_unit_letter o) passed.letters (c ∷ []) ∙ and_from _ _ passed.all (rw letter refl);
  number = omega (arith, more, passed.number, packed_after-push o 0 passed.letters c);
}

pub packs_whole : {o : Options} {word : List ℕ} {n : ℕ} → Packs o word [] n → byte_len word ≤ 12 → Some n ≡ packed_word o word
packs_whole {o} {word} {n} packed short =
    let cs = packed.letters in
    let same : cs ≡ word = rw append-nil at (sym packed.whole) in
    let few : length cs ≤ 12 = omega (arith, length-le-byte_len word, ap length same, short) in
    let fits : nat_le (byte_len word) 12 ≡ true = grind (arith, nat_tests) in
    rw (fits, rw same at packed.all) (ap Some (exact o cs n few packed.number ∙ ap (packed_number o) same))

pub packs_other : {o : Options} {word rest : List ℕ} {c n : ℕ} → Packs o word (c ∷ rest) n → is_unit_letter o c ≡ false
    → None ≡ packed_word o word
packs_other {o} {word} {rest} {c} packed other =
    let no : list_all (is_unit_letter o) word ≡ false =
    rw packed.whole (list_all-append (is_unit_letter o) packed.letters (c ∷ rest) ∙ rw (packed.all, other) refl) in
    elim (cases_Bool (nat_le (byte_len word) 12)) [ inl short ↦ rw (short, no) refl | inr long ↦ rw long refl ]

pub packs_long : (o : Options) (word : List ℕ) → 12 < byte_len word → None ≡ packed_word o word
packs_long o word long =
    let unfit : nat_le (byte_len word) 12 ≡ false = grind (arith, nat_tests) in rw unfit refl
