-- Lemmas about words that are near a unit.
use Rattle.duration_str_help.proofs.Common.{bytes_eq, bytes_eq-Decides, cases_Bool, codes, encode_utf8_all, encodes-chars, false, find, inl, inr, is_named, IsUtf8, List, list_any, map, None, off, Option, packed_word, refl, Some, sym, TimeUnit, to_ascii_lowercase, true, units, unit_of_word, with_micro, Bool, if◌then◌else◌, Month, [], ℕ, ◌∙◌, ◌∷◌, ◌≡◌, ◌==◌, more_names}
use Rattle.duration_str_base.proofs.PackedLemmas.{added_rules, added_word_none, more_off, more_word_none}
use Rattle.duration_str_base.proofs.UnitLemmas.{bytes_eq-encodes}
use Rattle.std.specs.Str.{chars}
use Rattle.duration_str_help.specs.Help.{near_unit, small_words}

pub near_if_some : (b : Bool) (near : Option TimeUnit) (u : TimeUnit) → Some u ≡ (if b then near else None)
    → (b ≡ true) × (near ≡ Some u)
near_if_some true near u e = (refl, sym e)
near_if_some false near u e = absurd cc

pub near_if_none : (b : Bool) (near : Option TimeUnit) → b ≡ true → None ≡ (if b then near else None) → near ≡ None
near_if_none true near is e = sym e
near_if_none false near is e = absurd cc

added_found : (word : List ℕ) (us : List TimeUnit)
    → find (λ u. list_any (bytes_eq (map to_ascii_lowercase word)) (more_names u)) us ≡ find (is_named added_rules word) us
added_found word [] = refl
added_found word (u ∷ us) = elim (cases_Bool (list_any (bytes_eq (map to_ascii_lowercase word)) (more_names u))) [
  | inl near ↦ rw near refl
  | inr far ↦ rw far (added_found word us)
]

pub near_mo : (word : List ℕ) → bytes_eq word (codes "mo") ≡ true → near_unit (chars word) ≡ Some Month
unfolding chars
near_mo word same = rw ((bytes_eq-Decides word (codes "mo")).0 same) refl

pub near_mos : (word : List ℕ) → bytes_eq word (codes "mos") ≡ true → near_unit (chars word) ≡ Some Month
unfolding chars
near_mos word same = rw ((bytes_eq-Decides word (codes "mos")).0 same) refl

no_mu : (word : List ℕ) → list_any (λ c. c == 0x3BC) word ≡ false → with_micro true word ≡ word
no_mu [] h = refl
no_mu (c ∷ word) h = elim (cases_Bool (c == 0x3BC)) [
  | inl is ↦ absurd (let clash = rw is at h in cc)
  | inr other ↦ rw (other, no_mu word (rw other at h)) refl
]

module _ (bytes : List ℕ) (utf8 : IsUtf8 bytes) (mo : bytes_eq bytes (codes "mo") ≡ false)
    (mos : bytes_eq bytes (codes "mos") ≡ false) where
  no_small : list_any (bytes_eq (chars bytes)) small_words ≡ false
  unfolding lib.Utf8.encode
  no_small =
      let first : bytes_eq (encode_utf8_all (chars bytes)) (codes "mo") ≡ false = rw (encodes-chars bytes utf8) mo in
      let second : bytes_eq (encode_utf8_all (chars bytes)) (codes "mos") ≡ false = rw (encodes-chars bytes utf8) mos in
      rw (sym (bytes_eq-encodes (chars bytes) (codes "mo")) ∙ first, sym (bytes_eq-encodes (chars bytes) (codes "mos")) ∙ second)
      refl

  pub near_greek : list_any (λ c. c == 0x3BC) (chars bytes) ≡ true → near_unit (chars bytes) ≡ unit_of_word more_off (with_micro true (chars bytes))
  near_greek greek = rw (no_small, greek) refl

  pub near_added : list_any (λ c. c == 0x3BC) (chars bytes) ≡ false
      → near_unit (chars bytes) ≡ unit_of_word added_rules (with_micro true (chars bytes))
  near_added other = rw (no_small, other, no_mu (chars bytes) other) (added_found (chars bytes) units)

  pub near_none : None ≡ packed_word off (with_micro true (chars bytes)) → None ≡ near_unit (chars bytes)
  near_none none = elim (cases_Bool (list_any (λ c. c == 0x3BC) (chars bytes))) [
    | inl greek ↦ more_word_none (with_micro true (chars bytes)) none ∙ sym (near_greek greek)
    | inr latin ↦ added_word_none (with_micro true (chars bytes)) none ∙ sym (near_added latin)
  ]
