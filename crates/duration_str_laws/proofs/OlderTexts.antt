use Rattle.duration_str_laws.proofs.Common.{[], allows, ap, append-nil, ap₂, cases_Bool, Cause, CondUnit, expected_after, inl, inr, is_digit, is_unit_letter, IsRead, IsRefused, IsRefusedAt, IsSentence, IsSentenceOf, IsTrue, List, list_all, map, nanos_of, None, number, older_rules, older_table, OlderTexts, operator, Option, Options, Plus, refl, rules, rules_of, sentence_fault, Some, Terminal, terminal_of, terms_after, terms_of, TimeUnit, unit_of_word, WasRefused, word, written_terms, ℕ, ⊤, ◌∙◌, ◌∷◌, ◌≡◌, Rules, rules_with, row_of, Table, MoreNames, more_row_of, sym, unwrap_or, Second}
use Rattle.duration_str_base.proofs.PackedLemmas.{named_with_more}
use Rattle.duration_str_reading.proofs.Sentences.AnswerLemmas.{sentence_refused}
use Rattle.duration_str_reading.proofs.Sentences.FrontLemmas.{AreAllowed, sentence_allowed}

-- A table `wide` in which each word that names a unit by the rules r names the same unit, which has
-- the same length.
module _ (r : Rules) (wide : Table)
    (kept : (w : List ℕ) (u : TimeUnit) → unit_of_word r w ≡ Some u → unit_of_word (record r { table = wide }) w ≡ Some u)
    (same_length : (w : List ℕ) (u : TimeUnit) → unit_of_word r w ≡ Some u → (r.table u).nanos ≡ (wide u).nanos)
    (default_length : (r.table (unwrap_or r.default_unit Second)).nanos ≡ (wide (unwrap_or r.default_unit Second)).nanos) where
  abbrev s : Rules
  s = record r { table = wide }

  -- Each unit among these terminals still has its length.
  abbrev KeepLengths : List Terminal → Type 0
  KeepLengths [] = ⊤
  KeepLengths (word (Some u) ∷ terminals) = ((r.table u).nanos ≡ (wide u).nanos) × KeepLengths terminals
  KeepLengths (terminal ∷ terminals) = KeepLengths terminals

  same_word : (last : Option Terminal) (w : List ℕ) (found : Option TimeUnit) (terminals : List Terminal)
      → unit_of_word r w ≡ found → IsTrue (allows (expected_after r last) (word found))
      → KeepLengths terminals
      → (word found ≡ word (unit_of_word s w)) × KeepLengths (word found ∷ terminals)
  same_word last w None terminals e a k = search rules
  same_word last w (Some u) terminals e a k = (ap word (sym (kept w u e)), (same_length w u e, k))

  same_terminal : (last : Option Terminal) (w : List ℕ) (terminals : List Terminal)
      → IsTrue (allows (expected_after r last) (terminal_of r w)) → KeepLengths terminals
      → (terminal_of r w ≡ terminal_of s w) × KeepLengths (terminal_of r w ∷ terminals)
  same_terminal last [] terminals a k = (refl, k)
  same_terminal last (c ∷ cs) terminals a k = elim (cases_Bool (list_all is_digit (c ∷ cs))) [
    | inl digits ↦ rw digits (refl, k)
    | inr no_digits ↦ elim (cases_Bool (list_all (is_unit_letter r.options) (c ∷ cs))) [
      | inl letters ↦
          rw (no_digits, letters) (same_word last (c ∷ cs) _ terminals refl (rw (no_digits, letters) at a) k)
      | inr no_letters ↦ rw (no_digits, no_letters) (refl, search rules)
    ]
  ]

  same_terminals : (last : Option Terminal) (lexemes : List (List ℕ))
      → AreAllowed r last (map (terminal_of r) lexemes)
      → (map (terminal_of r) lexemes ≡ map (terminal_of s) lexemes)
      × KeepLengths (map (terminal_of r) lexemes)
  same_terminals last [] a = (refl, tt)
  same_terminals last (w ∷ lexemes) a =
      let more = same_terminals (Some (terminal_of r w)) lexemes a.1 in
      let first = same_terminal last w (map (terminal_of r) lexemes) a.0 more.1 in
      (ap₂ ◌∷◌ first.0 more.0, first.1)

  same_terms : (op : CondUnit) (terminals : List Terminal) → KeepLengths terminals
      → terms_after r op terminals ≡ terms_after s op terminals
  same_terms op (number n ∷ word (Some u) ∷ more) k = rw (k.0, same_terms Plus more k.1) refl
  same_terms op (number n ∷ more) k = rw (default_length, same_terms Plus more k) refl
  same_terms op (operator next ∷ more) k = same_terms next more k
  same_terms op _ k = refl

  module _ (lexemes : List (List ℕ)) (text : List ℕ) (was : IsSentenceOf r lexemes text) where
    kept_terminals : (map (terminal_of r) lexemes ≡ map (terminal_of s) lexemes) × KeepLengths (map (terminal_of r) lexemes)
    kept_terminals = same_terminals None lexemes (sentence_allowed r (map (terminal_of r) lexemes) was.0)

    kept_sentence : IsSentenceOf s lexemes text
    kept_sentence = (rw kept_terminals.0 at was.0, was.1)

    kept_terms : written_terms r lexemes ≡ written_terms s lexemes
    kept_terms = same_terms Plus (map (terminal_of r) lexemes) kept_terminals.1 ∙ ap (terms_of s) kept_terminals.0

  kept_value : (text : List ℕ) (nanos : ℕ) → IsRead r text nanos → IsRead s text nanos
  kept_value text nanos was =
      let same = kept_terms was.lexemes text was.spells in record {
        lexemes = was.lexemes;
        spells = kept_sentence was.lexemes text was.spells;
        evaluates = rw same at was.evaluates;
        value = rw same at was.value;
      }

-- ---- the table from before the quarter

older_name : (o : Options) (w : List ℕ) (u : TimeUnit) → unit_of_word (older_rules o) w ≡ Some u
    → unit_of_word (rules_of o) w ≡ Some u
older_name = search rules

older_length : (o : Options) (w : List ℕ) (u : TimeUnit) → unit_of_word (older_rules o) w ≡ Some u
    → (older_table u).nanos ≡ nanos_of u
older_length = search rules

refused_at : (o : Options) (place : ℕ) (terminals : List Terminal) (cause : Cause) → IsSentence (rules_of o) terminals
    → sentence_fault o (terms_of (rules_of o) terminals) ≡ Some cause
    → IsRefusedAt (rules_of o) place terminals [] cause
refused_at o place terminals cause s e = search (rules, append-nil)

older_cause : (o : Options) (text : List ℕ) (cause : Cause) → WasRefused o text cause → IsRefused (rules_of o) text cause
older_cause o text cause was =
    let s = kept_sentence (older_rules o) row_of (older_name o) (older_length o) refl was.lexemes text was.spells in
    sentence_refused (rules_of o) text was.lexemes cause s
    (λ place. refused_at o place _ cause s.0
    (rw (kept_terms (older_rules o) row_of (older_name o) (older_length o) refl was.lexemes text was.spells) at was.refused))

pub older_texts_hold : OlderTexts
older_texts_hold = record {
  names = older_name;
  units = search rules;
  terminals = λ o lexemes text was. (kept_terminals (older_rules o) row_of (older_name o) (older_length o) refl lexemes text was).0;
  sentence = λ o lexemes text was. kept_sentence (older_rules o) row_of (older_name o) (older_length o) refl lexemes text was;
  value = λ o text nanos was. kept_value (older_rules o) row_of (older_name o) (older_length o) refl text nanos was;
  cause = older_cause;
}

pub more_names_hold : MoreNames
more_names_hold = record {
  names = λ o default_unit. named_with_more default_unit o;
  lengths = λ u. refl;
  value = λ o default_unit text nanos was.
      kept_value (rules_with o default_unit) more_row_of (named_with_more default_unit o) (λ w u e. refl) refl text nanos was;
}
