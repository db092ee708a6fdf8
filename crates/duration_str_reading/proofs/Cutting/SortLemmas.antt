-- Lemmas about terminals and their sorts, and about tokens by their first character.
use Rattle.duration_str_reading.proofs.Common.{[], add-zero, ahead, and_from, and_parts, are_of_one_run, AreTokens, arith, Between, Bool, cases_Bool, common_steps, CondUnit, EndsRun, false, goes_on, if◌then◌else◌, inl, inr, is_blank, is_digit, is_number, is_unit_letter, IsLexeme, IsNumber, IsSign, IsTrue, length, List, list_all, None, Number, number, number_of, operator, operator_of, operator_or_other, Option, Options, or_right, other, Passes, refl, Rules, rules, sign_sort, sign_terminal, Some, sort_at, sort_of, StandsAt, Stops, Terminal, terminal_of, TimeUnit, Token, tokens_from, TokenStart, true, unit_of_word, with_first_character, Word, word, ℕ, ◌<◌, ◌∷◌, ◌≡◌}
use Rattle.duration_str_base.proofs.CharacterLemmas.{all_weaker, digit-not_blank, digit-not_letter, letter-not_blank, letter-not_digit}
use Rattle.duration_str_reading.proofs.Cutting.TokenLemmas.{tokens_are}
use Rattle.duration_str_reading.proofs.Cutting.PositionLemmas.{TakesWord}

-- ---- The possible terminals of a list of characters

pub terminal_cases : (r : Rules) (P : List ℕ → Terminal → Type 0) → P [] other
    → ((c : ℕ) (cs : List ℕ) → IsTrue (list_all is_digit (c ∷ cs)) → P (c ∷ cs) (number (number_of (c ∷ cs))))
    → ((c : ℕ) (cs : List ℕ) → IsTrue (list_all (is_unit_letter r.options) (c ∷ cs))
    → P (c ∷ cs) (word (unit_of_word r (c ∷ cs))))
    → ((c : ℕ) (op : CondUnit) → list_all is_digit (c ∷ []) ≡ false → list_all (is_unit_letter r.options) (c ∷ []) ≡ false
    → operator_of c ≡ Some op → P (c ∷ []) (operator op))
    → ((c : ℕ) (cs : List ℕ) → list_all is_digit (c ∷ cs) ≡ false → list_all (is_unit_letter r.options) (c ∷ cs) ≡ false
    → P (c ∷ cs) other)
    → (w : List ℕ) → P w (terminal_of r w)
terminal_cases r P none digits letters sign rest [] = none
terminal_cases r P none digits letters sign rest (c ∷ cs) = by_tests cs _ _ refl refl
  where
    by_operator : (op : Option CondUnit) → operator_of c ≡ op → list_all is_digit (c ∷ []) ≡ false
        → list_all (is_unit_letter r.options) (c ∷ []) ≡ false → P (c ∷ []) (operator_or_other op)
    by_operator (Some op) e d l = sign c op d l e
    by_operator None e d l = rest c [] d l

    by_tests : (ds : List ℕ) (are_digits are_letters : Bool) → list_all is_digit (c ∷ ds) ≡ are_digits
        → list_all (is_unit_letter r.options) (c ∷ ds) ≡ are_letters
        → P (c ∷ ds) (if are_digits then number (number_of (c ∷ ds))
        else if are_letters then word (unit_of_word r (c ∷ ds)) else sign_terminal (c ∷ ds))
    by_tests ds true are_letters d l = digits c ds d
    by_tests ds false true d l = letters c ds l
    by_tests [] false false d l = by_operator (operator_of c) refl d l
    by_tests (e ∷ ds) false false d l = rest c (e ∷ ds) d l

-- ---- Runs of digits and of unit letters

module _ (o : Options) where
  run_is_lexeme : (test : ℕ → Bool) → ((c : ℕ) → test c ≡ true → is_blank c ≡ false)
      → ((c d : ℕ) → test c ≡ true → test d ≡ true → are_of_one_run o c d ≡ true)
      → (c : ℕ) (cs : List ℕ) → IsTrue (list_all test (c ∷ cs)) → IsLexeme o (c ∷ cs)
  run_is_lexeme test solid of_run c cs h = grind (arith, and_parts, all_weaker)

  pub digits_are_lexeme : (c : ℕ) (cs : List ℕ) → IsTrue (list_all is_digit (c ∷ cs)) → IsLexeme o (c ∷ cs)
  digits_are_lexeme = run_is_lexeme is_digit digit-not_blank (λ c d e f. rw (e, f))

  pub letters_are_lexeme : (c : ℕ) (cs : List ℕ) → IsTrue (list_all (is_unit_letter o) (c ∷ cs)) → IsLexeme o (c ∷ cs)
  letters_are_lexeme =
      run_is_lexeme (is_unit_letter o) (letter-not_blank o) (λ c d e f. or_right _ _ (and_from _ _ e f))

-- ---- The sort of a lexeme

pub sign_sorts : (op : Option CondUnit) → sign_sort op ≡ sort_of (operator_or_other op)
sign_sorts op = grind arith

pub lexeme_sort : (r : Rules) (c : ℕ) (cs : List ℕ) → IsLexeme r.options (c ∷ cs)
    → sort_at r.options c ≡ sort_of (terminal_of r (c ∷ cs))
lexeme_sort r c cs p = elim (cases_Bool (is_digit c)) [
  | inl e ↦ rw (e, all_weaker _ is_digit cs (λ d h. grind (arith, digit-not_letter r.options c e)) p.1)
  | inr e ↦ elim (cases_Bool (is_unit_letter r.options c)) [
    | inl f ↦ rw (e, f, all_weaker _ (is_unit_letter r.options) cs (λ d h. grind arith) p.1)
    | inr f ↦ grind (arith, and_parts)
  ]
]

-- ---- Tokens by their first character

pub record StandsToken (r : Rules) (text : List ℕ) (place next : ℕ) (terminal : Terminal) : Type 0 where
  pub characters : List ℕ
  pub between : Between text place next characters
  pub is_lexeme : IsLexeme r.options characters
  pub ends : EndsRun r.options characters (ahead text next)
  pub is_terminal : terminal ≡ terminal_of r characters

run_ends : (o : Options) (test : ℕ → Bool) → ((c d : ℕ) → test c ≡ true → test d ≡ false → are_of_one_run o c d ≡ false)
    → (c : ℕ) (rest : List ℕ) → test c ≡ true → Stops test rest → goes_on o c rest ≡ false
run_ends o test apart c rest e stops = search rules

run_stands : {text cs : List ℕ} {place next at c : ℕ} (r : Rules) (test : ℕ → Bool) (meaning : List ℕ → Terminal)
    → ((c d : ℕ) → test c ≡ true → test d ≡ false → are_of_one_run r.options c d ≡ false)
    → ((d : ℕ) (ds : List ℕ) → IsTrue (list_all test (d ∷ ds))
    → IsLexeme r.options (d ∷ ds) × (terminal_of r (d ∷ ds) ≡ meaning (d ∷ ds)))
    → Between text place next cs → IsTrue (list_all test cs) → Stops test (ahead text next) → StandsAt text place at c
    → test c ≡ true
    → (0 < length cs) × StandsToken r text place next (meaning cs)
run_stands r test meaning apart lexeme between all stops stands e = search (rules, run_ends)

pub number_stands : {text : List ℕ} {place next at c : ℕ} (r : Rules) (run : Passes is_digit text place next)
    → Stops is_digit (ahead text next) → StandsAt text place at c → is_digit c ≡ true
    → IsNumber run.characters × StandsToken r text place next (number (number_of run.characters))
number_stands r run stops stands e = grind (arith, common_steps, digits_are_lexeme)

pub word_stands : {text : List ℕ} {place next at c : ℕ} {unit : Option TimeUnit} (r : Rules)
    → TakesWord r text place next unit → Stops (is_unit_letter r.options) (ahead text next) → StandsAt text place at c
    → is_unit_letter r.options c ≡ true → StandsToken r text place next (word unit)
word_stands r taken stops stands e =
    rw taken.named (run_stands r (is_unit_letter r.options) (λ cs. word (unit_of_word r cs))
    (λ c d p q. rw (letter-not_digit r.options c p, p, q)) (λ d ds all.
    let no_digit = letter-not_digit r.options d (and_parts (is_unit_letter r.options d) _ all).0 in
    (letters_are_lexeme r.options d ds all, rw (no_digit, all))) taken.run.between taken.run.all stops stands e).1

pub sign_stands : {text : List ℕ} {place next c : ℕ} (r : Rules) → StandsAt text place next c → is_blank c ≡ false
    → is_digit c ≡ false → is_unit_letter r.options c ≡ false
    → StandsToken r text place next (operator_or_other (operator_of c))
sign_stands {text} {next = next} {c = c} r stands b e f = record {
  characters = c ∷ [];
  between = record { cut = stands.head; bytes = rw add-zero stands.bytes };
  is_lexeme = (b, refl);
  ends = grind arith;
  is_terminal = rw (e, f) refl;
}

-- ---- the class of a character, given its sort

module _ (o : Options) where
  pub digit_sort : (c : ℕ) → is_digit c ≡ is_number (Some (sort_at o c))
  digit_sort c = search rules

  pub digit_of_sort : (c : ℕ) → Number ≡ sort_at o c → is_digit c ≡ true
  digit_of_sort c is = rw (← is) at (digit_sort c)

  pub letter_of_sort : (c : ℕ) → Word ≡ sort_at o c → is_unit_letter o c ≡ true
  letter_of_sort c is = grind arith

  pub sign_of_sort : (c : ℕ) (sort : TokenStart) → IsSign sort → sort ≡ sort_at o c
      → (is_digit c ≡ false) × (is_unit_letter o c ≡ false) × (sort ≡ sign_sort (operator_of c))
  sign_of_sort c sort sign is = elim (cases_Bool (is_digit c)) [
    | inl e ↦ absurd (rw (is, e) at sign)
    | inr e ↦ elim (cases_Bool (is_unit_letter o c)) [
      | inl f ↦ absurd (rw (is, e, f) at sign)
      | inr f ↦ (e, f, rw (e, f) at is)
    ]
  ]

-- ---- the token that starts with a character

pub first_token : (r : Rules) (at c : ℕ) (text : List ℕ) → is_blank c ≡ false
    → (cs : List ℕ) × (rest : List Token)
    × (tokens_from r.options at (c ∷ text) ≡ record { start = at; characters = cs } ∷ rest) ×
    (sort_at r.options c ≡ sort_of (terminal_of r cs))
first_token r at c text e = elim (cases_Bool (goes_on r.options c text)) [
  | inl more ↦ rw (e, more) (joined _ (rw (e, more) at (tokens_are r.options at (c ∷ text))))
  | inr alone ↦ rw (e, alone) (c ∷ [], _, refl, lexeme_sort r c [] (e, refl))
]
  where
    joined : (ps : List Token) → AreTokens r.options at (c ∷ text) (with_first_character at c ps)
        → (cs : List ℕ) × (rest : List Token)
        × (with_first_character at c ps ≡ record { start = at; characters = cs } ∷ rest)
        × (sort_at r.options c ≡ sort_of (terminal_of r cs))
    joined [] a = (c ∷ [], [], refl, lexeme_sort r c [] a.1.is_lexeme)
    joined (p ∷ ps) a = (c ∷ p.characters, ps, refl, lexeme_sort r c p.characters a.1.is_lexeme)
