-- A text is either read or refused, and the computed answer says which.
use Rattle.duration_str_reading.proofs.Common.{[], Plus, AllPlus, answer, AnswerIsReading, ap, append-nil, arith, Bool, byte_len, cases_Bool, Cause, combination, CondUnit, early, early_fault, Err, Evaluates, expected_after, false, fault_of_terms, fault_or, if◌then◌else◌, inl, inr, is_same_operator, is_whole, IsFront, IsRead, IsRefused, IsRefusedAt, IsSentence, IsSentenceOf, last_of, late, late_answer, late_fault, later_total, le-ltb, length, List, list_all, map, None, number, Ok, OneReading, operator, Option, Options, other, Overflow, refl, Result, Rules, rules, rules_with, Some, start_after, sum_of, sym, Syntax, syntax_fault, Term, Terminal, terminal_of, terminals_of, terms_of, TimeUnit, tokens_of, true, value_of, value_of_term, word, written_terms, ℕ, ◌++◌, ◌<◌, ◌^◌, ◌↔◌, ◌∙◌, ◌∷◌, ◌≡◌, ◌≤◌, ◌⊎◌, lt-ltb}
use Rattle.duration_str_reading.proofs.Sentences.FrontLemmas.{AreAllowed, complete_sentence, ends_by_table, expected_by_table, front_allowed, no_operators, one_expected, one_front, sentence_allowed, table_front}
use Rattle.duration_str_reading.proofs.Sentences.SpellingLemmas.{empty_no_sentence, sentence_terminals, tokens_spell}
use Rattle.duration_str_reading.proofs.Sentences.SumLemmas.{added_overflow, AreAdded, below_evaluate, evaluate_below, has_terms, no_fault, or_else-none, evaluate_fits, running_below, running_fits, running_overflow, terms_long, terms_added, value_is_sum}
pub use Rattle.duration_str_reading.proofs.Sentences.SumLemmas.{EachFits, sum_fits_each}

-- ---- The faults of a sentence

pub allowed_plus : (r : Rules) (last : Option Terminal) (terminals : List Terminal) → r.options.no_calc ≡ true
    → AreAllowed r last terminals → AllPlus terminals
allowed_plus r last [] calc h = tt
allowed_plus r last (number n ∷ terminals) calc h = allowed_plus r (Some (number n)) terminals calc h.1
allowed_plus r last (word u ∷ terminals) calc h = allowed_plus r (Some (word u)) terminals calc h.1
allowed_plus r last (operator op ∷ terminals) calc h = let none = no_operators r last calc in cc h.0
allowed_plus r last (other ∷ terminals) calc h = cc h.0

evaluates_by : (r : Rules) (terminals : List Terminal) → IsSentence r terminals
    → (Evaluates (terms_of r terminals) ↔ (early_fault r terminals [] ≡ None) × (late_fault r terminals ≡ None))
evaluates_by r terminals s = elim (cases_Bool r.options.no_calc) [
  | inl calc ↦
      let terms = terms_of r terminals in
      let added = terms_added r terminals (allowed_plus r None terminals calc (sentence_allowed r terminals s)) in
      rw (complete_sentence r terminals s, calc) (
        λ e. (rw ((running_overflow [] terms added (evaluate_fits terms e)).0, lt-ltb _ _ (evaluate_below terms added e)), refl),
        λ f. below_evaluate terms (has_terms r terminals s) added (running_fits [] terms f.0)
            (running_below [] terms (omega arith) f.0),
      )
  | inr plain ↦
      rw (complete_sentence r terminals s, plain) (search rules)
]

-- ---- The value of terms that evaluate

same_later : (op : CondUnit) (before later : List Term) → fault_of_terms op before later ≡ None
    → list_all (λ v. is_same_operator op v.operator) later ≡ true
same_later op before [] h = refl
same_later op before (t ∷ later) h = search (rules, same_later op (before ++ t ∷ []) later)

pub later_value : (t u : Term) (later : List Term) → fault_of_terms u.operator [] (u ∷ later) ≡ None
    → value_of (t ∷ u ∷ later) ≡ Some (combination u.operator (value_of_term t) (later_total u.operator (u ∷ later)))
later_value t u later h = search (rules, same_later)

has_value_below : (terms : List Term) → Evaluates terms → (n : ℕ) × (value_of terms ≡ Some n) × (n < 2 ^ 64)
has_value_below [] e = absurd e
has_value_below (t ∷ []) e = (value_of_term t, refl, (simp no_fault at e.0).1)
has_value_below (t ∷ u ∷ later) e =
    let faults = (or_else-none (fault_of_terms u.operator [] (u ∷ later)) _).0 e.1 in
    (_, later_value t u later faults.0, simp no_fault at faults.1)

-- ---- Readings and refusals in terms of terminals

sentence_front : (r : Rules) (terminals : List Terminal) → IsSentence r terminals → IsFront r terminals terminals []
sentence_front r terminals s = search rules

pub record EvaluatesTo (r : Rules) (terminals : List Terminal) (nanos : ℕ) : Type 0 where
  pub sentence : IsSentence r terminals
  pub evaluates : Evaluates (terms_of r terminals)
  pub value : value_of (terms_of r terminals) ≡ Some nanos

pub read_terminals : {r : Rules} {text : List ℕ} {nanos : ℕ} → IsRead r text nanos
    → EvaluatesTo r (terminals_of r text) nanos
read_terminals {r} {text} read = search (rules, sentence_terminals)

pub read_sentence : {r : Rules} {text : List ℕ} {nanos : ℕ} (lexemes : List (List ℕ)) → IsSentenceOf r lexemes text
    → IsRead r text nanos → EvaluatesTo r (map (terminal_of r) lexemes) nanos
read_sentence {r} {text} lexemes s read = rw (sentence_terminals r text lexemes s) (read_terminals read)

pub terminals_read : (r : Rules) (text : List ℕ) (nanos : ℕ) → EvaluatesTo r (terminals_of r text) nanos
    → IsRead r text nanos
terminals_read r text nanos e = search (rules, tokens_spell)

pub read_below : {r : Rules} {text : List ℕ} {nanos : ℕ} → IsRead r text nanos → nanos < 2 ^ 64
read_below {r} {nanos = nanos} read = search (rules, has_value_below)

one_value : {r : Rules} {text : List ℕ} {m n : ℕ} → IsRead r text m → IsRead r text n → m ≡ n
one_value h k = cc ((read_terminals h).value, (read_terminals k).value)

one_cause_at : {r : Rules} {place : ℕ} {front rest : List Terminal} {c d : Cause}
    → IsRefusedAt r place front rest c → IsRefusedAt r place front rest d → c ≡ d
one_cause_at (early h) (early k) = cc
one_cause_at (early h) (syntax_fault x e n f s) = cc
one_cause_at (early h) (late e n f) = cc
one_cause_at (syntax_fault x e n f s) (early k) = cc
one_cause_at (syntax_fault x e n f s) (syntax_fault y e' n' f' s') = cc (one_expected f f')
one_cause_at (syntax_fault x e n f s) (late e' n' f') = absurd (n n')
one_cause_at (late e n f) (early k) = cc
one_cause_at (late e n f) (syntax_fault x e' n' f' s') = absurd (n' n)
one_cause_at (late e n f) (late e' n' f') = cc

evaluates_not_refused : {r : Rules} {place : ℕ} (terminals : List Terminal) (cause : Cause) → IsSentence r terminals
    → Evaluates (terms_of r terminals) → IsRefusedAt r place terminals [] cause → ⊥
evaluates_not_refused {r} terminals cause s e h = search (rules, evaluates_by r, append-nil)

pub refused_sentence : (r : Rules) (text : List ℕ) (lexemes : List (List ℕ)) (cause : Cause) (place : ℕ)
    → IsSentenceOf r lexemes text → IsRefused r text cause
    → IsRefusedAt r place (map (terminal_of r) lexemes) [] cause
refused_sentence r [] lexemes cause place s h = absurd (empty_no_sentence r lexemes s)
refused_sentence r (c ∷ text) lexemes cause place s h =
    let front = rw (← sentence_terminals r (c ∷ text) lexemes s) at h.2 in
    let same = one_front front (sentence_front r (map (terminal_of r) lexemes) s.0) in
    search (rules, append-nil)

pub sentence_refused : (r : Rules) (text : List ℕ) (lexemes : List (List ℕ)) (cause : Cause)
    → IsSentenceOf r lexemes text
    → ((place : ℕ) → IsRefusedAt r place (map (terminal_of r) lexemes) [] cause) → IsRefused r text cause
sentence_refused r [] lexemes cause s h = absurd (empty_no_sentence r lexemes s)
sentence_refused r (c ∷ text) lexemes cause s h =
    let terminals = terminals_of r (c ∷ text) in
    let same : map (terminal_of r) lexemes ≡ terminals = sentence_terminals r (c ∷ text) lexemes s in
    (terminals, [], sentence_front r terminals (rw same at s.0), rw (← same) (h _))

module _ (r : Rules) where
  not_both : (text : List ℕ) (nanos : ℕ) (cause : Cause) → IsRead r text nanos → IsRefused r text cause → ⊥
  not_both text nanos cause read h =
      evaluates_not_refused (map (terminal_of r) read.lexemes) cause read.spells.0 read.evaluates
      (refused_sentence r text read.lexemes cause 0 read.spells h)

  one_cause : (text : List ℕ) (c d : Cause) → IsRefused r text c → IsRefused r text d → c ≡ d
  one_cause [] c d h k = h ∙ sym k
  one_cause (x ∷ text) c d h k =
      let same = one_front k.2 h.2 in
      one_cause_at h.3 (rw (same.0, same.1) at k.3)

-- ---- The computed answer

abbrev Means : Rules → List ℕ → Result ℕ Cause → Type 0
Means r text (Ok nanos) = IsRead r text nanos
Means r text (Err cause) = IsRefused r text cause

abbrev MeansAt : Rules → ℕ → List Terminal → List Terminal → Result ℕ Cause → Type 0
MeansAt r place front rest (Ok nanos) = (rest ≡ []) × EvaluatesTo r front nanos
MeansAt r place front rest (Err cause) = IsRefusedAt r place front rest cause

module _ (r : Rules) (place : ℕ) where
  late_means : (terminals : List Terminal) (cause : Option Cause) → IsSentence r terminals
      → early_fault r terminals [] ≡ None → late_fault r terminals ≡ cause
      → MeansAt r place terminals [] (late_answer r cause terminals)
  late_means terminals cause s e l = search (rules, append-nil, evaluates_by r, has_value_below)

  syntax_means : {terminals : List Terminal} (front rest : List Terminal) → IsFront r terminals front rest
      → early_fault r front rest ≡ None → (IsSentence r (front ++ rest) → ⊥)
      → IsRefusedAt r place front rest (Syntax place (expected_after r (last_of None front)))
  syntax_means front rest f e n = syntax_fault _ e n ((expected_by_table r front _ f.begins).1 refl) refl

  whole_means : {terminals : List Terminal} (front rest : List Terminal) → IsFront r terminals front rest
      → early_fault r front rest ≡ None → (whole : Bool) → is_whole r front rest ≡ whole
      → MeansAt r place front rest
      (if whole then late_answer r (late_fault r front) front
      else Err (Syntax place (expected_after r (last_of None front))))
  whole_means front [] f e true w = late_means front _ ((ends_by_table r front f.begins).0 w) e refl
  whole_means front [] f e false w =
      syntax_means front [] f e (λ s. cc ((ends_by_table r front f.begins).1 (rw append-nil at s)))
  whole_means front (t ∷ rest) f e true w = cc
  whole_means front (t ∷ rest) f e false w =
      syntax_means front (t ∷ rest) f e
      (λ s. cc (one_front (rw f.parts at f) (sentence_front r (front ++ t ∷ rest) s)).1)

  front_means : {terminals : List Terminal} (front rest : List Terminal) → IsFront r terminals front rest
      → (cause : Option Cause) → early_fault r front rest ≡ cause
      → MeansAt r place front rest
      (fault_or cause (if is_whole r front rest then late_answer r (late_fault r front) front
      else Err (Syntax place (expected_after r (last_of None front)))))
  front_means front rest f (Some cause) e = early e
  front_means front rest f None e = whole_means front rest f e _ refl

text_means : (r : Rules) (c : ℕ) (text : List ℕ) (front rest : List Terminal) (result : Result ℕ Cause)
    → IsFront r (terminals_of r (c ∷ text)) front rest
    → MeansAt r (start_after (length front) (byte_len (c ∷ text)) (tokens_of r.options (c ∷ text))) front rest result
    → Means r (c ∷ text) result
text_means r c text front rest (Err cause) f h = (front, rest, f, h)
text_means r c text front rest (Ok nanos) f h =
    terminals_read r (c ∷ text) nanos (rw (f.parts, h.0, append-nil) h.1)

answer_means : (r : Rules) (text : List ℕ) → Means r text (answer r text)
answer_means r [] = refl
answer_means r (c ∷ text) =
    let terminals : List Terminal = terminals_of r (c ∷ text) in
    let f = table_front r terminals in
    text_means r c text _ _ _ f (rw (front_allowed r None terminals).1 (front_means r _ _ _ f _ refl))

only_meaning : (r : Rules) (text : List ℕ) (x y : Result ℕ Cause) → Means r text x → Means r text y → x ≡ y
only_meaning r text x y h k = search (rules, one_value, not_both, one_cause)

pub one_reading_holds : OneReading
one_reading_holds = record {
  some = λ r text. elim (answer r text) as (λ x. Means r text x
      → ((nanos : ℕ) × IsRead r text nanos) ⊎ ((cause : Cause) × IsRefused r text cause)) [
        | Ok nanos ↦ λ h. inl (nanos, h)
        | Err cause ↦ λ h. inr (cause, h)
      ] (answer_means r text);
  one_value = λ r text m n. one_value;
  one_cause = one_cause;
  not_both = not_both;
}

pub answer_read : (r : Rules) (text : List ℕ) (nanos : ℕ) → (answer r text ≡ Ok nanos ↔ IsRead r text nanos)
answer_read r text nanos =
    let is = answer_means r text in
    (λ e. rw e at is, only_meaning r text _ (Ok nanos) is)

pub answer_refused : (r : Rules) (text : List ℕ) (cause : Cause) → (answer r text ≡ Err cause ↔ IsRefused r text cause)
answer_refused r text cause =
    let is = answer_means r text in
    (λ e. rw e at is, only_meaning r text _ (Err cause) is)

pub answer_is_reading_holds : AnswerIsReading
answer_is_reading_holds = record { read = answer_read; refused = answer_refused }

-- ---- Texts that a sum spells

pub record IsSumOf (r : Rules) (lexemes : List (List ℕ)) (text : List ℕ) : Type 0 where
  pub sentence : IsSentenceOf r lexemes text
  pub plus : AllPlus (map (terminal_of r) lexemes)

sum_terms : {r : Rules} {lexemes : List (List ℕ)} {text : List ℕ} → IsSumOf r lexemes text
    → (1 ≤ length (written_terms r lexemes)) × AreAdded (written_terms r lexemes)
sum_terms {r} {lexemes} s = search (rules, terms_added r, has_terms r)

-- ---- Sums below 2^64

pub fitting_sum_read : {r : Rules} {lexemes : List (List ℕ)} {text : List ℕ} {nanos : ℕ} → IsSumOf r lexemes text
    → EachFits (written_terms r lexemes) → sum_of (written_terms r lexemes) ≡ nanos → nanos < 2 ^ 64
    → IsRead r text nanos
fitting_sum_read {r} {lexemes} s f e h =
    let (some, added) = sum_terms s in
    let terms = written_terms r lexemes in record {
      lexemes = lexemes;
      spells = s.sentence;
      evaluates = below_evaluate terms some added f (rw e h);
      value = value_is_sum terms some added ∙ ap Some e;
    }

pub sum_read : {default_unit : Option TimeUnit} {o : Options} {lexemes : List (List ℕ)} {text : List ℕ} {nanos : ℕ}
    → IsSumOf (rules_with o default_unit) lexemes text
    → sum_of (written_terms (rules_with o default_unit) lexemes) ≡ nanos → nanos < 2 ^ 64
    → IsRead (rules_with o default_unit) text nanos
sum_read {default_unit} {o} {lexemes} s e h =
    let long = terms_long default_unit o Plus (map (terminal_of (rules_with o default_unit)) lexemes) in
    fitting_sum_read s (sum_fits_each (written_terms (rules_with o default_unit) lexemes) long (rw e h)) e h

pub read_sum : {r : Rules} {lexemes : List (List ℕ)} {text : List ℕ} {nanos : ℕ} → IsSumOf r lexemes text
    → IsRead r text nanos → sum_of (written_terms r lexemes) ≡ nanos
read_sum {r} {lexemes} s read =
    let (some, added) = sum_terms s in
    cc ((read_sentence lexemes s.sentence read).value, value_is_sum (written_terms r lexemes) some added)

-- ---- Sums from 2^64 on, of terms below 2^64

terminals_overflow : (r : Rules) (place : ℕ) (terminals : List Terminal) → IsSentence r terminals
    → AreAdded (terms_of r terminals) → EachFits (terms_of r terminals) → 2 ^ 64 ≤ sum_of (terms_of r terminals)
    → IsRefusedAt r place terminals [] (Overflow None)
terminals_overflow r place terminals s a f h =
    search (rules, added_overflow, append-nil, le-ltb, running_overflow, complete_sentence)

pub sum_overflows : {r : Rules} {lexemes : List (List ℕ)} {text : List ℕ} → IsSumOf r lexemes text
    → EachFits (written_terms r lexemes) → 2 ^ 64 ≤ sum_of (written_terms r lexemes) → IsRefused r text (Overflow None)
sum_overflows {r} {lexemes} {text} s f h = search (rules, sentence_refused r, terminals_overflow, terms_added r)
