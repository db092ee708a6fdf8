-- Lemmas about sentences and fronts, in terms of the table of what can follow a terminal.
use Rattle.duration_str_reading.proofs.Common.{[], allows, and_from, and_parts, ap, arith, BeginsSentence, CanFollow, cases_Bool, complete_terminals, drop, drop_at, Expected, expected_after, false, front_after, front_of, is_some, IsFront, IsSentence, IsTrue, last_of, le_antisymm, le_of_suc-le-suc, length, length-append, List, None, not, not-true, not_from_false, not_from_true, number, operator, Option, Plus, refl, Rules, same_from_decides, Second, Some, suc, sym, take, take-append-drop, take_at, Terminal, true, without_last_number, word, zero, zero-le, ℕ, ⊤, ◌++◌, ◌↔◌, ◌∷◌, ◌≡◌, ◌≤◌, rules}

abbrev pub AreAllowed : Rules → Option Terminal → List Terminal → Type 0
AreAllowed r last [] = ⊤
AreAllowed r last (t ∷ terminals) =
    IsTrue (allows (expected_after r last) t) × AreAllowed r (Some t) terminals

abbrev pub CanEnd : Rules → Option Terminal → List Terminal → Type 0
CanEnd r last terminals =
    IsTrue (expected_after r (last_of last terminals)).text_end

pub one_expected : {r : Rules} {front : List Terminal} {a b : Expected}
    → CanFollow r front a
    → CanFollow r front b → a ≡ b
one_expected {a = a} {b = b} h k =
    let number_same = same_from_decides a.number b.number h.number_expected k.number_expected in
    let unit_same = same_from_decides a.unit_word b.unit_word h.unit_expected k.unit_expected in
    let operator_same = same_from_decides a.operator b.operator h.operator_expected k.operator_expected in
    let end_same = same_from_decides a.text_end b.text_end h.end_expected k.end_expected in
    λ i. record { number = number_same i; unit_word = unit_same i; operator = operator_same i; text_end = end_same i }

no_number_last : (r : Rules) (last : Option Terminal) (front : List Terminal) → is_some r.default_unit ≡ false
    → CanEnd r last front → without_last_number front ≡ front
no_number_last r last [] none h = refl
no_number_last r last (number n ∷ []) none h = cc
no_number_last r last (number n ∷ t ∷ front) none h =
    ap (◌∷◌ (number n)) (no_number_last r (Some (number n)) (t ∷ front) none h)
no_number_last r last (t ∷ front) none h = ap (◌∷◌ t) (no_number_last r (Some t) front none h)

pub whole_complete : (r : Rules) (front : List Terminal) → CanEnd r None front → complete_terminals r front [] ≡ front
whole_complete r front h = search (rules, no_number_last)

module _ (r : Rules) where
  -- ---- The beginnings of sentences

  pub sentence_allowed : (terminals : List Terminal) → IsSentence r terminals
      → AreAllowed r None terminals
  sentence_allowed (number n ∷ []) h = (refl, tt)
  sentence_allowed (number n ∷ operator op ∷ number m ∷ more) h =
      grind (arith, and_from, not_from_false, sentence_allowed (number m ∷ more))
  sentence_allowed (number n ∷ word (Some u) ∷ []) h = (refl, (refl, tt))
  sentence_allowed (number n ∷ word (Some u) ∷ operator op ∷ number m ∷ more) h =
      grind (arith, not_from_false, sentence_allowed (number m ∷ more))
  sentence_allowed (number n ∷ word (Some u) ∷ number m ∷ more) h = (refl, (refl, sentence_allowed (number m ∷ more) h))
  sentence_allowed _ h = absurd assumption

  allowed-append : (last : Option Terminal) (front more : List Terminal)
      → (AreAllowed r last (front ++ more)
      ↔ AreAllowed r last front × AreAllowed r (last_of last front) more)
  allowed-append last [] more = (λ h. (tt, h), λ h. h.1)
  allowed-append last (t ∷ front) more = grind (arith, allowed-append (Some t) front more)

  pub begins_allowed : (front : List Terminal) → BeginsSentence r front
      → AreAllowed r None front
  begins_allowed front b = ((allowed-append None front b.0).0 (sentence_allowed (front ++ b.0) b.1)).0

  allowed_begins : (terminals : List Terminal) → AreAllowed r None terminals
      → BeginsSentence r terminals
      × (CanEnd r None terminals ↔ IsSentence r terminals)
  allowed_begins [] h = ((number 0 ∷ word (Some Second) ∷ [], tt), (λ k. cc k, λ s. absurd s))
  allowed_begins (number n ∷ []) h = ((word (Some Second) ∷ [], tt), (λ k. k, λ s. s))
  allowed_begins (number n ∷ operator op ∷ []) h =
      let (some, calc) = and_parts (is_some r.default_unit) (not r.options.no_calc) h.1.0 in
      ((number 0 ∷ word (Some Second) ∷ [], (some, not-true _ calc, tt)), (λ k. cc k, λ s. absurd s.2))
  allowed_begins (number n ∷ operator op ∷ number m ∷ more) h =
      grind (arith, and_parts, not-true, allowed_begins (number m ∷ more))
  allowed_begins (number n ∷ word (Some u) ∷ []) h = (([], tt), (λ _. tt, λ _. refl))
  allowed_begins (number n ∷ word (Some u) ∷ operator op ∷ []) h =
      ((number 0 ∷ word (Some Second) ∷ [], (not-true _ h.1.1.0, tt)), (λ k. cc k, λ s. absurd s.1))
  allowed_begins (number n ∷ word (Some u) ∷ operator op ∷ number m ∷ more) h =
      grind (arith, not-true, allowed_begins (number m ∷ more))
  allowed_begins (number n ∷ word (Some u) ∷ number m ∷ more) h = allowed_begins (number m ∷ more) h.1.1
  allowed_begins _ h = cc

  -- ---- The table says what can follow

  pub ends_by_table : (front : List Terminal) → BeginsSentence r front
      → (CanEnd r None front ↔ IsSentence r front)
  ends_by_table front b = (allowed_begins front (begins_allowed front b)).1

  pub complete_sentence : (terminals : List Terminal) → IsSentence r terminals
      → complete_terminals r terminals [] ≡ terminals
  complete_sentence terminals s =
      whole_complete r terminals ((allowed_begins terminals (sentence_allowed terminals s)).1.1 s)

  pub follows_by_table : (front : List Terminal) (t : Terminal) → BeginsSentence r front
      → (IsTrue (allows (expected_after r (last_of None front)) t) ↔ BeginsSentence r (front ++ t ∷ []))
  follows_by_table front t b =
      let both = allowed-append None front (t ∷ []) in
      (λ h. (allowed_begins _ (both.1 (begins_allowed front b, (h, tt)))).0, λ h. (both.0 (begins_allowed _ h)).1.0)

  table_can_follow : (front : List Terminal) → BeginsSentence r front
      → CanFollow r front (expected_after r (last_of None front))
  table_can_follow front b =
      let follows = λ (t : Terminal). follows_by_table front t b in
      record {
        number_expected = (λ h. (0, (follows (number 0)).0 h), λ h. (follows (number h.0)).1 h.1);
        unit_expected = (
          λ h. (Second, (follows (word (Some Second))).0 (and_from _ _ h refl)),
          λ h. (and_parts _ _ ((follows (word (Some h.0))).1 h.1)).0,
        );
        operator_expected = (λ h. (Plus, (follows (operator Plus)).0 h), λ h. (follows (operator h.0)).1 h.1);
        end_expected = ends_by_table front b;
      }

  pub expected_by_table : (front : List Terminal) (expected : Expected) → BeginsSentence r front
      → (CanFollow r front expected ↔ (expected ≡ expected_after r (last_of None front)))
  expected_by_table front expected b =
      (λ h. one_expected h (table_can_follow front b), λ e. rw e (table_can_follow front b))

  pub no_operators : (last : Option Terminal) → r.options.no_calc ≡ true
      → (expected_after r last).operator ≡ false
  no_operators last e = grind (arith, not_from_true)

  -- ---- The table finds the front

  pub front_allowed : (last : Option Terminal) (terminals : List Terminal)
      → let front = take (front_after r last terminals) terminals in
      AreAllowed r last front × (length front ≡ front_after r last terminals)
  front_allowed last [] = (tt, refl)
  front_allowed last (t ∷ terminals) = grind (arith, cases_Bool, front_allowed (Some t) terminals)

  longest_allowed : (last : Option Terminal) (terminals : List Terminal) (n : ℕ) → n ≤ length terminals
      → AreAllowed r last (take n terminals)
      → n ≤ length (take (front_after r last terminals) terminals)
  longest_allowed last terminals zero l h = zero-le
  longest_allowed last [] (suc n) l h = l
  longest_allowed last (t ∷ terminals) (suc n) l h =
      grind (arith, longest_allowed (Some t) terminals n (le_of_suc-le-suc l))

  pub table_front : (terminals : List Terminal) → IsFront r terminals
      (take (front_of r terminals) terminals) (drop (front_of r terminals) terminals)
  table_front terminals = record {
    parts = sym (take-append-drop (front_of r terminals) terminals);
    begins = (allowed_begins _ (front_allowed None terminals).0).0;
    longest = λ n l h. longest_allowed None terminals n l (begins_allowed _ h);
  }

-- ---- There is one front

front_length : {r : Rules} {terminals a x b y : List Terminal} → IsFront r terminals a x → IsFront r terminals b y
    → length a ≤ length b
front_length {terminals = terminals} {a = a} {x = x} h k =
    k.longest (length a) (omega (arith, ap length h.parts, length-append a x))
    (rw (h.parts, take_at a x (length a) refl) h.begins)

pub one_front : {r : Rules} {terminals a x b y : List Terminal} → IsFront r terminals a x → IsFront r terminals b y
    → (a ≡ b) × (x ≡ y)
one_front {a = a} {x = x} {b = b} {y = y} h k =
    let n : length a ≡ length b = le_antisymm (front_length h k) (front_length k h) in
    let whole : a ++ x ≡ b ++ y = cc (h.parts, k.parts) in
    (cc (take_at a x _ n, take_at b y _ refl, whole), cc (drop_at a x _ n, drop_at b y _ refl, whole))
