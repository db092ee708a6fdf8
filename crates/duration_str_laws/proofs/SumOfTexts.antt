use Rattle.duration_str_laws.proofs.Common.{[], AllPlus, and_from, append_assoc, arith, cases_Bool, codes, CondUnit, false, HasNoStar, inl, inr, IsBlank, IsRead, IsSentence, List, list_all-append, map, map-append, nat_tests, not, number, operator, Plus, refl, Rules, rules, Some, Spells, sum_of, SumOfTexts, Term, Terminal, terminal_of, terms_after, terms_of, word, written_terms, ℕ, ◌++◌, ◌+◌, ◌==◌, ◌∙◌, ◌∷◌, ◌≡◌, common_steps}
use Rattle.duration_str_reading.proofs.Cutting.SortLemmas.{terminal_cases}
use Rattle.duration_str_reading.proofs.Sentences.SpellingLemmas.{begins_with, EachPasses, lexemes_pass}
use Rattle.duration_str_reading.proofs.Sentences.SumLemmas.{evaluate_fits, sum-append}
use Rattle.duration_str_reading.proofs.Sentences.AnswerLemmas.{EachFits, fitting_sum_read, IsSumOf, read_sum, sum_overflows}

spells_after_blanks : (lexemes : List (List ℕ)) (s t : List ℕ) → IsBlank s → Spells lexemes t
    → Spells lexemes (s ++ t)
spells_after_blanks [] s t h k = list_all-append _ s t ∙ and_from _ _ h k
spells_after_blanks (w ∷ lexemes) s t h k =
    begins_with (s ++ k.blanks) k.rest (list_all-append _ s k.blanks ∙ and_from _ _ h k.blank)
    (rw k.parts (simp append_assoc)) k.is_rest

pub spells_both : (xs ys : List (List ℕ)) (s t : List ℕ) → Spells xs s → Spells ys t → Spells (xs ++ ys) (s ++ t)
spells_both [] ys s t h k = spells_after_blanks ys s t h k
spells_both (x ∷ xs) ys s t h k =
    begins_with h.blanks (h.rest ++ t) h.blank (rw h.parts (simp append_assoc)) (spells_both xs ys h.rest t h.is_rest k)

plus_terminal : (r : Rules) → terminal_of r (codes "+") ≡ operator Plus
plus_terminal r = elim (cases_Bool r.options.cn_unit) [ inl e ↦ rw e | inr e ↦ rw e ]

module _ (r : Rules) where
  both_sentence : (xs ys : List Terminal) → r.options.no_calc ≡ false → IsSentence r xs → IsSentence r ys
      → IsSentence r (xs ++ operator Plus ∷ ys)
  both_sentence (number n ∷ []) ys calc s t = (s, calc, t)
  both_sentence (number n ∷ operator next ∷ more) ys calc s t = (s.0, calc, both_sentence more ys calc s.2 t)
  both_sentence (number n ∷ word (Some u) ∷ []) ys calc s t = (calc, t)
  both_sentence (number n ∷ word (Some u) ∷ operator next ∷ more) ys calc s t = (calc, both_sentence more ys calc s.1 t)
  both_sentence (number n ∷ word (Some u) ∷ number m ∷ more) ys calc s t = both_sentence (number m ∷ more) ys calc s t
  both_sentence _ ys calc s t = absurd s

  both_terms : (op : CondUnit) (xs ys : List Terminal) → IsSentence r xs
      → terms_after r op (xs ++ operator Plus ∷ ys) ≡ terms_after r op xs ++ terms_of r ys
  both_terms op (number n ∷ []) ys s = refl
  both_terms op (number n ∷ operator next ∷ more) ys s = rw (both_terms next more ys s.2)
  both_terms op (number n ∷ word (Some u) ∷ []) ys s = refl
  both_terms op (number n ∷ word (Some u) ∷ operator next ∷ more) ys s = rw (both_terms next more ys s.1)
  both_terms op (number n ∷ word (Some u) ∷ number m ∷ more) ys s = rw (both_terms Plus (number m ∷ more) ys s)
  both_terms op _ ys s = absurd s

module _ (r : Rules) where
  lexemes_plus : (lexemes : List (List ℕ)) → EachPasses (λ c. not (c == 42)) lexemes
      → AllPlus (map (terminal_of r) lexemes)
  lexemes_plus [] h = tt
  lexemes_plus (w ∷ lexemes) h =
      let more = lexemes_plus lexemes h.1 in
      terminal_cases r (λ w t. HasNoStar w → AllPlus (t ∷ map (terminal_of r) lexemes))
      (λ plain. more) (λ c cs digits plain. more) (λ c cs letters plain. more)
      (λ c op _ _ sign plain. (grind (arith, nat_tests), more))
      (λ c cs _ _ plain. more) w h.0

  read_is_sum : {text : List ℕ} {nanos : ℕ} → HasNoStar text → (read : IsRead r text nanos)
      → IsSumOf r read.lexemes text
  read_is_sum {text} plain read = search (rules, lexemes_plus, lexemes_pass)

both_plus : (xs ys : List Terminal) → AllPlus xs → AllPlus ys → AllPlus (xs ++ operator Plus ∷ ys)
both_plus [] ys h k = (refl, k)
both_plus (operator op ∷ xs) ys h k = (h.0, both_plus xs ys h.1 k)
both_plus (x ∷ xs) ys h k = both_plus xs ys h k

both_fit : (xs ys : List Term) → EachFits xs → EachFits ys → EachFits (xs ++ ys)
both_fit [] ys h k = k
both_fit (x ∷ xs) ys h k = (h.0, h.1, both_fit xs ys h.2 k)

abbrev joined_lexemes : List (List ℕ) → List (List ℕ) → List (List ℕ)
joined_lexemes lexemes others = (lexemes ++ codes "+" ∷ []) ++ others

joined_terminals : (r : Rules) (lexemes others : List (List ℕ))
    → map (terminal_of r) (joined_lexemes lexemes others)
    ≡ map (terminal_of r) lexemes ++ operator Plus ∷ map (terminal_of r) others
joined_terminals r lexemes others = rw (append_assoc lexemes, map-append (terminal_of r) lexemes, plus_terminal r)

joined_is_sum : {r : Rules} {a b : List ℕ} {lexemes others : List (List ℕ)} → r.options.no_calc ≡ false
    → IsSumOf r lexemes a → IsSumOf r others b → IsSumOf r (joined_lexemes lexemes others) (a ++ codes "+" ++ b)
joined_is_sum calc s t =
    grind (arith, common_steps, joined_terminals, both_sentence, spells_both, begins_with, both_plus)

joined_terms : (r : Rules) (lexemes others : List (List ℕ)) → IsSentence r (map (terminal_of r) lexemes)
    → written_terms r (joined_lexemes lexemes others) ≡ written_terms r lexemes ++ written_terms r others
joined_terms r lexemes others s = search (rules, both_terms r, joined_terminals r)

record IsJoined (r : Rules) (text : List ℕ) (nanos : ℕ) : Type 0 where
  lexemes : List (List ℕ)
  sum : IsSumOf r lexemes text
  total : sum_of (written_terms r lexemes) ≡ nanos
  each : EachFits (written_terms r lexemes)

reads_joined : {r : Rules} {a b : List ℕ} {m n : ℕ} → r.options.no_calc ≡ false → HasNoStar a → HasNoStar b
    → IsRead r a m → IsRead r b n → IsJoined r (a ++ codes "+" ++ b) (m + n)
reads_joined {r} {a} {b} calc plain_a plain_b h k =
    let (s, t) : IsSumOf r h.lexemes a × IsSumOf r k.lexemes b = (read_is_sum r plain_a h, read_is_sum r plain_b k) in
    let (xs, ys) : List Term × List Term = (written_terms r h.lexemes, written_terms r k.lexemes) in
    let terms = joined_terms r h.lexemes k.lexemes h.spells.0 in
    record {
      lexemes = joined_lexemes h.lexemes k.lexemes;
      sum = joined_is_sum calc s t;
      total = rw (terms, sum-append xs ys, read_sum s h, read_sum t k);
      each = rw terms (both_fit xs ys (evaluate_fits xs h.evaluates) (evaluate_fits ys k.evaluates));
    }

pub sum_of_texts_holds : SumOfTexts
sum_of_texts_holds = record {
  below = λ r a b m n calc plain_a plain_b h k small.
      let j = reads_joined calc plain_a plain_b h k in fitting_sum_read j.sum j.each j.total small;
  above = λ r a b m n calc plain_a plain_b h k large.
      let j = reads_joined calc plain_a plain_b h k in sum_overflows j.sum j.each (rw j.total large);
}
