-- A sentence spells a text exactly if its lexemes are those of the text's tokens.
use Rattle.duration_str_reading.proofs.Common.{[], allows, and_parts, are_of_one_run, AreTokens, BeginsWith, Bool, byte_len, EndsRun, Expected, expected_after, false, false_from_ne_true, goes_on, is_blank, IsBlank, IsLexeme, IsSentenceOf, IsTrue, lexemes_of, List, list_all, list_all-append, map, None, Option, Options, refl, Rules, rules, Some, sort_of, Spells, sym, Terminal, terminal_of, terminals_of, Token, tokens_of, true, ℕ, ⊤, ◌++◌, ◌+◌, ◌∙◌, ◌∷◌, ◌≡◌, or_cases, arith, nat_tests}
use Rattle.duration_str_reading.proofs.Cutting.RunLemmas.{run-not_blank}
use Rattle.duration_str_base.proofs.CharacterLemmas.{letter-not_digit}
use Rattle.duration_str_reading.proofs.Cutting.TokenLemmas.{tokens_are, tokens_once}
use Rattle.duration_str_reading.proofs.Cutting.SortLemmas.{digits_are_lexeme, letters_are_lexeme, lexeme_sort, terminal_cases}
use Rattle.duration_str_reading.proofs.Sentences.FrontLemmas.{AreAllowed, sentence_allowed}

pub begins_with : {lexeme text : List ℕ} {IsRest : List ℕ → Type 0} (blanks rest : List ℕ) → IsBlank blanks
    → text ≡ blanks ++ (lexeme ++ rest) → IsRest rest → BeginsWith lexeme IsRest text
begins_with blanks rest blank parts is_rest = search (rules)

allowed_is_lexeme : (r : Rules) (expected : Expected) (w : List ℕ)
    → IsTrue (allows expected (terminal_of r w))
    → IsLexeme r.options w
allowed_is_lexeme r expected = terminal_cases r (λ w t. IsTrue (allows expected t) → IsLexeme r.options w)
    (λ h. cc) (λ c cs digits h. digits_are_lexeme r.options c cs digits) (λ c cs letters h. letters_are_lexeme r.options c cs letters)
    (λ c op _ _ sign h. (grind (arith, nat_tests), refl)) (λ c cs _ _ h. cc)

sorts_apart : (r : Rules) (s t : Terminal)
    → IsTrue (allows (expected_after r (Some s)) t)
    → sort_of s ≡ sort_of t → ⊥
sorts_apart r s t a e = search rules

module _ (o : Options) where
  stops_at_blank : (c d : ℕ) → is_blank d ≡ true → are_of_one_run o c d ≡ false
  stops_at_blank c d e = false_from_ne_true _ (λ run. cc (run-not_blank o c d run))

  pub tokens_spell_at : (at : ℕ) (text : List ℕ) (tokens : List Token) → AreTokens o at text tokens
      → Spells (lexemes_of tokens) text
  tokens_spell_at at text [] h = h
  tokens_spell_at at text (p ∷ tokens) h =
      search (rules, begins_with, tokens_spell_at (p.start + byte_len p.characters) h.0 tokens h.2)

  pub tokens_spell : (text : List ℕ) → Spells (lexemes_of (tokens_of o text)) text
  tokens_spell text = tokens_spell_at 0 text (tokens_of o text) (tokens_are o 0 text)

module _ (r : Rules) where
  stops_before : (c : ℕ) (cs blanks w rest : List ℕ) → IsBlank blanks → IsLexeme r.options (c ∷ cs) → IsLexeme r.options w
      → IsTrue (allows (expected_after r (Some (terminal_of r (c ∷ cs)))) (terminal_of r w))
      → goes_on r.options c (blanks ++ (w ++ rest)) ≡ false
  stops_before c cs (b ∷ blanks) w rest h p q a = stops_at_blank r.options c b (and_parts _ _ h).0
  stops_before c cs [] [] rest h p q a = absurd q
  stops_before c cs [] (d ∷ ds) rest h p q a = false_from_ne_true _ (λ run.
      sorts_apart r _ _ a (sym (lexeme_sort r c cs p) ∙ grind (arith, or_cases, and_parts, letter-not_digit) ∙ lexeme_sort r d ds q))

  ends_in_sentence : (w rest : List ℕ) (ws : List (List ℕ)) → IsLexeme r.options w
      → AreAllowed r (Some (terminal_of r w)) (map (terminal_of r) ws) → Spells ws rest
      → EndsRun r.options w rest
  ends_in_sentence [] rest ws p a s = tt
  ends_in_sentence (c ∷ cs) [] [] p a s = refl
  ends_in_sentence (c ∷ cs) (d ∷ rest) [] p a s = stops_at_blank r.options c d (and_parts _ _ s).0
  ends_in_sentence (c ∷ cs) rest (v ∷ ws) p a s = search (rules, stops_before, allowed_is_lexeme r)

  spelled_tokens : (at : ℕ) (last : Option Terminal) (lexemes : List (List ℕ)) (text : List ℕ)
      → AreAllowed r last (map (terminal_of r) lexemes) → Spells lexemes text
      → (tokens : List Token) × AreTokens r.options at text tokens × (lexemes_of tokens ≡ lexemes)
  spelled_tokens at last [] text a s = ([], s, refl)
  spelled_tokens at last (w ∷ ws) text a s =
      let start = at + byte_len s.blanks in
      let p = allowed_is_lexeme r (expected_after r last) w a.0 in
      let ends = ends_in_sentence w s.rest ws p a.1 s.is_rest in
      let more = spelled_tokens (start + byte_len w) (Some (terminal_of r w)) ws s.rest a.1 s.is_rest in (
        record { start = start; characters = w } ∷ more.0,
        (
          s.rest,
          record { blanks = s.blanks; blank = s.blank; parts = s.parts; start = refl; is_lexeme = p; ends = ends },
          more.1,
        ),
        rw more.2,
      )

  pub sentence_tokens : (text : List ℕ) (lexemes : List (List ℕ)) → IsSentenceOf r lexemes text
      → lexemes ≡ lexemes_of (tokens_of r.options text)
  sentence_tokens text lexemes s =
      let found =
      spelled_tokens 0 None lexemes text (sentence_allowed r (map (terminal_of r) lexemes) s.0) s.1 in
      rw (← tokens_once r.options 0 text found.0 (tokens_of r.options text) found.1 (tokens_are r.options 0 text), found.2)

  pub sentence_terminals : (text : List ℕ) (lexemes : List (List ℕ)) → IsSentenceOf r lexemes text
      → map (terminal_of r) lexemes ≡ terminals_of r text
  sentence_terminals text lexemes s = rw (sentence_tokens text lexemes s)

  pub empty_no_sentence : (lexemes : List (List ℕ)) → IsSentenceOf r lexemes [] → ⊥
  empty_no_sentence lexemes s = rw (sentence_terminals [] lexemes s) at s.0

abbrev pub EachPasses : (ℕ → Bool) → List (List ℕ) → Type 0
EachPasses test [] = ⊤
EachPasses test (w ∷ lexemes) = IsTrue (list_all test w) × EachPasses test lexemes

pub lexemes_pass : (test : ℕ → Bool) (lexemes : List (List ℕ)) (text : List ℕ) → IsTrue (list_all test text)
    → Spells lexemes text → EachPasses test lexemes
lexemes_pass test [] text h s = tt
lexemes_pass test (w ∷ lexemes) text h s = search (rules, list_all-append, and_parts, lexemes_pass test lexemes)
