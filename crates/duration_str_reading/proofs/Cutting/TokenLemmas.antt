-- `tokens_from` gives the tokens of a text, and a text has no others.
use Rattle.duration_str_reading.proofs.Common.{[], add-zero, add_assoc, and_from, and_parts, ap, append-nil, are_of_one_run, AreTokens, arith, Bool, byte_len, EndsRun, false, goes_on, if◌then◌else◌, is_blank, IsBlank, IsLexeme, List, list_all, Options, refl, sym, Token, tokens_from, true, width, with_first_character, ℕ, ◌++◌, ◌+◌, ◌∙◌, ◌∷◌, ◌≡◌, rules}
use Rattle.duration_str_reading.proofs.Cutting.RunLemmas.{run-not_blank, same_run}

pub blanks_no_token : (o : Options) (at : ℕ) (blanks rest : List ℕ) → IsBlank blanks
    → tokens_from o at (blanks ++ rest) ≡ tokens_from o (at + byte_len blanks) rest
blanks_no_token o at [] rest h = rw add-zero
blanks_no_token o at (b ∷ blanks) rest h =
    grind (arith, and_parts, add_assoc, blanks_no_token o (at + width b) blanks rest)

module _ (o : Options) where
  pub same_all : (c d : ℕ) (cs : List ℕ) → are_of_one_run o c d ≡ true
      → list_all (are_of_one_run o d) cs ≡ list_all (are_of_one_run o c) cs
  same_all c d [] h = refl
  same_all c d (e ∷ cs) h = rw (same_run o c d e h, same_all c d cs h)

  pub same_end : (c d : ℕ) (rest : List ℕ) → are_of_one_run o c d ≡ true → goes_on o d rest ≡ goes_on o c rest
  same_end c d [] h = refl
  same_end c d (e ∷ rest) h = same_run o c d e h

  run_token : (at c : ℕ) (cs rest : List ℕ) → IsLexeme o (c ∷ cs) → EndsRun o (c ∷ cs) rest
      → tokens_from o at (c ∷ (cs ++ rest))
      ≡ record { start = at; characters = c ∷ cs } ∷ tokens_from o (at + byte_len (c ∷ cs)) rest
  run_token at c [] rest p e = rw (p.0, e, add-zero)
  run_token at c (d ∷ cs) rest p e =
      let (run, more) = and_parts (are_of_one_run o c d) (list_all (are_of_one_run o c) cs) p.1 in
      let later = run_token (at + width c) d cs rest (run-not_blank o c d run, same_all c d cs run ∙ more)
      (same_end c d rest run ∙ e) in
      rw (p.0, run, later, add_assoc)

  pub tokens_step : (at : ℕ) (blanks cs rest : List ℕ) → IsBlank blanks → IsLexeme o cs → EndsRun o cs rest
      → tokens_from o at (blanks ++ (cs ++ rest))
      ≡ record { start = at + byte_len blanks; characters = cs }
      ∷ tokens_from o (at + byte_len blanks + byte_len cs) rest
  tokens_step at blanks cs rest b p e = grind (arith, blanks_no_token, run_token)

  tokens_computed : (at : ℕ) (text : List ℕ) (ps : List Token) → AreTokens o at text ps → tokens_from o at text ≡ ps
  tokens_computed at text [] h = ap (tokens_from o at) (sym (append-nil text)) ∙ blanks_no_token o at text [] h
  tokens_computed at text (p ∷ ps) h = search (rules, tokens_step, tokens_computed (p.start + byte_len p.characters) h.0 ps h.2)

  pub tokens_once : (at : ℕ) (text : List ℕ) (ps qs : List Token) → AreTokens o at text ps → AreTokens o at text qs
      → ps ≡ qs
  tokens_once at text ps qs h k = sym (tokens_computed at text ps h) ∙ tokens_computed at text qs k

  joined_in_front : (at c d : ℕ) (text blanks cs rest : List ℕ) (start : ℕ) (ps : List Token) → is_blank c ≡ false
      → are_of_one_run o c d ≡ true → IsBlank blanks → d ∷ text ≡ blanks ++ (cs ++ rest)
      → start ≡ (at + width c) + byte_len blanks → IsLexeme o cs → EndsRun o cs rest
      → AreTokens o (start + byte_len cs) rest ps
      → AreTokens o at (c ∷ d ∷ text) (record { start = at; characters = c ∷ cs } ∷ ps)
  joined_in_front at c d text (b ∷ blanks) cs rest start ps e g hb parts st hp en more =
      grind (arith, and_parts, run-not_blank)
  joined_in_front at c d text [] [] rest start ps e g hb parts st hp en more = absurd hp
  joined_in_front at c d text [] (x ∷ cs) rest start ps e g hb parts st hp en more =
      let heads : d ≡ x = cc in
      let in_run = rw heads at g in
      let moved : start + byte_len (x ∷ cs) ≡ at + (width c + byte_len (x ∷ cs)) = omega arith in (
        rest,
        record {
          blanks = [];
          blank = refl;
          parts = rw parts;
          start = rw add-zero;
          is_lexeme = (e, and_from _ _ in_run (sym (same_all c x cs in_run) ∙ hp.1));
          ends = sym (same_end c x rest in_run) ∙ en;
        },
        rw moved at more,
      )

  in_front : (at c : ℕ) (text : List ℕ) (ps : List Token) (blank goes : Bool) → is_blank c ≡ blank
      → goes_on o c text ≡ goes → AreTokens o (at + width c) text ps → AreTokens o at (c ∷ text)
      (if blank then ps else if goes then with_first_character at c ps
      else record { start = at; characters = c ∷ [] } ∷ ps)
  in_front at c text [] true goes e g h = and_from _ _ e h
  in_front at c text (p ∷ ps) true goes e g h = (
    h.0,
    record {
      blanks = c ∷ h.1.blanks;
      blank = and_from _ _ e h.1.blank;
      parts = rw h.1.parts;
      start = rw add_assoc at h.1.start;
      is_lexeme = h.1.is_lexeme;
      ends = h.1.ends;
    },
    h.2,
  )
  in_front at c text ps false false e g h = grind arith
  in_front at c [] ps false true e g h = cc g
  in_front at c (d ∷ text) [] false true e g h = cc ((and_parts (is_blank d) _ h).0, run-not_blank o c d g)
  in_front at c (d ∷ text) (p ∷ ps) false true e g h = search (arith, joined_in_front)

  pub tokens_are : (at : ℕ) (text : List ℕ) → AreTokens o at text (tokens_from o at text)
  tokens_are at [] = refl
  tokens_are at (c ∷ text) = grind (arith, in_front, tokens_are (at + width c) text)
