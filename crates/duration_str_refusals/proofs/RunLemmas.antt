-- Lemmas about the run that a text begins with.
use Rattle.duration_str_refusals.proofs.Common.{[], ap, and_parts, append-nil, append_assoc, AreTokens, arith, Bool, byte_len, Cause, chars, chars-encodes, chars_past_char, drop, drop-nil, Empty, encode_utf8, encodes, encodes-append, encodes-chars, eq-eqb, false, goes_on, IsTrue, IsUtf8, length, length-append, length-encode, len_utf8, List, list_all, Mixed, ne_eqb, NotText, NumberTooLarge, Options, OutOfRange, Overflow, refl, scalar, scalars, scalars-chars, Some, start_after, suc, sym, Syntax, take_while, take_while-cons, Token, token_at, tokens_of, true, width, zero, ℕ, ◌++◌, ◌+◌, ◌∙◌, ◌≡◌, ◌≤◌, ◌∷◌, ◌==◌}
use Rattle.std.proofs.Math.Seq.{drop-append_seam}
use Rattle.duration_str_base.proofs.CharacterLemmas.{byte_len-append, encoded_parts, width-scalar, width_some}
use Rattle.duration_str_reading.proofs.Cutting.TokenLemmas.{tokens_are}
use Rattle.duration_str_reading.proofs.OnePass.PlaceLemmas.{refused_stands}
use Rattle.duration_str_reading.specs.ReadingLaws.{EndsRun, IsLexeme}
use Rattle.duration_str_reading.specs.Tokens.{are_of_one_run}
use Rattle.duration_str_refusals.specs.Faults.{first_run, IsTokenLen, run_at, token_len}

module _ (bytes rest : List ℕ) (c : ℕ) (utf8 : IsUtf8 bytes) (begins : bytes ≡ encode_utf8 c ++ rest) where
  pub same_width : width c ≡ len_utf8 c
  same_width =
      let are = rw (chars_past_char bytes rest c utf8 begins) at (scalars-chars bytes utf8) in
      width-scalar c (and_parts (scalar c) (scalars (chars rest)) are).0

  pub length_past : length bytes ≡ len_utf8 c + length rest
  length_past = ap length begins ∙ rw (length-append (encode_utf8 c) rest, length-encode c) refl

  pub run_begins : (o : Options) → len_utf8 c + byte_len (take_while (are_of_one_run o c) (chars rest))
      ≡ byte_len (first_run o (chars bytes))
  run_begins o = rw (chars_past_char bytes rest c utf8 begins) (omega (arith, same_width))

  pub run_goes_on : (test : ℕ → Bool) → test c ≡ true
      → byte_len (take_while test (chars bytes)) ≡ len_utf8 c + byte_len (take_while test (chars rest))
  run_goes_on test passes =
      rw (chars_past_char bytes rest c utf8 begins, take_while-cons test c (chars rest), passes) (omega (arith, same_width))

  pub run_ends : (test : ℕ → Bool) → test c ≡ false → byte_len (take_while test (chars bytes)) ≡ 0
  run_ends test fails = rw (chars_past_char bytes rest c utf8 begins, take_while-cons test c (chars rest), fails) refl

-- ---- A token is the run at its place

run_all : (test : ℕ → Bool) (cs rest : List ℕ) → IsTrue (list_all test cs) → take_while test rest ≡ []
    → take_while test (cs ++ rest) ≡ cs
run_all test [] rest all ends = ends
run_all test (c ∷ cs) rest all ends =
    let both = and_parts (test c) (list_all test cs) all in
    rw (take_while-cons test c (cs ++ rest), both.0, run_all test cs rest both.1 ends) refl

module _ (o : Options) where
  none_more : (c : ℕ) (rest : List ℕ) → goes_on o c rest ≡ false → take_while (are_of_one_run o c) rest ≡ []
  none_more c [] ends = refl
  none_more c (d ∷ rest) ends = rw (take_while-cons (are_of_one_run o c) d rest, ends) refl

  run_of_token : (cs rest : List ℕ) → IsLexeme o cs → EndsRun o cs rest → first_run o (cs ++ rest) ≡ cs
  run_of_token [] rest is ends = absurd is
  run_of_token (c ∷ cs) rest is ends =
      ap (λ (run : List ℕ). c ∷ run) (run_all (are_of_one_run o c) cs rest is.1 (none_more c rest ends))

  some_bytes : (cs : List ℕ) → IsLexeme o cs → 1 ≤ byte_len cs
  some_bytes [] is = absurd is
  some_bytes (c ∷ cs) is = omega (arith, width_some c)

  starts_later : (n len at : ℕ) (cs : List ℕ) (tokens : List Token) → len ≡ at + byte_len cs → AreTokens o at cs tokens
      → at ≤ start_after n len tokens
  starts_later n len at cs [] end a = rw drop-nil (omega (arith, end))
  starts_later zero len at cs (p ∷ tokens) end (rest, next, more) = omega (arith, next.start)
  starts_later (suc n) len at cs (p ∷ tokens) end (rest, next, more) =
      let parts = ap byte_len next.parts ∙ byte_len-append next.blanks (p.characters ++ rest) in
      let both = byte_len-append p.characters rest in
      let after = p.start + byte_len p.characters in
      let later = starts_later n len after rest tokens (omega (arith, end, parts, both, next.start)) more in
      omega (arith, later, next.start)

  after_front : (bytes front rest : List ℕ) → IsUtf8 bytes → chars bytes ≡ front ++ rest
      → chars (drop (byte_len front) bytes) ≡ rest
  after_front bytes front rest utf8 parts =
      let both = encoded_parts front rest (rw parts at (scalars-chars bytes utf8)) in
      let whole : bytes ≡ encodes front ++ encodes rest =
      rw (parts, encodes-append front rest) at (sym (encodes-chars bytes utf8)) in
      rw (both.0, whole, drop-append_seam (encodes front) (encodes rest)) (chars-encodes rest both.1)

  run_at_start : (bytes front cs : List ℕ) (n at : ℕ) (tokens : List Token) → IsUtf8 bytes → chars bytes ≡ front ++ cs
      → at ≡ byte_len front → AreTokens o at cs tokens
      → byte_len (first_run o (chars (drop (start_after n (byte_len (chars bytes)) tokens) bytes)))
      ≡ token_len (token_at (start_after n (byte_len (chars bytes)) tokens) tokens)
  run_at_start bytes front cs n at [] utf8 parts starts a =
      let end = after_front bytes (chars bytes) [] utf8 (rw append-nil refl) in
      rw (drop-nil, end) refl
  run_at_start bytes front cs zero at (p ∷ tokens) utf8 parts starts (rest, next, more) =
      let start : p.start ≡ byte_len (front ++ next.blanks) = rw byte_len-append (omega (arith, next.start, starts)) in
      let here = after_front bytes (front ++ next.blanks) (p.characters ++ rest) utf8 (rw append_assoc (parts ∙ ap (λ (xs : List ℕ). front ++ xs) next.parts)) in
      let found : token_at p.start (p ∷ tokens) ≡ Some p = rw (eq-eqb p.start p.start refl) refl in
      rw found (rw (start, here, run_of_token p.characters rest next.is_lexeme next.ends) refl)
  run_at_start bytes front cs (suc n) at (p ∷ tokens) utf8 parts starts (rest, next, more) =
      let len = byte_len (chars bytes) in
      let after = p.start + byte_len p.characters in
      let place = start_after n len tokens in
      let whole : chars bytes ≡ (front ++ (next.blanks ++ p.characters)) ++ rest =
      parts ∙ ap (λ (xs : List ℕ). front ++ xs) next.parts ∙ simp append_assoc in
      let before : after ≡ byte_len (front ++ (next.blanks ++ p.characters)) =
      rw (byte_len-append, byte_len-append) (omega (arith, next.start, starts)) in
      let end : len ≡ after + byte_len rest = ap byte_len whole ∙ rw (byte_len-append, ← before) refl in
      let past = starts_later n len after rest tokens end more in
      let other : (p.start == place) ≡ false =
      ne_eqb p.start place (λ same. omega (arith, past, same, some_bytes p.characters next.is_lexeme)) in
      rw other (run_at_start bytes (front ++ (next.blanks ++ p.characters)) rest n after tokens utf8 whole before more)

pub run_is_token : (o : Options) (bytes : List ℕ) (cause : Cause) → IsUtf8 bytes
    → IsTokenLen o bytes cause (byte_len (run_at o bytes cause))
run_is_token o bytes (Syntax place expected) utf8 r refused =
    refused_stands (λ at. byte_len (first_run o (chars (drop at bytes))) ≡ token_len (token_at at (tokens_of o (chars bytes))))
    (record r { options = o }) (chars bytes) (Syntax place expected) refused
    (λ n. run_at_start o bytes [] (chars bytes) n 0 (tokens_of o (chars bytes)) utf8 refl refl (tokens_are o 0 (chars bytes)))
run_is_token o bytes Empty utf8 r refused = refl
run_is_token o bytes (NumberTooLarge place) utf8 r refused = refl
run_is_token o bytes (Overflow place) utf8 r refused = refl
run_is_token o bytes (Mixed first later) utf8 r refused = refl
run_is_token o bytes OutOfRange utf8 r refused = refl
run_is_token o bytes (NotText optional) utf8 r refused = refl
