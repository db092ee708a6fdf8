-- The tokens of a refused text that has a mend: none has characters of two of the mend's parts.
use Rattle.duration_str_laws.proofs.Common.{[], ahead, and_from, and_parts, ap, append-nil, append_assoc, are_of_one_run, arith, chars, chars-append, chars-nil, codes, drop, Expected, false, false_from_ne_true, inl, inr, is_blank, is_digit, is_unit_letter, IsTrue, IsUtf8, IsUtf8-append, IsUtf8-nil, length, List, list_all, list_all-append, meaning_of, nat_tests, Options, or_cases, or_right, refl, Stops, sym, take, take-append-drop, take_while, TimeUnit, tokens_of, true, ℕ, ◌&&◌, ◌++◌, ◌+◌, ◌-◌, ◌<◌, ◌∙◌, ◌∷◌, ◌≡◌, ◌≤◌}
use Rattle.duration_str_help.specs.declared.suggestion.Replacement.{Replacement}
use Rattle.duration_str_help.specs.declared.suggestion.Suggestion.{Suggestion}
use Rattle.duration_str_base.specs.declared.rules.Rules.{Rules as CodeRules}
use Rattle.duration_str_laws.specs.Mended.{HasTokensOf}
use Rattle.duration_str_help.specs.Fraction.{end_run}
use Rattle.duration_str_help.specs.Help.{begins_with_letter, first_piece, is_letter, is_like}
use Rattle.duration_str_help.specs.Mends.{Pieces, pieces_of}
use Rattle.duration_str_help.proofs.MendedBytes.{blank_small, digit_small, EndCut, ends_in, first_digit, is_small, plain_no_letter, small_chars, small_utf8}
use Rattle.duration_str_help.proofs.MendedLemmas.{like_run, piece_parts}
use Rattle.duration_str_laws.proofs.MendedNames.{unit_letter_is_letter, are_letters, meant_letters}
use Rattle.duration_str_laws.proofs.MendedNumbers.{apart_before, no_unit_letter, apart_digit, ends_digits, no_run, seamed_tokens}
use Rattle.duration_str_laws.proofs.MendedPlaces.{after_place, IsPlaced, bytes_at, piece_at, replaced_piece}
use Rattle.duration_str_laws.proofs.MendedTerms.{cut_out, HasUnit, IsFractionAt}
use Rattle.duration_str_laws.proofs.MendedTokens.{apart_last, apart_nothing, apart_past, cut_before, IsApart}
use Rattle.duration_str_reading.proofs.Cutting.SortLemmas.{digits_are_lexeme}
use Rattle.duration_str_base.proofs.CharacterLemmas.{all_weaker, byte_count}

-- ---- The end of a piece

no_letter : (c : ℕ) → is_digit c ≡ true → is_letter c ≡ false
no_letter c digit = plain_no_letter c (digit_small c digit) (grind (arith, nat_tests))

no_digit : (c : ℕ) → is_letter c ≡ true → is_digit c ≡ false
no_digit c letter = false_from_ne_true (is_digit c) (λ digit. cc (letter, no_letter c digit))

-- Both or neither are digits, and both or neither are letters.
abbrev AreAlike : ℕ → ℕ → Type 0
AreAlike c e = (is_digit e ≡ is_digit c) × (is_letter e ≡ is_letter c)

alike : (c e : ℕ) → is_like c e ≡ true → AreAlike c e
alike c e like = elim (or_cases (is_digit e && is_digit c) (is_letter e && is_letter c) like) [
  | inl digits ↦
      let both = and_parts (is_digit e) (is_digit c) digits in
      (both.0 ∙ sym both.1, no_letter e both.0 ∙ sym (no_letter c both.1))
  | inr letters ↦
      let both = and_parts (is_letter e) (is_letter c) letters in
      (no_digit e both.0 ∙ sym (no_digit c both.1), both.0 ∙ sym both.1)
]

run_like : (o : Options) (c e d : ℕ) → AreAlike c e → are_of_one_run o e d ≡ true → is_like c d ≡ true
run_like o c e d (digit, letter) run = elim (or_cases (is_digit e && is_digit d) (is_unit_letter o e && is_unit_letter o d) run) [
  | inl digits ↦
      let both = and_parts (is_digit e) (is_digit d) digits in
      let first : is_digit c ≡ true = sym digit ∙ both.0 in
      rw (both.1, first) refl
  | inr letters ↦
      let both = and_parts (is_unit_letter o e) (is_unit_letter o d) letters in
      let first : is_letter c ≡ true = sym letter ∙ unit_letter_is_letter o e both.0 in
      or_right (is_digit d && is_digit c) _ (and_from _ _ (unit_letter_is_letter o d both.1) first)
]

apart_like : (o : Options) (c e : ℕ) (run rest : List ℕ) → AreAlike c e → list_all (is_like c) run ≡ true
    → Stops (is_like c) rest → IsApart o (e ∷ run) rest
apart_like o c e [] [] like all stops = refl
apart_like o c e [] (d ∷ rest) like all stops =
    false_from_ne_true (are_of_one_run o e d) (λ run. cc (run_like o c e d like run, stops))
apart_like o c e (d ∷ run) rest like all stops =
    let both = and_parts (is_like c d) (list_all (is_like c) run) all in
    apart_like o c d run rest (alike c d both.0) both.1 stops

-- No run goes on after a piece that is shorter than the longest one.
piece_apart : (o : Options) (front text : List ℕ) → length (first_piece text) < 41
    → IsApart o (front ++ first_piece text) (drop (length (first_piece text)) text)
piece_apart o front [] short = apart_nothing o (front ++ [])
piece_apart o front (c ∷ text) short =
    let run = take 40 (take_while (is_like c) text) in
    let parts = like_run c text short in
    apart_past o front c run (drop (length run) text) (apart_like o c c run (drop (length run) text) (refl, refl) parts.0 parts.1)

-- ---- Other seams

apart_start : (o : Options) (text cs more : List ℕ) → IsApart o text (cs ++ more) → IsApart o text cs
apart_start o text [] more h = apart_nothing o text
apart_start o [] (d ∷ cs) more h = tt
apart_start o (c ∷ []) (d ∷ cs) more h = h
apart_start o (c ∷ e ∷ text) (d ∷ cs) more h = apart_start o (e ∷ text) (d ∷ cs) more h

letters_apart : (o : Options) (c : ℕ) (cs rest : List ℕ) → list_all is_letter (c ∷ cs) ≡ true → begins_with_letter rest ≡ false
    → IsApart o (c ∷ cs) rest
letters_apart o c [] [] all stops = refl
letters_apart o c [] (d ∷ rest) all stops =
    no_run (is_digit c) (is_digit d) (is_unit_letter o c) (is_unit_letter o d) (no_digit c (and_parts (is_letter c) _ all).0)
    (no_unit_letter o d stops)
letters_apart o c (d ∷ cs) rest all stops = letters_apart o d cs rest (and_parts (is_letter c) _ all).1 stops

apart_letters : (o : Options) (text w rest : List ℕ) → are_letters w ≡ true → begins_with_letter rest ≡ false
    → IsApart o (text ++ w) rest
apart_letters o text [] rest letters stops = absurd (cc letters)
apart_letters o text (c ∷ cs) rest letters stops =
    apart_past o text c cs rest (letters_apart o c cs rest (and_parts (is_letter c) _ letters).1 stops)

apart_digits : (o : Options) (text digits rest : List ℕ) → 1 ≤ length digits → IsTrue (list_all is_digit digits)
    → Stops is_digit rest → IsApart o (text ++ digits) rest
apart_digits o text [] rest some are stops = absurd (omega (arith, some))
apart_digits o text (c ∷ cs) rest some are stops =
    apart_last o text (c ∷ cs) rest (digits_are_lexeme o c cs are)
    (ends_digits o c cs rest (and_parts (is_digit c) _ are).0 stops)

-- ---- The three parts of a refused text

-- No run goes over the seams of the parts.
pub record IsCutApart (s : CodeRules) (text : List ℕ) (new : Pieces) : Type 0 where
  parts : text ≡ new.front ++ (new.replaced ++ new.rest)
  front_utf8 : IsUtf8 new.front
  replaced_utf8 : IsUtf8 new.replaced
  first : IsApart s.options (chars new.front) (chars new.replaced)
  last : IsApart s.options (chars new.front ++ chars new.replaced) (chars new.rest)

apart_at : (s : CodeRules) (text : List ℕ) (place : ℕ) (expected : Expected) → IsPlaced s text place expected
    → IsApart s.options (chars (take place text)) (ahead text place)
apart_at s text place expected p =
    (cut_before (meaning_of s) (chars (take place text)) (ahead text place) expected p.refused).apart

pub cut_at_piece : (s : CodeRules) (text : List ℕ) (place : ℕ) (expected : Expected) (suggestion : Suggestion)
    → IsPlaced s text place expected → length (piece_at text place) < 41
    → IsCutApart s text
    (pieces_of text (record { start = place; end = place + length (bytes_at text place); suggestion = suggestion }))
cut_at_piece s text place expected suggestion p short =
    let front = take place text in
    let piece = piece_at text place in
    let bytes = bytes_at text place in
    let replaced = replaced_piece text place p.cut in
    let rest = after_place text place (length bytes) in
    let seam = rw (piece_parts (ahead text place)) at (apart_at s text place expected p) in
    record {
      parts = rw (replaced, rest)
          (sym (take-append-drop place text) ∙ ap (λ (bs : List ℕ). take place text ++ bs) p.cut.parts);
      front_utf8 = p.front_utf8;
      replaced_utf8 = rw replaced p.cut.piece_utf8;
      first = rw (replaced, p.cut.piece)
          (apart_start s.options (chars front) piece (drop (length piece) (ahead text place)) seam);
      last = rw (replaced, p.cut.piece, rest, p.cut.rest) (piece_apart s.options (chars front) (ahead text place) short);
    }

pub cut_at_place : (s : CodeRules) (text : List ℕ) (place : ℕ) (expected : Expected) (suggestion : Suggestion)
    → IsPlaced s text place expected
    → IsCutApart s text (pieces_of text (record { start = place; end = place; suggestion = suggestion }))
cut_at_place s text place expected suggestion p =
    let n : place - place ≡ 0 = omega arith in
    record {
      parts = rw n (sym (take-append-drop place text));
      front_utf8 = p.front_utf8;
      replaced_utf8 = rw n IsUtf8-nil;
      first = rw (n, chars-nil) (apart_nothing s.options (chars (take place text)));
      last = rw (n, chars-nil, append-nil) (apart_at s text place expected p);
    }

-- ---- A number with a fraction

point_apart : (o : Options) (text run more : List ℕ) → ends_in is_digit text ≡ false → IsTrue (list_all is_digit run)
    → IsApart o text (run ++ 46 ∷ more)
point_apart o text [] more ends are = apart_before o text 46 more refl (no_unit_letter o 46 refl)
point_apart o text (c ∷ cs) more ends are = apart_digit o text c (cs ++ 46 ∷ more) ends (and_parts (is_digit c) _ are).0

named_utf8 : (s : CodeRules) (named : List ℕ) (u : TimeUnit) → HasUnit s named u → IsUtf8 named
named_utf8 s named u (inl (blanks, name, parts, blank, utf8, means)) =
    rw parts (IsUtf8-append blanks name (small_utf8 blanks (all_weaker is_blank _ blanks blank_small blank)) utf8)
named_utf8 s named u (inr (none, default)) = rw none IsUtf8-nil

-- No run goes on after a number with its unit. The text ends with the number's decimals.
unit_apart : (s : CodeRules) (text decimals named rest : List ℕ) (u : TimeUnit) → HasUnit s named u → 1 ≤ length decimals
    → IsTrue (list_all is_digit decimals) → begins_with_letter (chars rest) ≡ false → IsUtf8 rest
    → (named ≡ [] → Stops is_digit rest) → IsApart s.options ((text ++ decimals) ++ chars named) (chars rest)
unit_apart s text decimals named rest u (inl (blanks, name, parts, blank, utf8, means)) some are stops rest_utf8 ends =
    let small = all_weaker is_blank _ blanks blank_small blank in
    let own : chars named ≡ blanks ++ chars name =
    ap chars parts ∙ chars-append blanks name (small_utf8 blanks small) ∙ ap (λ (cs : List ℕ). cs ++ chars name) (small_chars blanks small) in
    let letters = meant_letters s (chars name) u means in
    rw own (rw (append_assoc (text ++ decimals) blanks (chars name)) at
    (apart_letters s.options ((text ++ decimals) ++ blanks) (chars name) (chars rest) letters stops))
unit_apart s text decimals named rest u (inr (none, default)) some are stops rest_utf8 ends =
    rw (none, chars-nil, append-nil)
    (apart_digits s.options text decimals (chars rest) some are (first_digit rest rest_utf8 (ends none)))

-- The text is cut where the number begins and where its unit ends.
pub fraction_cut : (s : CodeRules) (text : List ℕ) (place : ℕ) (expected : Expected) (replacement : Replacement)
    → (cut : EndCut (take place text)) → IsFractionAt s text cut.front (end_run is_digit (take place text)) expected replacement
    → IsCutApart s text (pieces_of text replacement)
fraction_cut s text place expected replacement cut f =
    let o = s.options in
    let run = end_run is_digit (take place text) in
    let number = (run ++ codes ".") ++ f.decimals in
    let (first, replaced, last) = cut_out text cut.front (run ++ 46 ∷ (f.decimals ++ f.named)) f.rest f.parts in
    let whole : run ++ 46 ∷ (f.decimals ++ f.named) ≡ number ++ f.named = simp append_assoc in
    let runs : list_all is_small run ≡ true = all_weaker is_digit _ run digit_small cut.digits in
    let point_small : list_all is_small (run ++ codes ".") ≡ true =
    list_all-append is_small run (codes ".") ∙ and_from _ _ runs refl in
    let small : list_all is_small number ≡ true =
    list_all-append is_small (run ++ codes ".") f.decimals
    ∙ and_from _ _ point_small (all_weaker is_digit _ f.decimals digit_small f.digits) in
    let utf8 = small_utf8 number small in
    let own : chars (number ++ f.named) ≡ number ++ chars f.named =
    chars-append number f.named utf8 ∙ ap (λ (cs : List ℕ). cs ++ chars f.named) (small_chars number small) in
    let begins : number ++ chars f.named ≡ run ++ 46 ∷ (f.decimals ++ chars f.named) = simp append_assoc in
    let seam : IsApart o (chars cut.front) (number ++ chars f.named) =
    rw begins (point_apart o (chars cut.front) run (f.decimals ++ chars f.named) cut.ends cut.digits) in
    let text_before = chars cut.front ++ (run ++ codes ".") in
    let ends : chars cut.front ++ (number ++ chars f.named) ≡ (text_before ++ f.decimals) ++ chars f.named = simp append_assoc in
    let end = unit_apart s text_before f.decimals f.named f.rest f.unit f.means f.some f.digits f.stops f.utf8 f.ends in
    rw (← f.is) (record {
      parts = rw (first, replaced, last) f.parts;
      front_utf8 = rw first cut.utf8;
      replaced_utf8 = rw (replaced, whole) (IsUtf8-append number f.named utf8 (named_utf8 s f.named f.unit f.means));
      first = rw (first, replaced, whole, own) seam;
      last = rw (first, replaced, last, whole, own, ends) end;
    })

pub tokens_of_cut : (s : CodeRules) (text : List ℕ) (new : Pieces) → IsCutApart s text new
    → HasTokensOf s.options text new.front new.replaced new.rest
tokens_of_cut s text new k =
    let spelled : chars text ≡ chars new.front ++ (chars new.replaced ++ chars new.rest) =
    ap chars k.parts ∙ chars-append new.front (new.replaced ++ new.rest) k.front_utf8
    ∙ ap (λ (cs : List ℕ). chars new.front ++ cs) (chars-append new.replaced new.rest k.replaced_utf8) in
    ap (tokens_of s.options) spelled
    ∙ seamed_tokens s.options (chars new.front) (chars new.replaced) (chars new.rest) k.first k.last
    ∙ rw (byte_count new.front k.front_utf8, byte_count new.replaced k.replaced_utf8) refl
