-- What is written for each help, and the tokens of a text with its suggestion.
use Rattle.duration_str_laws.proofs.Common.{[], ahead, and_from, and_parts, ap, append_assoc, arith, byte_len, Cause, chars, chars-append, chars-nil, drop, Expected, false, is_ascii_alphabetic, is_blank, is_digit, IsRefused, IsUtf8, inl, inr, length, List, list_all, list_all-append, meaning_of, nat_tests, None, Option, option_map, refl, Second, Some, sym, Syntax, take, take-append-drop, tokens_from, tokens_of, true, ℕ, ◌++◌, ◌+◌, ◌==◌, ◌||◌, ◌∙◌, ◌∷◌, ◌≡◌, ◌≢◌, ◌≤◌, ◌⊎◌, bytes_eq, bytes_eq-Decides, codes, length-le-encodes, Bool, not, eqb-true, ◌&&◌, ◌<◌}
use Rattle.duration_str_help.specs.declared.help.Help.{Help}
use Rattle.duration_str_help.specs.declared.help.Help.TheVariants.{DidYouMean, DigitsOnly, Fraction, Iso8601, LeadingPlus, NoPoint, Zero}
use Rattle.duration_str_help.specs.declared.suggestion.Replacement.{Replacement}
use Rattle.duration_str_help.specs.declared.suggestion.Suggestion.{Suggestion}
use Rattle.duration_str_base.specs.declared.rules.Rules.{Rules as CodeRules}
use Rattle.duration_str_laws.specs.Mended.{JoinsNumbers, KeepsTokens, mended_text, MendedTexts, MendedTokens, WrittenIsSaid, RefusedTokens}
use Rattle.duration_str_help.specs.Help.{begins_with_letter}
use Rattle.duration_str_help.specs.Mends.{mend_of, replacement_for, replacement_of, name_alone, Pieces, pieces_of, suggestion_of, suggestion_text, nothing}
use Rattle.duration_str_help.proofs.MendedHelp.{are_separators, is_separator, KnownAt, known_at}
use Rattle.duration_str_laws.proofs.MendedPlaces.{after_place, apart_at_start, IsInPlace, IsJoined, IsMended, IsPlaced, name_written, placed, bytes_at, piece_at, joined, removed}
use Rattle.duration_str_help.proofs.MendedBytes.{first_char, is_small, plain_no_letter, end_cut, EndCut}
use Rattle.duration_str_laws.proofs.MendedNames.{near_short}
use Rattle.duration_str_laws.proofs.MendedNumbers.{apart_unless, number_first, number_last, one_number, seamed_kept, seamed_tokens}
use Rattle.duration_str_laws.proofs.MendedTerms.{fraction_found, fraction_mended, IsFractionAt}
use Rattle.duration_str_help.proofs.MendedLemmas.{piece_stops}
use Rattle.duration_str_base.proofs.CharacterLemmas.{byte_count, byte_len-append}
use Rattle.duration_str_laws.proofs.MendedCuts.{cut_at_piece, cut_at_place, fraction_cut, IsCutApart, tokens_of_cut}
use Rattle.duration_str_laws.proofs.MendedTokens.{IsApart}
use Rattle.std.specs.Prelude.{IfSome, if◌then◌else◌}

zeros_end : (text : List ℕ) (place : ℕ) → IsUtf8 (drop place text) → list_all (λ b. b == 48 || is_blank b) text ≡ true
    → begins_with_letter (ahead text place) ≡ false
zeros_end text place utf8 zeros = by (drop place text) utf8 rest
  where
    rest : list_all (λ b. b == 48 || is_blank b) (drop place text) ≡ true
    rest =
        let both = sym (list_all-append (λ b. b == 48 || is_blank b) (take place text) (drop place text)) in
        (and_parts (list_all (λ b. b == 48 || is_blank b) (take place text)) _ (both ∙ rw take-append-drop zeros)).1

    by : (bytes : List ℕ) → IsUtf8 bytes → list_all (λ b. b == 48 || is_blank b) bytes ≡ true
        → begins_with_letter (chars bytes) ≡ false
    by [] utf8 zeros = rw chars-nil refl
    by (b ∷ bytes) utf8 zeros =
        let here : (b == 48 || is_blank b) ≡ true = (and_parts (b == 48 || is_blank b) _ zeros).0 in
        let small : is_small b ≡ true = grind (arith, nat_tests) in
        let plain : is_ascii_alphabetic b ≡ false = grind (arith, nat_tests) in
        rw ((first_char b bytes small utf8).0, plain_no_letter b small plain) refl

-- ---- Each help

-- The replacement mends the text, and no token of the text has characters of two of its parts.
abbrev IsSound : CodeRules → List ℕ → Replacement → Type 0
IsSound s text replacement = IsMended s text replacement × IsCutApart s text (pieces_of text replacement)

-- What holds of a replacement holds of it if it is made only on this condition.
made_when : (P : Replacement → Type 0) (b : Bool) (made : Replacement) → (b ≡ true → P made)
    → IfSome (if b then Some made else None) P
made_when P true made h = h refl
made_when P false made h = tt

implied : (P Q : Replacement → Type 0) (found : Option Replacement) → ((x : Replacement) → P x → Q x) → IfSome found P → IfSome found Q
implied P Q None h is = tt
implied P Q (Some x) h is = h x is

-- A piece of at most two bytes is shorter than the longest piece.
short_piece : (text : List ℕ) (place : ℕ) → length (bytes_at text place) ≤ 2 → length (piece_at text place) < 41
short_piece text place few = omega (arith, few, length-le-encodes (piece_at text place))

sign_short : (bytes sign : List ℕ) → bytes_eq bytes sign ≡ true → length sign ≡ 1 → length bytes ≤ 2
sign_short bytes sign is one = omega (arith, ap length ((bytes_eq-Decides bytes sign).0 is), one)

separator_short : (bytes : List ℕ) → is_separator bytes ≡ true → length bytes ≤ 2
separator_short bytes is = elim (are_separators bytes is) [
  | inl line ↦ omega (arith, ap length line)
  | inr mark ↦ omega (arith, ap length mark)
]

module _ (s : CodeRules) (text : List ℕ) (place : ℕ) (expected : Expected) (p : IsPlaced s text place expected) where
  abbrev end : ℕ
  end = place + length (bytes_at text place)

  removed_piece : length (bytes_at text place) ≤ 2 → IsApart s.options (chars (take place text)) (chars (drop end text))
      → IsSound s text (record { start = place; end = end; suggestion = nothing })
  removed_piece few apart =
      (removed s text place end expected p apart, cut_at_piece s text place expected nothing p (short_piece text place few))

  mended : (help : Option Help) → KnownAt text place expected (piece_at text place) help
      → IfSome (replacement_for (meaning_of s) text place expected (bytes_at text place) help) (IsSound s text)
  mended (Some (DidYouMean u)) why =
      let both = and_parts expected.unit_word (begins_with_letter (piece_at text place)) why.0 in
      let short : length (piece_at text place) < 41 = omega (arith, near_short (piece_at text place) u why.1) in
      let stops : begins_with_letter (chars (drop end text)) ≡ false =
      rw (after_place text place (length (bytes_at text place)), p.cut.rest) (piece_stops (ahead text place) both.1 short) in
      (name_written s text place end u expected p both.0 stops, cut_at_piece s text place expected (name_alone u) p short)
  mended (Some Fraction) why =
      let cut : EndCut (take place text) = end_cut (take place text) p.front_utf8 in
      let found = fraction_found s text cut.front place expected p why cut.parts in
      implied (IsFractionAt s text cut.front _ expected) (IsSound s text) _ (λ replacement f.
      (fraction_mended s text place expected replacement p cut f, fraction_cut s text place expected replacement cut f)) found
  mended (Some LeadingPlus) why =
      removed_piece (sign_short (bytes_at text place) (codes "+") why.1 refl) (apart_at_start s text _ place why.0)
  mended (Some NoPoint) why = made_when (IsSound s text) _ _ (λ e.
      removed_piece (sign_short (bytes_at text place) (codes ".") why refl) (apart_unless s.options (chars (take place text)) _ e))
  mended (Some DigitsOnly) why = made_when (IsSound s text) _ _ (λ e.
      let separator = (and_parts (is_separator (bytes_at text place)) _ e).0 in
      let short = short_piece text place (separator_short (bytes_at text place) separator) in
      (joined s text place expected p why.0 (why.1 separator) separator, cut_at_piece s text place expected nothing p short))
  mended (Some Iso8601) why = made_when (IsSound s text) _ _ (λ e.
      let n = length (bytes_at text place) in
      let time = (and_parts (n == 2 && not s.options.lowercase) _ e).0 in
      let two = eqb-true n 2 (and_parts (n == 2) _ time).0 in
      removed_piece (omega (arith, two)) (apart_at_start s text _ place why))
  mended (Some Zero) why = made_when (IsSound s text) _ _ (λ e. (
    name_written s text place place Second expected p why.0 (zeros_end text place p.back_utf8 why.1),
    cut_at_place s text place expected (name_alone Second) p,
  ))
  mended help why = tt

mended_at : (s : CodeRules) (text : List ℕ) (cause : Cause) → IsUtf8 text → IsRefused (meaning_of s) (chars text) cause
    → IfSome (replacement_of (meaning_of s) text cause) (IsSound s text)
mended_at s text (Syntax place expected) utf8 refused =
    mended s text place expected (placed s text place expected utf8 refused) _ (known_at text place expected (piece_at text place))
mended_at s text cause utf8 refused = tt

-- The replacement that gives these pieces, and what is known of it.
pub record IsMendOf (s : CodeRules) (text : List ℕ) (cause : Cause) (new : Pieces) : Type 0 where
  pub replacement : Replacement
  pub asked : replacement_of (meaning_of s) text cause ≡ Some replacement
  pub pieces : pieces_of text replacement ≡ new
  pub is : IsMended s text replacement
  pub cut : IsCutApart s text (pieces_of text replacement)

pub mend : (s : CodeRules) (text : List ℕ) (cause : Cause) (new : Pieces) → IsUtf8 text → IsRefused (meaning_of s) (chars text) cause
    → mend_of (meaning_of s) text cause ≡ Some new → IsMendOf s text cause new
mend s text cause new utf8 refused is = by (replacement_of (meaning_of s) text cause) refl is
  where
    by : (found : Option Replacement) → replacement_of (meaning_of s) text cause ≡ found
        → option_map (pieces_of text) found ≡ Some new → IsMendOf s text cause new
    by None asked is = absurd cc
    by (Some replacement) asked is =
        let (is_mended, cut) = rw asked at (mended_at s text cause utf8 refused) in
        record { replacement = replacement; asked = asked; pieces = cc; is = is_mended; cut = cut }

-- ---- The characters of a text with its suggestion

abbrev pub OfPieces : CodeRules → Pieces → Type 0
OfPieces s new = IsInPlace s new ⊎ IsJoined s new

pub of_pieces : (s : CodeRules) (text : List ℕ) (cause : Cause) (new : Pieces) → IsMendOf s text cause new → OfPieces s new
of_pieces s text cause new m = rw m.pieces at m.is.tokens

spelled : (s : CodeRules) (new : Pieces) → IsInPlace s new
    → chars (mended_text new) ≡ chars new.front ++ (chars new.written ++ chars new.rest)
spelled s new k =
    chars-append new.front (new.written ++ new.rest) k.front_utf8
    ∙ ap (λ (cs : List ℕ). chars new.front ++ cs) (chars-append new.written new.rest k.written_utf8)

spelled_joined : (s : CodeRules) (new : Pieces) → (j : IsJoined s new)
    → chars (mended_text new) ≡ j.before ++ ((j.digits ++ j.more) ++ j.after)
spelled_joined s new j =
    ap (λ (written : List ℕ). chars (new.front ++ (written ++ new.rest))) j.removed ∙ chars-append new.front new.rest j.front_utf8
    ∙ rw (j.front, j.rest, append_assoc, append_assoc) refl

-- ---- A text with its suggestion has no syntax fault before the end of the suggestion

past_written : (s : CodeRules) (new : Pieces) (later : ℕ) (others : Expected) → OfPieces s new
    → IsRefused (meaning_of s) (chars (mended_text new)) (Syntax later others)
    → length new.front + length new.written ≤ later
past_written s new later others (inl k) again =
    let least = seamed_kept (meaning_of s) (chars new.front) (chars new.written) (chars new.rest) k.seamed later others
    (rw (spelled s new k) at again) in
    omega (arith, least, byte_count new.front k.front_utf8, byte_count new.written k.written_utf8)
past_written s new later others (inr j) again =
    let least = seamed_kept (meaning_of s) j.before (j.digits ++ j.more) j.after j.seamed later others
    (rw (spelled_joined s new j) at again) in
    let bytes : byte_len (chars new.front) ≡ byte_len j.before + byte_len j.digits =
    ap byte_len j.front ∙ byte_len-append j.before j.digits in
    omega (arith, least, bytes, byte_len-append j.digits j.more, byte_count new.front j.front_utf8, ap length j.removed)

pub mended_texts_hold : MendedTexts
mended_texts_hold s text cause new utf8 refused is later others again =
    past_written s new later others (of_pieces s text cause new (mend s text cause new utf8 refused is)) again

-- ---- The tokens of a text with its suggestion

pub kept_tokens : (s : CodeRules) (new : Pieces) → IsInPlace s new → KeepsTokens s.options new
kept_tokens s new k =
    ap (tokens_of s.options) (spelled s new k)
    ∙ seamed_tokens s.options (chars new.front) (chars new.written) (chars new.rest) k.seamed.first k.seamed.last
    ∙ rw (byte_count new.front k.front_utf8, byte_count new.written k.written_utf8) refl

some_both : (xs ys : List ℕ) → xs ≢ [] → xs ++ ys ≢ []
some_both [] ys some = absurd (some refl)
some_both (x ∷ xs) ys some = λ e. cc e

joined_tokens : (s : CodeRules) (new : Pieces) → IsJoined s new → JoinsNumbers s.options new
joined_tokens s new j =
    let o = s.options in
    let before = tokens_of o j.before in
    let start = byte_len j.before in
    let digits = j.digits ++ j.more in
    let both : list_all is_digit digits ≡ true = list_all-append is_digit j.digits j.more ∙ and_from _ _ j.are_digits j.are_more in
    let bytes : byte_len j.before + byte_len j.digits ≡ length new.front =
    sym (byte_len-append j.before j.digits) ∙ ap byte_len (sym j.front) ∙ byte_count new.front j.front_utf8 in
    let next : length new.front + byte_len j.more ≡ start + byte_len digits =
    omega (arith, bytes, byte_len-append j.digits j.more) in
    let after = tokens_from o (length new.front + byte_len j.more) j.after in
    record {
      separator = j.separator;
      removed = j.removed;
      before = before;
      start = start;
      digits = j.digits;
      more = j.more;
      after = after;
      are_digits = both;
      front = ap (tokens_of o) j.front ∙ number_last o j.before j.digits j.ends j.are_digits j.some;
      rest = ap (tokens_from o (length new.front)) j.rest
          ∙ number_first o (length new.front) j.more j.after j.are_more j.some_more j.stops;
      joined = ap (tokens_of o) (spelled_joined s new j)
          ∙ seamed_tokens o j.before digits j.after j.seamed.first j.seamed.last
          ∙ rw (one_number o start digits both (some_both j.digits j.more j.some), ← next) refl;
    }

pub tokens_hold : MendedTokens
tokens_hold s text cause new utf8 refused is =
    by (of_pieces s text cause new (mend s text cause new utf8 refused is))
  where
    by : OfPieces s new → KeepsTokens s.options new ⊎ JoinsNumbers s.options new
    by (inl k) = inl (kept_tokens s new k)
    by (inr j) = inr (joined_tokens s new j)

pub same_suggestion : (s : CodeRules) (text : List ℕ) (cause : Cause) (new : Pieces) (suggestion : Suggestion)
    → (m : IsMendOf s text cause new) → suggestion_of (meaning_of s) text cause ≡ Some suggestion
    → m.replacement.suggestion ≡ suggestion
same_suggestion s text cause new suggestion m asked =
    let found : Some m.replacement.suggestion ≡ Some suggestion = rw m.asked at asked in cc found

pub written_holds : WrittenIsSaid
written_holds s text cause new suggestion utf8 refused is asked =
    let m : IsMendOf s text cause new = mend s text cause new utf8 refused is in
    let written : suggestion_text m.replacement.suggestion ≡ new.written = ap (λ (p : Pieces). p.written) m.pieces in
    rw (← written, ← same_suggestion s text cause new suggestion m asked) m.is.said

-- ---- The tokens of a refused text

pub refused_hold : RefusedTokens
refused_hold s text cause new utf8 refused is =
    let m : IsMendOf s text cause new = mend s text cause new utf8 refused is in tokens_of_cut s text new (rw m.pieces at m.cut)
