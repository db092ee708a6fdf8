-- Lemmas about a text that is split after its first piece.
use Rattle.duration_str_help.proofs.Common.{ahead, and_from, and_parts, chars-encodes, drop-drop, get_or, is_ascii_alphabetic, is_blank, list_all, nat_lt, nat_tests, IfSome, IsUtf8-drop, Option, take-append-drop, ◌+◌, ◌-◌, ◌≤◌, [], ap, arith, Bool, cases_Bool, chars, drop, encode_utf8_all, encodes-append, encodes-chars, false, false_from_ne_true, inl, inr, IsCharBoundary, IsCharBoundary-at_seam, IsUtf8, length, List, refl, scalars, scalars-chars, Stops, suc, sym, take, take_while, take_while-cons, true, zero, ℕ, ◌++◌, ◌<◌, ◌∙◌, ◌∷◌, ◌≡◌}
use Rattle.std.proofs.lemmas.Str.{IsCharBoundary-from_rest}
use Rattle.duration_str_help.specs.declared.suggestion.Replacement.{Replacement}
use Rattle.duration_str_help.specs.Internal.Mends.{IsCutOut}
use Rattle.std.proofs.Math.Seq.{drop-append_seam}
use Rattle.duration_str_help.specs.Help.{begins_with_letter, first_piece, is_letter, is_like}
use Rattle.duration_str_help.specs.Mends.{ends_with_letter, removed_if}
use Rattle.std.proofs.lemmas.List.Folds.{list_all_at}

-- The text begins with this run of characters that pass the test. If it has fewer than so many,
-- no such character follows it.
record IsRun (test : ℕ → Bool) (most : ℕ) (text run : List ℕ) : Type 0 where
  parts : text ≡ run ++ drop (length run) text
  all : list_all test run ≡ true
  stops : length run < most → Stops test (drop (length run) text)

is_run : (test : ℕ → Bool) (most : ℕ) (text : List ℕ) → IsRun test most text (take most (take_while test text))
is_run test zero text = record { parts = refl; all = refl; stops = λ short. absurd (omega (arith, short)) }
is_run test (suc most) [] = record { parts = refl; all = refl; stops = λ short. tt }
is_run test (suc most) (c ∷ text) = elim (cases_Bool (test c)) [
  | inl passes ↦
      let later = is_run test most text in
      rw (take_while-cons test c text, passes) (record {
        parts = ap (λ (cs : List ℕ). c ∷ cs) later.parts;
        all = and_from _ _ passes later.all;
        stops = λ short. later.stops (omega (arith, short));
      })
  | inr fails ↦ rw (take_while-cons test c text, fails) (record { parts = refl; all = refl; stops = λ short. fails })
]

pub piece_parts : (text : List ℕ) → text ≡ first_piece text ++ drop (length (first_piece text)) text
piece_parts [] = refl
piece_parts (c ∷ text) = ap (λ (cs : List ℕ). c ∷ cs) (is_run (is_like c) 40 text).parts

-- The rest of a piece is like its first character, and what follows a piece that is shorter than
-- the longest one is not.
pub like_run : (c : ℕ) (text : List ℕ) → length (first_piece (c ∷ text)) < 41
    → let run = take 40 (take_while (is_like c) text) in
    (list_all (is_like c) run ≡ true) × Stops (is_like c) (drop (length run) text)
like_run c text short =
    let run = is_run (is_like c) 40 text in (run.all, run.stops (omega (arith, short)))

no_letter_after : (c : ℕ) (rest : List ℕ) → is_letter c ≡ true → Stops (is_like c) rest → begins_with_letter rest ≡ false
no_letter_after c [] letter stops = refl
no_letter_after c (d ∷ rest) letter stops = false_from_ne_true (is_letter d) (λ t. grind arith)

-- No letter follows a word that is shorter than the longest piece.
pub piece_stops : (text : List ℕ) → begins_with_letter (first_piece text) ≡ true → length (first_piece text) < 41
    → begins_with_letter (drop (length (first_piece text)) text) ≡ false
piece_stops [] letter short = refl
piece_stops (c ∷ text) letter short = no_letter_after c _ letter (like_run c text short).1

abbrev pub after_piece : List ℕ → List ℕ
after_piece bytes = drop (length (encode_utf8_all (first_piece (chars bytes)))) bytes

-- The bytes of a text are those of its first piece, and those after it.
pub record IsCut (bytes : List ℕ) : Type 0 where
  pub parts : bytes ≡ encode_utf8_all (first_piece (chars bytes)) ++ after_piece bytes
  pub piece_utf8 : IsUtf8 (encode_utf8_all (first_piece (chars bytes)))
  pub piece : chars (encode_utf8_all (first_piece (chars bytes))) ≡ first_piece (chars bytes)
  pub rest_utf8 : IsUtf8 (after_piece bytes)
  pub rest : chars (after_piece bytes) ≡ drop (length (first_piece (chars bytes))) (chars bytes)

scalars_parts : (xs ys : List ℕ) → scalars (xs ++ ys) ≡ true → (scalars xs ≡ true) × (scalars ys ≡ true)
scalars_parts [] ys e = (refl, e)
scalars_parts (x ∷ xs) ys e = grind (arith, scalars_parts xs ys)

pub cut_piece : (bytes : List ℕ) → IsUtf8 bytes → IsCut bytes
cut_piece bytes utf8 =
    let piece = first_piece (chars bytes) in
    let rest = drop (length piece) (chars bytes) in
    let spelled : chars bytes ≡ piece ++ rest = piece_parts (chars bytes) in
    let (first, last) = scalars_parts piece rest (rw spelled at (scalars-chars bytes utf8)) in
    let parts : bytes ≡ encode_utf8_all piece ++ encode_utf8_all rest =
    sym (encodes-chars bytes utf8) ∙ ap encode_utf8_all spelled ∙ encodes-append piece rest in
    let after : after_piece bytes ≡ encode_utf8_all rest =
    ap (drop (length (encode_utf8_all piece))) parts ∙ drop-append_seam (encode_utf8_all piece) (encode_utf8_all rest) in
    record {
      parts = rw after parts;
      piece_utf8 = (piece, (first, refl));
      piece = chars-encodes piece first;
      rest_utf8 = rw after (rest, (last, refl));
      rest = rw after (chars-encodes rest last);
    }

pub piece_boundary : (bytes piece : List ℕ) → IsUtf8 bytes → piece ≡ encode_utf8_all (first_piece (chars bytes))
    → IsCharBoundary bytes (length piece)
piece_boundary bytes piece utf8 is =
    let cut : IsCut bytes = cut_piece bytes utf8 in
    IsCharBoundary-at_seam bytes piece (after_piece bytes) (rw is cut.parts) cut.rest_utf8

-- ---- The part that a mend replaces

pub piece_end : (text piece : List ℕ) (place : ℕ) → IsUtf8 text → IsCharBoundary text place
    → piece ≡ encode_utf8_all (first_piece (ahead text place)) → IsCharBoundary text (place + length piece)
piece_end text piece place utf8 boundary is =
    IsCharBoundary-from_rest text place (length piece) boundary.0
    (piece_boundary (drop place text) piece (IsUtf8-drop text place utf8 boundary) is)

pub cut_removed : (text : List ℕ) (condition : Bool) (start end : ℕ) (replacement : Option Replacement) → replacement ≡ removed_if condition start end
    → IsCharBoundary text start → IsCharBoundary text end → start ≤ end → IfSome replacement (IsCutOut text)
cut_removed text true start end replacement is starts ends ordered =
    rw is (record { starts = starts; ends = ends; ordered = ordered })
cut_removed text false start end replacement is starts ends ordered = rw is tt

pub cut_named : (text : List ℕ) (start end : ℕ) (replacement : Replacement) → replacement.start ≡ start → replacement.end ≡ end
    → IsCharBoundary text start → IsCharBoundary text end → start ≤ end → IsCutOut text replacement
cut_named text start end replacement first last starts ends ordered =
    record { starts = rw first starts; ends = rw last ends; ordered = omega (arith, first, last, ordered) }

pub cut_whole : (text : List ℕ) (start end : ℕ) → start ≤ end
    → text ≡ take start text ++ (take (end - start) (drop start text) ++ drop end text)
cut_whole text start end ordered =
    let e : start + (end - start) ≡ end = omega arith in
    let last : drop (end - start) (drop start text) ≡ drop end text =
    drop-drop (end - start) start text ∙ ap (λ (n : ℕ). drop n text) e in
    sym (take-append-drop start text)
    ∙ ap (λ (bs : List ℕ). take start text ++ bs)
    (sym (take-append-drop (end - start) (drop start text))
    ∙ ap (λ (bs : List ℕ). take (end - start) (drop start text) ++ bs) last)

-- ---- The letter that a text ends with

letter_after : (bytes : List ℕ) (n : ℕ) → n < length bytes → is_blank (get_or bytes n 0) ≡ false
    → list_all is_blank (drop (suc n) bytes) ≡ true → ends_with_letter bytes ≡ is_ascii_alphabetic (get_or bytes n 0)
letter_after [] n within fails all = absurd (omega (arith, within))
letter_after (b ∷ bytes) zero within fails all = rw all refl
letter_after (b ∷ bytes) (suc n) within fails all =
    let inside : n < length bytes = omega (arith, within) in
    rw (list_all_at is_blank bytes n 0 inside fails) (letter_after bytes n inside fails all)

-- If all bytes after one that isn't blank are blank, it decides whether a letter ends the text.
pub letter_from : (bytes : List ℕ) (n : ℕ) → 0 < n → n ≤ length bytes → is_blank (get_or bytes (n - 1) 0) ≡ false
    → list_all is_blank (drop n bytes) ≡ true → ends_with_letter bytes ≡ is_ascii_alphabetic (get_or bytes (n - 1) 0)
letter_from bytes zero some within fails all = absurd (omega (arith, some))
letter_from bytes (suc n) some within fails all =
    let e : suc n - 1 ≡ n = omega arith in
    rw e (letter_after bytes n (omega (arith, within)) (rw e at fails) all)

blank_no_letter : (b : ℕ) → is_blank b ≡ true → is_ascii_alphabetic b ≡ false
blank_no_letter b blank = grind (arith, nat_tests)

all_blank : (bytes : List ℕ) → list_all is_blank bytes ≡ true → ends_with_letter bytes ≡ false
all_blank [] all = refl
all_blank (b ∷ bytes) all =
    let both = and_parts (is_blank b) _ all in rw both.1 (blank_no_letter b both.0)

pub no_letter : (bytes : List ℕ) (n : ℕ) → n ≤ 0 → list_all is_blank (drop n bytes) ≡ true
    → nat_lt 0 n ≡ ends_with_letter bytes
no_letter bytes zero none all = sym (all_blank bytes all)
no_letter bytes (suc n) none all = absurd (omega (arith, none))
