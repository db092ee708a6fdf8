-- The piece that a text begins with.
use Rattle.duration_str_help.proofs.Common.{ap, append-nil, append_assoc, arith, chars, chars_from_encodes, chars_past_char, common_steps, encode_utf8, encode_utf8_all, encodes-append, false, IsCharBoundary, IsCharBoundary-at_seam, IsUtf8, length, length-append, List, refl, rules, slice_range, suc, take, take-nil, take_while, take_while-cons, true, zero, [], ℕ, ◌++◌, ◌-◌, ◌∙◌, ◌∷◌, ◌≡◌, ◌≢◌}
use Rattle.duration_str_help.specs.Help.{first_piece, is_like}

-- Characters of the text were taken for the piece that begins with `first`, and at most `left` more
-- may follow.
pub record Taken (first : ℕ) (text rest : List ℕ) (left : ℕ) : Type 0 where
  pub taken : List ℕ
  pub parts : text ≡ encode_utf8_all taken ++ rest
  pub whole : first_piece (chars text) ≡ taken ++ take left (take_while (is_like first) (chars rest))

pub taken_first : (first : ℕ) (text rest : List ℕ) → IsUtf8 text → text ≡ encode_utf8 first ++ rest
    → Taken first text rest 40
taken_first first text rest utf8 parts = record {
  taken = first ∷ [];
  parts = parts ∙ search (rules, append-nil);
  whole = rw (chars_past_char text rest first utf8 parts) refl;
}

pub taken_more : (first : ℕ) (text rest after : List ℕ) (left c : ℕ) → IsUtf8 rest → rest ≡ encode_utf8 c ++ after
    → left ≢ 0 → is_like first c ≡ true → Taken first text rest left → Taken first text after (left - 1)
taken_more first text rest after zero c utf8 parts some like before = absurd (some refl)
taken_more first text rest after (suc left) c utf8 parts some like before =
    let e : suc left - 1 ≡ left = omega arith in
    rw e (record {
      taken = before.taken ++ c ∷ [];
      parts = before.parts ∙ rw (parts, encodes-append before.taken) (simp append_assoc);
      whole = before.whole
          ∙ rw (chars_past_char rest after c utf8 parts, take_while-cons (is_like first) c (chars after), like) (simp append_assoc);
    })

pub taken_other : (first : ℕ) (rest after : List ℕ) (left c : ℕ) → IsUtf8 rest → rest ≡ encode_utf8 c ++ after
    → is_like first c ≡ false → take left (take_while (is_like first) (chars rest)) ≡ []
taken_other first rest after left c utf8 parts other =
    rw (chars_past_char rest after c utf8 parts, take_while-cons (is_like first) c (chars after), other) (take-nil left)

module _ (first : ℕ) (text rest : List ℕ) (left : ℕ) (is : Taken first text rest left) where
  long : length text - length rest ≡ length (encode_utf8_all is.taken)
  long = omega (arith, ap length is.parts, length-append (encode_utf8_all is.taken) rest)

  pub taken_boundary : IsUtf8 rest → IsCharBoundary text (length text - length rest)
  taken_boundary utf8 = rw long (IsCharBoundary-at_seam text (encode_utf8_all is.taken) rest is.parts utf8)

  pub taken_all : (piece : List ℕ) → IsUtf8 piece → piece ≡ slice_range text 0 (length text - length rest)
      → take left (take_while (is_like first) (chars rest)) ≡ [] → chars piece ≡ first_piece (chars text)
  taken_all piece utf8 cut ends = grind (arith, common_steps, chars_from_encodes)
