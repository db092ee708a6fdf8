use Rattle.duration_str_refusals.proofs.Common.{and_parts, ap, arith, caret_text, cases_Bool, Cause, chars, chars-append, common_steps, drop, encode_utf8, encode_utf8_all, encodes-chars, ForSome, inl, inr, IsCharBoundary, IsUtf8, IsUtf8-take, true, leb-true, len_utf8_bounds, length, length-append, length-encode, length-le-encodes, List, place_of, refl, Rules, Syntax, take, take-append-drop, ℕ, [], ◌*◌, ◌+◌, ◌<◌, ◌^◌, ◌∷◌, ◌≡◌, ◌≤◌, rules}
use Rattle.duration_str_base.proofs.CharacterLemmas.{chars_of_none}
use Rattle.duration_str_refusals.proofs.OneLineLemmas.{line_short}
use Rattle.duration_str_refusals.specs.OneLine.{one_line_of}
use Rattle.std.proofs.lemmas.List.Sums.{count_by-le-length}
use Rattle.duration_str_refusals.specs.Report.{columns_of, is_clear_text, is_wide, report_of}

pub columns_all : (rest : List ℕ) (n whole : ℕ) → length rest ≡ 0 → n + columns_of (chars rest) ≡ whole → n ≡ whole
columns_all rest n whole none all = omega (arith, rw (chars_of_none rest none) at all)

columns_le : (text : List ℕ) → columns_of text ≤ 2 * length text
columns_le text = omega (arith, count_by-le-length is_wide text)

pub columns_short : (text : List ℕ) → IsUtf8 text → columns_of (chars text) ≤ 2 * length text
columns_short text utf8 = search (rules, encodes-chars, length-le-encodes, columns_le)

bytes_le : (cs : List ℕ) → length (encode_utf8_all cs) ≤ 4 * length cs
bytes_le [] = omega arith
bytes_le (c ∷ cs) =
    omega (arith, length-encode c, len_utf8_bounds c, length-append (encode_utf8 c) (encode_utf8_all cs), bytes_le cs)

columns_before_le : (text : List ℕ) (place : ℕ) → IsUtf8 text → IsCharBoundary text place
    → columns_of (chars (take place text)) ≤ 2 * length (chars text)
columns_before_le text place utf8 boundary =
    let front = chars-append (take place text) (drop place text) (IsUtf8-take text place utf8 boundary) in
    let whole = ap chars (take-append-drop place text) in
    omega (
      arith,
      columns_le (chars (take place text)),
      ap length front,
      ap length whole,
      length-append (chars (take place text)) (chars (drop place text)),
    )

caret_length : (text : List ℕ) (spaces : ℕ) (line : List ℕ)
    → length (caret_text text spaces line) ≡ length text + (spaces + (3 + length line))
caret_length text spaces line = grind (arith, common_steps)

pub report_le : (r : Rules) (text : List ℕ) (cause : Cause) → IsUtf8 text → length text < 2 ^ 63
    → ForSome (place_of cause) (IsCharBoundary text) → length (report_of r text cause) ≤ 777
report_le r text (Syntax place expected) utf8 small placed = elim (cases_Bool (is_clear_text (chars text))) [
  | inl clear ↦
      let short = leb-true (length (chars text)) 80 (and_parts _ _ clear).0 in
      let line = one_line_of r text (Syntax place expected) in
      let bound = (line_short true r text (Syntax place expected) utf8 small placed).short in
      let bytes : length text ≤ 4 * length (chars text) = rw (encodes-chars text utf8) at (bytes_le (chars text)) in
      rw clear (omega (
        arith,
        short,
        bound,
        bytes,
        columns_before_le text place utf8 (placed place refl),
        caret_length text (columns_of (chars (take place text))) line,
      ))
  | inr other ↦ rw other (omega (arith, (line_short true r text (Syntax place expected) utf8 small placed).short))
]
report_le r text cause utf8 small placed = omega (arith, (line_short true r text cause utf8 small placed).short)
