-- Lemmas about characters: their classes, their widths and their bytes.
use Rattle.duration_str_base.proofs.Common.{[], add-zero, ahead, and_from, and_parts, arith, Bool, byte_len, chars, chars-nil, chars_past_char, drop, drop_all, drop_more, drop_past_char, encode_ascii, encode_utf8, encode_utf8_all, encodes-chars, false, false_from_ne_true, get_or, is_blank, is_digit, is_unit_letter, IsCharBoundary, IsCharBoundary-past_char, IsTrue, IsUtf8, IsUtf8-drop, leb, len_utf8, length, List, list_all, nat_tests, Options, refl, rules, scalar, scalar_cases, scalars, scalars-chars, Stands, suc, sym, true, width, zero, ℕ, ◌&&◌, ◌++◌, ◌+◌, ◌<◌, ◌∷◌, ◌≡◌, ◌≤◌, ◌⊎◌, ap, append-nil, encodes, length-append, length-encode, ◌∙◌, IsUtf8-take, length-le-encodes}
use Rattle.duration_str_base.specs.Causes.{chars_before}
use Rattle.std.proofs.lemmas.List.{nil_from_length}

pub all_weaker : (p q : ℕ → Bool) (cs : List ℕ) → ((c : ℕ) → p c ≡ true → q c ≡ true) → IsTrue (list_all p cs)
    → IsTrue (list_all q cs)
all_weaker p q [] weaker h = refl
all_weaker p q (c ∷ cs) weaker h =
    and_from _ _ (weaker c (and_parts _ _ h).0) (all_weaker p q cs weaker (and_parts _ _ h).1)

pub letter_above : (o : Options) (c : ℕ) → is_unit_letter o c ≡ true → 65 ≤ c
letter_above o c e = grind (arith, nat_tests)

pub digit-not_blank : (c : ℕ) → is_digit c ≡ true → is_blank c ≡ false
digit-not_blank c e = grind (arith, nat_tests)

pub letter-not_blank : (o : Options) (c : ℕ) → is_unit_letter o c ≡ true → is_blank c ≡ false
letter-not_blank o c e = let above = letter_above o c e in grind (arith, nat_tests)

pub digit-not_letter : (o : Options) (c : ℕ) → is_digit c ≡ true → is_unit_letter o c ≡ false
digit-not_letter o c e = false_from_ne_true _ (λ t. let above = letter_above o c t in grind (arith, nat_tests))

pub letter-not_digit : (o : Options) (c : ℕ) → is_unit_letter o c ≡ true → is_digit c ≡ false
letter-not_digit o c e = false_from_ne_true _ (λ t. cc (digit-not_letter o c t))

abbrev pub blanks_from : ℕ → List Bool → List Bool
blanks_from i [] = []
blanks_from i (b ∷ bs) = is_blank i ∷ blanks_from (i + 1) bs

pub blank_at : (bs : List Bool) (i j : ℕ) (d : Bool) → j < length bs → bs ≡ blanks_from i bs
    → get_or bs j d ≡ is_blank (i + j)
blank_at [] i j d lt right = absurd (omega (arith, lt))
blank_at (b ∷ bs) i zero d lt right = rw add-zero (cc right)
blank_at (b ∷ bs) i (suc j) d lt right = grind (arith, blank_at bs (i + 1) j d)

not_surrogate : (c : ℕ) → (c < 55296) ⊎ ((57344 ≤ c) × (c < 1114112)) → (leb 55296 c && leb c 57343) ≡ false
not_surrogate c h = grind (arith, nat_tests)

pub width-scalar : (c : ℕ) → scalar c ≡ true → width c ≡ len_utf8 c
width-scalar c e = rw (not_surrogate c (scalar_cases c e))

pub stands_char : (text rest : List ℕ) (place c : ℕ) → IsUtf8 (drop place text)
    → drop place text ≡ encode_utf8 c ++ rest → Stands text place c
stands_char text rest place c utf8 begins =
    let all : ahead text place ≡ c ∷ chars rest = chars_past_char (drop place text) rest c utf8 begins in
    let are_chars = rw all at (scalars-chars (drop place text) utf8) in
    let is_char = (and_parts (scalar c) (scalars (chars rest)) are_chars).0 in
    record { head = rw (width-scalar c is_char, all, drop_past_char text rest place c begins); bytes = refl }

pub end_ahead : (text : List ℕ) (place : ℕ) → length text ≤ place → ahead text place ≡ []
end_ahead text place end = rw (drop_all place text end) chars-nil

pub ascii_stands : (text : List ℕ) (place b : ℕ) → IsUtf8 text → IsCharBoundary text place → place < length text
    → b ≡ get_or text place 0 → b < 128 → Stands text place b
ascii_stands text place b utf8 boundary inside is small =
    let begins : drop place text ≡ encode_utf8 b ++ drop (place + 1) text =
    rw (drop_more text place 0 inside, ← is, encode_ascii b small) in
    stands_char text (drop (place + 1) text) place b (IsUtf8-drop text place utf8 boundary) begins

pub past_stands : (text : List ℕ) (place c : ℕ) → IsUtf8 text → IsCharBoundary text place → Stands text place c
    → (width c ≡ len_utf8 c) × IsCharBoundary text (place + width c)
past_stands text place c utf8 boundary stands =
    let left = IsUtf8-drop text place utf8 boundary in
    let rest = ahead text (place + width c) in
    let are_chars : scalars (c ∷ rest) ≡ true = rw stands.head at (scalars-chars (drop place text) left) in
    let same = width-scalar c (and_parts (scalar c) (scalars rest) are_chars).0 in
    let begins : drop place text ≡ encode_utf8 c ++ encode_utf8_all rest =
    sym (rw stands.head at (encodes-chars (drop place text) left)) in
    (same, rw same (IsCharBoundary-past_char text (encode_utf8_all rest) place c boundary.0 left begins))

pub width_some : (c : ℕ) → 1 ≤ width c
width_some c = search (rules)

pub byte_len-append : (xs ys : List ℕ) → byte_len (xs ++ ys) ≡ byte_len xs + byte_len ys
byte_len-append [] ys = omega arith
byte_len-append (x ∷ xs) ys = omega (arith, byte_len-append xs ys)

pub encoded_parts : (xs ys : List ℕ) → scalars (xs ++ ys) ≡ true
    → (byte_len xs ≡ length (encodes xs)) × (scalars ys ≡ true)
encoded_parts [] ys e = (refl, e)
encoded_parts (x ∷ xs) ys e = grind (arith, and_parts, length-encode, length-append, encoded_parts xs ys)

pub byte_count : (bs : List ℕ) → IsUtf8 bs → byte_len (chars bs) ≡ length bs
byte_count bs utf8 =
    (encoded_parts (chars bs) [] (rw append-nil (scalars-chars bs utf8))).0 ∙ ap length (encodes-chars bs utf8)

pub chars_of_none : (text : List ℕ) → length text ≡ 0 → chars text ≡ []
chars_of_none text none = ap chars (nil_from_length text none) ∙ chars-nil

pub chars_before_le : (text : List ℕ) (place : ℕ) → IsUtf8 text → IsCharBoundary text place
    → chars_before text place ≤ place
chars_before_le text place utf8 boundary = search (rules, IsUtf8-take, encodes-chars, length-le-encodes)
