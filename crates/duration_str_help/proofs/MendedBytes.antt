-- Bytes that are ASCII within a text, and runs of them.
use Rattle.std.specs.List.{prefix_len}
use Rattle.duration_str_help.specs.Help.{is_letter}
use Rattle.duration_str_help.proofs.Common.{[], and_from, and_parts, ap, append-nil, arith, Bool, byte_len, cases_Bool, chars, chars-append, chars_past_char, drop, encode, encode_ascii, encodes, encodes-chars, false, false_from_ne_true, get_or, inl, inr, is_ascii_alphabetic, is_blank, is_digit, IsCharBoundary-at_seam, IsUtf8, IsUtf8-from_ascii, IsUtf8-past_char, IsUtf8-take, len_utf8_bounds, length, length-append, length-encode, List, list_all, ltb, ltb-true, nat_le, nat_tests, refl, Stops, suc, sym, take, true, zero, ℕ, ◌++◌, ◌-◌, ◌∙◌, ◌∷◌, ◌≡◌, ◌≢◌, ◌≤◌}
use Rattle.std.proofs.lemmas.Str.{chars-IsAscii}
use Rattle.std.specs.Str.{IsAscii}
use Rattle.std.proofs.Math.Seq.{take-append_seam}
use Rattle.std.specs.Prelude.{slice_index}
use Rattle.duration_str_base.proofs.CharacterLemmas.{all_weaker, byte_count}
use Rattle.duration_str_help.specs.Fraction.{end_run}

-- whether the last character passes the test
abbrev pub ends_in : (ℕ → Bool) → List ℕ → Bool
ends_in test [] = false
ends_in test (c ∷ []) = test c
ends_in test (c ∷ d ∷ cs) = ends_in test (d ∷ cs)

abbrev pub is_small : ℕ → Bool
is_small b = ltb b 128

pub digit_small : (b : ℕ) → is_digit b ≡ true → is_small b ≡ true
digit_small b e = grind (arith, nat_tests)

pub blank_small : (b : ℕ) → is_blank b ≡ true → is_small b ≡ true
blank_small b e = grind (arith, nat_tests)

-- ---- The characters of ASCII

pub first_char : (b : ℕ) (bs : List ℕ) → is_small b ≡ true → IsUtf8 (b ∷ bs) → (chars (b ∷ bs) ≡ b ∷ chars bs) × IsUtf8 bs
first_char b bs small utf8 =
    let parts : b ∷ bs ≡ encode b ++ bs = rw (encode_ascii b (ltb-true b 128 small)) refl in
    (chars_past_char (b ∷ bs) bs b utf8 parts, IsUtf8-past_char (b ∷ bs) bs b utf8 parts)

pub past_small : (front rest : List ℕ) → list_all is_small front ≡ true → IsUtf8 (front ++ rest)
    → (chars (front ++ rest) ≡ front ++ chars rest) × IsUtf8 rest
past_small [] rest all utf8 = (refl, utf8)
past_small (b ∷ front) rest all utf8 =
    let parts = and_parts (is_small b) (list_all is_small front) all in
    let (first, later) = first_char b (front ++ rest) parts.0 utf8 in
    let (same, left) = past_small front rest parts.1 later in
    (first ∙ ap (λ (cs : List ℕ). b ∷ cs) same, left)

small_ascii : (bs : List ℕ) → list_all is_small bs ≡ true → IsAscii bs
small_ascii [] all i = omega arith
small_ascii (b ∷ bs) all zero = ltb-true b 128 (and_parts (is_small b) (list_all is_small bs) all).0
small_ascii (b ∷ bs) all (suc i) = small_ascii bs (and_parts (is_small b) (list_all is_small bs) all).1 i

pub small_utf8 : (bs : List ℕ) → list_all is_small bs ≡ true → IsUtf8 bs
small_utf8 bs all = IsUtf8-from_ascii bs (small_ascii bs all)

pub small_chars : (bs : List ℕ) → list_all is_small bs ≡ true → chars bs ≡ bs
small_chars bs all = chars-IsAscii bs (small_ascii bs all)

-- ---- The last byte

ends_append : (test : ℕ → Bool) (xs : List ℕ) (y : ℕ) (ys : List ℕ) → ends_in test (xs ++ y ∷ ys) ≡ ends_in test (y ∷ ys)
ends_append test [] y ys = refl
ends_append test (x ∷ []) y ys = refl
ends_append test (x ∷ z ∷ xs) y ys = ends_append test (z ∷ xs) y ys

some_items : (xs : List ℕ) → 1 ≤ length xs → (b : ℕ) × (bs : List ℕ) × (xs ≡ b ∷ bs)
some_items [] h = absurd (omega (arith, h))
some_items (x ∷ xs) h = (x, xs, refl)

some_bytes : (c : ℕ) (cs : List ℕ) → (b : ℕ) × (bs : List ℕ) × (encodes (c ∷ cs) ≡ b ∷ bs)
some_bytes c cs =
    let least = (len_utf8_bounds c).0 in
    some_items (encode c ++ encodes cs) (omega (arith, length-append (encode c) (encodes cs), length-encode c, least))

ends_bytes : (cs : List ℕ) → ends_in is_digit cs ≡ true → ends_in is_digit (encodes cs) ≡ true
ends_bytes [] h = cc
ends_bytes (c ∷ []) h =
    let own : encodes (c ∷ []) ≡ c ∷ [] =
    rw (encode_ascii c (ltb-true c 128 (digit_small c h))) refl in
    rw own h
ends_bytes (c ∷ d ∷ cs) h =
    let (b, bs, is) = some_bytes d cs in
    let later = rw is at (ends_bytes (d ∷ cs) h) in
    let whole : encodes (c ∷ d ∷ cs) ≡ encode c ++ b ∷ bs = ap (λ (xs : List ℕ). encode c ++ xs) is in
    ap (ends_in is_digit) whole ∙ ends_append is_digit (encode c) b bs ∙ later

pub ends_chars : (bs : List ℕ) → IsUtf8 bs → ends_in is_digit bs ≡ false → ends_in is_digit (chars bs) ≡ false
ends_chars bs utf8 h =
    false_from_ne_true (ends_in is_digit (chars bs)) (λ t. cc (h, rw (encodes-chars bs utf8) at (ends_bytes (chars bs) t)))

pub last_ends : (test : ℕ → Bool) (bs : List ℕ) (n : ℕ) → suc n ≡ length bs → ends_in test bs ≡ test (get_or bs n 0)
last_ends test [] n e = absurd (omega (arith, e))
last_ends test (b ∷ []) zero e = refl
last_ends test (b ∷ []) (suc n) e = absurd (omega (arith, e))
last_ends test (b ∷ d ∷ bs) zero e = absurd (omega (arith, e))
last_ends test (b ∷ d ∷ bs) (suc n) e = last_ends test (d ∷ bs) n (omega (arith, e))

-- ---- The run at the end

pub record EndParts (test : ℕ → Bool) (bs : List ℕ) : Type 0 where
  pub front : List ℕ
  pub parts : bs ≡ front ++ end_run test bs
  pub ends : ends_in test front ≡ false
  pub all : list_all test (end_run test bs) ≡ true

longer_end : (test : ℕ → Bool) (b : ℕ) (front run : List ℕ) → ends_in test front ≡ false → list_all test run ≡ true
    → list_all test (b ∷ (front ++ run)) ≡ false → ends_in test (b ∷ front) ≡ false
longer_end test b [] run ends all fails = false_from_ne_true (test b) (λ t. cc (and_from _ _ t all, fails))
longer_end test b (d ∷ front) run ends all fails = ends

pub end_parts : (test : ℕ → Bool) (bs : List ℕ) → EndParts test bs
end_parts test [] = record { front = []; parts = refl; ends = refl; all = refl }
end_parts test (b ∷ bs) = elim (cases_Bool (list_all test (b ∷ bs))) [
  | inl every ↦ record { front = []; parts = rw every refl; ends = refl; all = rw every every }
  | inr some ↦
      let later : EndParts test bs = end_parts test bs in
      let fails : list_all test (b ∷ (later.front ++ end_run test bs)) ≡ false = rw (← later.parts) some in
      record {
        front = b ∷ later.front;
        parts = rw some (ap (λ (xs : List ℕ). b ∷ xs) later.parts);
        ends = longer_end test b later.front (end_run test bs) later.ends later.all fails;
        all = rw some later.all;
      }
]

-- ---- The run at the start

pub record RunParts (test : ℕ → Bool) (bs : List ℕ) : Type 0 where
  pub all : list_all test (take (prefix_len test bs) bs) ≡ true
  pub stops : Stops test (drop (prefix_len test bs) bs)

pub run_cons : (test : ℕ → Bool) (b : ℕ) (bs : List ℕ) → test b ≡ true → prefix_len test (b ∷ bs) ≡ suc (prefix_len test bs)
run_cons test b bs h = rw h (omega arith)

pub run_stops : (test : ℕ → Bool) (b : ℕ) (bs : List ℕ) → test b ≡ false → prefix_len test (b ∷ bs) ≡ 0
run_stops test b bs h = rw h refl

pub run_parts : (test : ℕ → Bool) (bs : List ℕ) → RunParts test bs
run_parts test [] = record { all = refl; stops = tt }
run_parts test (b ∷ bs) = elim (cases_Bool (test b)) [
  | inl passes ↦
      let later : RunParts test bs = run_parts test bs in
      let more = run_cons test b bs passes in
      record { all = rw more (and_from _ _ passes later.all); stops = rw more later.stops }
  | inr fails ↦
      let none = run_stops test b bs fails in
      record { all = rw none refl; stops = rw none fails }
]

-- ---- The first character

starts_digit : (bs cs : List ℕ) (c : ℕ) → IsUtf8 bs → chars bs ≡ c ∷ cs → is_digit c ≡ true → Stops is_digit bs → ⊥
starts_digit bs cs c utf8 is digit stops =
    let own : encodes (c ∷ cs) ≡ c ∷ encodes cs = rw (encode_ascii c (ltb-true c 128 (digit_small c digit))) refl in
    let whole : bs ≡ c ∷ encodes cs = sym (encodes-chars bs utf8) ∙ ap encodes is ∙ own in
    cc (digit, rw whole at stops)

pub first_digit : (bs : List ℕ) → IsUtf8 bs → Stops is_digit bs → Stops is_digit (chars bs)
first_digit bs utf8 stops = by (chars bs) refl
  where
    by : (cs : List ℕ) → chars bs ≡ cs → Stops is_digit cs
    by [] is = tt
    by (c ∷ cs) is = false_from_ne_true (is_digit c) (λ digit. starts_digit bs cs c utf8 is digit stops)

-- ---- Digits at the end

pub record EndCut (bs : List ℕ) : Type 0 where
  pub front : List ℕ
  pub parts : bs ≡ front ++ end_run is_digit bs
  pub utf8 : IsUtf8 front
  pub spelled : chars bs ≡ chars front ++ end_run is_digit bs
  pub digits : list_all is_digit (end_run is_digit bs) ≡ true
  pub ends : ends_in is_digit (chars front) ≡ false

before_small : (front run : List ℕ) → IsUtf8 (front ++ run) → list_all is_small run ≡ true → IsUtf8 front
before_small front run utf8 small =
    let cut = IsCharBoundary-at_seam (front ++ run) front run refl (small_utf8 run small) in
    rw (take-append_seam front run) at (IsUtf8-take (front ++ run) (length front) utf8 cut)

pub end_cut : (bs : List ℕ) → IsUtf8 bs → EndCut bs
end_cut bs utf8 =
    let run = end_run is_digit bs in
    let e : EndParts is_digit bs = end_parts is_digit bs in
    let small = all_weaker is_digit is_small run digit_small e.all in
    let front_utf8 = before_small e.front run (rw e.parts at utf8) small in
    record {
      front = e.front;
      parts = e.parts;
      utf8 = front_utf8;
      spelled = ap chars e.parts ∙ chars-append e.front run front_utf8 ∙ ap (λ (cs : List ℕ). chars e.front ++ cs) (small_chars run small);
      digits = e.all;
      ends = ends_chars e.front front_utf8 e.ends;
    }

-- whether the last byte is a digit, by its index
pub ends_by_last : (test : ℕ → Bool) (bs : List ℕ) → test 0 ≡ false
    → ends_in test bs ≡ test (slice_index bs (length bs - 1))
ends_by_last test [] none = sym none
ends_by_last test (b ∷ bs) none = last_ends test (b ∷ bs) (length (b ∷ bs) - 1) (omega arith)

pub some_end : (test : ℕ → Bool) (bs : List ℕ) → ends_in test bs ≡ true → end_run test bs ≢ []
some_end test bs h none =
    let e : EndParts test bs = end_parts test bs in
    let whole : bs ≡ e.front = e.parts ∙ ap (λ (xs : List ℕ). e.front ++ xs) none ∙ append-nil e.front in
    cc (rw (← whole) at e.ends, h)

pub small_len : (bs : List ℕ) → list_all is_small bs ≡ true → byte_len bs ≡ length bs
small_len bs small = ap byte_len (sym (small_chars bs small)) ∙ byte_count bs (small_utf8 bs small)

pub plain_no_letter : (b : ℕ) → is_small b ≡ true → is_ascii_alphabetic b ≡ false → is_letter b ≡ false
plain_no_letter b small other =
    let below : nat_le 0x80 b ≡ false = grind (arith, nat_tests) in
    rw (other, below) refl

pub blank_no_letter : (b : ℕ) → is_blank b ≡ true → is_letter b ≡ false
blank_no_letter b blank = plain_no_letter b (blank_small b blank) (grind (arith, nat_tests))
