-- A text that is only a number with a fraction and its unit: its suggestion has the same value.
use Rattle.std.specs.List.{prefix_len}
use Rattle.duration_str_laws.proofs.Common.{[], add-zero, ahead, and_from, and_parts, ap, append-nil, arith, BeginsSentence, Bool, byte_len, cases_Bool, chars, codes, decimal, drop, drop_all, encode_ascii, encode_utf8_all, encodes-chars, EndsRun, eqb-true, Expected, false, false_from_ne_true, fits, if◌then◌else◌, inl, inr, is_ascii_alphabetic, is_blank, is_digit, is_unit_letter, IsBlank, IsRead, IsRefused, IsUtf8, length, length-append, lexemes_of, List, list_all, map, meaning_of, nat_le, nat_tests, ne_eqb, None, not, number, number_of, off, Option, option_map, Options, or_right, other, refl, Rules, Second, Some, Spells, Stops, suc, sym, Syntax, take, take_while, take_while-cons, Terminal, terminal_of, terminals_of, TimeUnit, Token, tokens_from, tokens_of, true, unit_of_word, word, ℕ, ◌&&◌, ◌*◌, ◌++◌, ◌+◌, ◌-◌, ◌/◌, ◌<◌, ◌==◌, ◌^◌, ◌||◌, ◌∙◌, ◌∷◌, ◌≡◌, ◌≤◌}
use Rattle.std.proofs.lemmas.List.{drop-drop, get_or-append-add, take_all}
use Rattle.std.proofs.Math.Nat.{div-le_self}
use Rattle.std.proofs.Math.Seq.{drop-append_seam, take-append_seam}
use Rattle.std.proofs.lemmas.List.Folds.{list_all_at}
use Rattle.std.specs.Prelude.{slice_index}
use Rattle.duration_str_help.specs.declared.help.Help.TheVariants.{Fraction}
use Rattle.duration_str_help.specs.declared.suggestion.Replacement.{Replacement}
use Rattle.duration_str_base.specs.declared.rules.Rules.{Rules as CodeRules}
use Rattle.duration_str_help.specs.Fraction.{as_term, longest_whole, nanos_of_fraction}
use Rattle.duration_str_laws.specs.Mended.{FractionsAreMended, IsFraction, mended_text, MendedFractions}
use Rattle.duration_str_help.specs.Help.{begins_with_letter, first_piece, help_name, is_letter, is_like, syntax_help}
use Rattle.duration_str_help.specs.Mends.{fraction_replacement, fraction_with, meant_unit, replacement_of, Pieces, pieces_of, unit_ahead}
use Rattle.duration_str_base.proofs.CharacterLemmas.{all_weaker, digit-not_blank}
use Rattle.duration_str_reading.proofs.Cutting.RunLemmas.{decimal_terminal}
use Rattle.duration_str_reading.proofs.Cutting.TokenLemmas.{tokens_step}
use Rattle.duration_str_help.proofs.FractionLemmas.{end_all, quotient_some}
use Rattle.duration_str_help.proofs.MendedBytes.{blank_no_letter, blank_small, digit_small, first_char, is_small, past_small, plain_no_letter, run_cons, run_stops, small_len}
use Rattle.duration_str_laws.proofs.MendedNames.{IsWritten, name_read, written, meant_letters, are_letters, meant_short}
use Rattle.duration_str_laws.proofs.MendedNumbers.{digits_token}
use Rattle.duration_str_laws.proofs.MendedTerms.{scaled, term_bytes, value_parts, whole_unit}
use Rattle.duration_str_laws.proofs.MendedTokens.{refused_at}
use Rattle.duration_str_reading.proofs.Sentences.AnswerLemmas.{fitting_sum_read, IsSumOf}
use Rattle.duration_str_reading.proofs.Sentences.SpellingLemmas.{begins_with}

-- ---- One term is read

word_of : (r : Rules) (name : List ℕ) (u : TimeUnit) → IsWritten r name → unit_of_word r name ≡ Some u
    → terminal_of r name ≡ word (Some u)
word_of r [] u is read = absurd is
word_of r (c ∷ cs) u is read = is.2 ∙ ap word read

term_read : (s : CodeRules) (count nanos : ℕ) (v : TimeUnit) → count < 2 ^ 64 → nanos < 2 ^ 64
    → count * ((meaning_of s).table v).nanos ≡ nanos
    → IsRead (meaning_of s) (decimal count ++ help_name v) nanos
term_read s count nanos v small below is =
    let r = meaning_of s in
    let lexemes : List (List ℕ) = decimal count ∷ help_name v ∷ [] in
    let named = word_of r (help_name v) v (written r v) (name_read s v) in
    let terminals : map (terminal_of r) lexemes ≡ number count ∷ word (Some v) ∷ [] =
    rw (decimal_terminal r count small, named) refl in
    let last : Spells (help_name v ∷ []) (help_name v) =
    begins_with [] [] refl (sym (append-nil (help_name v))) refl in
    let spelled : Spells lexemes (decimal count ++ help_name v) = begins_with [] (help_name v) refl refl last in
    let sum : IsSumOf r lexemes (decimal count ++ help_name v) =
    record { sentence = (rw terminals tt, spelled); plus = rw terminals tt } in
    fitting_sum_read {r = r} {lexemes = lexemes} {text = decimal count ++ help_name v} {nanos = nanos} sum
    (rw terminals (small, omega (arith, is, below), tt)) (rw terminals (omega (arith, is))) below

-- ---- The name

all_like : (c : ℕ) (cs : List ℕ) → is_letter c ≡ true → list_all is_letter cs ≡ true → take_while (is_like c) cs ≡ cs
all_like c [] letter all = refl
all_like c (d ∷ cs) letter all =
    let parts = and_parts (is_letter d) (list_all is_letter cs) all in
    let like : is_like c d ≡ true = or_right (is_digit d && is_digit c) _ (and_from _ _ parts.0 letter) in
    rw (take_while-cons (is_like c) d cs, like) (ap (λ (ds : List ℕ). d ∷ ds) (all_like c cs letter parts.1))

whole_piece : (w : List ℕ) → are_letters w ≡ true → length w ≤ 12 → first_piece w ≡ w
whole_piece [] letters short = refl
whole_piece (c ∷ cs) letters short =
    let parts = and_parts (is_letter c) _ letters in
    let more = (and_parts (is_letter c) (list_all is_letter cs) parts.1).1 in
    ap (λ (ds : List ℕ). c ∷ ds) (ap (take 40) (all_like c cs parts.0 more) ∙ take_all 40 cs (omega (arith, short)))

-- ---- The place

point_letter : (o : Options) → is_unit_letter o 46 ≡ false
point_letter o = elim (cases_Bool o.cn_unit) [ inl on ↦ rw on refl | inr off ↦ rw off refl ]

point_ends : (o : Options) (rest : List ℕ) → EndsRun o (codes ".") rest
point_ends o [] = refl
point_ends o (d ∷ rest) = rw (point_letter o) refl

point_token : (o : Options) (at : ℕ) (rest : List ℕ)
    → tokens_from o at (46 ∷ rest) ≡ record { start = at; characters = codes "." } ∷ tokens_from o (at + 1) rest
point_token o at rest =
    let step = tokens_step o at [] (codes ".") rest refl (refl, refl) (point_ends o rest) in
    simp add-zero at step

point_terminal : (r : Rules) → terminal_of r (codes ".") ≡ other
point_terminal r = rw (point_letter r.options) refl

no_front : (r : Rules) (ts front left : List Terminal) → other ∷ ts ≡ front ++ left → BeginsSentence r front → front ≡ []
no_front r ts [] left parts begins = refl
no_front r ts (t ∷ front) left parts (more, sentence) =
    let head : t ≡ other = cc in
    absurd (rw head at sentence)

one_front : (r : Rules) (n : ℕ) (ts front left : List Terminal) → number n ∷ other ∷ ts ≡ front ++ left
    → BeginsSentence r front → length front ≤ 1
one_front r n ts [] left parts begins = omega arith
one_front r n ts (t ∷ []) left parts begins = omega arith
one_front r n ts (t ∷ u ∷ front) left parts (more, sentence) =
    let head : t ≡ number n = cc in
    let next : u ≡ other = cc in
    absurd (rw (head, next) at sentence)

number_begins : (r : Rules) (n : ℕ) → BeginsSentence r (number n ∷ [])
number_begins r n = (word (Some Second) ∷ [], tt)

point_place : (r : Rules) (whole rest : List ℕ) (place : ℕ) (expected : Expected) → list_all is_digit whole ≡ true
    → IsRefused r (whole ++ 46 ∷ rest) (Syntax place expected)
    → (place ≡ byte_len whole) × (length whole ≡ 0 → expected.number ≡ true)
point_place r [] rest place expected digits (front, left, is_front, refused) =
    let o = r.options in
    let cut : tokens_of o (46 ∷ rest) ≡ record { start = 0; characters = codes "." } ∷ tokens_from o 1 rest = point_token o 0 rest in
    let at_front = refused_at r _ front left _ place expected refused refl in
    let all : terminals_of r (46 ∷ rest) ≡ other ∷ map (terminal_of r) (lexemes_of (tokens_from o 1 rest)) =
    rw (cut, point_terminal r) refl in
    let none = no_front r _ front left (sym all ∙ is_front.parts) is_front.begins in
    let can = rw none at at_front.1 in
    (rw (none, cut) at at_front.0, λ e. can.number_expected.1 (0, number_begins r 0))
point_place r (w ∷ ws) rest place expected digits (front, left, is_front, refused) =
    let o = r.options in
    let whole = w ∷ ws in
    let text = whole ++ 46 ∷ rest in
    let at = 0 + byte_len whole in
    let count : Token = record { start = 0; characters = whole } in
    let point : Token = record { start = at; characters = codes "." } in
    let cut : tokens_of o text ≡ count ∷ point ∷ tokens_from o (at + 1) rest =
    digits_token o 0 w ws (46 ∷ rest) digits refl ∙ ap (λ (ts : List Token). count ∷ ts) (point_token o at rest) in
    let ts = map (terminal_of r) (lexemes_of (tokens_from o (at + 1) rest)) in
    let all : terminals_of r text ≡ number (number_of whole) ∷ other ∷ ts = rw (cut, digits, point_terminal r) refl in
    let at_front = refused_at r _ front left _ place expected refused refl in
    let most = one_front r (number_of whole) ts front left (sym all ∙ is_front.parts) is_front.begins in
    let some : 1 ≤ length (terminals_of r text) = rw all (omega arith) in
    let least = is_front.longest 1 some (rw all (number_begins r (number_of whole))) in
    let n : length front ≡ 1 = omega (arith, most, least) in
    let found : place ≡ 0 + byte_len whole = rw (n, cut) at at_front.0 in
    (omega (arith, found), λ e. absurd (omega (arith, e)))

-- ---- The mend

point_bytes : encode_utf8_all (codes ".") ≡ codes "."
point_bytes = rw (encode_ascii 46 (omega arith)) refl

digit_last : (digits : List ℕ) → list_all is_digit digits ≡ true
    → (let last = slice_index digits (length digits - 1) in is_ascii_alphabetic last || nat_le 0x80 last) ≡ false
digit_last [] all = refl
digit_last (d ∷ digits) all = elim (cases_Bool (is_digit (slice_index (d ∷ digits) (length (d ∷ digits) - 1)))) [
  | inl digit ↦ no_letter (slice_index (d ∷ digits) (length (d ∷ digits) - 1)) digit
  | inr fails ↦ absurd (cc (list_all_at is_digit (d ∷ digits) (length (d ∷ digits) - 1) 0 (omega arith) fails, all))
]
  where
    no_letter : (b : ℕ) → is_digit b ≡ true → (is_ascii_alphabetic b || nat_le 0x80 b) ≡ false
    no_letter b digit = grind (arith, nat_tests)

none_of_three : (a b : Bool) → (a && b && false) ≡ false
none_of_three a b = grind arith

none_of_two : (a : Bool) → (a && false) ≡ false
none_of_two a = grind arith

-- The help for a point after digits, or at the start, and before a digit.
point_help : (text : List ℕ) (place : ℕ) (expected : Expected) → list_all is_digit (take place text) ≡ true
    → is_digit (slice_index text (place + 1)) ≡ true → syntax_help text place expected (codes ".") ≡ Some Fraction
point_help text place expected before after =
    rw (
      none_of_two expected.unit_word,
      point_bytes,
      none_of_three expected.number expected.text_end,
      digit_last (take place text) before,
      after,
    ) refl

point_piece : (cs : List ℕ) → first_piece (46 ∷ cs) ≡ codes "."
point_piece [] = refl
point_piece (d ∷ cs) =
    let unlike : is_like 46 d ≡ false = neither (is_digit d) (is_letter d) in
    rw (take_while-cons (is_like 46) d cs, unlike) refl
  where
    neither : (a b : Bool) → ((a && false) || (b && false)) ≡ false
    neither a b = grind arith

-- ---- The text

run_exact : (test : ℕ → Bool) (front rest : List ℕ) → list_all test front ≡ true → Stops test rest
    → prefix_len test (front ++ rest) ≡ length front
run_exact test [] [] all stops = refl
run_exact test [] (b ∷ rest) all stops = run_stops test b rest stops
run_exact test (b ∷ front) rest all stops =
    let parts = and_parts (test b) (list_all test front) all in
    rw (run_cons test b (front ++ rest) parts.0, run_exact test front rest parts.1 stops) refl

stops_before_letter : (test : ℕ → Bool) (bytes : List ℕ) → IsUtf8 bytes → begins_with_letter (chars bytes) ≡ true
    → ((b : ℕ) → test b ≡ true → (is_small b ≡ true) × (is_letter b ≡ false)) → Stops test bytes
stops_before_letter test [] utf8 letter apart = tt
stops_before_letter test (b ∷ bytes) utf8 letter apart = false_from_ne_true (test b) (λ t.
    let own = apart b t in cc (own.1, rw ((first_char b bytes own.0 utf8).0) at letter))

digit_apart : (b : ℕ) → is_digit b ≡ true → (is_small b ≡ true) × (is_letter b ≡ false)
digit_apart b digit =
    let small = digit_small b digit in
    (small, plain_no_letter b small (grind (arith, nat_tests)))

blank_apart : (b : ℕ) → is_blank b ≡ true → (is_small b ≡ true) × (is_letter b ≡ false)
blank_apart b blank = (blank_small b blank, blank_no_letter b blank)

stops_after_blanks : (blanks name : List ℕ) → IsBlank blanks → Stops is_digit name → Stops is_digit (blanks ++ name)
stops_after_blanks [] name blank stops = stops
stops_after_blanks (b ∷ blanks) name blank stops =
    false_from_ne_true (is_digit b) (λ t. cc (digit-not_blank b t, (and_parts (is_blank b) _ blank).0))

-- The characters of such a text, and the lengths of its parts.
record IsSpelled (whole after : List ℕ) : Type 0 where
  spelled : chars (whole ++ 46 ∷ after) ≡ whole ++ 46 ∷ chars after
  point : chars (46 ∷ after) ≡ 46 ∷ chars after
  utf8 : IsUtf8 after

spelled_point : (whole after : List ℕ) → list_all is_digit whole ≡ true → IsUtf8 (whole ++ 46 ∷ after) → IsSpelled whole after
spelled_point whole after digits utf8 =
    let first = past_small whole (46 ∷ after) (all_weaker is_digit _ whole digit_small digits) utf8 in
    let second = first_char 46 after refl first.1 in
    record {
      spelled = first.0 ∙ ap (λ (cs : List ℕ). whole ++ cs) second.0;
      point = second.0;
      utf8 = second.1;
    }

unit_found : (s : CodeRules) (blanks name : List ℕ) (unit : TimeUnit) → IsBlank blanks → IsUtf8 name
    → meant_unit (meaning_of s) (chars name) ≡ Some unit
    → unit_ahead (meaning_of s) (blanks ++ name) ≡ Some (unit, length blanks + length name)
unit_found s blanks name unit blank utf8 means =
    let letters = meant_letters s (chars name) unit means in
    let first = (and_parts (begins_with_letter (chars name)) _ letters).0 in
    let run = run_exact is_blank blanks name blank (stops_before_letter is_blank name utf8 first blank_apart) in
    let piece = whole_piece (chars name) letters (meant_short s (chars name) unit means) in
    rw (run, drop-append_seam blanks name, piece, first, means, encodes-chars name utf8) refl

-- the mend of a number with these digits, if these bytes follow it
abbrev mend_with : Rules → List ℕ → List ℕ → ℕ → List ℕ → Expected → Option Replacement
mend_with r whole decimals place bytes expected =
    if length decimals == 0 || (length whole == 0 && not expected.number) then None
    else fraction_with r whole decimals (place - length whole) (place + 1 + length decimals) (unit_ahead r bytes)

mend_found : (r : Rules) (whole decimals bytes : List ℕ) (expected : Expected) → list_all is_digit whole ≡ true
    → list_all is_digit decimals ≡ true → Stops is_digit bytes
    → fraction_replacement r (whole ++ 46 ∷ (decimals ++ bytes)) (length whole) expected
    ≡ mend_with r whole decimals (length whole) bytes expected
mend_found r whole decimals bytes expected digits more stops =
    let after = decimals ++ bytes in
    let text = whole ++ 46 ∷ after in
    let front : take (length whole) text ≡ whole = take-append_seam whole (46 ∷ after) in
    let back : drop (length whole + 1) text ≡ after =
    sym (drop-drop 1 (length whole) text) ∙ ap (drop 1) (drop-append_seam whole (46 ∷ after)) in
    let run = run_exact is_digit decimals bytes more stops in
    let rest : drop (length whole + 1 + length decimals) text ≡ bytes =
    sym (drop-drop (length decimals) (length whole + 1) text) ∙ ap (drop (length decimals)) back ∙ drop-append_seam decimals bytes in
    rw (front, end_all is_digit whole digits, back, run, take-append_seam decimals bytes, rest)
    (refl {a = mend_with r whole decimals (length whole) bytes expected})

first_decimal : (decimals bytes : List ℕ) → 1 ≤ length decimals → list_all is_digit decimals ≡ true
    → is_digit (slice_index (46 ∷ (decimals ++ bytes)) 1) ≡ true
first_decimal [] bytes some all = absurd (omega (arith, some))
first_decimal (d ∷ decimals) bytes some all = (and_parts (is_digit d) _ all).0

can_stand : (d w : ℕ) (b : Bool) → 1 ≤ d → (w ≡ 0 → b ≡ true) → (d == 0 || (w == 0 && not b)) ≡ false
can_stand d w b some can =
    let more : (d == 0) ≡ false = ne_eqb d 0 (λ e. omega (arith, some, e)) in
    elim (cases_Bool (w == 0)) [
      | inl none ↦ rw (more, none, can (eqb-true w 0 none)) refl
      | inr digits ↦ rw (more, digits) refl
    ]

-- The suggestion has a value, which times 10 for each digit after the point is the number without
-- its point times the unit's length.
abbrev IsScaled : CodeRules → List ℕ → List ℕ → TimeUnit → List ℕ → Type 0
IsScaled s whole decimals unit mended =
    (nanos : ℕ) × IsRead (meaning_of s) (chars mended) nanos
    × (nanos * 10 ^ length decimals ≡ number_of (whole ++ decimals) * ((meaning_of s).table unit).nanos)

module _ (s : CodeRules) (text whole decimals : List ℕ) (unit : TimeUnit) (f : IsFraction s text whole decimals unit) where
  -- the bytes after the point
  abbrev after : List ℕ
  after = decimals ++ (f.blanks ++ f.word)

  abbrev unit_nanos : ℕ
  unit_nanos = ((meaning_of s).table unit).nanos

  -- The mend that writes these nanoseconds as one term.
  abbrev term_mend : ℕ → Replacement
  term_mend nanos = record {
    start = length whole - length whole;
    end = length whole + 1 + length decimals + (length f.blanks + length f.word);
    suggestion = as_term (meaning_of s).table unit nanos;
  }

  term_scaled : (nanos : ℕ) → nanos_of_fraction whole decimals unit_nanos ≡ Some nanos
      → let new = pieces_of text (term_mend nanos) in
      IsScaled s whole decimals unit (mended_text new) × (new.front ≡ []) × (new.rest ≡ [])
  term_scaled nanos value =
      let r = meaning_of s in
      let v = longest_whole r.table unit nanos in
      let count = nanos / (r.table v).nanos in
      let q = value_parts whole decimals unit_nanos nanos value in
      let small : count < 2 ^ 64 = omega (arith, q.fits, div-le_self nanos (r.table v).nanos) in
      let read = term_read s count nanos v small q.fits (whole_unit s unit nanos) in
      let start : length whole - length whole ≡ 0 = omega arith in
      let long : length text ≡ length whole + suc (length decimals + (length f.blanks + length f.word)) =
      ap length f.parts ∙ simp length-append refl in
      let end = length whole + 1 + length decimals + (length f.blanks + length f.word) in
      let rest : drop end text ≡ [] = drop_all end text (omega (arith, long)) in
      rw (start, rest, append-nil)
      ((nanos, rw (term_bytes count v small).1 read, scaled whole decimals unit_nanos nanos q), refl, refl)

  mend_is : (place : ℕ) (expected : Expected) → IsUtf8 text → IsRefused (meaning_of s) (chars text) (Syntax place expected)
      → replacement_of (meaning_of s) text (Syntax place expected)
      ≡ option_map term_mend (nanos_of_fraction whole decimals unit_nanos)
  mend_is place expected utf8 refused =
      let r = meaning_of s in
      let same = whole ++ 46 ∷ after in
      let k : IsSpelled whole after = spelled_point whole after f.whole_digits (rw f.parts at utf8) in
      let small = all_weaker is_digit _ decimals digit_small f.decimal_digits in
      let bytes_utf8 = (past_small decimals (f.blanks ++ f.word) small k.utf8).1 in
      let word_utf8 = (past_small f.blanks f.word (all_weaker is_blank _ f.blanks blank_small f.blank) bytes_utf8).1 in
      let letters = meant_letters s (chars f.word) unit f.means in
      let first = (and_parts (begins_with_letter (chars f.word)) _ letters).0 in
      let stops = stops_after_blanks f.blanks f.word f.blank (stops_before_letter is_digit f.word word_utf8 first digit_apart) in
      let at = point_place r whole (chars after) place expected f.whole_digits (rw (f.parts, k.spelled) at refused) in
      let n : place ≡ length whole = at.0 ∙ small_len whole (all_weaker is_digit _ whole digit_small f.whole_digits) in
      let piece : first_piece (ahead same (length whole)) ≡ codes "." =
      ap (λ (bs : List ℕ). first_piece (chars bs)) (drop-append_seam whole (46 ∷ after)) ∙ ap first_piece k.point
      ∙ point_piece (chars after) in
      let front : list_all is_digit (take (length whole) same) ≡ true =
      ap (list_all is_digit) (take-append_seam whole (46 ∷ after)) ∙ f.whole_digits in
      let next : is_digit (slice_index same (length whole + 1)) ≡ true =
      ap is_digit (get_or-append-add whole (46 ∷ after) 1 0)
      ∙ first_decimal decimals (f.blanks ++ f.word) f.some_decimal f.decimal_digits in
      let asked : replacement_of r same (Syntax place expected) ≡ fraction_replacement r same (length whole) expected =
      rw (n, piece, point_help same (length whole) expected front next) refl in
      ap (λ (bs : List ℕ). replacement_of r bs (Syntax place expected)) f.parts ∙ asked
      ∙ mend_found r whole decimals (f.blanks ++ f.word) expected f.whole_digits f.decimal_digits stops
      ∙ rw (
        can_stand (length decimals) (length whole) expected.number f.some_decimal at.1,
        unit_found s f.blanks f.word unit f.blank word_utf8 f.means,
      ) refl

  mended_scaled : (value : Option ℕ) (new : Pieces) → nanos_of_fraction whole decimals unit_nanos ≡ value
      → option_map (pieces_of text) (option_map term_mend value) ≡ Some new → IsScaled s whole decimals unit (mended_text new)
  mended_scaled None new value is = absurd cc
  mended_scaled (Some nanos) new value is =
      let same : pieces_of text (term_mend nanos) ≡ new = cc in rw (← same) (term_scaled nanos value).0

pub mended_fractions_hold : MendedFractions
mended_fractions_hold s text whole decimals unit (Syntax place expected) new utf8 f refused is =
    let replacement = mend_is s text whole decimals unit f place expected utf8 refused in
    mended_scaled s text whole decimals unit f _ new refl (rw replacement at is)
mended_fractions_hold s text whole decimals unit cause new utf8 f refused is = cc

pub fractions_are_mended : FractionsAreMended
fractions_are_mended s text whole decimals unit place expected nanos utf8 f refused is below =
    let fit : fits nanos ≡ true = grind (arith, nat_tests) in
    let value : nanos_of_fraction whole decimals ((meaning_of s).table unit).nanos ≡ Some nanos =
    quotient_some nanos _ (length decimals) is ∙ rw fit refl in
    let (scaled, front, rest) = term_scaled s text whole decimals unit f nanos value in
    let new = pieces_of text (term_mend s text whole decimals unit f nanos) in
    (new, rw (mend_is s text whole decimals unit f place expected utf8 refused, value) refl, front, rest)
