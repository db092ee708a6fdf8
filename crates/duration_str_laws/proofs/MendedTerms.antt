-- The mend of a number with a fraction: one term in place of the number and its unit.
use Rattle.std.specs.List.{prefix_len}
use Rattle.duration_str_laws.proofs.Common.{[], ahead, and_from, and_parts, ap, append-nil, append_assoc, arith, Bool, byte_len, bytes_eq, bytes_eq-Decides, cases_Bool, chars, chars-append, chars-encodes, chars-nil, codes, decimal, decimal_nonempty, digits_decimal, digits_value-decimal, div-add-mod', drop, encode_utf8_all, eqb-true, Expected, false, find, fits, Humantime, inl, inr, is_blank, is_digit, is_some, IsBlank, IsRefused, IsTrue, IsUtf8, IsUtf8-append, length, length-append, List, list_all, list_all-append, ltb-true, meaning_of, More, NanoSecond, nat_le, nat_tests, None, not, number, number_of, operator_of, Option, option_map, Own, refl, Rules, Some, Stops, subst, suc, sym, Syntax, table_of, take, take-append-drop, terminals_of, TimeUnit, true, units, UnitTable, unwrap_or, word, zero, ℕ, ◌%◌, ◌&&◌, ◌*◌, ◌++◌, ◌+◌, ◌-◌, ◌/◌, ◌<◌, ◌==◌, ◌^◌, ◌||◌, ◌∙◌, ◌∷◌, ◌≡◌, ◌≢◌, ◌≤◌, ◌⊎◌}
use Rattle.std.proofs.lemmas.List.Folds.{length-prefix_len}
use Rattle.std.proofs.Math.Nat.{div-le_self}
use Rattle.std.proofs.Math.Seq.{drop-append_seam, take-append_seam}
use Rattle.duration_str_laws.specs.Mended.{IsBareFraction, IsExactly, IsFraction}
use Rattle.duration_str_help.specs.declared.suggestion.Suggestion.{Suggestion}
use Rattle.duration_str_help.specs.declared.suggestion.Replacement.{Replacement}
use Rattle.duration_str_base.specs.declared.rules.Rules.{Rules as CodeRules}
use Rattle.duration_str_help.specs.Fraction.{as_term, end_run, is_whole_in, longest_whole, nanos_of_fraction, whole_quotient}
use Rattle.duration_str_help.specs.Help.{begins_with_letter, first_piece, help_name, is_letter}
use Rattle.duration_str_help.specs.Mends.{can_end_number, fraction_replacement, fraction_with, meant_unit, unit_ahead}
use Rattle.duration_str_base.proofs.CharacterLemmas.{all_weaker}
use Rattle.duration_str_base.proofs.NumberLemmas.{decimal_digits}
use Rattle.duration_str_help.proofs.MendedBytes.{blank_no_letter, blank_small, digit_small, EndCut, first_char, is_small, past_small, plain_no_letter, run_parts, run_stops, RunParts, small_chars, small_utf8}
use Rattle.duration_str_laws.proofs.MendedNames.{name_read, name_scalars, written, meant_short}
use Rattle.duration_str_laws.proofs.MendedNumbers.{term_in_place, term_said}
use Rattle.duration_str_laws.proofs.MendedPlaces.{after_place, IsMended, IsPlaced, bytes_at}
use Rattle.duration_str_help.proofs.MendedLemmas.{after_piece, cut_piece, IsCut, piece_stops}
use Rattle.std.specs.Prelude.{IfSome}

-- ---- The parts of a mend

-- What holds of each replacement by a term holds of this one, if there is one.
fraction_some : (r : Rules) (whole decimals : List ℕ) (start end : ℕ) (ahead : Option (TimeUnit × ℕ)) (P : Replacement → Type 0)
    → ((u : TimeUnit) (more nanos : ℕ) → ahead ≡ Some (u, more) → nanos_of_fraction whole decimals (r.table u).nanos ≡ Some nanos
    → P (record { start = start; end = end + more; suggestion = as_term r.table u nanos }))
    → IfSome (fraction_with r whole decimals start end ahead) P
fraction_some r whole decimals start end None P holds = tt
fraction_some r whole decimals start end (Some (u, more)) P holds = by (nanos_of_fraction whole decimals (r.table u).nanos) refl
  where
    by : (nanos : Option ℕ) → nanos_of_fraction whole decimals (r.table u).nanos ≡ nanos
        → IfSome (option_map (λ n. record { start = start; end = end + more; suggestion = as_term r.table u n }) nanos) P
    by None value = tt
    by (Some nanos) value = holds u more nanos refl value

-- The nanoseconds are the quotient without a remainder, and below 2^64.
pub record IsQuotient (m n nanos : ℕ) : Type 0 where
  pub whole : m % n ≡ 0
  pub quotient : m / n ≡ nanos
  pub fits : nanos < 2 ^ 64

quotient_parts : (m n nanos : ℕ) → whole_quotient m n ≡ Some nanos → IsQuotient m n nanos
quotient_parts m n nanos is = elim (cases_Bool (m % n == 0 && fits (m / n))) [
  | inl both ↦
      let parts = and_parts (m % n == 0) (fits (m / n)) both in
      let same : m / n ≡ nanos = cc (rw both at is) in
      record { whole = eqb-true (m % n) 0 parts.0; quotient = same; fits = rw same at (ltb-true (m / n) (2 ^ 64) parts.1) }
  | inr neither ↦ absurd (cc (rw neither at is))
]

pub value_parts : (whole decimals : List ℕ) (l nanos : ℕ) → nanos_of_fraction whole decimals l ≡ Some nanos
    → IsQuotient (number_of (whole ++ decimals) * l) (10 ^ length decimals) nanos
value_parts whole decimals l nanos is = quotient_parts _ _ nanos is

whole_times : (n d : ℕ) → n % d ≡ 0 → n / d * d ≡ n
whole_times n d e = omega (arith, div-add-mod' n d, e)

-- The value times 10 for each digit after the point.
pub scaled : (whole decimals : List ℕ) (l nanos : ℕ) → IsQuotient (number_of (whole ++ decimals) * l) (10 ^ length decimals) nanos
    → nanos * 10 ^ length decimals ≡ number_of (whole ++ decimals) * l
scaled whole decimals l nanos q =
    ap (λ (n : ℕ). n * 10 ^ length decimals) (sym q.quotient) ∙ whole_times _ (10 ^ length decimals) q.whole

found_passes : (test : TimeUnit → Bool) (us : List TimeUnit) (v : TimeUnit) → find test us ≡ Some v → test v ≡ true
found_passes test [] v e = absurd cc
found_passes test (u ∷ us) v e = elim (cases_Bool (test u)) [
  | inl passes ↦ let found = rw passes at e in let same : u ≡ v = cc in rw (← same) passes
  | inr fails ↦ found_passes test us v (rw fails at e)
]

one_nano : (table : UnitTable) → (table_of table NanoSecond).nanos ≡ 1
one_nano Own = refl
one_nano More = refl
one_nano Humantime = refl

pub whole_unit : (s : CodeRules) (u : TimeUnit) (nanos : ℕ)
    → let table = table_of s.table in
    nanos / (table (longest_whole table u nanos)).nanos * (table (longest_whole table u nanos)).nanos ≡ nanos
whole_unit s u nanos = by (find (is_whole_in (table_of s.table) u nanos) units) refl
  where
    by : (found : Option TimeUnit) → find (is_whole_in (table_of s.table) u nanos) units ≡ found
        → let l = (table_of s.table (unwrap_or found NanoSecond)).nanos in nanos / l * l ≡ nanos
    by None is = rw (one_nano s.table) (omega arith)
    by (Some v) is =
        let passes = found_passes (is_whole_in (table_of s.table) u nanos) units v is in
        whole_times nanos (table_of s.table v).nanos
        (eqb-true (nanos % (table_of s.table v).nanos) 0
        (and_parts (nat_le (table_of s.table v).nanos (table_of s.table u).nanos) _ passes).1)

-- ---- What follows the number

operator_no_letter : (b : ℕ) → is_some (operator_of b) ≡ true → (is_small b ≡ true) × (is_letter b ≡ false)
operator_no_letter b is =
    let small : is_small b ≡ true = grind (arith, nat_tests) in
    (small, plain_no_letter b small (grind (arith, nat_tests)))

ends_bare : (r : Rules) (bytes : List ℕ) → IsUtf8 bytes → can_end_number r (drop (prefix_len is_blank bytes) bytes) ≡ true
    → begins_with_letter (chars bytes) ≡ false
ends_bare r [] utf8 can = rw chars-nil refl
ends_bare r (b ∷ bs) utf8 can = elim (cases_Bool (is_blank b)) [
  | inl blank ↦ rw ((first_char b bs (blank_small b blank) utf8).0, blank_no_letter b blank) refl
  | inr solid ↦
      let sign = operator_no_letter b (and_parts (not r.options.no_calc) _ (rw (run_stops is_blank b bs solid) at can)).1 in
      rw ((first_char b bs sign.0 utf8).0, sign.1) refl
]

-- These bytes after a number say its unit.
abbrev pub HasUnit : CodeRules → List ℕ → TimeUnit → Type 0
HasUnit s named u =
    ((blanks : List ℕ) × (name : List ℕ) × (named ≡ blanks ++ name) × IsBlank blanks × IsUtf8 name
    × (meant_unit (meaning_of s) (chars name) ≡ Some u))
    ⊎ ((named ≡ []) × (s.default_unit ≡ Some u))

-- What follows a number: its unit, by a word or by default, and then no letter.
pub record IsUnitAhead (s : CodeRules) (bytes : List ℕ) (u : TimeUnit) (more : ℕ) : Type 0 where
  pub named : List ℕ
  pub rest : List ℕ
  pub parts : bytes ≡ named ++ rest
  pub long : length named ≡ more
  pub utf8 : IsUtf8 rest
  pub means : HasUnit s named u
  pub stops : begins_with_letter (chars rest) ≡ false

abbrev EndsNumber : CodeRules → List ℕ → Option (TimeUnit × ℕ) → Type 0
EndsNumber s bytes found = IfSome found (λ unit. IsUnitAhead s bytes unit.0 unit.1)

ends_named : (s : CodeRules) (blanks back : List ℕ) (n : ℕ) → length blanks ≡ n → IsBlank blanks → IsUtf8 back
    → begins_with_letter (first_piece (chars back)) ≡ true → (unit : Option TimeUnit)
    → meant_unit (meaning_of s) (first_piece (chars back)) ≡ unit
    → EndsNumber s (blanks ++ back) (option_map (λ u. (u, n + length (encode_utf8_all (first_piece (chars back))))) unit)
ends_named s blanks back n long blank utf8 letter None meant = tt
ends_named s blanks back n long blank utf8 letter (Some u) meant =
    let name = encode_utf8_all (first_piece (chars back)) in
    let cut : IsCut back = cut_piece back utf8 in
    let short = meant_short s (first_piece (chars back)) u meant in
    record {
      named = blanks ++ name;
      rest = after_piece back;
      parts = ap (λ (bs : List ℕ). blanks ++ bs) cut.parts ∙ sym (append_assoc blanks name (after_piece back));
      long = length-append blanks name ∙ omega (arith, long);
      utf8 = cut.rest_utf8;
      means = inl (blanks, name, refl, blank, cut.piece_utf8, rw cut.piece meant);
      stops = rw cut.rest (piece_stops (chars back) letter (omega (arith, short)));
    }

ends_unnamed : (s : CodeRules) (bytes : List ℕ) → IsUtf8 bytes
    → can_end_number (meaning_of s) (drop (prefix_len is_blank bytes) bytes) ≡ true → (unit : Option TimeUnit)
    → s.default_unit ≡ unit → EndsNumber s bytes (option_map (λ u. (u, 0)) unit)
ends_unnamed s bytes utf8 can None default = tt
ends_unnamed s bytes utf8 can (Some u) default = record {
  named = [];
  rest = bytes;
  parts = refl;
  long = refl;
  utf8 = utf8;
  means = inr (refl, default);
  stops = ends_bare (meaning_of s) bytes utf8 can;
}

unit_parts : (s : CodeRules) (bytes : List ℕ) → IsUtf8 bytes → EndsNumber s bytes (unit_ahead (meaning_of s) bytes)
unit_parts s bytes utf8 =
    let k = prefix_len is_blank bytes in
    let back = drop k bytes in
    let parts : RunParts is_blank bytes = run_parts is_blank bytes in
    let small = all_weaker is_blank _ (take k bytes) blank_small parts.all in
    let back_utf8 = (past_small (take k bytes) back small (rw take-append-drop utf8)).1 in
    elim (cases_Bool (begins_with_letter (first_piece (chars back)))) [
      | inl letter ↦
          rw letter (rw take-append-drop at (ends_named s (take k bytes) back k (length-prefix_len is_blank bytes) parts.all
          back_utf8 letter (meant_unit (meaning_of s) (first_piece (chars back))) refl))
      | inr other ↦ elim (cases_Bool (can_end_number (meaning_of s) back)) [
        | inl can ↦ rw (other, can) (ends_unnamed s bytes utf8 can s.default_unit refl)
        | inr cannot ↦ rw (other, cannot) tt
      ]
    ]

-- ---- The value of the term

is_fraction : (s : CodeRules) (whole decimals named : List ℕ) (unit : TimeUnit) → IsTrue (list_all is_digit whole)
    → IsTrue (list_all is_digit decimals) → 1 ≤ length decimals → HasUnit s named unit
    → let text = whole ++ 46 ∷ (decimals ++ named) in
    IsFraction s text whole decimals unit ⊎ IsBareFraction s text whole decimals unit
is_fraction s whole decimals named unit are also some (inl (blanks, name, parts, blank, utf8, means)) = inl (record {
  blanks = blanks;
  word = name;
  parts = rw parts refl;
  whole_digits = are;
  decimal_digits = also;
  some_decimal = some;
  blank = blank;
  means = means;
})
is_fraction s whole decimals named unit are also some (inr (none, default)) = inr (record {
  parts = rw (none, append-nil) refl;
  digits = list_all-append is_digit whole decimals ∙ and_from _ _ are also;
  some = some;
  default = default;
})

exactly : (s : CodeRules) (whole decimals named : List ℕ) (unit : TimeUnit) (nanos : ℕ)
    → IsTrue (list_all is_digit whole) → IsTrue (list_all is_digit decimals) → 1 ≤ length decimals → HasUnit s named unit
    → nanos_of_fraction whole decimals ((meaning_of s).table unit).nanos ≡ Some nanos → (count : ℕ) (v : TimeUnit)
    → as_term (meaning_of s).table unit nanos ≡ record { count = Some count; unit = Some v }
    → IsExactly s (whole ++ 46 ∷ (decimals ++ named)) count v
exactly s whole decimals named unit nanos are also some means value count v same =
    let table = (meaning_of s).table in
    let counts : Some (nanos / (table (longest_whole table unit nanos)).nanos) ≡ Some count =
    ap (λ (suggestion : Suggestion). suggestion.count) same in
    let units : Some (longest_whole table unit nanos) ≡ Some v = ap (λ (suggestion : Suggestion). suggestion.unit) same in
    let n : nanos / (table (longest_whole table unit nanos)).nanos ≡ count = cc counts in
    let u : longest_whole table unit nanos ≡ v = cc units in
    let counted : count * (table v).nanos ≡ nanos = rw (← n, ← u) (whole_unit s unit nanos) in
    record {
      whole = whole;
      decimals = decimals;
      unit = unit;
      fraction = is_fraction s whole decimals named unit are also some means;
      exact = rw counted
          (scaled whole decimals (table unit).nanos nanos (value_parts whole decimals (table unit).nanos nanos value));
    }

-- ---- The mend

-- A text of three parts, cut at the seams.
pub cut_out : (text front replaced rest : List ℕ) → text ≡ front ++ (replaced ++ rest)
    → (take (length front) text ≡ front)
    × (take (length front + length replaced - length front) (drop (length front) text) ≡ replaced)
    × (drop (length front + length replaced) text ≡ rest)
cut_out text front replaced rest parts =
    let back : drop (length front) text ≡ replaced ++ rest =
    ap (drop (length front)) parts ∙ drop-append_seam front (replaced ++ rest) in
    let n : length front + length replaced - length front ≡ length replaced = omega arith in (
      ap (take (length front)) parts ∙ take-append_seam front (replaced ++ rest),
      rw (n, back) (take-append_seam replaced rest),
      after_place text (length front) (length replaced) ∙ ap (drop (length replaced)) back ∙ drop-append_seam replaced rest,
    )

-- A number with a fraction and its unit, and the term that is written in their place.
pub record IsFractionAt (s : CodeRules) (text front whole : List ℕ) (expected : Expected) (replacement : Replacement) : Type 0 where
  pub decimals : List ℕ
  pub named : List ℕ
  pub rest : List ℕ
  pub unit : TimeUnit
  pub nanos : ℕ
  pub parts : text ≡ front ++ ((whole ++ 46 ∷ (decimals ++ named)) ++ rest)
  pub digits : IsTrue (list_all is_digit decimals)
  pub some : 1 ≤ length decimals
  pub can : whole ≡ [] → IsTrue expected.number
  pub means : HasUnit s named unit
  pub utf8 : IsUtf8 rest
  pub stops : begins_with_letter (chars rest) ≡ false
  pub ends : named ≡ [] → Stops is_digit rest
  pub value : nanos_of_fraction whole decimals ((meaning_of s).table unit).nanos ≡ Some nanos
  pub is : record {
    start = length front;
    end = length front + length (whole ++ 46 ∷ (decimals ++ named));
    suggestion = as_term (meaning_of s).table unit nanos;
  } ≡ replacement

can_number : (a b : Bool) (n : ℕ) → (a || (n == 0 && not b)) ≡ false → n ≡ 0 → b ≡ true
can_number a true n h none = refl
can_number true false n h none = absurd (cc h)
can_number false false n h none = absurd (cc (rw none at h))

some_decimals : (n : ℕ) (b : Bool) → (n == 0 || b) ≡ false → 1 ≤ n
some_decimals zero b h = absurd (cc h)
some_decimals (suc n) b h = omega arith

point_parts : (text : List ℕ) (place : ℕ) → IsCut (drop place text) → bytes_eq (bytes_at text place) (codes ".") ≡ true
    → (drop place text ≡ 46 ∷ drop (place + 1) text) × IsUtf8 (drop (place + 1) text)
point_parts text place cut point =
    let is : bytes_at text place ≡ codes "." = (bytes_eq-Decides (bytes_at text place) (codes ".")).0 point in
    let after : drop (place + 1) text ≡ after_piece (drop place text) =
    after_place text place 1 ∙ ap (λ (bs : List ℕ). drop (length bs) (drop place text)) (sym is) in
    (cut.parts ∙ ap (λ (bs : List ℕ). bs ++ after_piece (drop place text)) is ∙ rw after refl, rw after cut.rest_utf8)

pub fraction_found : (s : CodeRules) (text front : List ℕ) (place : ℕ) (expected : Expected) → IsPlaced s text place expected
    → bytes_eq (bytes_at text place) (codes ".") ≡ true → take place text ≡ front ++ end_run is_digit (take place text)
    → IfSome (fraction_replacement (meaning_of s) text place expected)
    (IsFractionAt s text front (end_run is_digit (take place text)) expected)
fraction_found s text front place expected p point split =
    let r = meaning_of s in
    let whole = end_run is_digit (take place text) in
    let after = drop (place + 1) text in
    let k = prefix_len is_digit after in
    let decimals = take k after in
    let end = place + 1 + length decimals in
    let bytes = drop end text in
    elim (cases_Bool (length decimals == 0 || (length whole == 0 && not expected.number))) [
      | inl missing ↦ rw missing tt
      | inr fits ↦ rw fits (fraction_some r whole decimals (place - length whole) end (unit_ahead r bytes)
          (IsFractionAt s text front whole expected) (λ unit more nanos named value.
          let at_point = point_parts text place p.cut point in
          let run : RunParts is_digit after = run_parts is_digit after in
          let small = all_weaker is_digit _ decimals digit_small run.all in
          let same : bytes ≡ drop k after =
          rw (after_place text (place + 1) (length decimals), length-prefix_len is_digit after) refl in
          let end_utf8 : IsUtf8 bytes = rw same (past_small decimals (drop k after) small (rw take-append-drop at_point.1)).1 in
          let u : IsUnitAhead s bytes unit more = rw named at (unit_parts s bytes end_utf8) in
          let middle = whole ++ 46 ∷ (decimals ++ u.named) in
          let back : after ≡ decimals ++ (u.named ++ u.rest) =
          sym (take-append-drop k after) ∙ ap (λ (bs : List ℕ). decimals ++ bs) (sym same ∙ u.parts) in
          let parts : text ≡ front ++ (middle ++ u.rest) =
          sym (take-append-drop place text) ∙ ap (λ (bs : List ℕ). bs ++ drop place text) split
          ∙ ap (λ (bs : List ℕ). (front ++ whole) ++ bs) (at_point.0 ∙ ap (λ (bs : List ℕ). 46 ∷ bs) back) ∙ simp append_assoc in
          let n : place ≡ length front + length whole = sym p.long ∙ ap length split ∙ length-append front whole in
          let long : length middle ≡ length whole + suc (length decimals + more) =
          simp length-append (rw u.long refl) in
          let start : length front ≡ place - length whole = omega (arith, n) in
          let last : length front + length middle ≡ end + more = omega (arith, n, long) in
          record {
            decimals = decimals;
            named = u.named;
            rest = u.rest;
            unit = unit;
            nanos = nanos;
            parts = parts;
            digits = run.all;
            some = some_decimals (length decimals) _ fits;
            can = λ none. can_number _ expected.number (length whole) fits (ap length none);
            means = u.means;
            utf8 = u.utf8;
            stops = u.stops;
            ends = λ none. subst (Stops is_digit) (sym same ∙ u.parts ∙ ap (λ (bs : List ℕ). bs ++ u.rest) none) run.stops;
            value = value;
            is = rw (last, start) refl;
          }))
    ]

pub term_bytes : (count : ℕ) (u : TimeUnit) → count < 2 ^ 64 → IsUtf8 (decimal count ++ encode_utf8_all (help_name u))
    × (chars (decimal count ++ encode_utf8_all (help_name u)) ≡ decimal count ++ help_name u)
term_bytes count u small =
    let name = help_name u in
    let ascii = all_weaker is_digit _ (decimal count) digit_small (digits_decimal decimal_digits count small) in
    let utf8 = small_utf8 (decimal count) ascii in (
      IsUtf8-append (decimal count) (encode_utf8_all name) utf8 (name, (name_scalars u, refl)),
      chars-append (decimal count) (encode_utf8_all name) utf8
          ∙ rw (small_chars (decimal count) ascii, chars-encodes name (name_scalars u)) refl,
    )

pub fraction_mended : (s : CodeRules) (text : List ℕ) (place : ℕ) (expected : Expected) (replacement : Replacement)
    → IsPlaced s text place expected → (cut : EndCut (take place text))
    → IsFractionAt s text cut.front (end_run is_digit (take place text)) expected replacement → IsMended s text replacement
fraction_mended s text place expected replacement p cut f =
    let r = meaning_of s in
    let run = end_run is_digit (take place text) in
    let v = longest_whole r.table f.unit f.nanos in
    let count = f.nanos / (r.table v).nanos in
    let q = value_parts run f.decimals (r.table f.unit).nanos f.nanos f.value in
    let small : count < 2 ^ 64 = omega (arith, q.fits, div-le_self f.nanos (r.table v).nanos) in
    let digits : list_all is_digit (decimal count) ≡ true = digits_decimal decimal_digits count small in
    let some : decimal count ≢ [] = λ e. absurd (omega (arith, decimal_nonempty count, ap length e)) in
    let term = term_bytes count v small in
    let refused : IsRefused r ((chars cut.front ++ run) ++ ahead text place) (Syntax (byte_len (chars cut.front ++ run)) expected) =
    rw (← cut.spelled) p.refused in
    let seamed = term_in_place r (chars cut.front) run (ahead text place) (decimal count) (help_name v) (chars f.rest) v expected
    cut.ends cut.digits f.can digits some (written r v) (name_read s v) f.stops refused in
    let middle = run ++ 46 ∷ (f.decimals ++ f.named) in
    let (first, replaced, last) = cut_out text cut.front middle f.rest f.parts in
    let value : number_of (decimal count) ≡ count = digits_value-decimal decimal_digits count small in
    rw (← f.is) (record {
      tokens =
          inl (record { front_utf8 = rw first cut.utf8; written_utf8 = term.0; seamed = rw (first, last, term.1) seamed });
      said = ap (terminals_of r) term.1 ∙ term_said r (decimal count) (help_name v) v digits some (written r v) (name_read s v)
          ∙ ap (λ (n : ℕ). number n ∷ word (Some v) ∷ []) value;
      exact = λ n u same. rw replaced
          (exactly s run f.decimals f.named f.unit f.nanos cut.digits f.digits f.some f.means f.value n u same);
    })
