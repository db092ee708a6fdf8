-- Lemmas about numbers with a fraction.
use Rattle.duration_str_help.proofs.Common.{append_assoc, IsAscii-from_digits, cases_lt, is_blank, IsCharBoundary, IsCharBoundary-at_seam, IsCharBoundary-start, IsUtf8, IsUtf8-append, IsUtf8-drop, IsUtf8-from_ascii, length-append, length-take-le, take-append-drop, [], ap, arith, Bool, cases_Bool, drop, drop-cons, false, false_from_ne_true, find, fits, get_or, inl, inr, is_digit, IsTrue, length, length-drop, List, list_all, ne_eqb, None, number_after, number_of, pow-suc, rank_of, refl, Some, suc, sym, table_of, take, TimeUnit, true, u64_from, units, zero, nat_tests, ℕ, ◌%◌, ◌*◌, ◌++◌, ◌+◌, ◌-◌, ◌/◌, ◌<◌, ◌==◌, ◌^◌, ◌∙◌, ◌∷◌, ◌≡◌, ◌≢◌, ◌≤◌}
use Rattle.std.proofs.lemmas.Str.{IsCharBoundary-after_ascii}
use Rattle.std.specs.Str.{IsAscii}
use Rattle.std.proofs.Math.Nat.{div-lt_iff_lt-mul, le-div_iff_mul-le, le-mul_of_pos_right, mul-add-mod_self_right, mul-div_cancel, mul-mod_left, mul_assoc, mul_comm, pow-le-pow_right}
use Rattle.std.proofs.lemmas.List.{get_or-drop}
use Rattle.std.proofs.lemmas.List.Folds.{list_all_at}
use Rattle.std.proofs.lemmas.Nat.{div-add-mod', pow-add}
use Rattle.std.specs.List.{prefix_len}
use Rattle.duration_str_help.specs.Fraction.{end_run, is_whole_in, nanos_of_fraction, Table, whole_quotient}
use Rattle.duration_str_help.proofs.MendedBytes.{EndParts, end_parts}
use Rattle.duration_str_base.proofs.NumberLemmas.{decimal_digits, number_after-append, number_after-is}
use Rattle.duration_str_base.proofs.UnitLemmas.{each_unit}
use Rattle.duration_str_base.specs.declared.table.UnitTable.{UnitTable}
use Rattle.duration_str_base.specs.declared.table.UnitTable.TheVariants.{Humantime, More, Own}

-- ---- Runs of bytes

pub run_stops : (test : ℕ → Bool) (bytes : List ℕ) (n : ℕ) → n < length bytes → test (get_or bytes n 0) ≡ false
    → n + prefix_len test (drop n bytes) ≡ prefix_len test bytes → n ≡ prefix_len test bytes
run_stops test bytes n within fails held =
    let here : prefix_len test (drop n bytes) ≡ 0 = rw (drop-cons bytes n 0 within, fails) refl in
    omega (arith, held, here)

pub end_all : (test : ℕ → Bool) (bytes : List ℕ) → list_all test bytes ≡ true → end_run test bytes ≡ bytes
end_all test [] all = refl
end_all test (b ∷ bytes) all = rw all refl

-- If all bytes after one that fails the test pass it, they are the longest end that does.
pub end_after : (test : ℕ → Bool) (bytes : List ℕ) (n : ℕ) → n < length bytes → test (get_or bytes n 0) ≡ false
    → list_all test (drop (suc n) bytes) ≡ true → end_run test bytes ≡ drop (suc n) bytes
end_after test [] n within fails all = absurd (omega (arith, within))
end_after test (b ∷ bytes) zero within fails all =
    rw (list_all_at test (b ∷ bytes) zero 0 within fails) (end_all test bytes all)
end_after test (b ∷ bytes) (suc n) within fails all =
    rw (list_all_at test (b ∷ bytes) (suc n) 0 within fails) (end_after test bytes n (omega (arith, within)) fails all)

pub end_from : (test : ℕ → Bool) (bytes : List ℕ) (n : ℕ) → 0 < n → n ≤ length bytes → test (get_or bytes (n - 1) 0) ≡ false
    → list_all test (drop n bytes) ≡ true → end_run test bytes ≡ drop n bytes
end_from test bytes zero some within fails all = absurd (omega (arith, some))
end_from test bytes (suc n) some within fails all =
    let e : suc n - 1 ≡ n = omega arith in end_after test bytes n (omega (arith, within)) (rw e at fails) all

pub end_whole : (test : ℕ → Bool) (bytes : List ℕ) (n : ℕ) → n ≤ 0 → list_all test (drop n bytes) ≡ true
    → end_run test bytes ≡ drop n bytes
end_whole test bytes zero none all = end_all test bytes all
end_whole test bytes (suc n) none all = absurd (omega (arith, none))

run_passes : (test : ℕ → Bool) (bytes : List ℕ) (n : ℕ) → n < prefix_len test bytes
    → (n < length bytes) × (test (get_or bytes n 0) ≡ true)
run_passes test [] n within = absurd (omega (arith, within))
run_passes test (b ∷ bytes) zero within = elim (cases_Bool (test b)) [
  | inl passes ↦ (omega arith, passes)
  | inr fails ↦ absurd (omega (arith, rw fails at within))
]
run_passes test (b ∷ bytes) (suc n) within = elim (cases_Bool (test b)) [
  | inl passes ↦
      let later = run_passes test bytes n (omega (arith, rw passes at within)) in (omega (arith, later.0), later.1)
  | inr fails ↦ absurd (omega (arith, rw fails at within))
]

-- ---- Character boundaries

pub run_boundary : (test : ℕ → Bool) → ((b : ℕ) → test b ≡ true → b < 128) → (text : List ℕ) (place : ℕ) → IsUtf8 text
    → 0 < prefix_len test (drop place text) → IsCharBoundary text (place + prefix_len test (drop place text))
run_boundary test ascii text place utf8 some =
    let run = prefix_len test (drop place text) in
    let last = run_passes test (drop place text) (run - 1) (omega arith) in
    let at : get_or (drop place text) (run - 1) 0 ≡ get_or text (place + (run - 1)) 0 = get_or-drop place text (run - 1) 0 in
    let low : get_or text (place + (run - 1)) 0 < 128 = rw (← at) (ascii _ last.1) in
    let within : place + (run - 1) < length text = omega (arith, last.0, length-drop place text) in
    let e : place + (run - 1) + 1 ≡ place + run = omega arith in
    rw e at (IsCharBoundary-after_ascii text (place + (run - 1)) utf8 within low)

pub blank_ascii : (b : ℕ) → is_blank b ≡ true → b < 128
blank_ascii b blank = grind (arith, nat_tests)

pub digit_ascii : (b : ℕ) → is_digit b ≡ true → b < 128
digit_ascii b digit = grind (arith, nat_tests)

pub blanks_boundary : (text : List ℕ) → IsUtf8 text → IsCharBoundary text (prefix_len is_blank text)
blanks_boundary text utf8 = elim (cases_lt 0 (prefix_len is_blank text)) [
  | inl some ↦
      let e : 0 + prefix_len is_blank text ≡ prefix_len is_blank text = omega arith in
      rw e at (run_boundary is_blank blank_ascii text 0 utf8 some)
  | inr none ↦ let e : prefix_len is_blank text ≡ 0 = omega arith in rw e (IsCharBoundary-start text utf8)
]

digits_IsAscii : (digits : List ℕ) → list_all is_digit digits ≡ true → IsAscii digits
digits_IsAscii digits all = IsAscii-from_digits digits (decimal_digits.to digits all)

pub number_start : (text : List ℕ) (place : ℕ) → IsUtf8 text → IsCharBoundary text place
    → (length (end_run is_digit (take place text)) ≤ place)
    × IsCharBoundary text (place - length (end_run is_digit (take place text)))
number_start text place utf8 boundary =
    let whole = end_run is_digit (take place text) in
    let before : EndParts is_digit (take place text) = end_parts is_digit (take place text) in
    let rest = drop place text in
    let parts : text ≡ before.front ++ (whole ++ rest) =
    sym (take-append-drop place text) ∙ ap (λ (bs : List ℕ). bs ++ rest) before.parts ∙ append_assoc before.front whole rest in
    let seam = IsCharBoundary-at_seam text before.front (whole ++ rest) parts
    (IsUtf8-append whole rest (IsUtf8-from_ascii whole (digits_IsAscii whole before.all))
    (IsUtf8-drop text place utf8 boundary)) in
    let len : length before.front + length whole ≡ place =
    omega (arith, ap length before.parts, length-append before.front whole, length-take-le place text boundary.0) in
    let e : length before.front ≡ place - length whole = omega (arith, len) in
    (omega (arith, len), rw e at seam)

-- ---- The unit of a number with a fraction

-- ---- Numbers

pub least_after : (n : ℕ) (digits : List ℕ) → n ≤ number_after n digits
least_after n [] = omega arith
least_after n (c ∷ digits) = omega (arith, least_after (n * 10 + (c - 48)) digits)

pub u64_none : (n : ℕ) → None ≡ u64_from n → fits n ≡ false
u64_none n is = false_from_ne_true (fits n) (λ t. let some = rw t at is in absurd cc)

pub u64_some : (n m : ℕ) → Some m ≡ u64_from n → (m ≡ n) × (fits n ≡ true)
u64_some n m is = elim (cases_Bool (fits n)) [
  | inl small ↦ ((let some = rw small at is in cc), small)
  | inr large ↦ absurd (let none = rw large at is in cc)
]

pub fits_less : (m n : ℕ) → m ≤ n → fits m ≡ false → fits n ≡ false
fits_less m n less large = grind (arith, nat_tests)

pub u64_large : (n : ℕ) → 2 ^ 64 ≤ n → None ≡ u64_from n
u64_large n large = let no : fits n ≡ false = grind (arith, nat_tests) in rw no refl

-- A digit after the number takes it to 2^64 or more.
pub number_too_large : (number digit start : ℕ) (digits : List ℕ) (n : ℕ) → n < length digits
    → get_or digits n 0 - 48 ≡ digit → (2 ^ 64 - 1 - digit) / 10 < number → digit ≤ 9
    → number_after number (drop n digits) ≡ number_after start digits → None ≡ u64_from (number_after start digits)
number_too_large number digit start digits n within is above small held =
    let here : number_after number (drop n digits) ≡ number_after (number * 10 + digit) (drop (suc n) digits) =
    rw (drop-cons digits n 0 within) (ap (λ (d : ℕ). number_after (number * 10 + d) (drop (suc n) digits)) is) in
    u64_large (number_after start digits)
    (omega (arith, held, here, least_after (number * 10 + digit) (drop (suc n) digits)))

pub digit_small : (digits : List ℕ) (n digit : ℕ) → IsTrue (list_all is_digit digits) → n < length digits
    → digit ≡ get_or digits n 0 - 48 → digit ≤ 9
digit_small digits n digit all within is = elim (cases_Bool (is_digit (get_or digits n 0))) [
  | inl passes ↦ let most : get_or digits n 0 ≤ 57 = grind (arith, nat_tests) in omega (arith, most, is)
  | inr fails ↦ absurd (cc (list_all_at is_digit digits n 0 within fails, all))
]

-- ---- The nanoseconds of a number with a fraction

pub quotient_some : (p n k : ℕ) → p * 10 ^ k ≡ n → whole_quotient n (10 ^ k) ≡ u64_from p
quotient_some p n k held =
    let some : 0 < 10 ^ k = pow-le-pow_right {n = 10} (omega arith) {i = 0} (omega arith) in
    rw (← held, mul-mod_left p (10 ^ k), mul-div_cancel p some) refl

-- A number that ends with `i` zeros and a digit other than 0 before them can't be divided more than
-- `i` times by 10.
pub not_whole : (p n i k : ℕ) → p * 10 ^ i ≡ n → i < k → p % 10 ≢ 0 → n % 10 ^ k ≢ 0
not_whole p n i k held less other divides =
    let q = n / 10 ^ k in
    let j = k - i - 1 in
    let some : 0 < 10 ^ i = pow-le-pow_right {n = 10} (omega arith) {i = 0} (omega arith) in
    let power : 10 ^ k ≡ 10 ^ i * 10 * 10 ^ j =
    ap (λ (m : ℕ). 10 ^ m) (let e : k ≡ i + 1 + j = omega arith in e) ∙ pow-add 10 (i + 1) j
    ∙ ap (λ (m : ℕ). m * 10 ^ j) (pow-add 10 i 1) in
    let whole : q * 10 ^ k ≡ n = omega (arith, div-add-mod' n (10 ^ k), divides) in
    let back : q * 10 ^ j * 10 * 10 ^ i ≡ p * 10 ^ i =
    regroup q (10 ^ i) (10 ^ j) ∙ ap (λ (m : ℕ). q * m) (sym power) ∙ whole ∙ sym held in
    let same : q * 10 ^ j * 10 ≡ p =
    sym (mul-div_cancel (q * 10 ^ j * 10) some) ∙ ap (λ (m : ℕ). m / 10 ^ i) back ∙ mul-div_cancel p some in
    other (rw (← same) (mul-mod_left (q * 10 ^ j) 10))
  where
    regroup : (q a b : ℕ) → q * b * 10 * a ≡ q * (a * 10 * b)
    regroup q a b =
        ap (λ (n : ℕ). n * a) (mul_assoc q b 10) ∙ mul_assoc q (b * 10) a
        ∙ ap (λ (n : ℕ). q * n) (mul_comm (b * 10) a ∙ ap (λ (n : ℕ). a * n) (mul_comm b 10) ∙ sym (mul_assoc a 10 b))

-- Digits after a number, times a unit, are the number's part and that of the digits.
apart : (n u : ℕ) (digits : List ℕ)
    → number_after n digits * u ≡ n * u * 10 ^ length digits + number_of digits * u
apart n u digits = omega (arith, ap (λ (m : ℕ). m * u) (number_after-is n digits))

digits_from : (digits : List ℕ) (n : ℕ) → n < length digits
    → drop n digits ≡ get_or digits n 0 ∷ drop (n + 1) digits
digits_from digits n within = let e : n + 1 ≡ suc n = omega arith in rw e (drop-cons digits n 0 within)

module _ (digits : List ℕ) (n digit u nanos : ℕ) (within : n < length digits) (is : digit ≡ get_or digits n 0 - 48)
    (held : nanos * 10 ^ length (drop (n + 1) digits) ≡ number_of (drop (n + 1) digits) * u) where
  -- One more digit before the others: its nanoseconds are added, and the sum is divided by 10.
  pub digit_before : (next : ℕ) → next * 10 ≡ nanos + digit * u
      → next * 10 ^ length (drop n digits) ≡ number_of (drop n digits) * u
  digit_before next tenth =
      let later = drop (n + 1) digits in
      let power = 10 ^ length later in
      let first : 0 * 10 + (get_or digits n 0 - 48) ≡ digit = omega (arith, is) in
      let number : number_of (get_or digits n 0 ∷ later) * u ≡ digit * u * power + number_of later * u =
      ap (λ (d : ℕ). number_after d later * u) first ∙ apart digit u later in
      let scaled : next * 10 * power ≡ (nanos + digit * u) * power = ap (λ (m : ℕ). m * power) tenth in
      rw (digits_from digits n within)
      (omega (arith, held, number, scaled, ap (λ (m : ℕ). next * m) (pow-suc 10 (length later))))

  -- If the sum is no multiple of 10, all the digits stand for no whole number.
  pub digit_other : (nanos + digit * u) % 10 ≢ 0 → number_of digits * u % 10 ^ length digits ≢ 0
  digit_other other =
      let later = drop (n + 1) digits in
      let front = number_of (take n digits) in
      let power = 10 ^ length later in
      let first : front * 10 + (get_or digits n 0 - 48) ≡ front * 10 + digit = omega (arith, is) in
      let parts : number_of digits ≡ number_after (front * 10 + digit) later =
      ap number_of (sym (take-append-drop n digits)) ∙ number_after-append 0 (take n digits) (drop n digits)
      ∙ ap (number_after front) (digits_from digits n within)
      ∙ ap (λ (m : ℕ). number_after m later) first in
      let whole : (front * u * 10 + (nanos + digit * u)) * power ≡ number_of digits * u =
      omega (arith, held, ap (λ (m : ℕ). m * u) parts, apart (front * 10 + digit) u later) in
      let rest : (front * u * 10 + (nanos + digit * u)) % 10 ≢ 0 = λ e. other (omega (arith, e)) in
      not_whole _ _ (length later) (length digits) whole (omega (arith, within, length-drop (n + 1) digits)) rest

module _ (whole decimals : List ℕ) (u : ℕ) where
  number_parts : number_of (whole ++ decimals) * u ≡ number_of whole * u * 10 ^ length decimals + number_of decimals * u
  number_parts = ap (λ (n : ℕ). n * u) (number_after-append 0 whole decimals) ∙ apart (number_of whole) u decimals

  pub after_none : number_of decimals * u % 10 ^ length decimals ≢ 0 → None ≡ nanos_of_fraction whole decimals u
  after_none other =
      let rest : number_of (whole ++ decimals) * u % 10 ^ length decimals ≢ 0 = λ e.
      other (sym (mul-add-mod_self_right (number_of whole * u) (10 ^ length decimals) (number_of decimals * u))
      ∙ ap (λ (n : ℕ). n % 10 ^ length decimals) (sym number_parts) ∙ e) in
      rw (ne_eqb _ 0 rest) refl

  pub after_some : (after : ℕ) → after * 10 ^ length decimals ≡ number_of decimals * u
      → u64_from (number_of whole * u + after) ≡ nanos_of_fraction whole decimals u
  after_some after held =
      sym (quotient_some (number_of whole * u + after) _ (length decimals) (omega (arith, held, number_parts)))

  pub whole_none : 0 < u → (after : ℕ) → after * 10 ^ length decimals ≡ number_of decimals * u
      → None ≡ u64_from (number_of whole) → None ≡ nanos_of_fraction whole decimals u
  whole_none long after held none =
      let more : number_of whole ≤ number_of whole * u + after = omega (arith, le-mul_of_pos_right (number_of whole) long) in
      let large : fits (number_of whole * u + after) ≡ false = fits_less _ _ more (u64_none _ none) in
      let is : None ≡ u64_from (number_of whole * u + after) = rw large refl in
      is ∙ after_some after held

  pub sum_none : 0 < u → (number after : ℕ) → after * 10 ^ length decimals ≡ number_of decimals * u
      → Some number ≡ u64_from (number_of whole) → (2 ^ 64 - 1 - after) / u < number → after < 2 ^ 64
      → None ≡ nanos_of_fraction whole decimals u
  sum_none long number after held some above small =
      let same : number ≡ number_of whole = (u64_some _ _ some).0 in
      let past : 2 ^ 64 - 1 - after < number * u = (div-lt_iff_lt-mul long).0 above in
      let sum : 2 ^ 64 ≤ number * u + after = omega (arith, past, small) in
      let large : 2 ^ 64 ≤ number_of whole * u + after = rw same at sum in
      u64_large _ large ∙ after_some after held

  pub sum_some : 0 < u → (number after : ℕ) → after * 10 ^ length decimals ≡ number_of decimals * u
      → Some number ≡ u64_from (number_of whole) → number ≤ (2 ^ 64 - 1 - after) / u → after < 2 ^ 64
      → Some (number * u + after) ≡ nanos_of_fraction whole decimals u
  sum_some long number after held some below small =
      let same : number ≡ number_of whole = (u64_some _ _ some).0 in
      let most : number * u ≤ 2 ^ 64 - 1 - after = (le-div_iff_mul-le long).0 below in
      let less : number * u + after < 2 ^ 64 = omega (arith, most, small) in
      let fit : fits (number * u + after) ≡ true = grind (arith, nat_tests) in
      let is : Some (number * u + after) ≡ u64_from (number * u + after) = rw fit refl in
      is ∙ ap (λ (n : ℕ). u64_from (n * u + after)) same ∙ after_some after held

-- ---- The longest unit in which a number is whole

-- whether the nanoseconds are a whole number of the unit
abbrev pub divides : Table → ℕ → TimeUnit → Bool
divides table nanos v = nanos % (table v).nanos == 0

pub from_rank : (u : TimeUnit) → take (11 - rank_of u) (drop (rank_of u) units) ≡ drop (rank_of u) units
from_rank = each_unit (λ u. take (11 - rank_of u) (drop (rank_of u) units) ≡ drop (rank_of u) units) assumption

module _ (nanos : ℕ) where
  -- From a unit on, no unit is longer than it. All units before it are.
  pub none_longer : (t : UnitTable) (u : TimeUnit)
      → find (divides (table_of t) nanos) (drop (rank_of u) units) ≡ find (is_whole_in (table_of t) u nanos) units
  none_longer Own = each_unit (λ u. find (divides (table_of Own) nanos) (drop (rank_of u) units) ≡ find (is_whole_in (table_of Own) u nanos) units) assumption
  none_longer More = each_unit (λ u. find (divides (table_of More) nanos) (drop (rank_of u) units) ≡ find (is_whole_in (table_of More) u nanos) units) assumption
  none_longer Humantime = each_unit (λ u. find (divides (table_of Humantime) nanos) (drop (rank_of u) units) ≡ find (is_whole_in (table_of Humantime) u nanos) units) assumption

module _ (table : Table) (some : List TimeUnit) (nanos n len : ℕ) (d : TimeUnit) where
  pub skips_rest : n < length some → len ≡ (table (get_or some n d)).nanos → (nanos % len ≡ 0 → ⊥)
      → find (divides table nanos) (drop n some) ≡ find (divides table nanos) some
      → find (divides table nanos) (drop (n + 1) some) ≡ find (divides table nanos) some
  skips_rest within is other held =
      let next : n + 1 ≡ suc n = omega arith in
      let fails : divides table nanos (get_or some n d) ≡ false = rw (← is) (ne_eqb (nanos % len) 0 other) in
      let here : find (divides table nanos) (drop n some) ≡ find (divides table nanos) (drop (suc n) some) =
      rw (drop-cons some n d within, fails) refl in
      rw next (sym here ∙ held)

  pub finds_here : n < length some → len ≡ (table (get_or some n d)).nanos → nanos % len ≡ 0
      → find (divides table nanos) (drop n some) ≡ find (divides table nanos) some
      → find (divides table nanos) some ≡ Some (get_or some n d)
  finds_here within is whole held =
      let passes : divides table nanos (get_or some n d) ≡ true = rw (← is, whole) refl in
      let here : find (divides table nanos) (drop n some) ≡ Some (get_or some n d) =
      rw (drop-cons some n d within, passes) refl in
      sym held ∙ here
