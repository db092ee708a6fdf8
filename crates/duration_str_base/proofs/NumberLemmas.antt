use Rattle.duration_str_base.proofs.Common.{[], and_parts, ap, arith, Bool, cases_Bool, cases_lt, chars, common_steps, drop, drop-cons, encodes-chars, encodes-IsAscii, false, fits, get_or, inl, inr, is_digit, IsAscii-from_digits, IsNumber, IsTrue, IsUtf8, le-ltb, length, length-drop, List, list_all, list_all-append, lt-ltb, mul-pos, nat_le, nat_tests, number_after, number_of, Option, pow-suc, refl, Result, rules, suc, sym, take, take-append-drop, true, u64_from, ℕ, ◌%◌, ◌&&◌, ◌*◌, ◌++◌, ◌+◌, ◌-◌, ◌<◌, ◌==◌, ◌^◌, ◌||◌, ◌∙◌, ◌∷◌, ◌≡◌}
use Rattle.std.proofs.lemmas.Str.Parse.{digits_value_short, IsNumeralModel, numerals_by_fold}
use native.Mathlib.Nat.{pow-le-pow_right}
use Rattle.std.specs.Bool.{then_some}
use Rattle.std.specs.Result.{result_ok}
use Rattle.std.specs.Str.Parse.{ParsesUnsigned}

pub decimal_digits : IsNumeralModel (λ ds. IsTrue (list_all is_digit ds)) (number_after 0)
decimal_digits = numerals_by_fold _ (search rules) number_after (search rules)

pub number_after-is : (n : ℕ) (cs : List ℕ) → number_after n cs ≡ n * 10 ^ length cs + number_of cs
number_after-is n [] = omega arith
number_after-is n (c ∷ cs) =
    let here = number_after-is (n * 10 + (c - 48)) cs in
    let there = number_after-is (0 * 10 + (c - 48)) cs in
    omega (arith, ap (λ x. n * x) (pow-suc 10 (length cs)))

pub number_after-append : (n : ℕ) (cs ds : List ℕ) → number_after n (cs ++ ds) ≡ number_after (number_after n cs) ds
number_after-append n [] ds = refl
number_after-append n (c ∷ cs) ds = number_after-append (n * 10 + (c - 48)) cs ds

abbrev are_zeros : List ℕ → Bool
are_zeros = list_all (λ digit. digit == 48)

number_of-zeros : (cs : List ℕ) → are_zeros cs ≡ true → number_of cs ≡ 0
number_of-zeros [] h = refl
number_of-zeros (c ∷ cs) h = search (rules, and_parts, number_of-zeros cs)

number_of-others : (cs : List ℕ) → IsTrue (list_all is_digit cs) → are_zeros cs ≡ false → 0 < number_of cs
number_of-others [] all h = absurd cc
number_of-others (c ∷ cs) all h =
    let parts = and_parts (is_digit c) _ all in
    elim (cases_Bool (c == 48)) [
      | inl zero ↦ let is : c ≡ 48 = grind arith in rw is (number_of-others cs parts.1 (rw zero at h))
      | inr other ↦ let above : 48 < c = grind (arith, nat_tests) in
          let some : 0 < 10 ^ length cs = pow-le-pow_right {n = 10} (omega arith) {i = 0} (omega arith) in
          let d = 0 * 10 + (c - 48) in
          let weight : 0 < d * 10 ^ length cs = mul-pos (omega arith) some in
          let is : number_of (c ∷ cs) ≡ d * 10 ^ length cs + number_of cs = number_after-is d cs in
          omega arith
    ]

pub long_number : (digits : List ℕ) (low : ℕ) → 19 < length digits → IsTrue (list_all is_digit digits)
    → low ≡ number_of digits % 2 ^ 64 → (let at = length digits - 19 - 1 in
    (are_zeros (take at digits)
    && (get_or digits at 0 == 48 || (get_or digits at 0 == 49 && nat_le 10000000000000000000 low)))
    ≡ fits (number_of digits))
long_number digits low long all same =
    let at = length digits - 19 - 1 in
    let front = take at digits in
    let first = get_or digits at 0 in
    let last = drop (suc at) digits in
    let rest : drop at digits ≡ first ∷ last = drop-cons digits at 0 (omega arith) in
    let split : front ++ first ∷ last ≡ digits = rw (← rest) (take-append-drop at digits) in
    let passed : (list_all is_digit front && list_all is_digit (first ∷ last)) ≡ true =
    rw (← list_all-append is_digit front (first ∷ last), split) all in
    let fronts = and_parts (list_all is_digit front) _ passed in
    let lasts = and_parts (is_digit first) _ fronts.1 in
    let few : length last ≡ 19 = omega (arith, length-drop (suc at) digits) in
    let value : number_of digits ≡ (number_of front * 10 + (first - 48)) * 10 ^ length last + number_of last =
    sym (ap number_of split) ∙ number_after-append 0 front (first ∷ last)
    ∙ number_after-is (number_of front * 10 + (first - 48)) last in
    grind (arith, common_steps, number_of-zeros, number_of-others, digits_value_short, decimal_digits, le-ltb)

pub bytes_of_digits : (bs : List ℕ) → IsUtf8 bs → IsTrue (list_all is_digit (chars bs)) → chars bs ≡ bs
bytes_of_digits bs utf8 digits =
    let own = encodes-IsAscii (chars bs) (IsAscii-from_digits (chars bs) (decimal_digits.to (chars bs) digits)) in
    sym own ∙ encodes-chars bs utf8

pub fitting_number : (n low : ℕ) → low ≡ n % 2 ^ 64 → then_some (fits n) low ≡ u64_from n
fitting_number n low same = search (rules, cases_lt, lt-ltb, le-ltb)

pub parsed_u64 : {E : Type 0} (bs : List ℕ) (r : Result ℕ E) (parsed : Option ℕ) → IsUtf8 bs → IsNumber (chars bs)
    → ParsesUnsigned 64 10 bs r → parsed ≡ result_ok r → parsed ≡ u64_from (number_of (chars bs))
parsed_u64 bs r parsed utf8 digits parses is = search (rules, bytes_of_digits, decimal_digits)
