use Rattle.duration_str_base.proofs.Common.{ap, append_assoc, arith, common_steps, decimal, decimal_by_steps_wide, decimal_digit, decimal_step_wide, drop, length, length-append, length-decimal-le_wide, length-take-le, List, lit<, pow-succ', rules, suc, sym, take, take-add, take-append_seam, take_more_set, [], ℕ, ◌%◌, ◌++◌, ◌+◌, ◌/◌, ◌<◌, ◌^◌, ◌∙◌, ◌∷◌, ◌≡◌, ◌≤◌}

pub length_one : (n : ℕ) → n < 10 → length (decimal n) ≡ 1
length_one n h = ap length (decimal_digit n h)

pub length_step : (n : ℕ) → 10 ≤ n → n < 10 ^ 64 → length (decimal n) ≡ length (decimal (n / 10)) + 1
length_step n low high = ap length (decimal_step_wide n low high) ∙ length-append _ _

pub put_last : (bytes before after : List ℕ) (n : ℕ) → after ≡ before ++ decimal (n % 10)
    → before ≡ bytes ++ decimal (n / 10) → 10 ≤ n → n < 10 ^ 64 → after ≡ bytes ++ decimal n
put_last bytes before after n last first low high = search (rules, decimal_digit, decimal_step_wide, append_assoc)

pub same_before : (at : ℕ) (old new more : List ℕ) → at ≤ length old → at ≤ length new
    → take (at + 1) new ≡ take at old ++ more → take at new ≡ take at old
same_before at old new more in_old in_new same =
    let both : take at new ++ take 1 (drop at new) ≡ take at old ++ more = sym (take-add at 1 new) ∙ same in
    let front : take at (take at new ++ take 1 (drop at new)) ≡ take at new =
    rw (length-take-le at new in_new) at (take-append_seam (take at new) (take 1 (drop at new))) in
    grind (arith, common_steps, length-take-le, take-append_seam)

pub ruleset put_steps = (decimal_digit, length_one, length_step, take_more_set)

pub some_decimal : (n : ℕ) → n < 10 ^ 64 → 0 < length (decimal n)
some_decimal n h =
    decimal_by_steps_wide (λ n ds. 0 < length ds) (λ n small. lit< tt)
    (λ n ds big some. omega (arith, length-append ds ((48 + n % 10) ∷ []))) n h

below_power : (n : ℕ) → n < 10 ^ 64 → n < 10 ^ length (decimal n)
below_power = decimal_by_steps_wide (λ n ds. n < 10 ^ length ds) (λ n small. omega arith) (λ n ds big below.
    let longer : length (ds ++ (48 + n % 10) ∷ []) ≡ suc (length ds) =
    omega (arith, length-append ds ((48 + n % 10) ∷ [])) in
    rw (longer, pow-succ' 10 (length ds)) (omega (arith, below)))

pub length_smaller : (m n : ℕ) → m ≤ n → n < 10 ^ 64 → length (decimal m) ≤ length (decimal n)
length_smaller m n h small = search (rules, below_power, length-decimal-le_wide, some_decimal)
