-- Lemmas about a text with a space after each of its parts, and about the counts of a duration.
use Rattle.duration_str_printing.proofs.Common.{add_assoc, append_assoc, arith, counts_of, decimal, encode_utf8_all, length, length-append, length-decimal-le_wide, length-take-le, List, take-append_seam, refl, row_of, rules, Short, sym, take, TimeUnit, unit_lengths, with_gap, with_part, [], ℕ, ◌%◌, ◌*◌, ◌++◌, ◌+◌, ◌-◌, ◌/◌, ◌<◌, ◌^◌, ◌∙◌, ◌∷◌, ◌≡◌, ◌≤◌, ap, drop, drop_more, get_or, with_counts, Year}
use Rattle.duration_str_base.proofs.DigitLemmas.{some_decimal}
use Rattle.std.proofs.lemmas.List.{take-take}

pub three_digits : (n : ℕ) → n < 1000 → length (decimal n) ≤ 3
three_digits n h = length-decimal-le_wide 3 n (omega arith) (omega arith) (omega arith)

spaced_some : (bytes : List ℕ) → 0 < length bytes → with_gap Short bytes ≡ bytes ++ 32 ∷ []
spaced_some bytes h = search rules

pub spaced_part : (bytes : List ℕ) (u : TimeUnit) (n : ℕ) → 0 < n → n < 10 ^ 64
    → with_gap Short bytes ++ (decimal n ++ encode_utf8_all (row_of u).printed ++ 32 ∷ [])
    ≡ with_gap Short (with_part Short bytes u n)
spaced_part bytes u n some short = search (rules, length-append, some_decimal, spaced_some, append_assoc)

pub last_space : (end : ℕ) (buffer bytes : List ℕ) → end ≤ length buffer → take end buffer ≡ with_gap Short bytes
    → take (end - 1) buffer ≡ bytes
last_space end buffer [] inside same =
    let none : end ≡ 0 = omega (arith, ap length same, length-take-le end buffer inside) in rw none
last_space end buffer (b ∷ bytes) inside same =
    let whole = b ∷ bytes in
    let before : end - 1 ≡ length whole =
    omega (arith, ap length same, length-take-le end buffer inside, length-append whole (32 ∷ [])) in
    sym (take-take (end - 1) end buffer (omega arith)) ∙ rw (same, before) (take-append_seam whole (32 ∷ []))

pub counts_by_days : (days secs nanos : ℕ) → secs < 86400 → nanos < 10 ^ 9
    → counts_of unit_lengths ((days * 86400 + secs) * 10 ^ 9 + nanos)
    ≡ counts_of (365 ∷ 91 ∷ 30 ∷ 7 ∷ 1 ∷ []) days
    ++ (secs / 3600 ∷ secs / 60 % 60 ∷ secs % 60 ∷ nanos / 1000000 ∷ nanos / 1000 % 1000 ∷ nanos % 1000 ∷ [])
counts_by_days days secs nanos day second =
    let part : ℕ → ℕ = λ n. (n * 86400 + secs) * 10 ^ 9 + nanos in
    let years : part days / 31536000000000000 ≡ days / 365 = omega arith in
    let after_years : part days % 31536000000000000 ≡ part (days % 365) = omega arith in
    let n : ℕ = days % 365 in
    let quarters : part n / 7862400000000000 ≡ n / 91 = omega arith in
    let after_quarters : part n % 7862400000000000 ≡ part (n % 91) = omega arith in
    let months : part (n % 91) / 2592000000000000 ≡ n % 91 / 30 = omega arith in
    let after_months : part (n % 91) % 2592000000000000 ≡ part (n % 91 % 30) = omega arith in
    let weeks : part (n % 91 % 30) / 604800000000000 ≡ n % 91 % 30 / 7 = omega arith in
    let after_weeks : part (n % 91 % 30) % 604800000000000 ≡ part (n % 91 % 30 % 7) = omega arith in
    let all_days : part (n % 91 % 30 % 7) / 86400000000000 ≡ n % 91 % 30 % 7 / 1 = omega arith in
    let after_days : part (n % 91 % 30 % 7) % 86400000000000 ≡ secs * 10 ^ 9 + nanos = omega arith in
    let hours : (secs * 10 ^ 9 + nanos) / 3600000000000 ≡ secs / 3600 = omega arith in
    let after_hours : (secs * 10 ^ 9 + nanos) % 3600000000000 ≡ secs % 3600 * 10 ^ 9 + nanos = omega arith in
    let minutes : (secs % 3600 * 10 ^ 9 + nanos) / 60000000000 ≡ secs / 60 % 60 = omega arith in
    let after_minutes : (secs % 3600 * 10 ^ 9 + nanos) % 60000000000 ≡ secs % 60 * 10 ^ 9 + nanos = omega arith in
    let seconds : (secs % 60 * 10 ^ 9 + nanos) / 1000000000 ≡ secs % 60 = omega arith in
    let after_seconds : (secs % 60 * 10 ^ 9 + nanos) % 1000000000 ≡ nanos = omega arith in
    let micros : nanos % 1000000 / 1000 ≡ nanos / 1000 % 1000 = omega arith in
    let rest : nanos % 1000000 % 1000 / 1 ≡ nanos % 1000 = omega arith in
    cc

pub no_counts : (bytes : List ℕ) (us : List TimeUnit) → with_counts Short bytes us [] ≡ bytes
no_counts bytes [] = refl
no_counts bytes (u ∷ us) = refl

pub next_part : (bytes : List ℕ) (us : List TimeUnit) (counts : List ℕ) (first i j : ℕ) → j ≡ first + i
    → i < length counts → first + i < length us
    → with_counts Short (with_part Short bytes (get_or us j Year) (get_or counts i 0)) (drop (first + (i + 1)) us)
    (drop (i + 1) counts) ≡ with_counts Short bytes (drop (first + i) us) (drop i counts)
next_part bytes us counts first i j same in_counts in_units = rw (← add_assoc first i 1) (search (rules, drop_more))
