-- Runs of digits and of letters.
use Rattle.duration_str_reading.proofs.Common.{and_parts, are_of_one_run, arith, Bool, false, is_blank, is_digit, IsTrue, length, List, list_all, Options, or_cases, rules, true, ℕ, ◌&&◌, ◌<◌, ◌||◌, ◌≡◌, cond-true, decimal, decimal_nonempty, digits_decimal, digits_value-decimal, number, number_of, Rules, terminal_of, ◌^◌}
use Rattle.duration_str_base.proofs.CharacterLemmas.{digit-not_blank, digit-not_letter, letter-not_blank}
use Rattle.duration_str_base.proofs.NumberLemmas.{decimal_digits}

-- `a`, `b` and `c` say of three characters whether they are digits, and `p`, `q` and `r` whether
-- they are unit letters.
pub same_class : (a b c p q r : Bool) → (a ≡ true → p ≡ false) → (b ≡ true → q ≡ false) → ((a && b) || (p && q)) ≡ true
    → ((b && c) || (q && r)) ≡ ((a && c) || (p && r))
same_class a b c p q r h k e = grind arith

pub same_run : (o : Options) (c d e : ℕ) → are_of_one_run o c d ≡ true → are_of_one_run o d e ≡ are_of_one_run o c e
same_run o c d e h = same_class _ _ _ _ _ _ (digit-not_letter o c) (digit-not_letter o d) h

pub run-not_blank : (o : Options) (c d : ℕ) → are_of_one_run o c d ≡ true → is_blank d ≡ false
run-not_blank o c d h = search (arith, or_cases, digit-not_blank, and_parts, letter-not_blank)

pub digits_terminal : (r : Rules) (digits : List ℕ) → 0 < length digits → IsTrue (list_all is_digit digits)
    → terminal_of r digits ≡ number (number_of digits)
digits_terminal r digits some h = search (rules, cond-true)

pub decimal_terminal : (r : Rules) (n : ℕ) → n < 2 ^ 64 → terminal_of r (decimal n) ≡ number n
decimal_terminal r n h =
    search (rules, digits_terminal, decimal_nonempty, digits_decimal, decimal_digits, digits_value-decimal)
