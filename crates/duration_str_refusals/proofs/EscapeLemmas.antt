use Rattle.duration_str_refusals.proofs.Common.{arith, cases_Bool, encode_utf8_all, false, inl, inr, nat_tests, refl, sym, true, [], ℕ, ◌%◌, ◌++◌, ◌/◌, ◌<◌, ◌∙◌, ◌∷◌, ◌≡◌, ◌≢◌, ◌≤◌}
use Rattle.std.proofs.Common.{nat_lt}
use Rattle.std.proofs.lemmas.Bool.{false≢true}
use Rattle.duration_str_refusals.specs.Internal.Escapes.{hex_digits}
use Rattle.duration_str_help.specs.Quotes.{is_clear, shown}
use Rattle.std.specs.Char.{digit_char}
use Rattle.std.specs.Char.Escape.{backslash, escape_default, escape_unicode, short_escape}
use Rattle.duration_str_help.proofs.ShortLemmas.{bytes_good}
use Rattle.duration_str_refusals.proofs.OneLineLemmas.{escape_plain}

pub hex_first : (n : ℕ) → n < 16 → hex_digits n ≡ digit_char (n % 16) ∷ []
hex_first n small =
    let one : n / 1 ≡ n = omega arith in
    let is : nat_lt n 0x10 ≡ true = grind (arith, nat_tests) in
    rw (is, one) refl

pub hex_last : (n : ℕ) → 16 ≤ n → n < 0x100_0000 → hex_digits n ≡ hex_digits (n / 16) ++ digit_char (n % 16) ∷ []
hex_last n low high =
    let last : n / 1 ≡ n = omega arith in
    let e1 : n / 16 / 1 ≡ n / 0x10 = omega arith in
    let e2 : n / 16 / 0x10 ≡ n / 0x100 = omega arith in
    let e3 : n / 16 / 0x100 ≡ n / 0x1000 = omega arith in
    let e4 : n / 16 / 0x1000 ≡ n / 0x1_0000 = omega arith in
    let e5 : n / 16 / 0x1_0000 ≡ n / 0x10_0000 = omega arith in
    let two : nat_lt n 0x10 ≡ false = grind (arith, nat_tests) in
    elim (cases_Bool (nat_lt n 0x100)) [
      | inl h2 ↦ let g : nat_lt (n / 16) 0x10 ≡ true = grind (arith, nat_tests) in rw (two, h2, g, last, e1) refl
      | inr h2 ↦ let g2 : nat_lt (n / 16) 0x10 ≡ false = grind (arith, nat_tests) in elim (cases_Bool (nat_lt n 0x1000)) [
        | inl h3 ↦ let g : nat_lt (n / 16) 0x100 ≡ true = grind (arith, nat_tests) in rw (two, h2, g2, h3, g, last, e1, e2) refl
        | inr h3 ↦ let g3 : nat_lt (n / 16) 0x100 ≡ false = grind (arith, nat_tests) in elim (cases_Bool (nat_lt n 0x1_0000)) [
          | inl h4 ↦ let g : nat_lt (n / 16) 0x1000 ≡ true = grind (arith, nat_tests) in rw (two, h2, g2, h3, g3, h4, g, last, e1, e2, e3) refl
          | inr h4 ↦ let g4 : nat_lt (n / 16) 0x1000 ≡ false = grind (arith, nat_tests) in elim (cases_Bool (nat_lt n 0x10_0000)) [
            | inl h5 ↦ let g : nat_lt (n / 16) 0x1_0000 ≡ true = grind (arith, nat_tests) in rw (two, h2, g2, h3, g3, h4, g4, h5, g, last, e1, e2, e3, e4) refl
            | inr h5 ↦
                let g5 : nat_lt (n / 16) 0x1_0000 ≡ false = grind (arith, nat_tests) in
                let g6 : nat_lt (n / 16) 0x10_0000 ≡ true = grind (arith, nat_tests) in
                rw (two, h2, g2, h3, g3, h4, g4, h5, g5, g6, last, e1, e2, e3, e4, e5) refl
          ]
        ]
      ]
    ]

pub shown_letter : (c : ℕ) → is_clear c ≡ false → short_escape c ≢ 0
    → encode_utf8_all (shown c) ≡ backslash ∷ short_escape c ∷ []
shown_letter c other some =
    let are = bytes_good (escape_default c) (escape_plain c other) in
    let is : nat_lt 0 (short_escape c) ≡ true = grind (arith, nat_tests, some) in
    rw (other, are.0, is) refl

pub shown_code : (c : ℕ) → is_clear c ≡ false → short_escape c ≡ 0 → encode_utf8_all (shown c) ≡ escape_unicode c
shown_code c other none =
    let are = bytes_good (escape_default c) (escape_plain c other) in
    let no : nat_lt 0 (short_escape c) ≡ false = rw none refl in
    elim (cases_Bool (nat_lt c 32)) [
      | inl control ↦ rw (other, are.0, no, control) refl
      | inr big ↦ elim (cases_Bool (nat_lt c 127)) [
        | inl ascii ↦
            let clear : is_clear c ≡ true = grind (arith, nat_tests) in absurd (false≢true (sym other ∙ clear))
        | inr wide ↦ rw (other, are.0, no, big, wide) refl
      ]
    ]
