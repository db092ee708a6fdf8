-- Bytes that are short, plain and UTF-8.
use Rattle.duration_str_help.proofs.Common.{and_parts, arith, Bool, chars, chars-encodes, decimal, decimal_by_steps, encode_ascii, encode_utf8_all, encodes-append, IfSome, if◌then◌else◌, IsTrue, IsUtf8, leb-true, length, length-append, length-decimal-le, List, list_all, list_all-append, lit<, ltb-true, nat_le, nat_tests, None, Option, refl, rules, scalar, scalars, Some, TimeUnit, true, [], ℕ, ◌%◌, ◌&&◌, ◌++◌, ◌+◌, ◌<◌, ◌^◌, ◌∷◌, ◌≡◌, ◌≤◌}
use Rattle.std.proofs.Common.{nat_lt}
use Rattle.duration_str_help.specs.declared.suggestion.Suggestion.{Suggestion}
use Rattle.duration_str_help.specs.Mends.{count_text, suggestion_text, unit_text}
use Rattle.duration_str_help.specs.Help.{help_name}
use Rattle.duration_str_help.specs.Quotes.{is_plain}
use Rattle.std.proofs.Math.Utf8.{low_scalar}

abbrev pub is_good : ℕ → Bool
is_good c = scalar c && is_plain c

pub record IsShort (most : ℕ) (bytes : List ℕ) : Type 0 where
  pub characters : List ℕ
  pub good : list_all is_good characters ≡ true
  pub spells : encode_utf8_all characters ≡ bytes
  pub short : length bytes ≤ most

pub good_parts : (cs : List ℕ) → list_all is_good cs ≡ true → (scalars cs ≡ true) × (list_all is_plain cs ≡ true)
good_parts [] e = (refl, refl)
good_parts (c ∷ cs) e = search (rules, and_parts, good_parts cs)

pub short_utf8 : (most : ℕ) (bytes : List ℕ) → IsShort most bytes → IsUtf8 bytes
short_utf8 most bytes is = (is.characters, ((good_parts is.characters is.good).0, is.spells))

pub short_plain : (most : ℕ) (bytes : List ℕ) → IsShort most bytes → IsTrue (list_all is_plain (chars bytes))
short_plain most bytes is = search (rules, chars-encodes, good_parts)

pub less : {m n : ℕ} {bytes : List ℕ} → m ≤ n → IsShort m bytes → IsShort n bytes
less h is = record { characters = is.characters; good = is.good; spells = is.spells; short = omega (arith, h, is.short) }

pub joined : {m n : ℕ} {xs ys : List ℕ} → IsShort m xs → IsShort n ys → IsShort (m + n) (xs ++ ys)
joined {xs = xs} {ys = ys} front back = record {
  characters = front.characters ++ back.characters;
  good = rw (list_all-append is_good front.characters back.characters, front.good, back.good) refl;
  spells = rw (encodes-append front.characters back.characters, front.spells, back.spells) refl;
  short = omega (arith, front.short, back.short, length-append xs ys);
}

pub chosen : {most : ℕ} (b : Bool) {xs ys : List ℕ} → IsShort most xs → IsShort most ys
    → IsShort most (if b then xs else ys)
chosen b first second = search rules

abbrev pub is_plain_byte : ℕ → Bool
is_plain_byte b = nat_le 32 b && nat_lt b 127

pub bytes_good : (bytes : List ℕ) → list_all is_plain_byte bytes ≡ true
    → (encode_utf8_all bytes ≡ bytes) × (list_all is_good bytes ≡ true)
bytes_good [] e = (refl, refl)
bytes_good (b ∷ bytes) e = search (rules, and_parts, ltb-true, encode_ascii, low_scalar, bytes_good bytes)

abbrev pub are_short : ℕ → List ℕ → Bool
are_short most bytes = nat_le (length bytes) most && list_all is_plain_byte bytes

pub literal : (most : ℕ) (bytes : List ℕ) → are_short most bytes ≡ true → IsShort most bytes
literal most bytes e =
    let both = and_parts (nat_le (length bytes) most) (list_all is_plain_byte bytes) e in
    let are = bytes_good bytes both.1 in
    record { characters = bytes; good = are.1; spells = are.0; short = leb-true _ _ both.0 }

pub digit_plain : (n : ℕ) → n < 10 → list_all is_plain_byte ((48 + n) ∷ []) ≡ true
digit_plain n h = let e : is_plain_byte (48 + n) ≡ true = grind (arith, nat_tests) in rw e refl

pub decimal_plain : (n : ℕ) → n < 2 ^ 64 → list_all is_plain_byte (decimal n) ≡ true
decimal_plain n h =
    decimal_by_steps (λ n ds. list_all is_plain_byte ds ≡ true) (λ n small. digit_plain n small)
    (λ n ds big e. rw (list_all-append is_plain_byte ds ((48 + n % 10) ∷ []), e)
    (digit_plain (n % 10) (omega arith))) n h

pub decimal_short : (n : ℕ) → n < 2 ^ 64 → IsShort 20 (decimal n)
decimal_short n small =
    let are = bytes_good (decimal n) (decimal_plain n small) in
    record { characters = decimal n; good = are.1; spells = are.0; short = length-decimal-le 20 n (lit< tt) (omega arith) small }

pub name_short : (u : TimeUnit) → IsShort 3 (encode_utf8_all (help_name u))
unfolding lib.Utf8.encode
name_short u = search rules

pub count_short : (count : Option ℕ) → IfSome count (λ n. n < 2 ^ 64) → IsShort 20 (count_text count)
count_short (Some n) small = decimal_short n small
count_short None small = literal 20 [] refl

pub unit_short : (unit : Option TimeUnit) → IsShort 3 (unit_text unit)
unit_short (Some u) = name_short u
unit_short None = literal 3 [] refl

pub suggestion_short : (s : Suggestion) → IfSome s.count (λ n. n < 2 ^ 64) → IsShort 23 (suggestion_text s)
suggestion_short s small = joined (count_short s.count small) (unit_short s.unit)
