-- Lemmas about the steps of cutting, in terms of a text, the byte up to which it is cut, and the
-- number of looks.
use Rattle.duration_str_reading.proofs.Common.{[], add-zero, ahead, and_from, ap, append_assoc, append_cancel_right, arith, Between, Bool, byte_len, chars, chars-append, drop, drop-drop, encodes-chars, EndsRun, ForSome, if◌then◌else◌, is_digit, is_some, is_unit_letter, IsCharBoundary, IsLexeme, IsUtf8, IsUtf8-drop, IsUtf8-take, length, length-append, length-drop, length-le-encodes, letter_number, List, list_all-append, meaning_of, None, number_after, number_of, Option, Options, Passes, refl, table_of, Rules, slice_range, Some, Stands, StandsAt, sym, take, take-append-drop, TakesDigits, TakesLetters, TimeUnit, tokens_from, true, u64_from, unit_of_packed, unit_of_word, width, ℕ, ◌%◌, ◌*◌, ◌++◌, ◌+◌, ◌-◌, ◌<◌, ◌^◌, ◌∙◌, ◌∷◌, ◌≡◌, ◌≤◌, rules}
pub use Rattle.duration_str_reading.proofs.Cutting.TokenLemmas.{blanks_no_token, tokens_step}
use Rattle.duration_str_base.specs.declared.rules.Rules.{Rules as CodeRules}
use Rattle.duration_str_base.proofs.CharacterLemmas.{byte_len-append}
use Rattle.duration_str_base.proofs.NumberLemmas.{decimal_digits}
use Rattle.std.proofs.lemmas.Str.Parse.{digits_value_short}
use Rattle.duration_str_base.proofs.PackedLemmas.{exact, no_long_name, unit_by_number, packed_after-push, length-le-byte_len}

-- ---- looks

-- If the first character ahead was looked at, it is counted among the looks and among the
-- characters ahead.
abbrev pub IsCounted : List ℕ → ℕ → ℕ → Option ℕ → Type 0
IsCounted text place looks head =
    looks + length (ahead text place) ≡ length (chars text) + (if is_some head then 1 else 0)

chars_short : (text : List ℕ) → IsUtf8 text → length (chars text) ≤ length text
chars_short text utf8 = omega (arith, length-le-encodes (chars text), ap length (encodes-chars text utf8))

module _ {text : List ℕ} (place looks : ℕ) where
  pub counted_past : (c : ℕ) → Stands text place c → IsCounted text place looks (Some c)
      → looks + length (ahead text (place + width c)) ≡ length (chars text)
  counted_past c stands counted = omega (arith, ap length stands.head, counted)

  pub looks_fit : IsUtf8 text → length text < 2 ^ 63 → looks + length (ahead text place) ≡ length (chars text)
      → looks + 1 < 2 ^ 64
  looks_fit utf8 short counted = omega (arith, chars_short text utf8, short, counted)

  pub looks_most : (head : Option ℕ) → ForSome head (Stands text place) → IsCounted text place looks head
      → looks ≤ length (chars text)
  looks_most None stands counted = omega (arith, counted)
  looks_most (Some c) stands counted = omega (arith, ap length (stands c refl).head, counted)

  pub looks_least : (head : Option ℕ) → IsUtf8 text → IsCharBoundary text place → IsCounted text place looks head
      → length (chars (take place text)) ≤ looks
  looks_least head utf8 boundary counted =
      let front = chars (take place text) in
      let parts = chars-append (take place text) (drop place text) (IsUtf8-take text place utf8 boundary) in
      omega (arith, ap length (rw take-append-drop at parts), length-append front (ahead text place), counted)

-- ---- characters that pass a test

abbrev pub passes_none : {test : ℕ → Bool} {text : List ℕ} {place : ℕ} → Passes test text place place
passes_none = record { characters = []; between = record { cut = refl; bytes = omega arith }; all = refl }

abbrev passes_on : {test : ℕ → Bool} {text : List ℕ} {place at next : ℕ} → Passes test text place at
    → Passes test text at next → Passes test text place next
passes_on {test} passed more = record {
  characters = passed.characters ++ more.characters;
  between = record {
    cut = rw append_assoc (rw more.between.cut at passed.between.cut);
    bytes = rw byte_len-append (omega (arith, passed.between.bytes, more.between.bytes));
  };
  all = list_all-append test passed.characters more.characters ∙ and_from _ _ passed.all more.all;
}

abbrev pub passes_head : {test : ℕ → Bool} {text : List ℕ} {place at next c : ℕ} → Passes test text place at
    → StandsAt text at next c → test c ≡ true → Passes test text place next
passes_head {c = c} passed stands e = passes_on passed (record {
  characters = c ∷ [];
  between = record { cut = stands.head; bytes = omega (arith, stands.bytes) };
  all = rw e;
})

-- ---- values of digits and letters

number_after-push : (n : ℕ) (cs : List ℕ) (c : ℕ) → number_after n (cs ++ c ∷ []) ≡ number_after n cs * 10 + (c - 48)
number_after-push n [] c = refl
number_after-push n (d ∷ cs) c = number_after-push (n * 10 + (d - 48)) cs c

pub digits_head : {text : List ℕ} {place at next c value value' : ℕ} → TakesDigits text place at value
    → StandsAt text at next c → is_digit c ≡ true → value' ≡ (value * 10 + (c - 48)) % 2 ^ 64
    → TakesDigits text place next value'
digits_head {c = c} taken stands e more = record {
  run = passes_head taken.run stands e;
  number = omega (arith, more, taken.number, number_after-push 0 taken.run.characters c);
}

pub letters_none : {o : Options} {text : List ℕ} {place : ℕ} → TakesLetters o text place place 0
letters_none = record { run = passes_none; number = refl }

pub letters_head : {o : Options} {text : List ℕ} {place at next c value value' : ℕ}
    → TakesLetters o text place at value → StandsAt text at next c → is_unit_letter o c ≡ true
    → value' ≡ (value * 40 + letter_number o c) % 2 ^ 64 → TakesLetters o text place next value'
letters_head {o} {c = c} taken stands e more = record {
  run = passes_head taken.run stands e;
  number = omega (arith, more, taken.number, packed_after-push o 0 taken.run.characters c);
}

-- ---- the characters between two places

pub chars_between : {text cs slice : List ℕ} {place next : ℕ} → Between text place next cs
    → slice ≡ slice_range text place next → IsUtf8 slice → chars slice ≡ cs
chars_between {text} {cs} {slice} {place} {next} between is utf8 =
    let there : place + (next - place) ≡ next = omega (arith, between.bytes) in
    let parts : slice ++ drop next text ≡ drop place text =
    rw (is, ← there, ← drop-drop (next - place) place text, there)
    (take-append-drop (next - place) (drop place text)) in
    append_cancel_right (chars slice) cs (ahead text next)
    (sym (chars-append slice (drop next text) utf8) ∙ rw parts between.cut)

-- ---- numbers and words

pub short_number : {text : List ℕ} {place next low : ℕ} (taken : TakesDigits text place next low) → next ≤ place + 19
    → Some low ≡ u64_from (number_of taken.run.characters)
short_number taken short =
    let cs = taken.run.characters in
    let few : length cs ≤ 19 = omega (arith, length-le-byte_len cs, taken.run.between.bytes, short) in
    let less = digits_value_short decimal_digits cs 19 taken.run.all few in
    search rules

pub record TakesWord (r : Rules) (text : List ℕ) (place next : ℕ) (unit : Option TimeUnit) : Type 0 where
  pub run : Passes (is_unit_letter r.options) text place next
  pub named : unit ≡ unit_of_word r run.characters

module _ (given : CodeRules) {text : List ℕ} {place next value : ℕ}
    (taken : TakesLetters given.options text place next value) where
  pub short_word : {unit : Option TimeUnit} → next - place ≤ 12 → unit ≡ unit_of_packed (table_of given.table) value
      → TakesWord (meaning_of given) text place next unit
  short_word short found =
      let cs = taken.run.characters in
      let few : length cs ≤ 12 = omega (arith, length-le-byte_len cs, taken.run.between.bytes, short) in
      record {
        run = taken.run;
        named = rw (found, exact given.options cs value few taken.number, unit_by_number given cs taken.run.all);
      }

  pub long_word : 12 < next - place → TakesWord (meaning_of given) text place next None
  long_word long = record {
    run = taken.run;
    named = no_long_name given taken.run.characters (omega (arith, taken.run.between.bytes));
  }

-- ---- the first token that is left

pub token_taken : {text cs : List ℕ} {place next : ℕ} (o : Options) → Between text place next cs → IsLexeme o cs
    → EndsRun o cs (ahead text next)
    → tokens_from o place (ahead text place)
    ≡ record { start = place; characters = cs } ∷ tokens_from o next (ahead text next)
token_taken {text} {cs} {place} {next} o between is_lexeme ends =
    let step : place + 0 + byte_len cs ≡ next = omega (arith, between.bytes) in
    rw (between.cut, tokens_step o place [] cs (ahead text next) refl is_lexeme ends, step, add-zero place)

pub place_at_end : (text : List ℕ) (place : ℕ) → IsUtf8 text → IsCharBoundary text place → ahead text place ≡ []
    → place ≡ length text
place_at_end text place utf8 boundary nothing =
    let whole = encodes-chars (drop place text) (IsUtf8-drop text place utf8 boundary) in
    omega (arith, ap length (rw nothing at whole), length-drop place text, boundary.0)
