-- Lemmas about the steps of `Tokens`: what is ahead, and the next token.
use Rattle.duration_str_reading.proofs.Common.{[], ahead, arith, cut_place, ForSome, is_blank, is_digit, is_unit_letter, IsAhead, IsCharBoundary, IsSign, IsUtf8, IsUtf8-had, KeepsInput, length, length-drop, length-take-le, List, LooksAhead, None, Number, number_of, Option, options_of, Other, other, Passes, refl, Rules, rules, rules_at, rules_of, slice_range, Some, sort_of, source, Stands, StandsAt, Stops, sym, TakesDigits, TakesNumber, TakesToken, TakesTokenWith, Terminal, terminal_of, TimeUnit, Token, Tokens, tokens_left, TokenStart, u64_from, what_of, width, Word, word, YieldsNextToken, ℕ, ◌+◌, ◌<◌, ◌∙◌, ◌∷◌, ◌≡◌}
use Rattle.duration_str_base.proofs.NumberLemmas.{bytes_of_digits}
use Rattle.duration_str_reading.proofs.Cutting.PositionLemmas.{chars_between, place_at_end, TakesWord, token_taken}
use Rattle.duration_str_reading.proofs.Cutting.SortLemmas.{digit_of_sort, first_token, letter_of_sort, number_stands, sign_of_sort, sign_sorts, sign_stands, StandsToken, word_stands}
use Rattle.duration_str_reading.specs.declared.token.Token.{Token as RustToken}
use Rattle.duration_str_reading.specs.declared.token.What.TheVariants as whats
use Rattle.duration_str_reading.proofs.Cutting.TokenLemmas.{blanks_no_token}

pub keeps_on : {s m t : Tokens} → KeepsInput s m → KeepsInput m t → KeepsInput s t
keeps_on kept later = record { text = later.text ∙ kept.text; options = later.options ∙ kept.options }

pub fewer_ahead : {s t : Tokens} {c : ℕ} → KeepsInput s t
    → ForSome s.head (StandsAt (source s) (cut_place s) (cut_place t)) → s.head ≡ Some c
    → length (ahead (source t) (cut_place t)) < length (ahead (source s) (cut_place s))
fewer_ahead kept past is = simp (kept.text, (past _ is).head) (omega arith)

pub looks_ahead : {s t : Tokens} (sort : Option TokenStart) → KeepsInput s t
    → Passes is_blank (source s) (cut_place s) (cut_place t) → IsAhead t sort → LooksAhead s t sort
looks_ahead {s} sort kept blanks ahead = search (rules, blanks_no_token)

pub none_left : (s : Tokens) → IsAhead s None → (tokens_left s ≡ []) × (cut_place s ≡ length (source s))
none_left s end = search (rules, IsUtf8-had, place_at_end)

pub first_left : (r : Rules) (s : Tokens) (sort : TokenStart) → IsAhead s (Some sort)
    → (cs : List ℕ) × (rest : List Token) × (tokens_left s ≡ record { start = cut_place s; characters = cs } ∷ rest)
    × (sort ≡ sort_of (terminal_of (rules_at r s) cs))
first_left r s sort h =
    let stands : Stands (source s) (cut_place s) h.character = s.some h.character h.is_head in
    let after = ahead (source s) (cut_place s + width h.character) in
    let (cs, rest, is, sort_is) = first_token (rules_at r s) (cut_place s) h.character after h.not_blank in
    (cs, rest, rw stands.head is, rw h.is_sort sort_is)

takes_token : {r : Rules} {s t : Tokens} {terminal : Terminal} → KeepsInput s t
    → StandsToken (rules_at r s) (source s) (cut_place s) (cut_place t) terminal → TakesToken r s t terminal
takes_token {s = s} kept token = search (rules, token_taken)

pub digits_between : {s t : Tokens} {low start : ℕ} {slice : List ℕ} → KeepsInput s t
    → (taken : TakesDigits (source s) (cut_place s) (cut_place t) low) → start ≡ cut_place s
    → slice ≡ slice_range (source t) start (cut_place t) → IsUtf8 slice → slice ≡ taken.run.characters
digits_between kept taken there is utf8 =
    let same = chars_between taken.run.between (simp (kept.text, there) at is) utf8 in
    sym (bytes_of_digits _ utf8 (rw same taken.run.all)) ∙ same

pub takes_number : {s t : Tokens} {low : ℕ} {value : Option ℕ} → IsAhead s (Some Number) → KeepsInput s t
    → (taken : TakesDigits (source s) (cut_place s) (cut_place t) low) → Stops is_digit (ahead (source t) (cut_place t))
    → value ≡ u64_from (number_of taken.run.characters) → TakesNumber s t value
takes_number {s} h kept taken stops is =
    let digit = digit_of_sort (options_of s) h.character h.is_sort in
    let run =
    λ (r : Rules). number_stands (rules_at r s) taken.run (simp kept.text at stops) (s.some h.character h.is_head) digit in
    record { n = number_of taken.run.characters; kept = kept; token = λ r. takes_token kept (run r).1; is_value = is }

pub takes_word : (r : Rules) {s t : Tokens} {unit : Option TimeUnit} → IsAhead s (Some Word) → KeepsInput s t
    → TakesWord (rules_at r s) (source s) (cut_place s) (cut_place t) unit
    → Stops (is_unit_letter (options_of s)) (ahead (source t) (cut_place t)) → TakesToken r s t (word unit)
takes_word r {s} h kept taken stops =
    let letter = letter_of_sort (options_of s) h.character h.is_sort in
    takes_token kept (word_stands (rules_at r s) taken (simp kept.text at stops) (s.some h.character h.is_head) letter)

pub takes_sign : {s t : Tokens} (r : Rules) (sort : TokenStart) → IsSign sort → IsAhead s (Some sort) → KeepsInput s t
    → ((c : ℕ) → s.head ≡ Some c → StandsAt (source s) (cut_place s) (cut_place t) c)
    → TakesTokenWith r s t (λ terminal. sort ≡ sort_of terminal)
takes_sign {s} r sort sign h kept past =
    let c = h.character in
    let (no_digit, no_letter, sort_is) = sign_of_sort (options_of s) c sort sign h.is_sort in
    search (rules, takes_token, sign_stands, sign_sorts)

pub other_what : (terminal : Terminal) → Other ≡ sort_of terminal → whats.Other ≡ what_of terminal
other_what other e = refl
other_what _ e = absurd cc

pub takes_terminal : {s m t : Tokens} {terminal : Terminal} (x : RustToken) → KeepsInput s m
    → tokens_left m ≡ tokens_left s → TakesToken (rules_of (options_of m)) m t terminal
    → x.start ≡ cut_place m → x.text.now ≡ slice_range (source t) x.start (cut_place t)
    → IsUtf8 x.text.now → x.what ≡ what_of terminal → IsCharBoundary (source m) (cut_place m)
    → IsCharBoundary (source t) (cut_place t) → YieldsNextToken s (Some x) t
takes_terminal {s} {m} {t} x kept same taken there is utf8 sort before boundary =
    search (rules, chars_between, length-take-le, length-drop)
