-- Lemmas about finding the token at a place without cutting the whole text.
use Rattle.duration_str_refusals.proofs.Common.{[], add-zero, add_assoc, ap, arith, Bor, byte_len, cases_Bool, chars, chars-append, common_steps, drop, drop-drop, false, goes_on, IsCharBoundary, IsSliceOf, IsUtf8, IsUtf8-take, length-take-le, List, map, nat_tests, None, Option, option_map, Options, refl, rules, rules_of, Some, sym, take, take-append-drop, Token, token_at, tokens_from, tokens_of, true, width, with_first_character, ℕ, ◌++◌, ◌+◌, ◌-◌, ◌<◌, ◌==◌, ◌∙◌, ◌∷◌, ◌≡◌, ◌≤◌, AreTokens, Cause, drop-nil, eq-eqb, found_token, IsMissingAtEnd, IsNone, length, ne_eqb, start_after, suc, Syntax, zero, ◌↔◌}
use Rattle.duration_str_reading.proofs.Cutting.RunLemmas.{run-not_blank}
use Rattle.duration_str_base.proofs.CharacterLemmas.{width_some, byte_count, byte_len-append}
use Rattle.duration_str_reading.proofs.Cutting.SortLemmas.{first_token}
use Rattle.duration_str_reading.proofs.Cutting.TokenLemmas.{tokens_are}
use Rattle.duration_str_reading.proofs.OnePass.PlaceLemmas.{refused_stands}

elsewhere : (place at : ℕ) (cs : List ℕ) (tokens : List Token) → at < place
    → token_at place (record { start = at; characters = cs } ∷ tokens) ≡ token_at place tokens
elsewhere place at cs tokens before = let no : (at == place) ≡ false = grind (arith, nat_tests) in rw no refl

module _ (o : Options) where
  without_joined : (at place c : ℕ) (text : List ℕ) → at + width c < place → goes_on o c text ≡ true
      → token_at place (with_first_character at c (tokens_from o (at + width c) text))
      ≡ token_at place (tokens_from o (at + width c) text)
  without_joined at place c [] before e = cc e
  without_joined at place c (d ∷ more) before e =
      let (cs, rest, is, _) = first_token (rules_of o) (at + width c) d more (run-not_blank o c d e) in
      rw is (elsewhere place at _ rest (omega (arith, before)) ∙ sym (elsewhere place (at + width c) cs rest before))

  without_first : (at place c : ℕ) (text : List ℕ) → at + width c < place
      → token_at place (tokens_from o at (c ∷ text)) ≡ token_at place (tokens_from o (at + width c) text)
  without_first at place c text before = search (rules, cases_Bool, without_joined)

  without_front : (at place : ℕ) (front text : List ℕ) → (0 < byte_len front → at + byte_len front < place)
      → token_at place (tokens_from o at (front ++ text)) ≡ token_at place (tokens_from o (at + byte_len front) text)
  without_front at place [] text before = rw add-zero
  without_front at place (c ∷ front) text before =
      let some : 0 < width c + byte_len front = omega (arith, width_some c) in
      without_first at place c (front ++ text) (omega (arith, before some))
      ∙ rw add_assoc at (without_front (at + width c) place front text (λ _. omega (arith, before some)))

abbrev later_token : ℕ → Token → Token
later_token by token = record { start = by + token.start; characters = token.characters }

join_later : (by at c : ℕ) (tokens : List Token)
    → with_first_character (by + at) c (map (later_token by) tokens)
    ≡ map (later_token by) (with_first_character at c tokens)
join_later by at c tokens = search rules

tokens_later : (o : Options) (by at : ℕ) (text : List ℕ)
    → tokens_from o (by + at) text ≡ map (later_token by) (tokens_from o at text)
tokens_later o by at [] = refl
tokens_later o by at (c ∷ text) = search (arith, cases_Bool, join_later, tokens_later o by (at + width c) text)

found_later : (by place : ℕ) (tokens : List Token)
    → token_at (by + place) (map (later_token by) tokens) ≡ option_map (later_token by) (token_at place tokens)
found_later by place [] = refl
found_later by place (token ∷ tokens) = search (rules, found_later by place tokens)

found_after : (o : Options) (bs : List ℕ) (from place : ℕ) → IsUtf8 bs → IsCharBoundary bs from → from ≤ place
    → (0 < from → from < place)
    → token_at place (tokens_of o (chars bs))
    ≡ option_map (later_token from) (token_at (place - from) (tokens_of o (chars (drop from bs))))
found_after o bs from place utf8 boundary within before =
    let front = chars (take from bs) in
    let text = chars (drop from bs) in
    let front_utf8 = IsUtf8-take bs from utf8 boundary in
    let parts = rw take-append-drop at (chars-append (take from bs) (drop from bs) front_utf8) in
    let bytes : byte_len front ≡ from = rw (byte_count (take from bs) front_utf8) (length-take-le from bs boundary.0) in
    let there : place ≡ from + (place - from) = omega (arith, within) in
    let start : 0 + byte_len front ≡ from + 0 = omega (arith, bytes) in
    grind (arith, common_steps, without_front, tokens_later, found_later)

pub slice_found : (o : Options) (bs : List ℕ) (from place : ℕ) (slice : Option (Bor (List ℕ))) → IsUtf8 bs
    → IsCharBoundary bs from → from ≤ place → (0 < from → from < place)
    → IsSliceOf (drop from bs) (token_at (place - from) (tokens_of o (chars (drop from bs)))) slice
    → IsSliceOf bs (token_at place (tokens_of o (chars bs))) slice
slice_found o bs from place None utf8 boundary within before none =
    rw (found_after o bs from place utf8 boundary within before, none)
slice_found o bs from place (Some slice) utf8 boundary within before (token, is, characters, at) = (
  later_token from token,
  rw (found_after o bs from place utf8 boundary within before, is),
  characters,
  rw (drop-drop token.start from bs) at at ∙ ap (λ (n : ℕ). take n (drop (from + token.start) bs)) (omega arith),
)

none_at : (o : Options) (n at : ℕ) (text : List ℕ) (tokens : List Token) → n ≡ at + byte_len text
    → AreTokens o at text tokens → token_at n tokens ≡ None
none_at o n at text [] e a = refl
none_at o n at text (p ∷ tokens) e (rest, next, more) =
    grind (arith, byte_len-append, ne_eqb, none_at o n (p.start + byte_len p.characters) rest tokens)

found_at : (n len : ℕ) (tokens : List Token) → token_at (start_after n len tokens) tokens ≡ None
    → start_after n len tokens ≡ len
found_at n len [] none = rw drop-nil
found_at zero len (p ∷ tokens) none = absurd (cc (rw (eq-eqb p.start p.start refl) at none))
found_at (suc n) len (p ∷ tokens) none = grind (arith, cases_Bool, found_at n len tokens)

missing_token : (bytes : List ℕ) (token : Option Token) (slice : Option (Bor (List ℕ))) → IsSliceOf bytes token slice
    → (IsNone slice ↔ (token ≡ None))
missing_token bytes token slice h = grind arith

pub missing_at_end : (o : Options) (bytes : List ℕ) (cause : Cause) (slice : Option (Bor (List ℕ))) → IsUtf8 bytes
    → IsSliceOf bytes (found_token o (chars bytes) cause) slice → IsMissingAtEnd o bytes cause slice
missing_at_end o bytes cause slice utf8 is r place expected e refused =
    let text = chars bytes in
    let tokens = tokens_of o text in
    let end : byte_len text ≡ length bytes = byte_count bytes utf8 in
    let none = none_at o (length bytes) 0 text tokens (omega (arith, end)) (tokens_are o 0 text) in
    let stands : (token_at place tokens ≡ None) ↔ (place ≡ length bytes) =
    refused_stands (λ at. (token_at at tokens ≡ None) ↔ (at ≡ length bytes)) (record r { options = o }) text (Syntax place expected)
    (rw e at refused) (λ n. (λ lost. found_at n (byte_len text) tokens lost ∙ end, λ same. rw same none)) in
    let missing = missing_token bytes (token_at place tokens) slice (rw e at is) in
    (λ none. stands.0 (missing.0 none), λ same. missing.1 (stands.1 same))
