-- Lemmas about a text that is refused for a syntax fault.
use Rattle.std.proofs.Common.{append-nil, ap, arith, eqb-true, Err, false, List, None, Ok, Option, refl, Result, rules, Some, true, ℕ, ◌&&◌, ◌++◌, ◌∙◌, ◌∷◌, ◌==◌, ◌≡◌, [], chars, IfSome, IsUtf8, length, ◌*◌, ◌+◌, ◌^◌, ◌≤◌}
use Rattle.duration_str_reading.proofs.OnePass.PlaceLemmas.{early_stands, late_stands}
use Rattle.std.specs.Result.{result_ok}
use Rattle.duration_str.specs.Results.{Parses}
use Rattle.uses.specs.Common.{as_nanos, Duration, Fault}
use Rattle.uses.proofs.Common.{Cause, Expected, Syntax, CanFollow, early, expected_after, IsRead, IsRefused, IsRefusedAt, last_of, late, number, number_of, OneReading, operator, other, PlaceAndKinds, Rules, syntax_fault, Terminal, word}
use Rattle.duration_str_help.specs.declared.mend.Mend.{Mend}
use Rattle.duration_str_base.specs.declared.rules.Rules.{Rules as CodeRules}
use Rattle.duration_str_base.specs.Meaning.{meaning_of}
use Rattle.duration_str_base.specs.declared.unit.TimeUnit.{TimeUnit}
use Rattle.duration_str.specs.Mended.{HasTokensOf, IsFraction, MendedFractions, MendedTexts, RefusedTokens}
use Rattle.duration_str_help.specs.Mends.{HasPieces, mend_of, suggestion_text}

refused_at : (r : Rules) (at : ℕ) (front rest : List Terminal) (cause : Cause) (place : ℕ) (expected : Expected)
    → IsRefusedAt r at front rest cause → cause ≡ Syntax place expected → CanFollow r front expected
refused_at r at front rest cause place expected (early h) e =
    absurd (rw (h ∙ ap Some e) at (early_stands (λ n. ⊥) r front rest))
refused_at r at front rest cause place expected (syntax_fault early_none late_none whole can is) e = search rules
refused_at r at front rest cause place expected (late none s h) e =
    absurd (rw (h ∙ ap Some e) at (late_stands (λ n. ⊥) r (front ++ rest)))

one_after : (r : Rules) (last : Option Terminal)
    → ((expected_after r last).number && (expected_after r last).unit_word) ≡ false
one_after r None = refl
one_after r (Some (number n)) = refl
one_after r (Some (word u)) = refl
one_after r (Some (operator op)) = refl
one_after r (Some other) = refl

pub one_kind : PlaceAndKinds → (r : Rules) (text : List ℕ) (place : ℕ) (expected : Expected)
    → IsRefused r text (Syntax place expected) → (expected.number && expected.unit_word) ≡ false
one_kind law r [] place expected refused = cc
one_kind law r (c ∷ cs) place expected (front, rest, is_front, refused) =
    let can = refused_at r _ front rest _ place expected refused refl in
    rw ((law.kinds r front expected is_front.begins).0 can) (one_after r (last_of None front))

pub offered_past : MendedTexts → (s : CodeRules) (text : List ℕ) (cause : Cause) (offer : Option Mend) → IsUtf8 text
    → IsRefused (meaning_of s) (chars text) cause → HasPieces (mend_of (meaning_of s) text cause) offer
    → IfSome offer (λ new. (place : ℕ) (expected : Expected)
    → IsRefused (meaning_of s) (chars (new.front.now ++ (suggestion_text new.suggestion ++ new.rest.now))) (Syntax place expected)
    → length new.front.now + length (suggestion_text new.suggestion) ≤ place)
offered_past law s text cause None utf8 refused has = tt
offered_past law s text cause (Some new) utf8 refused has = law s text cause _ utf8 refused has

pub offered_tokens : RefusedTokens → (s : CodeRules) (text : List ℕ) (cause : Cause) (offer : Option Mend) → IsUtf8 text
    → IsRefused (meaning_of s) (chars text) cause → HasPieces (mend_of (meaning_of s) text cause) offer
    → IfSome offer (λ new. HasTokensOf s.options text new.front.now new.replaced.now new.rest.now)
offered_tokens law s text cause None utf8 refused has = tt
offered_tokens law s text cause (Some new) utf8 refused has = law s text cause _ utf8 refused has

alone : (front written rest : List ℕ) → length front ≡ 0 → length rest ≡ 0 → front ++ (written ++ rest) ≡ written
alone [] written [] no_front no_rest = append-nil written
alone [] written (c ∷ rest) no_front no_rest = absurd (omega (arith, no_rest))
alone (c ∷ front) written rest no_front no_rest = absurd (omega (arith, no_front))

-- The value of what is written in place of the whole text, times 10 for each digit after the point.
pub fraction_exact : MendedFractions → OneReading → (s : CodeRules) (text whole decimals : List ℕ) (unit : TimeUnit)
    (cause : Cause) (new : Mend) (nanos : ℕ) → IsUtf8 text → IsFraction s text whole decimals unit
    → IsRefused (meaning_of s) (chars text) cause → HasPieces (mend_of (meaning_of s) text cause) (Some new)
    → length new.front.now ≡ 0 → length new.rest.now ≡ 0
    → IsRead (meaning_of s) (chars (suggestion_text new.suggestion)) nanos
    → nanos * 10 ^ length decimals ≡ number_of (whole ++ decimals) * ((meaning_of s).table unit).nanos
fraction_exact law reading s text whole decimals unit cause new nanos utf8 fraction refused has no_front no_rest read =
    let (value, own, exact) = law s text whole decimals unit cause _ utf8 fraction refused has in
    let text = alone new.front.now (suggestion_text new.suggestion) new.rest.now no_front no_rest in
    let same : nanos ≡ value = reading.one_value (meaning_of s) _ nanos value read (rw text at own) in
    rw same exact

pub taken_exact : MendedFractions → OneReading → (s : CodeRules) (text written : List ℕ) (cause : Cause) (new : Mend)
    (result : Result Duration Fault) (taken : Option Duration) → IsUtf8 text → IsRefused (meaning_of s) (chars text) cause
    → HasPieces (mend_of (meaning_of s) text cause) (Some new) → (length new.front.now == 0) ≡ true
    → (length new.rest.now == 0) ≡ true → written ≡ suggestion_text new.suggestion → Parses (meaning_of s) written result
    → taken ≡ result_ok result
    → IfSome taken (λ d. (whole : List ℕ) (decimals : List ℕ) (unit : TimeUnit) → IsFraction s text whole decimals unit
    → as_nanos d * 10 ^ length decimals ≡ number_of (whole ++ decimals) * ((meaning_of s).table unit).nanos)
taken_exact law reading s text written cause new (Ok d) taken utf8 refused has no_front no_rest is parsed same =
    rw same (λ whole decimals unit fraction. fraction_exact law reading s text whole decimals unit cause new (as_nanos d) utf8
    fraction refused has (eqb-true _ _ no_front) (eqb-true _ _ no_rest) (rw is at parsed.read))
taken_exact law reading s text written cause new (Err fault) taken utf8 refused has no_front no_rest is parsed same =
    rw same tt
