-- The value of a text with a suggestion that is a term.
use Rattle.duration_str_laws.proofs.Common.{[], ap, append_assoc, cases_Bool, chars, chars-nil, CondUnit, goes_on, inl, inr, is_blank, IsRead, IsSentence, lexemes_of, List, map, map-append, meaning_of, number, operator, Options, Plus, refl, Rules, Some, subst, sym, Terminal, terminal_of, terminals_of, terms_after, terms_of, TimeUnit, Token, tokens_from, tokens_of, value_of, width, with_first_character, word, ℕ, ◌++◌, ◌+◌, ◌∙◌, ◌∷◌, ◌≡◌, length}
use Rattle.duration_str_laws.specs.Mended.{IsExactly, KeepsTokens, mended_text, MendedValues, terms_around}
use Rattle.duration_str_help.specs.Mends.{Pieces, pieces_of}
use Rattle.duration_str_reading.proofs.Sentences.AnswerLemmas.{EvaluatesTo, read_terminals}
use Rattle.duration_str_laws.proofs.Mended.{IsMendOf, kept_tokens, mend, of_pieces, OfPieces, same_suggestion, written_holds}
use Rattle.duration_str_laws.proofs.MendedTokens.{stand_for}

-- ---- Tokens at another place

joined_lexemes : (at from c : ℕ) (xs ys : List Token) → lexemes_of xs ≡ lexemes_of ys
    → lexemes_of (with_first_character at c xs) ≡ lexemes_of (with_first_character from c ys)
joined_lexemes at from c [] [] same = refl
joined_lexemes at from c [] (y ∷ ys) same = cc
joined_lexemes at from c (x ∷ xs) [] same = cc
joined_lexemes at from c (x ∷ xs) (y ∷ ys) same =
    let both : x.characters ∷ lexemes_of xs ≡ y.characters ∷ lexemes_of ys = same in
    let first : x.characters ≡ y.characters = cc both in
    let more : lexemes_of xs ≡ lexemes_of ys = cc both in
    rw (first, more) refl

moved_lexemes : (o : Options) (at from : ℕ) (text : List ℕ) → lexemes_of (tokens_from o at text) ≡ lexemes_of (tokens_from o from text)
moved_lexemes o at from [] = refl
moved_lexemes o at from (c ∷ text) =
    let later = moved_lexemes o (at + width c) (from + width c) text in
    elim (cases_Bool (is_blank c)) [
      | inl blank ↦ rw blank later
      | inr solid ↦ elim (cases_Bool (goes_on o c text)) [
        | inl more ↦ rw (solid, more) (joined_lexemes at from c _ _ later)
        | inr alone ↦ rw (solid, alone) (ap (λ (ws : List (List ℕ)). (c ∷ []) ∷ ws) later)
      ]
    ]

moved_terminals : (r : Rules) (at : ℕ) (text : List ℕ) → stand_for r (tokens_from r.options at text) ≡ terminals_of r text
moved_terminals r at text = ap (map (terminal_of r)) (moved_lexemes r.options at 0 text)

stand_append : (r : Rules) (xs ys : List Token) → stand_for r (xs ++ ys) ≡ stand_for r xs ++ stand_for r ys
stand_append r xs ys = rw (map-append, map-append) refl

mended_terminals : (r : Rules) (new : Pieces) → KeepsTokens r.options new
    → terminals_of r (chars (mended_text new))
    ≡ terminals_of r (chars new.front) ++ (terminals_of r (chars new.written) ++ terminals_of r (chars new.rest))
mended_terminals r new tokens =
    let end = length new.front + length new.written in
    let written = tokens_from r.options (length new.front) (chars new.written) in
    let rest = tokens_from r.options end (chars new.rest) in
    ap (stand_for r) tokens ∙ stand_append r (tokens_of r.options (chars new.front)) (written ++ rest)
    ∙ ap (λ (ts : List Terminal). terminals_of r (chars new.front) ++ ts) (stand_append r written rest
    ∙ rw (moved_terminals r (length new.front) (chars new.written), moved_terminals r end (chars new.rest)) refl)

-- ---- The terms up to a unit, and those after it

terms_past : (r : Rules) (op : CondUnit) (front : List Terminal) (u : TimeUnit) (rest : List Terminal)
    → IsSentence r (front ++ word (Some u) ∷ rest)
    → terms_after r op (front ++ word (Some u) ∷ rest) ≡ terms_after r op (front ++ word (Some u) ∷ []) ++ terms_of r rest
terms_past r op (number n ∷ []) u rest s = refl
terms_past r op (number n ∷ operator next ∷ front) u rest s = rw (terms_past r next front u rest s.2) refl
terms_past r op (number n ∷ word (Some v) ∷ operator next ∷ front) u rest s = rw (terms_past r next front u rest s.1) refl
terms_past r op (number n ∷ word (Some v) ∷ number m ∷ front) u rest s = rw (terms_past r Plus (number m ∷ front) u rest s) refl
terms_past r op _ u rest s = absurd s

value_in_place : (r : Rules) (new : Pieces) (count : ℕ) (u : TimeUnit) (nanos : ℕ) → KeepsTokens r.options new
    → terminals_of r (chars new.written) ≡ number count ∷ word (Some u) ∷ [] → IsRead r (chars (mended_text new)) nanos
    → value_of (terms_around r new count u) ≡ Some nanos
value_in_place r new count u nanos tokens said read =
    let front = terminals_of r (chars new.front) in
    let rest = terminals_of r (chars new.rest) in
    let e : EvaluatesTo r (terminals_of r (chars (mended_text new))) nanos = read_terminals read in
    let all : terminals_of r (chars (mended_text new)) ≡ (front ++ number count ∷ []) ++ word (Some u) ∷ rest =
    mended_terminals r new tokens ∙ ap (λ (ts : List Terminal). front ++ (ts ++ rest)) said
    ∙ sym (append_assoc front (number count ∷ []) (word (Some u) ∷ rest)) in
    let parts = terms_past r Plus (front ++ number count ∷ []) u rest (rw all at e.sentence) in
    let near : (front ++ number count ∷ []) ++ word (Some u) ∷ [] ≡ front ++ number count ∷ word (Some u) ∷ [] =
    append_assoc front (number count ∷ []) (word (Some u) ∷ []) in
    ap (λ (ts : List Terminal). value_of (terms_of r ts ++ terms_of r rest)) (sym near) ∙ ap value_of (sym parts)
    ∙ ap (λ (ts : List Terminal). value_of (terms_of r ts)) (sym all) ∙ e.value

pub values_hold : MendedValues
values_hold s text cause new count unit utf8 refused is asked =
    let r = meaning_of s in
    let m : IsMendOf s text cause new = mend s text cause new utf8 refused is in
    let same = same_suggestion s text cause new (record { count = Some count; unit = Some unit }) m asked in
    let said = written_holds s text cause new (record { count = Some count; unit = Some unit }) utf8 refused is asked in
    let replaced : (pieces_of text m.replacement).replaced ≡ new.replaced = ap (λ (p : Pieces). p.replaced) m.pieces in (
      subst (λ (bytes : List ℕ). IsExactly s bytes count unit) replaced (m.is.exact count unit same),
      λ nanos read. by nanos said read (of_pieces s text cause new m),
    )
  where
    by : (nanos : ℕ) → terminals_of (meaning_of s) (chars new.written) ≡ number count ∷ word (Some unit) ∷ []
        → IsRead (meaning_of s) (chars (mended_text new)) nanos → OfPieces s new
        → value_of (terms_around (meaning_of s) new count unit) ≡ Some nanos
    by nanos said read (inl k) = value_in_place (meaning_of s) new count unit nanos (kept_tokens s new k) said read
    by nanos said read (inr j) =
        let none : terminals_of (meaning_of s) (chars new.written) ≡ [] = rw (j.removed, chars-nil) refl in
        absurd (cc (none, said))
