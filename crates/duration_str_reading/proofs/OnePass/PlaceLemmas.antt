-- Lemmas about the place of a fault, the token there, and the answer to a whole text.
use Rattle.duration_str_reading.proofs.Common.{[], answer, answer_left, ap, append-nil, append_assoc, AreTokens, arith, Bool, byte_len, Cause, chars, chars-append, common_steps, CondUnit, drop, drop-nil, early, early_fault, encodes, encodes-append, encodes-chars, Err, evaluation_fault, false, fault_of_terms, ForSome, IfSome, IsCharBoundary, IsCharBoundary-at_seam, IsCharBoundary-start, IsRefused, IsUtf8, IsUtf8-take, late, late_fault, length, length-append, lexemes_of, List, map, Option, Options, options_of, or_else, place_of, refl, rest_from, rest_of, Result, Rules, running_fault, scalars-chars, source, start_after, start_left, suc, sym, Syntax, syntax_fault, take, take-add, Term, Terminal, terminal_of, terminals_left, Token, Tokens, tokens_left, tokens_of, unless, zero, ℕ, ◌++◌, ◌+◌, ◌-◌, ◌<◌, ◌==◌, ◌∙◌, ◌∷◌, ◌≡◌, ◌≤◌, rules}
use Rattle.duration_str_reading.specs.Place.{ReachesPlace}
use Rattle.duration_str_reading.specs.Internal.Rest.{IsPlacedUpTo}
use Rattle.duration_str_base.proofs.CharacterLemmas.{byte_len-append, encoded_parts, byte_count}
use Rattle.duration_str_reading.proofs.Cutting.TokenLemmas.{tokens_are}
use Rattle.duration_str_reading.proofs.Sentences.AnswerLemmas.{answer_refused}
use Rattle.std.proofs.lemmas.Bool.{eqb-false}

-- ---- A property of the place of a syntax fault

-- A syntax fault is at a place for which `P` holds. Any other fault has no place, or is at the
-- start of the text.
abbrev pub Stands : (ℕ → Type 0) → Cause → Type 0
Stands P (Syntax place expected) = P place
Stands P cause = IfSome (place_of cause) (λ place. place ≡ 0)

module _ (P : ℕ → Type 0) where
  or_else_stands : (a b : Option Cause) → IfSome a (Stands P) → IfSome b (Stands P) → IfSome (or_else a b) (Stands P)
  or_else_stands a b h k = grind arith

  unless_stands : (b : Bool) (cause : Cause) → Stands P cause → IfSome (unless b cause) (Stands P)
  unless_stands b cause h = grind arith

  ruleset stands = (or_else_stands, unless_stands)

  later_stands : (op : CondUnit) (before later : List Term) → IfSome (fault_of_terms op before later) (Stands P)
  later_stands op before [] = tt
  later_stands op before (t ∷ later) = search (stands, later_stands op (before ++ t ∷ []) later) depth 8

  evaluation_stands : (terms : List Term) → IfSome (evaluation_fault terms) (Stands P)
  evaluation_stands terms = grind (arith, later_stands)

  running_stands : (before terms : List Term) → IfSome (running_fault before terms) (Stands P)
  running_stands before [] = tt
  running_stands [] (t ∷ terms) = search (stands, running_stands (t ∷ []) terms) depth 8
  running_stands (b ∷ before) (t ∷ terms) = search (stands, running_stands (b ∷ before ++ t ∷ []) terms) depth 8

  pub early_stands : (r : Rules) (front rest : List Terminal)
      → IfSome (early_fault r front rest) (Stands P)
  early_stands r front rest = grind (arith, running_stands)

  pub late_stands : (r : Rules) (terminals : List Terminal)
      → IfSome (late_fault r terminals) (Stands P)
  late_stands r terminals = grind (arith, evaluation_stands)

  pub refused_stands : (r : Rules) (text : List ℕ) (cause : Cause)
      → IsRefused r text cause
      → ((n : ℕ) → P (start_after n (byte_len text) (tokens_of r.options text))) → Stands P cause
  refused_stands r [] cause empty starts = rw empty tt
  refused_stands r (c ∷ text) cause (front, rest, is, early e) starts =
      rw e at (early_stands r front rest)
  refused_stands r (c ∷ text) cause (front, rest, is, syntax_fault expected none not kinds same) starts =
      grind arith
  refused_stands r (c ∷ text) cause (front, rest, is, late none whole e) starts =
      rw e at (late_stands r (front ++ rest))

-- ---- Bytes and boundaries

seam : (bs xs ys : List ℕ) → IsUtf8 bs → chars bs ≡ xs ++ ys → IsCharBoundary bs (byte_len xs)
seam bs xs ys utf8 e =
    let (len, more) = encoded_parts xs ys (rw e at (scalars-chars bs utf8)) in
    let whole : bs ≡ encodes xs ++ encodes ys = rw (e, encodes-append) at (sym (encodes-chars bs utf8)) in
    rw len (IsCharBoundary-at_seam bs (encodes xs) (encodes ys) whole (ys, (more, refl)))

start_placed : (o : Options) (bs xs cs : List ℕ) (n at : ℕ) (tokens : List Token) → IsUtf8 bs → chars bs ≡ xs ++ cs
    → at ≡ byte_len xs → AreTokens o at cs tokens → IsCharBoundary bs (start_after n (byte_len (chars bs)) tokens)
start_placed o bs xs cs n at [] utf8 e w a = rw drop-nil (seam bs (chars bs) [] utf8 (rw append-nil))
start_placed o bs xs cs zero at (p ∷ tokens) utf8 e w (rest, next, more) =
    rw (next.start, w, ← byte_len-append)
    (seam bs (xs ++ next.blanks) (p.characters ++ rest) utf8 (rw append_assoc (rw next.parts at e)))
start_placed o bs xs cs (suc n) at (p ∷ tokens) utf8 e w (rest, next, more) =
    let end : ℕ = p.start + byte_len p.characters in
    search (rules, append_assoc, byte_len-append, start_placed o bs (xs ++ (next.blanks ++ p.characters)) rest n end tokens)

stands_at : (P : ℕ → Type 0) → P 0 → (cause : Cause) → Stands P cause → ForSome (place_of cause) P
stands_at P start cause h = grind arith

pub fault_placed : (r : Rules) {c : Cause} (bs : List ℕ) → IsUtf8 bs → answer r (chars bs) ≡ Err c
    → ForSome (place_of c) (IsCharBoundary bs)
fault_placed r {c} bs utf8 e =
    stands_at (IsCharBoundary bs) (IsCharBoundary-start bs utf8) c
    (refused_stands (IsCharBoundary bs) r (chars bs) c ((answer_refused r (chars bs) c).0 e)
    (λ n. start_placed r.options bs [] (chars bs) n 0 _ utf8 refl refl (tokens_are r.options 0 (chars bs))))

pub chars_before : (bs : List ℕ) (place at : ℕ) → IsUtf8 bs → IsCharBoundary bs place → place ≤ at
    → length (chars (take place bs)) ≤ length (chars (take at bs))
chars_before bs place at utf8 boundary order =
    let (front, more) : List ℕ × List ℕ = (take place bs, take (at - place) (drop place bs)) in
    let sum : at ≡ place + (at - place) = omega arith in
    grind (arith, common_steps, take-add, chars-append, IsUtf8-take, length-append)

pub reaches_place : (r : Rules) (bs : List ℕ) (at looks : ℕ) (cause : Cause) → IsUtf8 bs
    → answer r (chars bs) ≡ Err cause → IsPlacedUpTo at cause → length (chars (take at bs)) ≤ looks
    → ReachesPlace bs cause looks
reaches_place r bs at looks cause utf8 is placed least place expected e =
    let boundary = fault_placed r bs utf8 is place (ap place_of e) in
    let before = chars_before bs place at utf8 boundary (placed place (ap place_of e)) in
    omega (arith, before, least)

-- ---- The answer to a whole text

all_terminals : (r : Rules) (len : ℕ) (tokens : List Token)
    → terminals_left (rest_from r len tokens) ≡ map (terminal_of r) (lexemes_of tokens)
all_terminals r len [] = refl
all_terminals r len (p ∷ tokens) = rw (all_terminals r len tokens)

pub same_start : (r : Rules) (n len : ℕ) (tokens : List Token)
    → start_left n (rest_from r len tokens) ≡ start_after n len tokens
same_start r n len [] = rw drop-nil
same_start r zero len (p ∷ tokens) = refl
same_start r (suc n) len (p ∷ tokens) = same_start r n len tokens

pub text_answer : (r : Rules) {bs : List ℕ} {result : Result ℕ Cause} (tokens : Tokens) → IsUtf8 bs
    → false ≡ (length bs == 0) → source tokens ≡ bs → options_of tokens ≡ r.options
    → tokens_left tokens ≡ tokens_of r.options (chars bs) → result ≡ answer_left r (rest_of r tokens)
    → answer r (chars bs) ≡ result
text_answer r {bs} tokens utf8 filled text options all is =
    let count : byte_len (chars bs) ≡ length bs = byte_count bs utf8 in
    let some : 0 < byte_len (chars bs) = grind (arith, eqb-false) in
    let len : byte_len (chars bs) ≡ length (source tokens) = count ∙ ap length (sym text) in
    let same : rest_from r (byte_len (chars bs)) (tokens_of r.options (chars bs)) ≡ rest_of r tokens =
    λ i. rest_from (record r { options = (sym options) i }) (len i) ((sym all) i) in
    grind (arith, all_terminals, same_start) ∙ ap (answer_left r) same ∙ sym is
