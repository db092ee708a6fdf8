-- Texts that are cut where a syntax fault is.
use Rattle.duration_str_laws.proofs.Common.{[], and_parts, ap, append-nil, append_assoc, are_of_one_run, AreTokens, arith, BeginsSentence, byte_len, CanFollow, Cause, drop-nil, early, EndsRun, Expected, false, false_from_ne_true, goes_on, is_blank, is_digit, is_unit_letter, IsBlank, IsLexeme, IsRefused, IsRefusedAt, late, length, lexemes_of, List, list_all, map, Options, refl, Rules, rules, Some, start_after, suc, sym, Syntax, syntax_fault, take, Terminal, terminal_of, terminals_of, Token, tokens_of, true, width, zero, ℕ, ⊤, ◌++◌, ◌+◌, ◌∙◌, ◌∷◌, ◌≡◌, ◌≤◌}
use Rattle.duration_str_base.proofs.CharacterLemmas.{byte_len-append, digit-not_blank, letter-not_blank, width_some}
use Rattle.duration_str_reading.proofs.Cutting.RunLemmas.{run-not_blank}
use Rattle.duration_str_reading.proofs.Cutting.TokenLemmas.{same_all, same_end, tokens_are, tokens_once}
use Rattle.duration_str_reading.proofs.OnePass.PlaceLemmas.{early_stands, late_stands}
use Rattle.std.proofs.Math.Seq.{take-append_seam}
use Rattle.std.proofs.lemmas.List.{take-map}

-- ---- Two texts with no run over their seam

-- No run goes on from the first text into the second.
abbrev pub IsApart : Options → List ℕ → List ℕ → Type 0
IsApart o [] more = ⊤
IsApart o (c ∷ []) more = goes_on o c more ≡ false
IsApart o (c ∷ d ∷ text) more = IsApart o (d ∷ text) more

pub apart_nothing : (o : Options) (text : List ℕ) → IsApart o text []
apart_nothing o [] = tt
apart_nothing o (c ∷ []) = refl
apart_nothing o (c ∷ d ∷ text) = apart_nothing o (d ∷ text)

pub apart_blank : (o : Options) (text rest : List ℕ) → IsBlank text → IsApart o text rest
apart_blank o [] rest h = tt
apart_blank o (c ∷ []) [] h = refl
apart_blank o (c ∷ []) (d ∷ rest) h =
    let blank : is_blank c ≡ true = (and_parts (is_blank c) _ h).0 in
    let digit = false_from_ne_true (is_digit c) (λ t. cc (digit-not_blank c t, blank)) in
    let letter = false_from_ne_true (is_unit_letter o c) (λ t. cc (letter-not_blank o c t, blank)) in
    rw (digit, letter) refl
apart_blank o (c ∷ e ∷ text) rest h = apart_blank o (e ∷ text) rest (and_parts (is_blank c) _ h).1

apart_run : (o : Options) (c : ℕ) (cs rest : List ℕ) → IsLexeme o (c ∷ cs) → EndsRun o (c ∷ cs) rest
    → IsApart o (c ∷ cs) rest
apart_run o c [] rest lexeme ends = ends
apart_run o c (d ∷ cs) rest lexeme ends =
    let (run, more) = and_parts (are_of_one_run o c d) (list_all (are_of_one_run o c) cs) lexeme.1 in
    apart_run o d cs rest (run-not_blank o c d run, same_all o c d cs run ∙ more) (same_end o c d rest run ∙ ends)

pub apart_past : (o : Options) (front : List ℕ) (c : ℕ) (cs rest : List ℕ) → IsApart o (c ∷ cs) rest
    → IsApart o (front ++ c ∷ cs) rest
apart_past o [] c cs rest h = h
apart_past o (d ∷ []) c cs rest h = h
apart_past o (d ∷ e ∷ front) c cs rest h = apart_past o (e ∷ front) c cs rest h

pub apart_last : (o : Options) (front cs rest : List ℕ) → IsLexeme o cs → EndsRun o cs rest → IsApart o (front ++ cs) rest
apart_last o front [] rest lexeme ends = absurd lexeme
apart_last o front (c ∷ cs) rest lexeme ends = apart_past o front c cs rest (apart_run o c cs rest lexeme ends)

apart_after : (o : Options) (blanks cs front rest : List ℕ) → IsLexeme o cs → EndsRun o cs (front ++ rest)
    → IsApart o front rest → IsApart o (blanks ++ (cs ++ front)) rest
apart_after o blanks cs [] rest lexeme ends apart = rw append-nil (apart_last o blanks cs rest lexeme ends)
apart_after o blanks cs (d ∷ front) rest lexeme ends apart =
    rw (append_assoc blanks cs (d ∷ front)) at (apart_past o (blanks ++ cs) d front rest apart)

-- ---- A text that is split at a token

record IsSplit (o : Options) (at end : ℕ) (text : List ℕ) (tokens : List Token) (n : ℕ) : Type 0 where
  front : List ℕ
  rest : List ℕ
  parts : text ≡ front ++ rest
  place : at + byte_len front ≡ start_after n end tokens
  apart : IsApart o front rest
  are : AreTokens o at front (take n tokens)

ends_earlier : (o : Options) (cs front rest : List ℕ) → EndsRun o cs (front ++ rest) → EndsRun o cs front
ends_earlier o cs front rest h = search rules

split_at : (o : Options) (at end : ℕ) (text : List ℕ) (tokens : List Token) (n : ℕ) → end ≡ at + byte_len text
    → AreTokens o at text tokens → IsSplit o at end text tokens n
split_at o at end text [] zero e h =
    record { front = text; rest = []; parts = sym (append-nil text); place = sym e; apart = apart_nothing o text; are = h }
split_at o at end text [] (suc n) e h =
    record { front = text; rest = []; parts = sym (append-nil text); place = sym e; apart = apart_nothing o text; are = h }
split_at o at end text (token ∷ tokens) zero e (rest, next, are) = record {
  front = next.blanks;
  rest = token.characters ++ rest;
  parts = next.parts;
  place = sym next.start;
  apart = apart_blank o next.blanks (token.characters ++ rest) next.blank;
  are = next.blank;
}
split_at o at end text (token ∷ tokens) (suc n) e (rest, next, are) =
    let cs = token.characters in
    let len : byte_len text ≡ byte_len next.blanks + (byte_len cs + byte_len rest) =
    rw (next.parts, byte_len-append, byte_len-append) refl in
    let s : IsSplit o (token.start + byte_len cs) end rest tokens n =
    split_at o (token.start + byte_len cs) end rest tokens n (omega (arith, e, len, next.start)) are in
    let ends : EndsRun o cs s.front = ends_earlier o cs s.front s.rest (rw s.parts at next.ends) in
    record {
      front = next.blanks ++ (cs ++ s.front);
      rest = s.rest;
      parts = rw (append_assoc, append_assoc, ← s.parts) next.parts;
      place = simp byte_len-append (omega (arith, next.start, s.place));
      apart = apart_after o next.blanks cs s.front s.rest next.is_lexeme (rw s.parts at next.ends) s.apart;
      are = (
        s.front,
        record {
          blanks = next.blanks;
          blank = next.blank;
          parts = refl;
          start = next.start;
          is_lexeme = next.is_lexeme;
          ends = ends;
        },
        s.are,
      );
    }

same_parts : (a b x y : List ℕ) → a ++ x ≡ b ++ y → byte_len a ≡ byte_len b → (a ≡ b) × (x ≡ y)
same_parts [] [] x y parts bytes = (refl, parts)
same_parts [] (d ∷ b) x y parts bytes = absurd (omega (arith, bytes, width_some d))
same_parts (c ∷ a) [] x y parts bytes = absurd (omega (arith, bytes, width_some c))
same_parts (c ∷ a) (d ∷ b) x y parts bytes =
    let head : c ≡ d = cc in
    let tail : a ++ x ≡ b ++ y = cc in
    let wide : width c ≡ width d = ap width head in
    let later = same_parts a b x y tail (omega (arith, bytes, wide)) in
    (rw (head, later.0) refl, later.1)

-- ---- The places after a token

pub starts_from : (o : Options) (n at len : ℕ) (text : List ℕ) (tokens : List Token) → AreTokens o at text tokens
    → at + byte_len text ≤ len → at ≤ start_after n len tokens
starts_from o n at len text [] are h = rw drop-nil (omega (arith, h))
starts_from o zero at len text (token ∷ tokens) (rest, next, are) h = omega (arith, next.start)
starts_from o (suc n) at len text (token ∷ tokens) (rest, next, are) h =
    let bytes : byte_len text ≡ byte_len next.blanks + (byte_len token.characters + byte_len rest) =
    rw (next.parts, byte_len-append, byte_len-append) refl in
    let start = token.start + byte_len token.characters in
    let later : start ≤ start_after n len tokens =
    starts_from o n start len rest tokens are (omega (arith, h, bytes, next.start)) in
    omega (arith, next.start, later)

pub starts_over : (o : Options) (n at len : ℕ) (text : List ℕ) (before after : List Token) → AreTokens o at text after
    → at + byte_len text ≤ len → length before ≤ n → at ≤ start_after n len (before ++ after)
starts_over o n at len text [] after are h most = starts_from o n at len text after are h
starts_over o zero at len text (first ∷ before) after are h most = absurd (omega (arith, most))
starts_over o (suc n) at len text (first ∷ before) after are h most =
    starts_over o n at len text before after are h (omega (arith, most))

-- ---- The fault of the text

abbrev pub stand_for : Rules → List Token → List Terminal
stand_for r tokens = map (terminal_of r) (lexemes_of tokens)

pub length_stand : (r : Rules) (tokens : List Token) → length (stand_for r tokens) ≡ length tokens
length_stand r [] = refl
length_stand r (token ∷ tokens) = rw (length_stand r tokens) refl

pub refused_at : (r : Rules) (at : ℕ) (front rest : List Terminal) (cause : Cause) (place : ℕ) (expected : Expected)
    → IsRefusedAt r at front rest cause → cause ≡ Syntax place expected → (place ≡ at) × CanFollow r front expected
refused_at r at front rest cause place expected (early h) e =
    absurd (rw (h ∙ ap Some e) at (early_stands (λ n. ⊥) r front rest))
refused_at r at front rest cause place expected (syntax_fault early_none late_none whole can is) e = search rules
refused_at r at front rest cause place expected (late none s h) e =
    absurd (rw (h ∙ ap Some e) at (late_stands (λ n. ⊥) r (front ++ rest)))

-- Some sentence starts with what the text's tokens stand for.
abbrev pub Begins : Rules → List ℕ → Type 0
Begins r text = BeginsSentence r (terminals_of r text)

-- The text before a syntax fault.
pub record IsCutBefore (r : Rules) (front back : List ℕ) (expected : Expected) : Type 0 where
  pub apart : IsApart r.options front back
  pub begins : Begins r front
  pub can_follow : CanFollow r (terminals_of r front) expected

pub cut_before : (r : Rules) (front back : List ℕ) (expected : Expected)
    → IsRefused r (front ++ back) (Syntax (byte_len front) expected) → IsCutBefore r front back expected
cut_before r front back expected refused = by (front ++ back) refl refused
  where
    by : (text : List ℕ) → text ≡ front ++ back → IsRefused r text (Syntax (byte_len front) expected) → IsCutBefore r front back expected
    by [] parts refused = cc
    by (c ∷ cs) parts (terminals, left, is_front, refused) =
        let o = r.options in
        let text = c ∷ cs in
        let n = length terminals in
        let at_front = refused_at r _ terminals left _ (byte_len front) expected refused refl in
        let k : IsSplit o 0 (byte_len text) text (tokens_of o text) n =
        split_at o 0 (byte_len text) text (tokens_of o text) n (omega arith) (tokens_are o 0 text) in
        let place : byte_len k.front ≡ byte_len front = omega (arith, k.place, at_front.0) in
        let (split, rest) = same_parts k.front front k.rest back (rw k.parts at parts) place in
        let tokens : take n (tokens_of o text) ≡ tokens_of o front =
        tokens_once o 0 front (take n (tokens_of o text)) (tokens_of o front) (rw split at k.are) (tokens_are o 0 front) in
        let same : terminals ≡ terminals_of r front =
        sym (rw (take-map, take-map, tokens) at (ap (take n) is_front.parts ∙ take-append_seam terminals left)) in
        record {
          apart = rw (split, rest) at k.apart;
          begins = rw same at is_front.begins;
          can_follow = rw same at at_front.1;
        }
