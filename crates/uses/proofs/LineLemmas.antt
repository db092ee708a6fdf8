-- The same lexemes spell a line and the line's text.
use Rattle.std.proofs.Common.{ap, inl, inr, IsUtf8, List, refl, rules, [], ℕ, ◌+◌, ◌∙◌, ◌∷◌, ◌≡◌}
use Rattle.uses.proofs.Common.{BlanksFree, goes_on, IsSentenceOf, lexemes_of, OneSentence, Rules, Spells, tokens_from, width}
use Rattle.std.proofs.lemmas.Bool.{cases_Bool}
use Rattle.std.proofs.lemmas.Str.{chars-append}
use Rattle.uses.proofs.Common.{IsReadAsBefore, Options, run-not_blank, true≢false, with_line_feed}
use Rattle.std.specs.Str.{chars}

chars_line : (bytes : List ℕ) → IsUtf8 bytes → chars (with_line_feed bytes) ≡ with_line_feed (chars bytes)
unfolding chars
chars_line bytes utf8 = chars-append bytes (10 ∷ []) utf8

read_as_before : BlanksFree → (old new : List ℕ)
    → ((r : Rules) (lexemes : List (List ℕ)) → IsSentenceOf r lexemes old → Spells lexemes new) → IsReadAsBefore old new
read_as_before free old new spells = record {
  value = λ r nanos read. free.value r old new read.lexemes nanos read.spells (spells r read.lexemes read.spells) read;
  cause = λ r lexemes cause s refused. free.cause r old new lexemes cause s (spells r lexemes s) refused;
}

line_tokens : (o : Options) (at : ℕ) (text : List ℕ) → tokens_from o at (with_line_feed text) ≡ tokens_from o at text
line_tokens o at [] = refl
line_tokens o at (c ∷ []) = elim (cases_Bool (goes_on o c (10 ∷ []))) [
  | inl more ↦ absurd (true≢false (run-not_blank o c 10 more))
  | inr ends ↦ rw ends refl
]
line_tokens o at (c ∷ d ∷ text) = rw (line_tokens o (at + width c) (d ∷ text)) refl

spells_text : OneSentence → (r : Rules) (lexemes : List (List ℕ)) (text : List ℕ)
    → IsSentenceOf r lexemes (with_line_feed text) → Spells lexemes text
spells_text law r lexemes text s =
    (law.tokens r text lexemes s.0).1 ((law.tokens r (with_line_feed text) lexemes s.0).0 s.1 ∙ ap lexemes_of
    (line_tokens r.options 0 text))

pub text_read : OneSentence → BlanksFree → (bytes : List ℕ) → IsUtf8 bytes
    → IsReadAsBefore (chars (with_line_feed bytes)) (chars bytes)
text_read law free bytes utf8 = search (rules, chars_line, read_as_before, spells_text)
