use Rattle.std.proofs.Common.{◌≡◌, ℕ, ◌+◌, ◌<◌, Bool, false, ◌==◌, List, [], ◌∷◌, length, Some, refl, ap, ◌∙◌, arith, take, drop}
use Rattle.std.specs.List.{slice_split, position, position_or_len, before_first, after_first, All}
use Rattle.std.proofs.lemmas.List.Quantifiers.{position-Some}
use Rattle.std.proofs.lemmas.List.Sums.{position_or_len_is}
use Rattle.std.proofs.lemmas.List.Splits.{slice_split_none, slice_split_first, length-slice_split}
use Rattle.durstr_run.specs.Lines.{lines_of, without_empty_last}

abbrev is_line_feed : ℕ → Bool
is_line_feed b = b == 10

without_empty_last-cons : (part : List ℕ) (parts : List (List ℕ)) → 0 < length parts
    → without_empty_last (part ∷ parts) ≡ part ∷ without_empty_last parts
without_empty_last-cons part [] h = absurd (omega arith)
without_empty_last-cons [] (next ∷ parts) h = refl
without_empty_last-cons (b ∷ part) (next ∷ parts) h = refl

without_empty_last-one : (part : List ℕ) → 0 < length part → without_empty_last (part ∷ []) ≡ part ∷ []
without_empty_last-one [] h = absurd (omega arith)
without_empty_last-one (b ∷ part) h = refl

pub lines_of-Some : (bytes : List ℕ) (i : ℕ) → position is_line_feed bytes ≡ Some i
    → lines_of bytes ≡ take i bytes ∷ lines_of (drop (i + 1) bytes)
unfolding lines_of
lines_of-Some bytes i e =
    let found = position-Some is_line_feed bytes i 0 e in
    let at : position_or_len is_line_feed bytes ≡ i =
    position_or_len_is is_line_feed bytes i 0 (omega (arith, found.0)) found.2 (λ h. found.1) in
    let split : slice_split is_line_feed bytes ≡ before_first is_line_feed bytes ∷ slice_split is_line_feed
    (after_first is_line_feed bytes) =
    slice_split_first is_line_feed bytes 0 (omega (arith, found.0, at)) in
    let known : slice_split is_line_feed bytes ≡ take i bytes ∷ slice_split is_line_feed (drop (i + 1) bytes) =
    rw at at split in
    ap without_empty_last known
    ∙ without_empty_last-cons (take i bytes) (slice_split is_line_feed (drop (i + 1) bytes))
    (omega (arith, length-slice_split is_line_feed (drop (i + 1) bytes)))

pub lines_of-None : (bytes : List ℕ) → 0 < length bytes → All (λ b. is_line_feed b ≡ false) bytes
    → lines_of bytes ≡ bytes ∷ lines_of []
unfolding lines_of
lines_of-None bytes h e = ap without_empty_last (slice_split_none is_line_feed bytes e) ∙ without_empty_last-one bytes h
