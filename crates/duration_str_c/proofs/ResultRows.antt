-- Rows of definitions that say what calls return: what follows from each in one case. A definition
-- that said less would be refused here.
use Rattle.std.specs.Prelude.{◌≡◌, ◌≤◌, ◌⊎◌, ℕ, ◌+◌, ◌^◌, ◌∷◌, ◌++◌, [], Any, IsUtf8, List, None, Some, codes}
use Rattle.std.specs.Duration.{FitsDuration}
use Rattle.std.specs.Str.{chars, IsCharBoundary}
use Rattle.std.proofs.Common.{arith, false, inl, inr, refl, true}
use Rattle.duration_str_reading.proofs.Sentences.AnswerLemmas.{answer_read, answer_refused, one_reading_holds}
use Rattle.duration_str_reading.specs.Answer.{expected_at_start}
use Rattle.duration_str_printing.specs.Breakdown.{ArePartsRounded, sum_of_parts}
use Rattle.duration_str_printing.specs.Format.{IsPrintedWithin, whole_format}
use Rattle.duration_str_help.specs.Mends.{Pieces}
use Rattle.duration_str_reading.specs.Reading.{IsRead, IsRefused}
use Rattle.duration_str_printing.specs.Rounding.{NoneAbove}
use Rattle.duration_str_base.specs.declared.cause.Cause.{Cause}
use Rattle.duration_str_base.specs.declared.cause.Cause.TheVariants.{Mixed, Syntax}
use Rattle.duration_str_base.specs.declared.cause.Expected.{Expected}
use Rattle.duration_str_printing.specs.declared.format.Format.{Format}
use Rattle.duration_str_base.specs.Options.{off}
use Rattle.duration_str_help.specs.declared.help.Help.TheVariants.{DidYouMean}
use Rattle.duration_str_base.specs.declared.operator.CondUnit.TheVariants.{Plus, Star}
use Rattle.duration_str_base.specs.declared.unit.TimeUnit.TheVariants.{Minute}
use Rattle.duration_str_c.specs.Answers.{IsAnswerTo, IsTold, rules_of_bits, TellsFault}
use Rattle.duration_str_c.specs.declared.answer.Answer.{Answer}
use Rattle.duration_str_c.specs.Breakdown.{counts_of, IsBrokenDown, IsTooLarge}
use Rattle.duration_str_c.specs.Format.{IsFormatted}
use Rattle.duration_str_c.specs.Help.{IsHelpShown, ShowsHelp}
use Rattle.duration_str_c.specs.Messages.{IsSaidOf, IsShown, ShowsRefusal}
use Rattle.duration_str_c.specs.Rounding.{AreRight, NoneRounded}
use Rattle.std.specs.Fmt.{digits}
use lib.Utf8.{encode}

abbrev mins : Pieces
mins = record { front = codes "5 "; replaced = codes "mins"; written = codes "min"; rest = [] }

module _ (number start len : ℕ) (new : List ℕ)
    (shown : IsHelpShown (Some (DidYouMean Minute)) (Some mins) (codes "????") number new start len) where
  pub help_has_its_number : number ≡ 1
  help_has_its_number = shown.numbered

  pub what_to_write_stands_in_front : new ≡ codes "min" ++ (0 ∷ [])
  what_to_write_stands_in_front = shown.written

  pub part_starts_after_the_front : start ≡ 2
  part_starts_after_the_front = shown.starts

  pub part_is_the_word : len ≡ 4
  part_is_the_word = shown.long

module _ (number start len : ℕ) (new : List ℕ) (shown : IsHelpShown None None (codes "????") number new start len) where
  pub no_help_is_zero : number ≡ 0
  no_help_is_zero = shown.numbered

  pub rest_of_the_buffer_stays : new ≡ 0 ∷ codes "???"
  rest_of_the_buffer_stays = shown.written

  pub no_part_starts_at_zero : start ≡ 0
  no_part_starts_at_zero = shown.starts

  pub no_part_is_empty : len ≡ 0
  no_part_is_empty = shown.long

-- ---- The help for a text

minus : (cause : Cause) → IsRefused (rules_of_bits 0) (chars (codes "-5m")) cause → cause ≡ Syntax 0 expected_at_start
unfolding chars
minus cause refused =
    one_reading_holds.one_cause (rules_of_bits 0) (chars (codes "-5m")) cause (Syntax 0 expected_at_start) refused
    ((answer_refused (rules_of_bits 0) (chars (codes "-5m")) (Syntax 0 expected_at_start)).0 refl)

minus_not_read : (nanos : ℕ) → IsRead (rules_of_bits 0) (chars (codes "-5m")) nanos → ⊥
unfolding chars
minus_not_read nanos read =
    one_reading_holds.not_both (rules_of_bits 0) (chars (codes "-5m")) nanos (Syntax 0 expected_at_start) read
    ((answer_refused (rules_of_bits 0) (chars (codes "-5m")) (Syntax 0 expected_at_start)).0 refl)

module _ (number start len : ℕ) (new : List ℕ) where
  pub help_is_that_of_the_text : ShowsHelp 0 (codes "-5m") (codes "????") number new start len
      → (number ≡ 6) × (new ≡ 0 ∷ codes "???")
  unfolding chars encode
  help_is_that_of_the_text (inl (unknown, shown)) = absurd (unknown refl)
  help_is_that_of_the_text (inr (inl (known, no_text, shown))) = absurd (no_text (codes "-5m", (refl, refl)))
  help_is_that_of_the_text (inr (inr (inl (known, utf8, nanos, read, shown)))) = absurd (minus_not_read nanos read)
  help_is_that_of_the_text (inr (inr (inr (known, utf8, cause, refused, shown)))) =
      let is = rw (minus cause refused) at shown in (is.numbered, is.written)

  pub unknown_option_has_no_help : ShowsHelp 32 (codes "-5m") (codes "????") number new start len → number ≡ 0
  unknown_option_has_no_help (inl (unknown, shown)) = shown.numbered
  unknown_option_has_no_help (inr (inl (known, no_text, shown))) = absurd cc
  unknown_option_has_no_help (inr (inr (inl (known, utf8, nanos, read, shown)))) = absurd cc
  unknown_option_has_no_help (inr (inr (inr (known, utf8, cause, refused, shown)))) = absurd cc

-- The default unit is the millisecond, and `+` and `*` are not read.
abbrev in_millis : ℕ
in_millis = 0x90001

abbrev after_number : Expected
after_number = record { number = false; unit_word = true; operator = false; text_end = true }

fraction : IsRefused (rules_of_bits in_millis) (chars (codes "1.5")) (Syntax 1 after_number)
unfolding chars
fraction = (answer_refused (rules_of_bits in_millis) (chars (codes "1.5")) (Syntax 1 after_number)).0 refl

pub mend_follows_the_options : (number start len : ℕ) (new : List ℕ)
    → ShowsHelp in_millis (codes "1.5") (codes "????????") number new start len
    → (number ≡ 3) × (new ≡ codes "1500us" ++ (0 ∷ codes "?")) × (start ≡ 0) × (len ≡ 3)
unfolding chars encode digits
mend_follows_the_options number start len new (inl (unknown, shown)) = absurd (unknown refl)
mend_follows_the_options number start len new (inr (inl (known, no_text, shown))) =
    absurd (no_text (codes "1.5", (refl, refl)))
mend_follows_the_options number start len new (inr (inr (inl (known, utf8, nanos, read, shown)))) =
    absurd (one_reading_holds.not_both (rules_of_bits in_millis) (chars (codes "1.5")) nanos (Syntax 1 after_number) read fraction)
mend_follows_the_options number start len new (inr (inr (inr (known, utf8, cause, refused, shown)))) =
    let same = one_reading_holds.one_cause (rules_of_bits in_millis) (chars (codes "1.5")) cause (Syntax 1 after_number) refused fraction in
    let is = rw same at shown in (is.numbered, is.written, is.starts, is.long)

-- ---- Which of the four cases applies

second_read : IsRead (rules_of_bits 0) (chars (codes "1s")) 1_000_000_000
unfolding chars
second_read = (answer_read (rules_of_bits 0) (chars (codes "1s")) 1_000_000_000).0 refl

abbrev after_any_number : Expected
after_any_number = record { number = false; unit_word = true; operator = true; text_end = true }

mins_refused : IsRefused (rules_of_bits 0) (chars (codes "5 mins")) (Syntax 2 after_any_number)
unfolding chars
mins_refused = (answer_refused (rules_of_bits 0) (chars (codes "5 mins")) (Syntax 2 after_any_number)).0 refl

mixed_refused : IsRefused (rules_of_bits 0) (chars (codes "1*2+3")) (Mixed Star Plus)
unfolding chars
mixed_refused = (answer_refused (rules_of_bits 0) (chars (codes "1*2+3")) (Mixed Star Plus)).0 refl

module _ (Unknown NotUtf8 : Type 0) (Value : ℕ → Type 0) (Refusal : Cause → Type 0) where
  told_if_read : IsTold Unknown NotUtf8 Value Refusal 0 (codes "1s") → Value 1_000_000_000
  unfolding chars encode
  told_if_read (inl (unknown, it)) = absurd (unknown refl)
  told_if_read (inr (inl (known, no_text, it))) = absurd (no_text (codes "1s", (refl, refl)))
  told_if_read (inr (inr (inl (known, utf8, nanos, read, it)))) =
      let same = one_reading_holds.one_value (rules_of_bits 0) (chars (codes "1s")) nanos 1_000_000_000 read second_read in
      rw same at it
  told_if_read (inr (inr (inr (known, utf8, cause, refused, it)))) =
      absurd (one_reading_holds.not_both (rules_of_bits 0) (chars (codes "1s")) 1_000_000_000 cause second_read refused)

  told_if_refused : (bytes : List ℕ) (cause : Cause) → IsUtf8 bytes → IsRefused (rules_of_bits 0) (chars bytes) cause
      → IsTold Unknown NotUtf8 Value Refusal 0 bytes → Refusal cause
  told_if_refused bytes cause text refused (inl (unknown, it)) = absurd (unknown refl)
  told_if_refused bytes cause text refused (inr (inl (known, no_text, it))) = absurd (no_text text)
  told_if_refused bytes cause text refused (inr (inr (inl (known, utf8, nanos, read, it)))) =
      absurd (one_reading_holds.not_both (rules_of_bits 0) (chars bytes) nanos cause read refused)
  told_if_refused bytes cause text refused (inr (inr (inr (known, utf8, other, again, it)))) =
      rw (one_reading_holds.one_cause (rules_of_bits 0) (chars bytes) other cause again refused) at it

  told_if_unknown : IsTold Unknown NotUtf8 Value Refusal 32 (codes "1s") → Unknown
  told_if_unknown (inl (unknown, it)) = it
  told_if_unknown (inr (inl (known, no_text, it))) = absurd cc
  told_if_unknown (inr (inr (inl (known, utf8, nanos, read, it)))) = absurd cc
  told_if_unknown (inr (inr (inr (known, utf8, cause, refused, it)))) = absurd cc

  told_if_no_text : (bytes : List ℕ) → (IsUtf8 bytes → ⊥) → IsTold Unknown NotUtf8 Value Refusal 0 bytes → NotUtf8
  told_if_no_text bytes other (inl (unknown, it)) = absurd (unknown refl)
  told_if_no_text bytes other (inr (inl (known, no_text, it))) = it
  told_if_no_text bytes other (inr (inr (inl (known, utf8, nanos, read, it)))) = absurd (other utf8)
  told_if_no_text bytes other (inr (inr (inr (known, utf8, cause, refused, it)))) = absurd (other utf8)

-- ---- The answer for a text

abbrev answer_of : ℕ → ℕ → ℕ → ℕ → ℕ → ℕ → ℕ → ℕ → Answer
answer_of nanos place found_length cause expected has_place first_operator later_operator = record {
  nanos = nanos;
  place = place;
  found_length = found_length;
  cause = cause;
  expected = expected;
  has_place = has_place;
  first_operator = first_operator;
  later_operator = later_operator;
}

module _ (answer : Answer) where
  pub answer_for_a_value : IsAnswerTo 0 (codes "1s") answer → answer ≡ answer_of 1_000_000_000 0 0 0 0 0 0 0
  answer_for_a_value told = told_if_read _ _ _ _ told

  pub answer_for_a_syntax_fault : IsAnswerTo 0 (codes "5 mins") answer → answer ≡ answer_of 0 2 4 2 14 1 0 0
  unfolding chars encode
  answer_for_a_syntax_fault told =
      (told_if_refused _ _ _ _ (codes "5 mins") (Syntax 2 after_any_number) (codes "5 mins", (refl, refl)) mins_refused told).0

  pub answer_without_a_place : IsAnswerTo 0 (codes "1*2+3") answer → answer ≡ answer_of 0 0 0 5 0 0 42 43
  unfolding chars encode
  answer_without_a_place told =
      (told_if_refused _ _ _ _ (codes "1*2+3") (Mixed Star Plus) (codes "1*2+3", (refl, refl)) mixed_refused told).0

  pub answer_for_an_unknown_option : IsAnswerTo 32 (codes "1s") answer → answer ≡ answer_of 0 0 0 8 0 0 0 0
  answer_for_an_unknown_option told = told_if_unknown _ _ _ _ told

  pub answer_for_other_bytes : (bytes : List ℕ) → (IsUtf8 bytes → ⊥) → IsAnswerTo 0 bytes answer
      → answer ≡ answer_of 0 0 0 7 0 0 0 0
  answer_for_other_bytes bytes other told = told_if_no_text _ _ _ _ bytes other told

  pub place_is_a_boundary : (bytes : List ℕ) (expected : Expected) → TellsFault off bytes (Syntax 2 expected) answer
      → IsCharBoundary bytes 2
  place_is_a_boundary bytes expected tells = tells.1 2 refl

-- ---- The message and the help in each case

module _ (len : ℕ) (new : List ℕ) where
  pub refusal_shows_its_text : ShowsRefusal (λ cause. codes "x") 0 (codes "5 mins") (codes "???") len new
      → new ≡ codes "x" ++ (0 ∷ codes "?")
  unfolding encode
  refusal_shows_its_text told =
      (told_if_refused _ _ _ _ (codes "5 mins") (Syntax 2 after_any_number) (codes "5 mins", (refl, refl)) mins_refused told).1
      (omega arith)

  pub read_text_shows_nothing : ShowsRefusal (λ cause. codes "x") 0 (codes "1s") (codes "???") len new → len ≡ 0
  read_text_shows_nothing told = (told_if_read _ _ _ _ told).0

  pub unknown_option_shows_its_line : ShowsRefusal (λ cause. codes "x") 32 (codes "1s") (codes "????????????????") len new
      → new ≡ codes "unknown option" ++ (0 ∷ codes "?")
  unknown_option_shows_its_line told = (told_if_unknown _ _ _ _ told).1 (omega arith)

pub line_of_other_bytes : (bytes line : List ℕ) → (IsUtf8 bytes → ⊥) → IsSaidOf 0 bytes line → line ≡ codes "not UTF-8"
line_of_other_bytes bytes line other said = told_if_no_text _ _ _ _ bytes other said

module _ (number start len : ℕ) (new : List ℕ) where
  pub read_text_has_no_help : ShowsHelp 0 (codes "1s") (codes "????") number new start len → number ≡ 0
  read_text_has_no_help told = (told_if_read _ _ _ _ told).numbered

  pub other_bytes_have_no_help : (bytes : List ℕ) → (IsUtf8 bytes → ⊥)
      → ShowsHelp 0 bytes (codes "????") number new start len → number ≡ 0
  other_bytes_have_no_help bytes other told = (told_if_no_text _ _ _ _ bytes other told).numbered

-- ---- A message in a buffer

pub long_message_leaves_the_buffer : (len : ℕ) (new : List ℕ) → IsShown (codes "abc") (codes "xyz") len new
    → new ≡ codes "xyz"
long_message_leaves_the_buffer len new shown = shown.2 (omega arith)

pub length_of_a_long_message : (len : ℕ) (new : List ℕ) → IsShown (codes "abc") (codes "xyz") len new → len ≡ 3
length_of_a_long_message len new shown = shown.0

pub short_message_stands_in_front : (len : ℕ) (new : List ℕ) → IsShown (codes "a") (codes "xyz") len new
    → new ≡ codes "a" ++ (0 ∷ codes "z")
short_message_stands_in_front len new shown = shown.1 (omega arith)

-- ---- What is printed and broken down

pub right_number_of_rounding : AreRight 4 1_500_000_000 → ⊥
right_number_of_rounding right = absurd (omega (arith, right.1))

pub right_duration_fits : (nanos : ℕ) → AreRight 0 nanos → FitsDuration nanos
right_duration_fits nanos right = right.0

pub only_up_has_no_result : (format : Format) → NoneRounded 2 format 1_500_000_000 → ⊥
only_up_has_no_result format (inl long) = long (omega arith)
only_up_has_no_result format (inr (inl unknown)) = absurd (omega (arith, unknown))
only_up_has_no_result format (inr (inr none)) = absurd cc

pub nothing_is_above : (format : Format) → NoneRounded 3 format 1_500_000_000 → NoneAbove format 1_500_000_000
nothing_is_above format (inl long) = absurd (long (omega arith))
nothing_is_above format (inr (inl unknown)) = absurd (omega (arith, unknown))
nothing_is_above format (inr (inr none)) = none.1

pub formatted_as_it_is : (format : Format) (text : List ℕ) → IsFormatted 0 format 1_500_000_000 text
    → IsPrintedWithin format 1_500_000_000 text
formatted_as_it_is format text (inl (right, (shown, is, printed))) = rw is at printed
formatted_as_it_is format text (inr (inl long, empty)) = absurd (long (omega arith))
formatted_as_it_is format text (inr (inr (inl unknown), empty)) = absurd (omega (arith, unknown))
formatted_as_it_is format text (inr (inr (inr none), empty)) = absurd cc

pub unknown_rounding_prints_nothing : (format : Format) (text : List ℕ) → IsFormatted 4 format 1_500_000_000 text
    → text ≡ []
unknown_rounding_prints_nothing format text (inl (right, printed)) = absurd (omega (arith, right.1))
unknown_rounding_prints_nothing format text (inr (none, empty)) = empty

pub parts_are_those_of_the_format : (counts : List ℕ) (rest : ℕ)
    (broken_down : IsBrokenDown None whole_format 1_500_000_000 counts rest)
    → ArePartsRounded None whole_format 1_500_000_000 broken_down.shown broken_down.parts
parts_are_those_of_the_format counts rest broken_down = broken_down.are_parts

pub counts_are_those_of_the_parts : (counts : List ℕ) (rest : ℕ)
    (broken_down : IsBrokenDown None whole_format 1_500_000_000 counts rest) → counts ≡ counts_of broken_down.parts
counts_are_those_of_the_parts counts rest broken_down = broken_down.each

pub parts_and_rest_are_all : (counts : List ℕ) (rest : ℕ)
    (broken_down : IsBrokenDown None whole_format 1_500_000_000 counts rest)
    → broken_down.shown ≡ sum_of_parts broken_down.parts + rest
parts_and_rest_are_all counts rest broken_down = broken_down.whole

pub too_large_is_a_count_or_the_rest : (format : Format) (too_large : IsTooLarge None format 1_500_000_000)
    → Any (λ n. 2 ^ 64 ≤ n) too_large.counts ⊎ (2 ^ 64 ≤ too_large.rest)
too_large_is_a_count_or_the_rest format too_large = too_large.large

pub too_large_is_broken_down : (format : Format) (too_large : IsTooLarge None format 1_500_000_000)
    → IsBrokenDown None format 1_500_000_000 too_large.counts too_large.rest
too_large_is_broken_down format too_large = too_large.broken_down
