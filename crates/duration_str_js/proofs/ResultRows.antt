-- Rows of definitions that say what calls return: what follows from each in one case. A definition
-- that said less would be refused here.
use Rattle.std.specs.Prelude.{◌≡◌, ℕ, ◌-◌, ◌%◌, ◌^◌, List, [], ◌∷◌, None, Some, codes, negsuc, pos}
use Rattle.std.specs.Str.{chars}
use Rattle.std.proofs.Common.{false, refl, true}
use Rattle.duration_str_reading.proofs.Sentences.AnswerLemmas.{answer_refused, one_reading_holds}
use Rattle.duration_str_printing.specs.Breakdown.{ArePartsRounded, sum_of_parts}
use Rattle.duration_str_printing.specs.Format.{set_of, whole_format}
use Rattle.duration_str_reading.specs.Reading.{IsRefused}
use Rattle.duration_str_refusals.specs.Report.{report_of}
use Rattle.duration_str_base.specs.declared.cause.Cause.{Cause}
use Rattle.duration_str_base.specs.declared.cause.Cause.TheVariants.{Overflow, Syntax}
use Rattle.duration_str_base.specs.declared.cause.Expected.{Expected}
use Rattle.duration_str_printing.specs.declared.format.Units.{Units}
use Rattle.duration_str_js.specs.Printing.{IsCounted, units_among, with_counts}
use Rattle.duration_str_js.specs.Reading.{IsReported, rules_of_bits}
use Rattle.duration_str_js.specs.declared.reading.Refusal.{Refusal}
use Rattle.std.specs.Fmt.{digits}
use lib.Utf8.{encode}

abbrev after_number : Expected
after_number = record { number = false; unit_word = true; operator = true; text_end = true }

abbrev mins : Cause
mins = Syntax 2 after_number

one_cause : (cause : Cause) → IsRefused (rules_of_bits 0) (chars (codes "5 mins")) cause → cause ≡ mins
unfolding chars
one_cause cause refused =
    one_reading_holds.one_cause (rules_of_bits 0) (chars (codes "5 mins")) cause mins refused
    ((answer_refused (rules_of_bits 0) (chars (codes "5 mins")) mins).0 refl)

pub what_is_said_of_mins : (refusal : Refusal) (report : List ℕ) → IsReported 0 (codes "5 mins") refusal report
    → refusal ≡ record {
      count = 0;
      place = pos 2;
      found_length = 4;
      cause = 2;
      expected = 14;
      help = 1;
      start = pos 2;
      length = 4;
      has_count = 0;
      unit = 7;
    }
unfolding chars encode
what_is_said_of_mins refusal report (cause, refused, same, is) = rw (one_cause cause refused) at same

pub report_of_mins : (refusal : Refusal) (report : List ℕ) → IsReported 0 (codes "5 mins") refusal report
    → report ≡ report_of (rules_of_bits 0) (codes "5 mins") mins
report_of_mins refusal report (cause, refused, same, is) = rw (one_cause cause refused) at is

-- The default unit is the millisecond, and `+` and `*` are not read.
abbrev in_millis : ℕ
in_millis = 0x90001

abbrev fraction : Cause
fraction = Syntax 1 (record { number = false; unit_word = true; operator = false; text_end = true })

pub what_is_said_of_a_fraction : (refusal : Refusal) (report : List ℕ) → IsReported in_millis (codes "1.5") refusal report
    → refusal ≡ record {
      count = 1500;
      place = pos 1;
      found_length = 1;
      cause = 2;
      expected = 10;
      help = 3;
      start = pos 0;
      length = 3;
      has_count = 1;
      unit = 10;
    }
unfolding chars encode digits
what_is_said_of_a_fraction refusal report (cause, refused, same, is) =
    let one = one_reading_holds.one_cause (rules_of_bits in_millis) (chars (codes "1.5")) cause fraction refused
    ((answer_refused (rules_of_bits in_millis) (chars (codes "1.5")) fraction).0 refl) in
    rw one at same

abbrev too_large : Cause
too_large = Overflow (Some 0)

pub what_is_said_of_an_overflow : (refusal : Refusal) (report : List ℕ) → IsReported 0 (codes "18446744074") refusal report
    → refusal ≡ record {
      count = 0;
      place = pos 0;
      found_length = 0;
      cause = 4;
      expected = 0;
      help = 16;
      start = negsuc 0;
      length = 0;
      has_count = 0;
      unit = 0;
    }
unfolding chars encode
what_is_said_of_an_overflow refusal report (cause, refused, same, is) =
    let one = one_reading_holds.one_cause (rules_of_bits 0) (chars (codes "18446744074")) cause too_large refused
    ((answer_refused (rules_of_bits 0) (chars (codes "18446744074")) too_large).0 refl) in
    rw one at same

-- `1 分x` under the option `cn_unit`: without it, the token at the place would be shorter.
abbrev chinese : List ℕ
chinese = 49 ∷ 32 ∷ 229 ∷ 136 ∷ 134 ∷ 120 ∷ []

pub what_is_said_of_a_chinese_word : (refusal : Refusal) (report : List ℕ) → IsReported 4 chinese refusal report
    → refusal ≡ record {
      count = 0;
      place = pos 2;
      found_length = 4;
      cause = 2;
      expected = 14;
      help = 2;
      start = negsuc 0;
      length = 0;
      has_count = 0;
      unit = 0;
    }
unfolding chars encode
what_is_said_of_a_chinese_word refusal report (cause, refused, same, is) =
    let one = one_reading_holds.one_cause (rules_of_bits 4) (chars chinese) cause mins refused
    ((answer_refused (rules_of_bits 4) (chars chinese) mins).0 refl) in
    rw one at same

module _ (old new : List ℕ) (rest : ℕ) (set : Units) (is : IsCounted None whole_format 1_500_000_000 old new rest set) where
  pub parts_are_those_of_the_format : ArePartsRounded None whole_format 1_500_000_000 is.shown is.parts
  parts_are_those_of_the_format = is.are_parts

  pub counts_are_written_over : new ≡ with_counts old is.parts
  counts_are_written_over = is.counts

  pub units_are_those_of_the_parts : set ≡ set_of (units_among is.parts)
  units_are_those_of_the_parts = is.units

  pub rest_is_what_the_parts_leave : rest ≡ (is.shown - sum_of_parts is.parts) % 2 ^ 64
  rest_is_what_the_parts_leave = is.rest_of
