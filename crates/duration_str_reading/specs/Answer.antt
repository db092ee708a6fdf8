-- The answer to a text, computed by a table of what can follow each terminal.
use Rattle.std.specs.Prelude.{ℕ, suc, true, false, Bool, ◌&&◌, not, List, [], ◌∷◌, Option, Some, None, is_some, Result, Ok, Err, take, drop, if◌then◌else◌, unwrap_or}
use Rattle.duration_str_base.specs.declared.cause.Cause.{Cause}
use Rattle.duration_str_base.specs.declared.cause.Cause.TheVariants.{Empty, Syntax}
use Rattle.duration_str_base.specs.declared.cause.Expected.{Expected}
use Rattle.duration_str_base.specs.Text.{Characters, byte_len}
use Rattle.duration_str_base.specs.Rules.{Rules}
use Rattle.duration_str_reading.specs.Grammar.{Terminal, number, word, operator, other}
use Rattle.duration_str_reading.specs.Tokens.{tokens_of}
use Rattle.duration_str_reading.specs.Place.{start_after, terminals_of}
use Rattle.duration_str_reading.specs.Value.{terms_of, value_of}
use Rattle.duration_str_base.specs.Term.{fault_or}
use Rattle.duration_str_reading.specs.Reading.{early_fault, late_fault}

abbrev pub expected_at_start : Expected
expected_at_start = record { number = true; unit_word = false; operator = false; text_end = false }

abbrev pub expected_after_number : Rules → Expected
expected_after_number r =
    record {
      number = false;
      unit_word = true;
      operator = is_some r.default_unit && not r.options.no_calc;
      text_end = is_some r.default_unit;
    }

abbrev pub expected_after_unit : Rules → Expected
expected_after_unit r =
    record { number = true; unit_word = false; operator = not r.options.no_calc; text_end = true }

-- The table of what can follow the beginning of a sentence, given the last terminal of that
-- beginning. `None` is the start of a text.
abbrev pub expected_after : Rules → Option Terminal → Expected
expected_after r None = expected_at_start
expected_after r (Some (number n)) = expected_after_number r
expected_after r (Some (word u)) = expected_after_unit r
expected_after r (Some (operator op)) = expected_at_start
expected_after r (Some other) =
    record { number = false; unit_word = false; operator = false; text_end = false }

abbrev pub allows : Expected → Terminal → Bool
allows expected (number n) = expected.number
allows expected (word u) = expected.unit_word && is_some u
allows expected (operator op) = expected.operator
allows expected other = false

-- the last of these terminals, or `last` if there are none
abbrev pub last_of : Option Terminal → List Terminal → Option Terminal
last_of last [] = last
last_of last (terminal ∷ terminals) = last_of (Some terminal) terminals

-- how many of these terminals, which follow `last`, the table allows one after another
abbrev pub front_after : Rules → Option Terminal → List Terminal → ℕ
front_after r last [] = 0
front_after r last (terminal ∷ terminals) =
    if allows (expected_after r last) terminal then suc (front_after r (Some terminal) terminals) else 0

-- the length of the front, computed by the table
abbrev pub front_of : Rules → List Terminal → ℕ
front_of r terminals = front_after r None terminals

-- whether nothing follows the front, and the text can end after it
abbrev pub is_whole : Rules → List Terminal → List Terminal → Bool
is_whole r front [] = (expected_after r (last_of None front)).text_end
is_whole r front (terminal ∷ rest) = false

-- the answer to a sentence: this fault, if there is one, or otherwise its value. A sentence without
-- a fault has a value, so the 0 is never used
abbrev pub late_answer : Rules → Option Cause → List Terminal → Result ℕ Cause
late_answer r fault terminals = fault_or fault (Ok (unwrap_or (value_of (terms_of r terminals)) 0))

-- the answer to this front and the rest after it, which starts at byte `place`
abbrev pub answer_at : Rules → ℕ → List Terminal → List Terminal → Result ℕ Cause
answer_at r place front rest =
    fault_or (early_fault r front rest)
    (if is_whole r front rest then late_answer r (late_fault r front) front
    else Err (Syntax place (expected_after r (last_of None front))))

-- the answer to a text: its value in nanoseconds, or the cause of its refusal
abbrev pub answer : Rules → Characters → Result ℕ Cause
answer r [] = Err Empty
answer r (c ∷ text) =
    let terminals = terminals_of r (c ∷ text) in
    let n = front_of r terminals in
    answer_at r (start_after n (byte_len (c ∷ text)) (tokens_of r.options (c ∷ text))) (take n terminals) (drop n terminals)
