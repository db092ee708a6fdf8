use Rattle.duration_str_refusals.proofs.Common.{byte_len, chars, chars_rest, IsUtf8, length, take_while, ◌+◌, ◌≡◌, ◌≤◌}
use Rattle.duration_str_reading.specs.Tokens.{are_of_one_run}
use Rattle.duration_str_refusals.specs.Faults.{first_run}
use Rattle.duration_str_refusals.proofs.fault.first_run_len.Given as goal

abbrev pub invariant-loop-c : goal.invariant-loop-c
invariant-loop-c l = record {
  utf8 : IsUtf8 (chars_rest l.chars);
  inside : l.len + length (chars_rest l.chars) ≤ length l.text;
  run : l.len + byte_len (take_while (are_of_one_run l.o l.first) (chars (chars_rest l.chars)))
      ≡ byte_len (first_run l.o (chars l.text));
}
