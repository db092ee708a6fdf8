use Rattle.duration_str_help.proofs.Common.{drop, is_digit, length, ◌+◌, ◌-◌, ◌≡◌, ◌≤◌}
use Rattle.std.specs.List.{prefix_len}
use Rattle.duration_str_help.proofs.fraction.first_digits.Given as goal

abbrev pub invariant-loop-len : goal.invariant-loop-len
invariant-loop-len l = record {
  within : l.len ≤ length l.bytes;
  run : l.len + prefix_len is_digit (drop l.len l.bytes) ≡ prefix_len is_digit l.bytes;
}

abbrev pub decreases-loop-len : goal.decreases-loop-len
decreases-loop-len l = length l.bytes - l.len
