use Rattle.duration_str_refusals.proofs.Common.{chars, chars_rest, IsUtf8, ◌+◌, ◌≡◌}
use Rattle.duration_str_refusals.specs.Report.{columns_of}
use Rattle.duration_str_refusals.proofs.report.columns_of.Given as goal

abbrev pub invariant-loop-c : goal.invariant-loop-c
invariant-loop-c l = record {
  utf8 : IsUtf8 (chars_rest l.chars);
  whole : l.columns + columns_of (chars (chars_rest l.chars)) ≡ columns_of (chars l.text);
}
