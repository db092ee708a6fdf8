use Rattle.duration_str_refusals.proofs.Common.{chars, chars_rest, IsUtf8, length, take, ◌++◌, ◌≡◌, ◌≤◌}
use Rattle.duration_str_help.specs.Quotes.{quoted, quoted_end}
use Rattle.duration_str_refusals.proofs.one_line.put_quoted.Given as goal

abbrev pub invariant-loop-c : goal.invariant-loop-c
invariant-loop-c l = record {
  utf8 : IsUtf8 (chars_rest l.chars);
  inside : l.end ≤ length l.buffer;
  whole : take l.end l.buffer ++ quoted_end l.room (chars (chars_rest l.chars))
      ≡ take l.at l.fn.buffer ++ quoted (chars l.text);
}
