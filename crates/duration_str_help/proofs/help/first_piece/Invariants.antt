use Rattle.duration_str_help.proofs.Common.{chars_rest, IsUtf8, ◌≡◌}
use denote.Text.{Utf8}
use denote.Shadow.{shadow}
use Rattle.duration_str_help.proofs.PieceLemmas.{Taken}
use Rattle.duration_str_help.proofs.help.first_piece.Given as goal

abbrev pub invariant-loop-c : goal.invariant-loop-c
invariant-loop-c l = record {
  text : shadow (Utf8 l.rest);
  utf8 : IsUtf8 l.rest;
  same : chars_rest l.chars ≡ l.rest;
  taken : Taken l.first l.text l.rest l.left;
}
