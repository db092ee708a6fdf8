use Rattle.duration_str_reading.proofs.Common.{ahead, cut_place, is_blank, KeepsInput, length, Passes, source}
use Rattle.duration_str_reading.proofs.token.Tokens.skip_blanks.Given as goal

abbrev pub invariant-loop-self : goal.invariant-loop-self
invariant-loop-self l = record {
  kept : KeepsInput l.initial.self l.self;
  blanks : Passes is_blank (source l.initial.self) (cut_place l.initial.self) (cut_place l.self);
}

abbrev pub decreases-loop-self : goal.decreases-loop-self
decreases-loop-self l = length (ahead (source l.self) (cut_place l.self))
