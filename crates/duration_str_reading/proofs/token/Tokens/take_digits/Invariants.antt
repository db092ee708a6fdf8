use Rattle.duration_str_reading.proofs.Common.{ahead, cut_place, KeepsInput, length, source, TakesDigits}
use Rattle.duration_str_reading.proofs.token.Tokens.take_digits.Given as goal

abbrev pub invariant-loop-self : goal.invariant-loop-self
invariant-loop-self l = record {
  kept : KeepsInput l.initial.self l.self;
  digits : TakesDigits (source l.initial.self) (cut_place l.initial.self) (cut_place l.self) l.number;
}

abbrev pub decreases-loop-self : goal.decreases-loop-self
decreases-loop-self l = length (ahead (source l.self) (cut_place l.self))
