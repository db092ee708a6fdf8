use Rattle.duration_str_reading.proofs.Common.{ahead, cut_place, KeepsInput, length, options_of, source, TakesLetters}
use Rattle.duration_str_reading.proofs.token.Tokens.take_letters.Given as goal

abbrev pub invariant-loop-self : goal.invariant-loop-self
invariant-loop-self l = record {
  kept : KeepsInput l.fn.self l.self;
  letters : let s = l.fn.self in
      TakesLetters (options_of s) (source s) (cut_place s) (cut_place l.self) l.packed;
}

abbrev pub decreases-loop-self : goal.decreases-loop-self
decreases-loop-self l = length (ahead (source l.self) (cut_place l.self))
