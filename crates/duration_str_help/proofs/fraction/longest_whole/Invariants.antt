use Rattle.duration_str_help.proofs.Common.{drop, find, rank_of, table_of, units, ◌≡◌}
use Rattle.duration_str_help.proofs.FractionLemmas.{divides}
use Rattle.duration_str_help.proofs.fraction.longest_whole.Given as goal

abbrev pub invariant-loop-longest : goal.invariant-loop-longest
invariant-loop-longest l =
    find (divides (table_of l.table) l.nanos) (drop l.longest-index (drop (rank_of l.fn.unit) units))
    ≡ find (divides (table_of l.table) l.nanos) (drop (rank_of l.fn.unit) units)
