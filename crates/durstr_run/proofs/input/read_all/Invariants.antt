use Rattle.std.proofs.Common.{◌-◌, ◌≤◌, vec_len}
use Rattle.std.specs.Io.KnownBytes.{Consumes}
use Rattle.durstr_run.specs.Running.{input_limit}
use Rattle.durstr_run.proofs.input.read_all.Given as goal

abbrev pub invariant-loop-count : goal.invariant-loop-count
invariant-loop-count g l = record {
  within : vec_len l.input ≤ input_limit;
  so_far : Consumes (g.R.Read.remaining l.fn.reader) (g.R.Read.remaining l.reader) l.input.items;
}

abbrev pub decreases-loop-count : goal.decreases-loop-count
decreases-loop-count g l = input_limit - vec_len l.input
