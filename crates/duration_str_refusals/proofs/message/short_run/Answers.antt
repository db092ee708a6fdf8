use Rattle.duration_str_refusals.proofs.Common.{◌∙◌}
use Rattle.duration_str_refusals.proofs.MessageLemmas.{run_boundary, run_taken}
use Rattle.duration_str_refusals.proofs.message.short_run.Goals as goal

pub range-requires-clause-end_boundary : goal.range-requires-clause-end_boundary
range-requires-clause-end_boundary c = run_boundary c.args.count c.requires

pub returns : goal.returns
returns c = c.range.ensures.value ∙ run_taken c.args.count c.requires
