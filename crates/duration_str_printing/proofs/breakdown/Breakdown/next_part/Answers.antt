use Rattle.duration_str_printing.proofs.Common.{units_of, [], ◌≡◌}
use Rattle.duration_str_printing.proofs.BreakdownLemmas.{parts_none, parts_nothing}
use Rattle.duration_str_printing.proofs.breakdown.Breakdown.next_part.Goals as goal
use Rattle.duration_str_printing.proofs.breakdown.Breakdown.next_part.Goals.{then-self-eq0-via-then-self-eq0, then-self-eq0-via-else-self-eq0+then-self-eq0-2}
use Rattle.duration_str_printing.specs.Breakdown.{parts_left}

pub returns-then-self-eq0-clause-first : goal.returns-then-self-eq0-clause-first
returns-then-self-eq0-clause-first c =
    let b = c.args.self.now in
    let none : parts_left b ≡ [] = elim c.then-self-eq0.branch [
      | then-self-eq0-via-then-self-eq0 w ↦ parts_none (units_of b.bits) b.most b.rest w.if-self-eq0.true
      | then-self-eq0-via-else-self-eq0+then-self-eq0-2 w ↦
          parts_nothing (units_of b.bits) b.most b.rest w.if-self-eq0-2.true
    ] in
    (none, none)
