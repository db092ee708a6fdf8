use Rattle.duration_str_help.proofs.Common.{ap, arith, drop, List, take, ℕ, ◌-◌, ◌∙◌, ◌≡◌}
use Rattle.duration_str_help.proofs.MendedLemmas.{cut_whole}
use Rattle.duration_str_help.proofs.mend.cut_out.Goals as goal

pub returns-clause-whole : goal.returns-clause-whole
returns-clause-whole c =
    let text = c.args.text.now in
    let start = c.args.replacement.start in
    let end = c.args.replacement.end in
    let front : c.range_to.result.now ≡ take start text =
    c.range_to.ensures.value ∙ ap (λ (n : ℕ). take n text) (omega arith) in
    let replaced : c.range_to-2.result.now ≡ take (end - start) (drop start text) =
    c.range_to-2.ensures.value ∙ ap (λ (bs : List ℕ). take (end - start - 0) bs) c.range_from-ahead.ensures.value
    ∙ ap (λ (n : ℕ). take n (drop start text)) (omega arith) in
    rw (front, replaced, c.range_from.ensures.value) (cut_whole text start end c.requires.ordered)
