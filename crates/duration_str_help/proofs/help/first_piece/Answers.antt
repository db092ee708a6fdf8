use Rattle.duration_str_help.proofs.Common.{refl, rules, sym, ◌∙◌, take-nil}
use Rattle.duration_str_help.proofs.PieceLemmas.{taken_all, taken_boundary, taken_first, taken_more, taken_other}
use Rattle.duration_str_base.proofs.CharacterLemmas.{chars_of_none}
use Rattle.duration_str_help.proofs.help.first_piece.Goals as goal
use Rattle.duration_str_help.proofs.help.first_piece.Goals.{in-Some-next+then-left-eq0, in_default-next, then-left-eq0-via-else-left-eq0+then-not-is_like, then-left-eq0-via-then-left-eq0}

pub loop-c-init : goal.loop-c-init
loop-c-init c = search (rules, taken_first)

pub loop-c-preserved : goal.loop-c-preserved
loop-c-preserved c =
    let held = c.loop-c.invariant in
    let rest = c.as_str-rest-in-Some-next in
    record {
      text = rest.utf8;
      utf8 = rest.utf8;
      same = sym rest.ensures;
      taken = taken_more c.in-Some.first c.args.text.now _ _ c.loop-c.left c.in-Some-next.c held.utf8
          (rw rest.ensures (sym held.same ∙ (c.in-Some-next.ensures {u = tt}).steps.0)) c.if-left-eq0.false
          (sym c.is_like.ensures ∙ c.if-not-is_like.false) held.taken;
    }

pub range_to-requires : goal.range_to-requires
range_to-requires c = search (rules, taken_boundary)

pub returns-clause-piece : goal.returns-clause-piece
returns-clause-piece c =
    let held = c.loop-c.invariant in
    taken_all c.in-Some.first c.args.text.now _ c.loop-c.left held.taken _ c.range_to.utf8 c.range_to.ensures.value (elim c.match-next-2.branch [
      | in-Some-next+then-left-eq0 w ↦ elim w.then-left-eq0.branch [
        | then-left-eq0-via-then-left-eq0 v ↦ rw v.if-left-eq0.true refl
        | then-left-eq0-via-else-left-eq0+then-not-is_like v ↦
            taken_other c.in-Some.first c.loop-c.rest.now _ c.loop-c.left w.in-Some-next.c held.utf8
            (sym held.same ∙ (w.in-Some-next.ensures {u = tt}).steps.0) (sym v.is_like.ensures ∙ v.if-not-is_like.true)
      ]
      | in_default-next w ↦
          rw (chars_of_none c.loop-c.rest.now (rw held.same at (w.in_default-next.ensures {u = tt}).steps.0.0)) (take-nil c.loop-c.left)
    ])
