-- The names that the two proofs of this crate use, and the contract of `refuse_next` at a call: its
-- arguments, and what its caller knows after it.
pub use Rattle.std.proofs.Common.{◌≡◌, ℕ, ◌+◌, Bool, true, false, List, [], ◌∷◌, Ok, Err, refl, w64, ap}
pub use mir.Syntax.{Args, Fn, a_type, dnil, dcons}
pub use mir.Val.{Val, vbool, vint, vptr, vunit}
pub use mir.MapTy.{inst_fn}
pub use base.Logic.{id⊢, fst∗, never, SProp, ent, sep, ex, guard}
pub use base.Fml.{ftrue, flft, Lft, Share, fsep}
pub use prog.Memory.{size, align, capped, up, Memory}
pub use contract.BorrowLft.{◌⊑◌, ⊑_trans}
pub use contract.Monad.{fact, Fun}
pub use contract.Running.{tables}
pub use types.Run.{stop, fld, addr, lit, no_more, and_then, first, branches, skips, exec, returns, returns_within, enter, unit_lit, of_opd}
pub use types.Part.{agg}
pub use denote.Exit.{yes}
pub use denote.RattleType.{owns}
pub use denote.Ref.{shr_vals}
pub use denote.Opens.{unhide}
pub use denote.Param.{bounded, param}
pub use denote.Plain.{uint_vals, uint_Tells}
pub use denote.Signature.{Slot, plain, types_at}
pub use denote.Steps.{heard, nothing, only}
pub use denote.Triple.Walked.{Stays, stay_dropped, walk_of, ends_at, Goes-dropped}
pub use types.Kit.{‵, raw, ◌⊛◌, given, some, pick, learn, later, prop, at_ret, Sq, ◌$◌, ◌∵◌, !, qed, move, keep, use0, use1, use2, split, join, fsplit, fjoin, suffices, await, done, split3, feq_i, regoal, feq_l, check, show, updating, now as at_once}
pub use types.ByLocal.{alloc_all, pass_all, free_all, look_at, get, through, sets, lands_as, env}
pub use denote.RawPtr.{block_ptr, Ptr, ptr_val, null_ptr, in_a_block, rawptr_vals, rawptr_Tells}
pub use denote.Builtin.{usize, RefOf, RawPtr, bool}
pub use denote.Triple.Call.{calls_at}
pub use denote.Triple.Table.{framed}
pub use Rattle.std.proofs.raw_atomic.Walks.{proved}
pub use Rattle.std.proofs.VecSteps.Shapes.{after}
pub use Rattle.std.proofs.alloc.Calls.{Al, α, seen, Answer, answer_val, Answer-typed, Answer-Ok, Answer-err, Takes, at_takes, Answered, Takes-goes, Takes-gives, answers, token, Gives, at_gives, Gives-goes, Gives-Gives}
pub use Rattle.std.specs.Allocator.{block_if_ok, owned_block}
pub use prog.Wp.{WpFn}
pub use types.Logic.{sem, Logic}
use seplogic.Ra.Ura.{Ura}
use prog.Routine.{Routine}
use denote.Memory.{hidden_shr}
use denote.Triple.Statement.{Contract}
use denote.Triple.Spec.{triple_of}
use Rattle.refusing.specs.contracts.Requests as row
use Rattle.refusing.specs.contracts.Requests.refuse_next as f

module _ {M : Type 1} {𝓤 : Ura M} (𝓛 : Logic 𝓤) (at_mem : Memory → SProp 𝓤) (run : Routine → Fun 𝓤) where
  abbrev pub Refuse : Contract 𝓤
  Refuse = triple_of 𝓛 f.signature (f.spec 𝓛 at_mem run)

  module _ (κ : Lft) (q : Share) (p : ℕ × ℕ) (x : (row.the_row).Denot) where
    abbrev pub asked : Refuse.Ghost
    asked = (((κ, tt), (q, tt), tt, (record { ref_ptr = p; now = x }, tt), (vptr p.0 p.1 ∷ [], tt)), tt)

    pub goes : ent 𝓤 (sep 𝓤 (sem 𝓛 (hidden_shr row.the_row κ x p.0 p.1)) (sem 𝓛 (flft κ q))) (Refuse.pre asked)
    goes =
        qed 𝓛 (‵ (hidden_shr row.the_row κ x p.0 p.1) ∷ ‵ (flft κ q) ∷ []) ∵ feq_i ! (List Val) (vptr p.0 p.1 ∷ []) (vptr p.0 p.1 ∷ []) refl $ fjoin ! $
        nothing ! $ move ! (1 ∷ []) $ fjoin ! $ nothing ! $ move ! (2 ∷ []) $ join ! $ join ! $ nothing ! $ move ! (1 ∷ []) $ join ! $ done !

    pub gives : (v : Val) → ent 𝓤 (Refuse.post asked v) (𝓛.H.⇛ (ex 𝓤 (λ (b : Bool). guard 𝓤 (v ≡ vbool b) (sem 𝓛 (flft κ q)))))
    gives v =
        qed 𝓛 (raw (Refuse.post asked v) ∷ []) ∵ updating ! $
        use1 𝓛 (later (some (λ (b : Bool). ((‵ (flft κ q) ⊛ ‵ ftrue) ⊛ ‵ (bool.own_val b (v ∷ []))) ⊛ some (λ (ws : Unit {0} × Unit {0}). ‵ (fsep ftrue ftrue) ⊛ ‵ ftrue)))) (id⊢ 𝓤 _) $ await ! tt $ pick ! (λ b.
        split ! $ split ! $ move ! (1 ∷ []) $ feq_l ! (λ e. split ! $ at_once ! $ show ! (λ (b : Bool). guard 𝓤 (v ≡ vbool b) (sem 𝓛 (flft κ q))) b $ check ! (ap only e) $ keep ! (0 ∷ []) $ done !))
