use Rattle.duration_str_base.proofs.Common.{arith, eqb-true, false_from_ne_true, NAMED_UNITS, NAMES, refl, row_of, SLOTS, SPREAD}
use Rattle.duration_str_base.specs.Internal.UnitTable.{unit_of_packed}
use Rattle.duration_str_base.proofs.PackedLemmas.{is_kept, name_found, no_packed_name, slot, slot_below}
use Rattle.duration_str_base.proofs.packed.unit_of_packed.Goals as goal

pub bounds-name : goal.bounds-name
bounds-name c = slot_below SLOTS _ (slot 7 SPREAD c.args.packed) (omega arith) refl

pub bounds-name-then-name-packed : goal.bounds-name-then-name-packed
bounds-name-then-name-packed c = slot_below SLOTS _ (slot 7 SPREAD c.args.packed) (omega arith) refl

pub returns-then-name-packed : goal.returns-then-name-packed
unfolding unit_of_packed
returns-then-name-packed c =
    name_found row_of NAMES NAMED_UNITS _ _ c.args.packed _ refl
    (slot_below SLOTS _ (slot 7 SPREAD c.args.packed) (omega arith) refl) c.if-name-packed.true

pub returns-else-name-packed : goal.returns-else-name-packed
returns-else-name-packed c =
    no_packed_name row_of (is_kept 7 SPREAD SLOTS NAMES _ _) c.args.packed
    (false_from_ne_true _ (λ e. c.if-name-packed.false (eqb-true _ _ e))) refl
