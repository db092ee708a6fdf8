use Rattle.duration_str_base.proofs.Common.{arith, eqb-true, false_from_ne_true, refl}
use Rattle.duration_str_base.specs.Internal.UnitTable.{added_row_of, unit_of_packed}
use Rattle.duration_str_base.specs.declared.more_names.TheConstants.{NAMED_UNITS, NAMES, SLOTS, SPREAD}
use Rattle.duration_str_base.proofs.PackedLemmas.{is_kept, name_found, no_packed_name, slot, slot_below}
use Rattle.duration_str_base.proofs.more_names.added_unit.Goals as goal

pub bounds-name : goal.bounds-name
bounds-name c = slot_below SLOTS _ (slot 5 SPREAD c.args.packed) (omega arith) refl

pub bounds-name-then-name-packed : goal.bounds-name-then-name-packed
bounds-name-then-name-packed c = slot_below SLOTS _ (slot 5 SPREAD c.args.packed) (omega arith) refl

pub returns-then-name-packed : goal.returns-then-name-packed
unfolding unit_of_packed
returns-then-name-packed c =
    name_found added_row_of NAMES NAMED_UNITS _ _ c.args.packed _ refl
    (slot_below SLOTS _ (slot 5 SPREAD c.args.packed) (omega arith) refl) c.if-name-packed.true

pub returns-else-name-packed : goal.returns-else-name-packed
returns-else-name-packed c =
    no_packed_name added_row_of (is_kept 5 SPREAD SLOTS NAMES _ _) c.args.packed
    (false_from_ne_true _ (λ e. c.if-name-packed.false (eqb-true _ _ e))) refl
