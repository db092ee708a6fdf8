use Rattle.duration_str_reading.proofs.Common.{arith, common_steps, ne_eqb}
use Rattle.duration_str_base.proofs.NumberLemmas.{long_number}
use Rattle.duration_str_reading.proofs.token.fits.Goals as goal

pub returns-then-first-eq48 : goal.returns-then-first-eq48
returns-then-first-eq48 c =
    let is = long_number c.args.digits.now c.args.low c.requires.long c.requires.digits c.requires.same in
    rw c.if-first-eq48.true (rw (← c.if-are_zeros.ensures {u = tt}, c.if-first-eq48.true) at is)

pub returns-then-first-eq49 : goal.returns-then-first-eq49
returns-then-first-eq49 c =
    let is = long_number c.args.digits.now c.args.low c.requires.long c.requires.digits c.requires.same in
    rw (← c.if-are_zeros.ensures {u = tt}, c.if-first-eq49.true) at is

pub returns-else-first-eq49 : goal.returns-else-first-eq49
returns-else-first-eq49 c =
    let is = long_number c.args.digits.now c.args.low c.requires.long c.requires.digits c.requires.same in
    grind (arith, common_steps, ne_eqb)

pub returns-else-are_zeros : goal.returns-else-are_zeros
returns-else-are_zeros c =
    let is = long_number c.args.digits.now c.args.low c.requires.long c.requires.digits c.requires.same in
    rw c.if-are_zeros.false (rw (← c.if-are_zeros.ensures {u = tt}) at is)
