use Rattle.duration_str_reading.proofs.Common.{arith}
use Rattle.duration_str_base.proofs.NumberLemmas.{fitting_number}
use Rattle.duration_str_reading.proofs.Cutting.PositionLemmas.{short_number}
use Rattle.duration_str_reading.proofs.Cutting.StepLemmas.{digits_between, takes_number}
use Rattle.duration_str_reading.proofs.token.Tokens.take_number.Goals as goal

pub returns-then-place-start-le-MOST_DIGITS : goal.returns-then-place-start-le-MOST_DIGITS
returns-then-place-start-le-MOST_DIGITS c =
    let e = c.take_digits-low.ensures in
    takes_number c.requires e.kept e.digits e.stops (short_number e.digits
    (omega (arith, c.if-place-start-le-MOST_DIGITS.true, c.place.ensures, c.place-start.ensures)))

pub fits-requires-clause-digits : goal.fits-requires-clause-digits
fits-requires-clause-digits c =
    let e = c.take_digits-low.ensures in
    let slice = c.bytes_since.ensures in
    rw (digits_between e.kept e.digits c.place-start.ensures slice.slice slice.utf8) e.digits.run.all

pub fits-requires-clause-same : goal.fits-requires-clause-same
fits-requires-clause-same c =
    let e = c.take_digits-low.ensures in
    let slice = c.bytes_since.ensures in
    rw (digits_between e.kept e.digits c.place-start.ensures slice.slice slice.utf8) e.digits.number

pub returns : goal.returns
returns c =
    let e = c.take_digits-low.ensures in
    let slice = c.bytes_since.ensures in
    let same = digits_between e.kept e.digits c.place-start.ensures slice.slice slice.utf8 in
    let fits = fitting_number _ _ e.digits.number in
    takes_number c.requires e.kept e.digits e.stops (rw (c.then_some.ensures, c.fits.ensures, same) fits)
