use Rattle.std.specs.Duration.{as_nanos}
use Rattle.std.proofs.Common.{ℕ}
use Rattle.duration_str_printing.specs.Rounding.{IsRoundedDown}
use Rattle.uses.specs.Countdown.{coarse}
use Rattle.uses.proofs.countdown.shown.Goals as goal

pub returns-in-Some : goal.returns-in-Some
returns-in-Some c =
    let left : ℕ = as_nanos c.args.left.now in
    let shown : ℕ = as_nanos c.in-Some.shown in
    let down : IsRoundedDown coarse left shown =
    rw (c.parts-format.ensures, c.smallest.ensures, c.whole.ensures) at c.in-Some.ensures.some in
    record {
      whole = down.whole;
      text = λ text. c.one_rounding.ensures.printed coarse left shown text down;
    }
