use Rattle.std.proofs.Common.{map, refl, ◌++◌, ◌≡◌, arith, chars, inl, inr, List, ℕ}
use Rattle.uses.proofs.Common.{nanos_of, shorter_units, unit_lengths, units_within, IsMostWithin, IsPrintedWithin}
use Rattle.std.specs.Duration.{as_nanos}
use Rattle.std.proofs.lemmas.Bool.{cases_lt}
use Rattle.uses.specs.Countdown.{coarse}
use Rattle.duration_str_printing.specs.Format.{chosen, is_in}
use Rattle.uses.proofs.countdown.time_left.Goals as goal

all_lengths : map nanos_of (units_within coarse ++ shorter_units (units_within coarse)) ≡ unit_lengths
unfolding chosen is_in
all_lengths = refl

pub returns : goal.returns
returns c =
    let left : ℕ = as_nanos c.args.left.now in
    let text : List ℕ = chars c.write_format.result.now in
    let printed : IsPrintedWithin coarse left text =
    rw (c.parts.ensures, c.smallest.ensures, c.whole.ensures) at c.write_format.ensures.text in
    let law = c.never_more.ensures coarse left text printed in
    let most : IsMostWithin coarse left text law.0 = law.1 in (
      law.0,
      record {
        never_more = most.never_more;
        few = (most.own.0, rw all_lengths at most.own.1.breakdown, most.own.1.few);
        exact = λ counts keeps. elim (cases_lt law.0 left) [
          | inl less ↦ absurd (most.greatest left counts less (omega arith) keeps)
          | inr up ↦ omega (arith, most.never_more)
        ];
        read = most.read;
        again = most.again;
      },
    )
