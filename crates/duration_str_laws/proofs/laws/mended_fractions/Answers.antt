use Rattle.duration_str_laws.proofs.MendedFractions.{fractions_are_mended, mended_fractions_hold}
use Rattle.duration_str_laws.proofs.laws.mended_fractions.Goals as goal

pub returns-clause-value : goal.returns-clause-value
returns-clause-value c = mended_fractions_hold

pub returns-clause-mended : goal.returns-clause-mended
returns-clause-mended c = fractions_are_mended
