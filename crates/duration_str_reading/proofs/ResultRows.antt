-- Rows of definitions that say what calls return: what follows from each in one case. A definition
-- that said less would be refused here.
use Rattle.std.specs.Prelude.{◌≡◌, ℕ, ◌+◌, ◌≤◌, None, codes, length}
use Rattle.std.specs.Str.{chars}
use Rattle.std.proofs.Common.{ap, refl, sym, ◌∙◌}
use Rattle.duration_str_reading.specs.Iteration.{cut_place, IsCutAt, source, YieldsNextToken}
use Rattle.duration_str_base.specs.Options.{off}
use Rattle.duration_str_reading.specs.Place.{ReachesPlace}
use Rattle.duration_str_base.specs.declared.cause.Cause.TheVariants.{Syntax}
use Rattle.duration_str_base.specs.declared.cause.Expected.{Expected}
use Rattle.duration_str_reading.specs.declared.token.Token.{Token}
use Rattle.duration_str_reading.specs.declared.token.Tokens.{Tokens}

pub place_is_looked_at : (expected : Expected) (looks : ℕ) → ReachesPlace (codes "1m x") (Syntax 3 expected) looks
    → 3 ≤ looks
unfolding chars
place_is_looked_at expected looks reaches = reaches 3 expected refl

pub token_ends_at_the_place : (token : Token) → IsCutAt off (codes "1m 2") 2 token
    → token.start + length token.text.now ≡ 2
token_ends_at_the_place token cut = sym cut.end

pub last_blank_is_cut : (old new : Tokens) → source old ≡ codes "1m " → YieldsNextToken old None new
    → cut_place new ≡ 3
last_blank_is_cut old new text none = none.end ∙ ap length text
