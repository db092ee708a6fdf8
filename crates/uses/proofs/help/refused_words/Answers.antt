use Rattle.std.proofs.Common.{refl}
use Rattle.std.specs.Str.{chars}
use lib.Utf8.{encode}
use Rattle.uses.proofs.help.refused_words.Goals as goal

pub returns : goal.returns
unfolding chars encode
returns c =
    let near = c.near_words.ensures in
    (λ o. near o _ _ refl, (λ o. near o _ _ refl, (λ o. near o _ _ refl, (λ o. near o _ _ refl, tt))))
