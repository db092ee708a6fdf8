-- Rows of clauses of laws that no caller in `uses` needs: what follows from each in one case. A
-- clause that said less would be refused here.
use Rattle.std.specs.Prelude.{◌≡◌, ◌≢◌, List, [], ◌∷◌, None, Some, codes, true}
use Rattle.duration_str_reading.specs.ReadingLaws.{HasNoChinese, OptionsIdle, PlaceAndKinds}
use Rattle.duration_str_base.specs.Options.{off}
use Rattle.duration_str_reading.specs.Reading.{IsRead}
use Rattle.duration_str_reading.specs.Answer.{last_of}
use Rattle.duration_str_reading.specs.Grammar.{operator, Terminal}
use Rattle.duration_str_reading.specs.Place.{BeginsSentence, IsFront}
use Rattle.duration_str_base.specs.Rules.{Rules, rules_of, rules_with}
use Rattle.duration_str_base.specs.declared.operator.CondUnit.TheVariants.{Plus, Star}

pub no_star_is_last : (r : Rules) (front : List Terminal) → PlaceAndKinds → r.options.no_calc ≡ true
    → BeginsSentence r front → last_of None front ≢ Some (operator Star)
no_star_is_last r front law = law.no_operator r front Star

pub plus_is_no_front : PlaceAndKinds → IsFront (rules_of off) (operator Plus ∷ []) [] (operator Plus ∷ [])
plus_is_no_front law = law.front (rules_of off) (operator Plus ∷ [])

pub plus_has_one_front : (front rest : List Terminal) → PlaceAndKinds
    → IsFront (rules_of off) (operator Plus ∷ []) front rest → front ≡ []
plus_has_one_front front rest law is = (law.only (rules_of off) (operator Plus ∷ []) front rest is).0

pub plus_has_one_rest : (front rest : List Terminal) → PlaceAndKinds
    → IsFront (rules_of off) (operator Plus ∷ []) front rest → rest ≡ operator Plus ∷ []
plus_has_one_rest front rest law is = (law.only (rules_of off) (operator Plus ∷ []) front rest is).1

pub minute_is_read_without_cn_unit : OptionsIdle → HasNoChinese (codes "1m")
    → IsRead (rules_with (record off { cn_unit = true }) None) (codes "1m") 60_000_000_000
    → IsRead (rules_with off None) (codes "1m") 60_000_000_000
minute_is_read_without_cn_unit law none = ((law.cn_unit None off (codes "1m") none).value 60_000_000_000).0
