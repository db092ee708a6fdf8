use Rattle.duration_str_laws.proofs.Common.{[], allows, CondUnit, expected_after, IsTrue, last_of, List, None, operator, Option, PlaceAndKinds, Rules, Some, Terminal, true, true≢false, ◌∷◌, ◌≡◌, ◌≢◌, rules}
use Rattle.duration_str_reading.proofs.Sentences.FrontLemmas.{AreAllowed, begins_allowed, expected_by_table, no_operators, one_front, table_front}

allowed_no_operator : (r : Rules) (last : Option Terminal) (t : Terminal)
    (op : CondUnit) → r.options.no_calc ≡ true
    → IsTrue (allows (expected_after r last) t) → Some t ≢ Some (operator op)
allowed_no_operator r last t op e h = search (rules, true≢false, no_operators)

no_operator_last : (r : Rules) (last : Option Terminal)
    (terminals : List Terminal) (op : CondUnit)
    → r.options.no_calc ≡ true → last ≢ Some (operator op) → AreAllowed r last terminals
    → last_of last terminals ≢ Some (operator op)
no_operator_last r last [] op e n h = n
no_operator_last r last (t ∷ terminals) op e n h =
    no_operator_last r (Some t) terminals op e (allowed_no_operator r last t op e h.0) h.1

pub place_and_kinds_hold : PlaceAndKinds
place_and_kinds_hold = record {
  kinds = expected_by_table;
  no_operator =
      λ r front op e b. no_operator_last r None front op e (λ q. cc) (begins_allowed r front b);
  front = table_front;
  only = λ r terminals front rest h. one_front h (table_front r terminals);
}
