use Rattle.duration_str_laws.proofs.Common.{false, true, [], and_parts, Bool, HasNoOperator, is_operator, IsRead, IsSentence, List, map, NoCalcAgrees, not, number, operator, Rules, Some, Terminal, terminal_of, with_no_calc, word, ℕ, ⊤, ◌∷◌, rules}
use Rattle.duration_str_reading.proofs.Cutting.SortLemmas.{terminal_cases}
use Rattle.duration_str_reading.proofs.Sentences.SpellingLemmas.{EachPasses, lexemes_pass}

abbrev HaveNoOperator : List Terminal → Type 0
HaveNoOperator [] = ⊤
HaveNoOperator (operator op ∷ terminals) = ⊥
HaveNoOperator (t ∷ terminals) = HaveNoOperator terminals

no_operator_terminals : (r : Rules) (lexemes : List (List ℕ)) → EachPasses (λ c. not (is_operator c)) lexemes
    → HaveNoOperator (map (terminal_of r) lexemes)
no_operator_terminals r [] h = tt
no_operator_terminals r (w ∷ lexemes) h =
    let more = no_operator_terminals r lexemes h.1 in
    terminal_cases r (λ w t. HasNoOperator w → HaveNoOperator (t ∷ map (terminal_of r) lexemes))
    (λ plain. more) (λ c cs digits plain. more) (λ c cs letters plain. more)
    (λ c op _ _ sign plain. cc (rw sign at (and_parts (not (is_operator c)) _ plain).0)) (λ c cs _ _ plain. more) w h.0

sentence_for : (r : Rules) (a b : Bool) (terminals : List Terminal) → HaveNoOperator terminals
    → IsSentence (with_no_calc r a) terminals → IsSentence (with_no_calc r b) terminals
sentence_for r a b (number n ∷ []) h s = s
sentence_for r a b (number n ∷ word (Some u) ∷ []) h s = tt
sentence_for r a b (number n ∷ word (Some u) ∷ number m ∷ more) h s = sentence_for r a b (number m ∷ more) h s
sentence_for r a b _ h s = absurd assumption

read_under : (r : Rules) (a b : Bool) (text : List ℕ) (nanos : ℕ) → HasNoOperator text
    → IsRead (with_no_calc r a) text nanos → IsRead (with_no_calc r b) text nanos
read_under r a b text nanos plain read = search (rules, no_operator_terminals, lexemes_pass, sentence_for)

pub no_calc_agrees_holds : NoCalcAgrees
no_calc_agrees_holds r text nanos plain = (read_under r true false text nanos plain, read_under r false true text nanos plain)
