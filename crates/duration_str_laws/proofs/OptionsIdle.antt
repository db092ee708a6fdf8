use Rattle.duration_str_laws.proofs.Common.{[], and_parts, answer, answer_at, arith, Bool, byte_len, bytes_eq, Cause, drop, false, front_of, goes_on, HasNoCapital, HasNoChinese, if◌then◌else◌, is_chinese, is_unit_letter, IsIdle, IsRead, IsRefused, IsTrue, List, list_all, list_any, map, not, not-true, off, Option, Options, OptionsIdle, refl, Result, Rules, rules, rules_with, start_after, sym, take, Terminal, terminal_of, terminals_of, TimeUnit, to_ascii_lowercase, Token, tokens_from, tokens_of, true, unit_of_word, width, with_lowercase, ℕ, ◌+◌, ◌∙◌, ◌∷◌, ◌≡◌}
use Rattle.duration_str_base.proofs.UnitLemmas.{named_passes}
use Rattle.duration_str_reading.proofs.Sentences.SpellingLemmas.{EachPasses, lexemes_pass, tokens_spell}
use Rattle.duration_str_reading.proofs.Sentences.AnswerLemmas.{answer_read, answer_refused}

-- ---- Options that agree on the grammar, the tokens and the terminals

abbrev under : Rules → Options → Rules
under r o = record r { options = o }

record AreAlike (r : Rules) (o p : Options) (text : List ℕ) : Type 0 where
  grammar : o.no_calc ≡ p.no_calc
  tokens : tokens_of o text ≡ tokens_of p text
  terminals : terminals_of (under r o) text ≡ terminals_of (under r p) text

-- the answer to a nonempty text of `len` bytes with these tokens and terminals
abbrev answer_by : Rules → ℕ → Bool → List Token → List Terminal → Result ℕ Cause
answer_by r len no_calc tokens terminals =
    let q = under r (record off { no_calc = no_calc }) in
    let n = front_of q terminals in
    answer_at q (start_after n len tokens) (take n terminals) (drop n terminals)

same_answer : (r : Rules) (o p : Options) (text : List ℕ) → AreAlike r o p text
    → answer (under r o) text ≡ answer (under r p) text
same_answer r o p [] h = refl
same_answer r o p (c ∷ text) h =
    λ i. answer_by r (byte_len (c ∷ text)) (h.grammar i) (h.tokens i) (h.terminals i)

read_alike : (r q : Rules) (text : List ℕ) (nanos : ℕ) → answer r text ≡ answer q text → IsRead r text nanos
    → IsRead q text nanos
read_alike r q text nanos same h = (answer_read q text nanos).0 (sym same ∙ (answer_read r text nanos).1 h)

refused_alike : (r q : Rules) (text : List ℕ) (cause : Cause) → answer r text ≡ answer q text → IsRefused r text cause
    → IsRefused q text cause
refused_alike r q text cause same h = (answer_refused q text cause).0 (sym same ∙ (answer_refused r text cause).1 h)

idle : (choice : Bool → Rules) (text : List ℕ) → answer (choice true) text ≡ answer (choice false) text
    → IsIdle choice text
idle choice text same = search (rules, read_alike, refused_alike)

-- ---- Options that agree on characters and words

record Agree (r : Rules) (test : ℕ → Bool) (o p : Options) : Type 0 where
  letter : (c : ℕ) → test c ≡ true → is_unit_letter o c ≡ is_unit_letter p c
  unit : (w : List ℕ) → IsTrue (list_all test w) → unit_of_word (under r o) w ≡ unit_of_word (under r p) w

module _ (r : Rules) (test : ℕ → Bool) (o p : Options) (same : Agree r test o p) where
  goes_on_alike : (c : ℕ) (text : List ℕ) → IsTrue (list_all test (c ∷ text)) → goes_on o c text ≡ goes_on p c text
  goes_on_alike c [] h = refl
  goes_on_alike c (d ∷ text) h = grind (arith, and_parts)

  tokens_alike : (at : ℕ) (text : List ℕ) → IsTrue (list_all test text) → tokens_from o at text ≡ tokens_from p at text
  tokens_alike at [] h = refl
  tokens_alike at (c ∷ text) h = search (rules, and_parts, goes_on_alike, tokens_alike (at + width c) text)

  letters_alike : (w : List ℕ) → IsTrue (list_all test w)
      → list_all (is_unit_letter o) w ≡ list_all (is_unit_letter p) w
  letters_alike [] h = refl
  letters_alike (c ∷ w) h = let parts = and_parts _ _ h in rw (same.letter c parts.0, letters_alike w parts.1)

  terminal_alike : (w : List ℕ) → IsTrue (list_all test w) → terminal_of (under r o) w ≡ terminal_of (under r p) w
  terminal_alike w h = search (rules, letters_alike)

  lexemes_alike : (lexemes : List (List ℕ)) → EachPasses test lexemes
      → map (terminal_of (under r o)) lexemes ≡ map (terminal_of (under r p)) lexemes
  lexemes_alike [] h = refl
  lexemes_alike (w ∷ lexemes) h = rw (terminal_alike w h.0, lexemes_alike lexemes h.1)

  agree_alike : (text : List ℕ) → o.no_calc ≡ p.no_calc → IsTrue (list_all test text) → AreAlike r o p text
  agree_alike text grammar h = search (rules, tokens_alike, lexemes_pass, tokens_spell, lexemes_alike)

-- ---- ASCII capitals

all_lower : (w : List ℕ) → HasNoCapital w → map to_ascii_lowercase w ≡ w
all_lower [] h = refl
all_lower (c ∷ w) h = search (rules, and_parts, all_lower w)

-- ---- Chinese characters

chinese_letter : (o : Options) (c : ℕ) → not (is_chinese c) ≡ true
    → is_unit_letter (record o { cn_unit = true }) c ≡ is_unit_letter (record o { cn_unit = false }) c
chinese_letter o c h = rw (not-true (is_chinese c) h)

all_lower_not_chinese : (w : List ℕ) → HasNoChinese w → HasNoChinese (map to_ascii_lowercase w)
all_lower_not_chinese [] h = refl
all_lower_not_chinese (c ∷ w) h = search (rules, all_lower_not_chinese w)

form_not_chinese : (lowercase : Bool) (w : List ℕ) → HasNoChinese w
    → HasNoChinese (if lowercase then w else map to_ascii_lowercase w)
form_not_chinese lowercase w h = search (rules, all_lower_not_chinese)

abbrev has_chinese : List ℕ → Bool
has_chinese name = not (list_all (λ c. not (is_chinese c)) name)

other_names : (w : List ℕ) (names : List (List ℕ)) → HasNoChinese w → IsTrue (list_all has_chinese names)
    → list_any (bytes_eq w) names ≡ false
other_names w names h k = search (rules, named_passes)

lowercase_unit : (r : Rules) (w : List ℕ) → HasNoCapital w
    → unit_of_word (with_lowercase r true) w ≡ unit_of_word (with_lowercase r false) w
lowercase_unit r w h = rw (all_lower w h) refl

-- ---- The law

cn_unit_idle : (default_unit : Option TimeUnit) (o : Options) (text : List ℕ) → HasNoChinese text
    → IsIdle (λ on. rules_with (record o { cn_unit = on }) default_unit) text
cn_unit_idle default_unit o text h =
    let r : Rules = rules_with o default_unit in
    let (on, off) : Options × Options = (record o { cn_unit = true }, record o { cn_unit = false }) in
    let agree : Agree r (λ c. not (is_chinese c)) on off =
    record { letter = chinese_letter o; unit = search (rules, form_not_chinese, other_names) } in
    idle (λ b. rules_with (record o { cn_unit = b }) default_unit) text
    (same_answer r on off text (agree_alike r (λ c. not (is_chinese c)) on off agree text refl h))

pub options_idle_holds : OptionsIdle
options_idle_holds = record { lowercase = search (rules, lowercase_unit, idle, same_answer, agree_alike); cn_unit = cn_unit_idle }
