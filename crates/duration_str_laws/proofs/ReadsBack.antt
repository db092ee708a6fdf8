use Rattle.duration_str_laws.proofs.Common.{[], arith, counts_of, drop, early, early_fault, eqb-true, false, false_from_ne_true, FitsDuration, IsPrintedIn, IsRead, IsRefused, le-ltb, List, lt-ltb, map, nanos_of, None, nonzero, number, Option, Options, Overflow, Plus, ReadsBack, refl, rules, rules_with, Some, Style, sum_of, sym, Terminal, terminal_of, terms_of, TimeUnit, unit_lengths, units, word, written_terms, Year, ℕ, ◌*◌, ◌+◌, ◌/◌, ◌<◌, ◌==◌, ◌^◌, ◌∙◌, ◌∷◌, ◌≡◌, ◌≤◌}
use Rattle.duration_str_reading.proofs.Sentences.AnswerLemmas.{EachFits, sentence_refused, sum_fits_each, sum_overflows, sum_read}
use Rattle.duration_str_reading.proofs.Sentences.SumLemmas.{terms_long}
use Rattle.duration_str_laws.proofs.PrintedTexts.{duration_lexemes, duration_sum, printed_is_sum, terminals, terminals_of_duration}

abbrev years : ℕ → ℕ
years nanos = nanos / nanos_of Year

abbrev after_years : ℕ → List Terminal
after_years nanos = terminals (nonzero (drop 1 units) (drop 1 (counts_of unit_lengths nanos)))

years_first : (default_unit : Option TimeUnit) (o : Options) (style : Style) (nanos : ℕ) → FitsDuration nanos → nanos_of Year ≤ nanos
    → map (terminal_of (rules_with o default_unit)) (duration_lexemes style nanos) ≡ number (years nanos) ∷ word (Some Year) ∷ after_years nanos
years_first default_unit o style nanos h low =
    let some : (years nanos == 0) ≡ false = false_from_ne_true _ (λ none. absurd (omega (arith, eqb-true _ _ none))) in
    terminals_of_duration default_unit o style nanos h ∙ rw some refl

reads_below : (default_unit : Option TimeUnit) (o : Options) (style : Style) (nanos : ℕ) (text : List ℕ)
    → nanos < 2 ^ 64
    → IsPrintedIn style nanos text → IsRead (rules_with o default_unit) text nanos
reads_below default_unit o style nanos text h p =
    let within : FitsDuration nanos = omega arith in
    sum_read (printed_is_sum default_unit o style nanos text within p) (duration_sum default_unit o style nanos within) h

overflows_above : (default_unit : Option TimeUnit) (o : Options) (style : Style) (nanos : ℕ) (text : List ℕ)
    → 2 ^ 64 ≤ nanos
    → nanos < 585 * nanos_of Year → IsPrintedIn style nanos text → IsRefused (rules_with o default_unit) text (Overflow None)
overflows_above default_unit o style nanos text low high p =
    let within : FitsDuration nanos = omega arith in
    let lexemes : List (List ℕ) = duration_lexemes style nanos in
    let rest : List Terminal = after_years nanos in
    let terminals : map (terminal_of (rules_with o default_unit)) lexemes ≡ number (years nanos) ∷ word (Some Year) ∷ rest =
    years_first default_unit o style nanos within (omega arith) in
    let whole : sum_of (written_terms (rules_with o default_unit) lexemes) ≡ nanos = duration_sum default_unit o style nanos within in
    let parts : years nanos * nanos_of Year + sum_of (terms_of (rules_with o default_unit) rest) ≡ nanos = rw terminals at whole in
    let each : EachFits (written_terms (rules_with o default_unit) lexemes) =
    rw terminals (
      omega arith,
      omega arith,
      sum_fits_each (terms_of (rules_with o default_unit) rest)
          (terms_long default_unit o Plus rest) (omega arith),
    ) in
    sum_overflows (printed_is_sum default_unit o style nanos text within p) each (omega arith)

-- From 585 years on, the first term overflows by itself.
first_overflows : (default_unit : Option TimeUnit) (o : Options) (n : ℕ) (rest : List Terminal) → n < 2 ^ 64
    → 2 ^ 64 ≤ n * nanos_of Year
    → early_fault (rules_with o default_unit) (number n ∷ word (Some Year) ∷ rest) [] ≡ Some (Overflow (Some 0))
first_overflows default_unit o n rest small large = search (rules, lt-ltb, le-ltb)

overflows_far_above : (default_unit : Option TimeUnit) (o : Options) (style : Style) (nanos : ℕ) (text : List ℕ)
    → 585 * nanos_of Year ≤ nanos
    → FitsDuration nanos → IsPrintedIn style nanos text → IsRefused (rules_with o default_unit) text (Overflow (Some 0))
overflows_far_above default_unit o style nanos text low high p =
    let terminals = sym (years_first default_unit o style nanos high (omega arith)) in
    let fault = first_overflows default_unit o (years nanos) (after_years nanos) (omega arith) (omega arith) in
    sentence_refused (rules_with o default_unit) text (duration_lexemes style nanos) (Overflow (Some 0))
    (printed_is_sum default_unit o style nanos text high p).sentence (λ place. early (rw (← terminals) fault))

pub reads_back_holds : ReadsBack
reads_back_holds = search (rules, reads_below, overflows_above, overflows_far_above)
