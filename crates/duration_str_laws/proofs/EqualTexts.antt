use Rattle.duration_str_laws.proofs.Common.{EqualTexts, FitsDuration, IsPrintedIn, List, off, rules_of, Second, Some, Style, sum_of, terminals_of, terms_of, ℕ, ◌≡◌}
use Rattle.duration_str_reading.proofs.Sentences.SpellingLemmas.{sentence_terminals}
use Rattle.duration_str_printing.proofs.GreatestBreakdown.{counts_are}
use Rattle.duration_str_laws.proofs.PrintedTexts.{duration_lexemes, duration_sum, printed_is_sum}

printed_sum : (style : Style) (nanos : ℕ) (text : List ℕ) → FitsDuration nanos → IsPrintedIn style nanos text
    → sum_of (terms_of (rules_of off) (terminals_of (rules_of off) text)) ≡ nanos
printed_sum style nanos text h p =
    let sentence = (printed_is_sum (Some Second) off style nanos text h p).sentence in
    rw (← sentence_terminals (rules_of off) text (duration_lexemes style nanos) sentence)
    (duration_sum (Some Second) off style nanos h)

pub equal_texts_hold : EqualTexts
equal_texts_hold style m n a b fits_m fits_n p q = (
  λ e. cc (printed_sum style m a fits_m p, printed_sum style n b fits_n q),
  λ e. cc (counts_are style m a p, counts_are style n b q),
)
