use Rattle.duration_str_laws.proofs.Common.{[], ap, arith, counts_within, Format, IsRead, le-mul_of_pos_right, length, lengths_within, List, map, NeverMore, nonzero, Option, Options, rules, rules_with, sym, terminal_of, text_within, TimeUnit, units_within, weighted_sum, zero_unit, ℕ, ◌<◌, ◌^◌, ◌∙◌, ◌∷◌, ◌≡◌}
use Rattle.duration_str_printing.proofs.GreatestWithin.{ArePositive, greatest_within, lengths_positive, one_greatest_within, within_each, within_sum}
use Rattle.duration_str_laws.proofs.PrintedTexts.{all_spelled, EachBelow, lexemes, or_zero, sum_kept, sum_or_zero, terminals, terminals_kept, terminals_or_zero, units_plus, units_sentence}
use Rattle.duration_str_reading.proofs.Sentences.AnswerLemmas.{sum_read}
use Rattle.duration_str_printing.proofs.WithinLemmas.{within_again, shown_within, shown_counts, keeps_shown, kept_within}

-- ---- Reading

each_below : (lengths counts : List ℕ) → ArePositive lengths → length counts ≡ length lengths
    → weighted_sum lengths counts < 2 ^ 64 → EachBelow counts
each_below [] [] h e small = tt
each_below [] (n ∷ counts) h e small = absurd (omega arith)
each_below (l ∷ lengths) [] h e small = absurd (omega arith)
each_below (l ∷ lengths) (n ∷ counts) h e small = search (rules, le-mul_of_pos_right, each_below lengths counts)

reads : (default_unit : Option TimeUnit) (o : Options) (format : Format) (counts text : List ℕ)
    → length counts ≡ length (lengths_within format)
    → weighted_sum (lengths_within format) counts < 2 ^ 64 → text ≡ text_within format counts
    → IsRead (rules_with o default_unit) text (weighted_sum (lengths_within format) counts)
reads default_unit o format counts text each small same =
    let us = units_within format in
    let zero = zero_unit us in
    let ps = nonzero us counts in
    let below = each_below (lengths_within format) counts (lengths_positive us) each small in
    let are : map (terminal_of (rules_with o default_unit)) (lexemes format.style (or_zero zero ps)) ≡ terminals (or_zero zero ps) =
    terminals_or_zero default_unit o format.style zero ps (terminals_kept default_unit o format.style us counts below) in
    sum_read {lexemes = lexemes format.style (or_zero zero ps)} (record {
      sentence = (
        rw are (units_sentence (rules_with o default_unit) zero ps),
        rw same (all_spelled format.style zero ps),
      );
      plus = rw are (units_plus (or_zero zero ps));
    }) (rw (are, sum_or_zero (rules_with o default_unit) zero ps, sum_kept default_unit o us counts)) small

-- ---- The law

pub never_more_holds : NeverMore
never_more_holds format nanos text p =
    let lengths : List ℕ = lengths_within format in
    let counts : List ℕ = counts_within lengths format.parts nanos in
    let positive : ArePositive lengths = lengths_positive (units_within format) in
    let each = within_each lengths format.parts nanos in
    let same : text ≡ text_within format counts =
    p.2 ∙ ap (text_within format) (one_greatest_within format nanos p.0 p.1) in
    let most : ℕ = shown_within format nanos in (
      most,
      record {
        again = (
          counts_within lengths format.parts most,
          greatest_within format most,
          same ∙ ap (text_within format) (sym (within_again lengths format.parts nanos positive)),
        );
        read = λ default_unit o small. reads default_unit o format counts text each small same;
        never_more = within_sum lengths format.parts nanos;
        own = (shown_counts format nanos, keeps_shown format nanos);
        greatest = λ between others above up kept.
            omega (arith, above, kept_within format between nanos others kept up);
      },
    )
