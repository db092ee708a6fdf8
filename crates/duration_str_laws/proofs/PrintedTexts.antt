-- A text that is printed in full is spelled by a sum whose total is the duration.
use Rattle.duration_str_laws.proofs.Common.{[], AllPlus, append-nil, ap₂, arith, between, Bool, cases_Bool, common_steps, counts_of, decimal, drop, eqb-true, FitsDuration, flat_map, inl, inr, IsBlank, IsPrintedIn, IsSentence, joined_parts, List, map, name_in, nanos_of, nonzero, number, Option, Options, printed_part, refl, Rules, rules, rules_with, Second, Some, Spells, Style, sum_of, Terminal, terminal_of, terms_of, TimeUnit, unit_lengths, units, weighted_sum, word, written_terms, Year, ℕ, ⊤, ◌%◌, ◌++◌, ◌<◌, ◌==◌, ◌^◌, ◌∷◌, ◌≡◌}
use Rattle.duration_str_reading.proofs.Cutting.RunLemmas.{decimal_terminal}
use Rattle.duration_str_printing.proofs.GreatestBreakdown.{greatest_breakdown_holds, counts_are}
use Rattle.duration_str_reading.proofs.Sentences.AnswerLemmas.{IsSumOf}

abbrev pub or_zero : TimeUnit → List (TimeUnit × ℕ) → List (TimeUnit × ℕ)
or_zero u [] = (u, 0) ∷ []
or_zero u (p ∷ ps) = p ∷ ps

abbrev pub lexemes : Style → List (TimeUnit × ℕ) → List (List ℕ)
lexemes style [] = []
lexemes style (p ∷ ps) = decimal p.1 ∷ name_in style (p.1 == 1) p.0 ∷ lexemes style ps

abbrev pub terminals : List (TimeUnit × ℕ) → List Terminal
terminals [] = []
terminals (p ∷ ps) = number p.1 ∷ word (Some p.0) ∷ terminals ps

abbrev pub printed : ℕ → List (TimeUnit × ℕ)
printed nanos = or_zero Second (nonzero units (counts_of unit_lengths nanos))

abbrev pub duration_lexemes : Style → ℕ → List (List ℕ)
duration_lexemes style nanos = lexemes style (printed nanos)

-- ---- The lexemes spell the text

abbrev pub part : Style → TimeUnit × ℕ → List ℕ
part style p = printed_part style p.1 p.0

part_spelled : (style : Style) (blanks rest : List ℕ) (p : TimeUnit × ℕ) (ps : List (TimeUnit × ℕ)) → IsBlank blanks
    → Spells (lexemes style ps) rest → Spells (lexemes style (p ∷ ps)) (blanks ++ (part style p ++ rest))
part_spelled style blanks rest p ps blank more = grind (arith, common_steps)

later_spelled : (style : Style) (ps : List (TimeUnit × ℕ))
    → Spells (lexemes style ps) (flat_map (λ part. between style ++ part) (map (part style) ps))
later_spelled style [] = refl
later_spelled style (p ∷ ps) = grind (arith, common_steps, later_spelled style ps)

pub all_spelled : (style : Style) (u : TimeUnit) (ps : List (TimeUnit × ℕ))
    → Spells (lexemes style (or_zero u ps)) (joined_parts style u (map (part style) ps))
all_spelled style u [] = rw append-nil at (part_spelled style [] [] (u, 0) [] refl refl)
all_spelled style u (p ∷ ps) = part_spelled style [] _ p ps refl (later_spelled style ps)

-- ---- The lexemes have these terminals

pub printed_terminal : (default_unit : Option TimeUnit) (o : Options) (style : Style) (one : Bool) (u : TimeUnit)
    → terminal_of (rules_with o default_unit) (name_in style one u) ≡ word (Some u)
printed_terminal default_unit o style one u = search rules

abbrev pub EachBelow : List ℕ → Type 0
EachBelow [] = ⊤
EachBelow (n ∷ counts) = (n < 2 ^ 64) × EachBelow counts

pub terminals_kept : (default_unit : Option TimeUnit) (o : Options) (style : Style) (us : List TimeUnit) (counts : List ℕ) → EachBelow counts
    → map (terminal_of (rules_with o default_unit)) (lexemes style (nonzero us counts)) ≡ terminals (nonzero us counts)
terminals_kept default_unit o style (u ∷ us) (n ∷ counts) small = elim (cases_Bool (n == 0)) [
  | inl none ↦ rw none (terminals_kept default_unit o style us counts small.1)
  | inr some ↦ rw some (ap₂ ◌∷◌ (decimal_terminal (rules_with o default_unit) n small.0)
      (ap₂ ◌∷◌ (printed_terminal default_unit o style (n == 1) u) (terminals_kept default_unit o style us counts small.1)))
]
terminals_kept default_unit o style _ _ small = refl

pub terminals_or_zero : (default_unit : Option TimeUnit) (o : Options) (style : Style) (u : TimeUnit) (ps : List (TimeUnit × ℕ))
    → map (terminal_of (rules_with o default_unit)) (lexemes style ps) ≡ terminals ps
    → map (terminal_of (rules_with o default_unit)) (lexemes style (or_zero u ps)) ≡ terminals (or_zero u ps)
terminals_or_zero default_unit o style zero ps same = search (rules, decimal_terminal, printed_terminal)

counts_below : (lengths : List ℕ) (nanos : ℕ) → nanos < 2 ^ 64 → EachBelow (counts_of lengths nanos)
counts_below [] nanos h = tt
counts_below (l ∷ lengths) nanos h = (omega arith, counts_below lengths (nanos % l) (omega arith))

pub terminals_of_duration : (default_unit : Option TimeUnit) (o : Options) (style : Style) (nanos : ℕ) → FitsDuration nanos
    → map (terminal_of (rules_with o default_unit)) (duration_lexemes style nanos) ≡ terminals (printed nanos)
terminals_of_duration default_unit o style nanos h =
    terminals_or_zero default_unit o style Second _ (terminals_kept default_unit o style units (counts_of unit_lengths nanos)
    (omega arith, counts_below (drop 1 unit_lengths) (nanos % nanos_of Year) (omega arith)))

-- ---- The terminals are a sentence without operators

pub units_sentence : (r : Rules) (u : TimeUnit) (ps : List (TimeUnit × ℕ)) → IsSentence r (terminals (or_zero u ps))
units_sentence r u [] = tt
units_sentence r u (p ∷ []) = tt
units_sentence r u (p ∷ q ∷ ps) = units_sentence r u (q ∷ ps)

pub units_plus : (ps : List (TimeUnit × ℕ)) → AllPlus (terminals ps)
units_plus [] = tt
units_plus (p ∷ ps) = units_plus ps

pub printed_is_sum : (default_unit : Option TimeUnit) (o : Options) (style : Style) (nanos : ℕ) (text : List ℕ)
    → FitsDuration nanos
    → IsPrintedIn style nanos text → IsSumOf (rules_with o default_unit) (duration_lexemes style nanos) text
printed_is_sum default_unit o style nanos text h p =
    let counts : List ℕ = counts_of unit_lengths nanos in
    record {
      sentence = (
        rw (terminals_of_duration default_unit o style nanos h) (units_sentence (rules_with o default_unit) Second (nonzero units counts)),
        rw (counts_are style nanos text p)
            (all_spelled style Second (nonzero units counts)),
      );
      plus = rw (terminals_of_duration default_unit o style nanos h) (units_plus (printed nanos));
    }

-- ---- The total is the duration

pub sum_kept : (default_unit : Option TimeUnit) (o : Options) (us : List TimeUnit) (counts : List ℕ)
    → sum_of (terms_of (rules_with o default_unit) (terminals (nonzero us counts))) ≡ weighted_sum (map nanos_of us) counts
sum_kept default_unit o (u ∷ us) (n ∷ counts) = search (rules, eqb-true, sum_kept default_unit o us counts)
sum_kept default_unit o _ _ = refl

pub sum_or_zero : (r : Rules) (u : TimeUnit) (ps : List (TimeUnit × ℕ))
    → sum_of (terms_of r (terminals (or_zero u ps))) ≡ sum_of (terms_of r (terminals ps))
sum_or_zero r u ps = search rules

pub duration_sum : (default_unit : Option TimeUnit) (o : Options) (style : Style) (nanos : ℕ) → FitsDuration nanos
    → sum_of (written_terms (rules_with o default_unit) (duration_lexemes style nanos)) ≡ nanos
duration_sum default_unit o style nanos h =
    let counts : List ℕ = counts_of unit_lengths nanos in
    rw (terminals_of_duration default_unit o style nanos h, sum_or_zero (rules_with o default_unit) Second (nonzero units counts), sum_kept default_unit o units counts)
    (greatest_breakdown_holds nanos).breakdown.whole
