use Rattle.duration_str_printing.proofs.Common.{[], AllParts, ap, arith, counts_of, counts_within, Format, length, List, printed_counts, refl, sym, text_within, unit_lengths, whole_format, ℕ, ◌∙◌, ◌∷◌, ◌≡◌, ◌≤◌}
use Rattle.duration_str_printing.specs.Format.{chosen, is_in}
use Rattle.duration_str_printing.proofs.GreatestBreakdown.{greatest_breakdown_holds, counts_are}
use Rattle.duration_str_printing.proofs.GreatestWithin.{greatest_within, one_greatest_within}

pub all_counts : (lengths : List ℕ) (most nanos : ℕ) → length lengths ≤ most
    → counts_within lengths most nanos ≡ counts_of lengths nanos
all_counts [] most nanos h = refl
all_counts (l ∷ lengths) most nanos h = grind (arith, all_counts lengths)

pub all_parts_holds : AllParts
unfolding chosen is_in
all_parts_holds style parts nanos text enough =
    let format : Format = record whole_format { parts = parts; style = style } in
    let same = all_counts unit_lengths parts nanos enough in (
      λ p. (
        counts_of unit_lengths nanos,
        greatest_breakdown_holds nanos,
        p.2 ∙ ap (text_within format) (one_greatest_within format nanos p.0 p.1 ∙ same),
      ),
      λ p. (
        counts_within unit_lengths parts nanos,
        greatest_within format nanos,
        counts_are style nanos text p ∙ ap (printed_counts style) (sym same),
      ),
    )
