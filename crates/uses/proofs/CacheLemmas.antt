-- Lemmas about the canonical text of a value.
use Rattle.std.proofs.Common.{List, Option, refl, ℕ, ◌<◌, ◌^◌}
use Rattle.std.specs.Duration.{FitsDuration}
use Rattle.duration_str_printing.specs.declared.format.Style.{Style}
use Rattle.duration_str_base.specs.declared.unit.TimeUnit.{TimeUnit}
use Rattle.uses.proofs.Common.{Options, counts_of, EqualTexts, GreatestBreakdown, IsPrintedIn, IsRead, off, OneReading, ReadsBack, unit_lengths, rules_of, rules_with}
use Rattle.uses.specs.Cache.{canonical_text, IsCanonical, IsKey}

pub printed_is_key : GreatestBreakdown → EqualTexts → (style : Style) (nanos : ℕ) (key : List ℕ) → FitsDuration nanos
    → IsPrintedIn style nanos key → IsKey style nanos key
printed_is_key greatest equal style nanos key fits printed = record {
  one = (equal style _ _ key (canonical_text style nanos) fits fits printed
      (counts_of unit_lengths nanos, greatest nanos, refl)).1 refl;
  greatest = greatest nanos;
  no_other = λ other other_fits other_printed. (equal style other nanos key key other_fits fits other_printed printed).0 refl;
}

pub key_is_printed : (style : Style) (nanos : ℕ) (key : List ℕ) → IsKey style nanos key → IsPrintedIn style nanos key
key_is_printed style nanos key k = (counts_of unit_lengths nanos, k.greatest, k.one)

pub key_is_canonical : ReadsBack → OneReading → (style : Style) (text key : List ℕ) (nanos : ℕ) → nanos < 2 ^ 64
    → IsRead (rules_of off) text nanos → IsKey style nanos key → IsCanonical style text key
key_is_canonical back law style text key nanos small read k =
    let read_back : (default_unit : Option TimeUnit) (o : Options) → IsRead (rules_with o default_unit) key nanos =
    λ default_unit o. back.below default_unit o style nanos key small (key_is_printed style nanos key k) in
    record {
      nanos = nanos;
      read = read;
      is_key = k;
      read_back = read_back;
      no_other = λ default_unit o other r. law.one_value (rules_with o default_unit) key other nanos r (read_back default_unit o);
    }
