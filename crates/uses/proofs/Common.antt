pub use Rattle.std.proofs.lemmas.Bool.{true≢false}
pub use Rattle.std.proofs.lemmas.List.{reverse-reverse}
pub use Rattle.std.proofs.lemmas.List.Sorted.{IsNonDecreasingBy-from_sort_by_key, IsPermutation-sym, IsPermutation-trans, sum_by-IsPermutation}
pub use Rattle.std.specs.List.Sorted.{IsNonDecreasingBy, IsPermutation}
pub use Rattle.duration_str_reading.proofs.Cutting.RunLemmas.{run-not_blank}
pub use Rattle.duration_str_printing.specs.PrintingLaws.{GreatestBreakdown}
pub use Rattle.duration_str_laws.specs.Laws.{EqualTexts, ReadsBack, OlderTexts, IsMostWithin}
pub use Rattle.duration_str_reading.specs.Reading.{early, IsRefusedAt, late, syntax_fault}
pub use Rattle.duration_str_reading.specs.ReadingLaws.{OneReading, BlanksFree, OneSentence, TwoFactors, PlaceAndKinds, HasNoCapital, HasNoOperator, NoCalcAgrees, OptionsIdle, Reorder, times_in}
pub use Rattle.duration_str_base.specs.Rules.{unit_of_word}
pub use Rattle.duration_str_reading.specs.Tokens.{goes_on, lexemes_of, tokens_from}
pub use Rattle.duration_str_reading.specs.Grammar.{Spells, number, operator, other, Terminal, word}
pub use Rattle.duration_str_base.specs.Text.{width, number_of}
pub use Rattle.duration_str_reading.specs.Value.{one_second}
pub use Rattle.duration_str_reading.specs.Place.{CanFollow}
pub use Rattle.duration_str_reading.specs.Answer.{expected_after, last_of}
pub use Rattle.duration_str_laws.specs.Older.{older_row_of, older_rules}
pub use Rattle.duration_str.specs.Results.{Parses}
pub use Rattle.duration_str_base.specs.Term.{value_of_term}
pub use Rattle.duration_str_printing.specs.Format.{shorter_units, units_within, IsPrintedWithin}
pub use Rattle.uses.specs.Common.{Cause, Duration, Expected, Fault, Options, Plus, Star, Syntax, counts_of, IsPrintedIn, IsRead, IsRefused, off, unit_lengths, nanos_of, rules_of, rules_with, Rules, IsSentenceOf}
pub use Rattle.uses.specs.Line.{IsReadAsBefore, with_line_feed}
pub use Rattle.uses.specs.Product.{MultipliesInEitherOrder, nanos_in, term_of_part}
pub use Rattle.uses.specs.declared.product.Part.{Part}
