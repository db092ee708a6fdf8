pub use Rattle.std.proofs.Common.{add-zero, ap, append-nil, append_assoc, ap₂, arith, Bool, bytes_eq, chars, codes, decimal, div-add-mod', drop, encode_utf8_all, eq-eqb, eqb-true, false, find, flat_map, if◌then◌else◌, inl, inr, is_some, IsTrue, IsUtf8, le-ltb, leb, leb-true, length, length-append, length-take-le, List, lt-ltb, ltb-true, map, mul-div_cancel, mul_comm, nat_le, nat_lt, ne_eqb, None, not, Option, option_map, refl, replicate, Result, rules, Some, subst, suc, sym, take, take-append-drop, true, true≢false, unwrap_or, zero, [], ℕ, ◌%◌, ◌&&◌, ◌*◌, ◌++◌, ◌+◌, ◌-◌, ◌/◌, ◌<◌, ◌==◌, ◌^◌, ◌||◌, ◌↔◌, ◌∙◌, ◌∷◌, ◌≡◌, ◌≢◌, ◌≤◌, ◌⊎◌}
pub use Rattle.std.proofs.Math.Nat.{le-mul_of_pos_right}
pub use Rattle.std.proofs.lemmas.Bool.{and_from, and_parts, cases_Bool, cond-true, false_from_ne_true, not-true, or_cases, or_right}
pub use Rattle.std.proofs.lemmas.Bool.Decides.{nat_tests}
pub use Rattle.std.proofs.lemmas.Fmt.{decimal_nonempty, digits_decimal, digits_value-decimal}
pub use Rattle.std.proofs.lemmas.List.{drop_all, map-append}
pub use Rattle.std.proofs.lemmas.List.Folds.{list_all-append}
pub use Rattle.std.proofs.lemmas.Slice.Eq.{bytes_eq-Decides}
pub use Rattle.std.proofs.lemmas.Str.{chars-append, chars-encodes, chars-nil, encode_ascii, encodes-chars, IsUtf8-append, IsUtf8-drop, IsUtf8-nil, IsUtf8-take, length-le-encodes}
pub use Rattle.std.specs.Char.{is_ascii_alphabetic, to_ascii_lowercase}
pub use Rattle.std.specs.Duration.{FitsDuration}
pub use Rattle.std.specs.List.{list_all, list_any, sum_by, take_while}
pub use Rattle.std.specs.Prelude.{⊤}
pub use lib.Utf8.{scalars}
pub use Rattle.duration_str_base.specs.declared.cause.Cause.{Cause}
pub use Rattle.duration_str_base.specs.declared.cause.Cause.TheVariants.{Overflow, Syntax}
pub use Rattle.duration_str_base.specs.declared.cause.Expected.{Expected}
pub use Rattle.duration_str_base.specs.declared.operator.CondUnit.{CondUnit}
pub use Rattle.duration_str_base.specs.declared.operator.CondUnit.TheVariants.{Plus, Star}
pub use Rattle.duration_str_base.specs.declared.options.Options.{Options}
pub use Rattle.duration_str_base.specs.declared.unit.TimeUnit.{TimeUnit}
pub use Rattle.duration_str_base.specs.declared.unit.TimeUnit.TheVariants.{NanoSecond, Quarter, Second, Year}
pub use Rattle.duration_str_reading.specs.Answer.{allows, answer, answer_at, expected_after, front_of, last_of}
pub use Rattle.duration_str_reading.specs.Grammar.{IsSentence, IsSentenceOf, number, operator, other, Spells, Terminal, terminal_of, word}
pub use Rattle.duration_str_reading.specs.ReadingLaws.{with_lowercase, with_no_calc, BlanksFree, HasNoCapital, HasNoChinese, HasNoOperator, HasNoStar, is_operator, IsIdle, NoCalcAgrees, OneCut, OneSentence, OptionsIdle, PlaceAndKinds, Reorder, SumOfTexts, times_in, TwoFactors, AllPlus, AreTokens, EndsRun, IsLexeme}
pub use Rattle.duration_str_printing.specs.PrintingLaws.{counts_of}
pub use Rattle.duration_str_laws.specs.Laws.{EqualTexts, MoreNames, NeverMore, OlderTexts, ReadsBack}
pub use Rattle.duration_str_laws.specs.Older.{older_row_of, older_rules, older_table, sentence_fault, WasRefused}
pub use Rattle.duration_str_printing.specs.declared.format.Format.{Format}
pub use Rattle.duration_str_printing.specs.declared.format.Style.{Style}
pub use Rattle.duration_str_printing.specs.Format.{counts_within, lengths_within, text_within, units_within, zero_unit}
pub use Rattle.duration_str_reading.specs.Place.{BeginsSentence, CanFollow, start_after, terminals_of}
pub use Rattle.duration_str_printing.specs.Printing.{between, IsPrintedIn, joined_parts, name_in, nonzero, printed_part, weighted_sum}
pub use Rattle.duration_str_base.specs.Units.{nanos_of, row_of, unit_lengths, UnitRow, units}
pub use Rattle.duration_str_base.specs.Term.{fits, Term, value_of_term}
pub use Rattle.duration_str_base.specs.Internal.Positions.{ahead, Stops}
pub use Rattle.duration_str_base.specs.Options.{off}
pub use Rattle.duration_str_reading.specs.Reading.{early, early_fault, IsRead, IsRefused, IsRefusedAt, late, syntax_fault}
pub use Rattle.duration_str_reading.specs.Value.{one_second, sum_of, terms_after, terms_of, value_of, written_terms}
pub use Rattle.duration_str_base.specs.Text.{byte_len, chinese_letters, is_blank, is_chinese, is_digit, is_unit_letter, IsBlank, number_of, operator_of, width}
pub use Rattle.duration_str_reading.specs.Tokens.{are_of_one_run, goes_on, lexemes_of, Token, tokens_from, tokens_of, with_first_character}
pub use Rattle.duration_str_base.specs.Meaning.{meaning_of, table_of}
pub use Rattle.duration_str_base.specs.MoreNames.{more_names, more_row_of}
pub use Rattle.duration_str_base.specs.Rules.{comparison_form, Rules, rules_of, rules_with, unit_of_word}
pub use Rattle.duration_str_base.specs.Internal.UnitTable.{all_names, all_names_in, Table}
pub use Rattle.duration_str_base.specs.declared.table.UnitTable.{UnitTable}
pub use Rattle.duration_str_base.specs.declared.table.UnitTable.TheVariants.{Humantime, More, Own}
pub use Rattle.std.proofs.lemmas.Grind.{common_steps}
pub use Rattle.std.proofs.Math.Seq.{drop-nil}
pub use Rattle.std.proofs.lemmas.List.Sums.{sum_by-cons, take_while-cons}
