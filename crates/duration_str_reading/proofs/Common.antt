pub use Rattle.std.proofs.Common.{add-zero, add_assoc, ap, append-nil, append_assoc, arith, Bool, chars, codes, decimal, drop, drop-drop, drop_at, Err, false, IfSome, if◌then◌else◌, inl, inr, is_some, IsCharBoundary, IsTrue, IsUtf8, le-ltb, le_antisymm, le_of_suc-le-suc, length, length-append, length-drop, length-take-le, List, lt-ltb, ltb-true, map, ne_eqb, None, not, Ok, ok_or, Option, refl, Result, rules, slice_range, Some, subst, suc, sym, take, take-append-drop, take_at, true, unwrap_or, zero, zero-le, [], ℕ, ◌%◌, ◌&&◌, ◌*◌, ◌++◌, ◌+◌, ◌-◌, ◌<◌, ◌==◌, ◌^◌, ◌||◌, ◌↔◌, ◌∙◌, ◌∷◌, ◌≡◌, ◌≤◌, ◌⊎◌}
pub use Rattle.std.proofs.lemmas.Bool.{and_from, and_parts, cases_Bool, cases_lt, cond-true, false_from_ne_true, not-true, not_from_false, not_from_true, or_cases, or_right}
pub use Rattle.std.proofs.lemmas.Bool.Decides.{nat_tests, same_from_decides}
pub use Rattle.std.proofs.lemmas.Fmt.{decimal_nonempty, digits_decimal, digits_value-decimal}
pub use Rattle.std.proofs.lemmas.List.{append_cancel_right}
pub use Rattle.std.proofs.lemmas.List.Folds.{list_all-append}
pub use Rattle.std.proofs.lemmas.Result.{err_from_is_err_and}
pub use Rattle.std.proofs.lemmas.Str.{chars-append, encodes-append, encodes-chars, IsCharBoundary-at_seam, IsCharBoundary-start, IsUtf8-between, IsUtf8-drop, IsUtf8-had, IsUtf8-take, length-le-encodes, scalars-chars}
pub use Rattle.std.specs.List.{list_all}
pub use Rattle.std.specs.Option.{ForSome}
pub use Rattle.std.specs.Prelude.{IfErr, ⊤}
pub use lib.Utf8.{encodes}
pub use Rattle.duration_str_base.specs.declared.cause.Cause.{Cause}
pub use Rattle.duration_str_base.specs.declared.cause.Cause.TheVariants.{Empty, Mixed, NumberTooLarge, Overflow, Syntax}
pub use Rattle.duration_str_base.specs.declared.cause.Expected.{Expected}
pub use Rattle.duration_str_base.specs.declared.operator.CondUnit.{CondUnit}
pub use Rattle.duration_str_base.specs.declared.operator.CondUnit.TheVariants.{Plus, Star}
pub use Rattle.duration_str_base.specs.declared.options.Options.{Options}
pub use Rattle.duration_str_reading.specs.declared.token.TokenStart.{TokenStart}
pub use Rattle.duration_str_reading.specs.declared.token.TokenStart.TheVariants.{Number, Other, Word}
pub use Rattle.duration_str_reading.specs.declared.token.Tokens.{Tokens}
pub use Rattle.duration_str_base.specs.declared.unit.TimeUnit.{TimeUnit}
pub use Rattle.duration_str_base.specs.declared.unit.TimeUnit.TheVariants.{MilliSecond, Second, Year}
pub use Rattle.duration_str_reading.specs.Answer.{allows, answer, answer_at, expected_after, expected_at_start, front_after, front_of, is_whole, last_of, late_answer}
pub use Rattle.duration_str_base.specs.Causes.{place_of}
pub use Rattle.duration_str_reading.specs.Grammar.{BeginsWith, IsSentence, IsSentenceOf, number, operator, operator_or_other, other, sign_terminal, Spells, Terminal, terminal_of, word}
pub use Rattle.duration_str_reading.specs.ReadingLaws.{AnswerIsReading, OneReading, AllPlus, AreTokens, EndsRun, IsLexeme}
pub use Rattle.duration_str_reading.specs.Place.{BeginsSentence, CanFollow, IsFront, start_after, terminals_of}
pub use Rattle.duration_str_base.specs.Units.{UnitRow}
pub use Rattle.duration_str_base.specs.Term.{fault_or, IsNumber, fits, or_else, Term, term_fault, unless, value_of_term}
pub use Rattle.duration_str_base.specs.Internal.Positions.{ahead, Between, letter_number, Passes, Stands, StandsAt, Stops, TakesDigits, TakesLetters}
pub use Rattle.duration_str_base.specs.Options.{off}
pub use Rattle.duration_str_reading.specs.Reading.{complete_terminals, early, early_fault, first_fault, IsRead, IsRefused, IsRefusedAt, late, late_fault, place_after, running_fault, syntax_fault, without_last_number}
pub use Rattle.duration_str_reading.specs.Value.{combination, Evaluates, evaluation_fault, fault_of_terms, is_same_operator, later_total, sum_of, terms_after, terms_of, value_of, written_terms}
pub use Rattle.duration_str_base.specs.Text.{byte_len, is_blank, is_digit, is_unit_letter, IsBlank, number_after, number_of, operator_of, width}
pub use Rattle.duration_str_reading.specs.Iteration.{cut_place, KeepsInput, options_of, source, tokens_left, what_of, YieldsNextToken}
pub use Rattle.duration_str_reading.specs.Tokens.{are_of_one_run, goes_on, lexemes_of, Token, tokens_from, tokens_of, with_first_character}
pub use Rattle.duration_str_base.specs.Meaning.{meaning_of, table_of}
pub use Rattle.duration_str_base.specs.MoreNames.{more_rules}
pub use Rattle.duration_str_base.specs.Rules.{Rules, rules_of, rules_with, unit_of_word}
pub use Rattle.duration_str_base.specs.Internal.Numbers.{checked_term, u64_from}
pub use Rattle.duration_str_base.specs.Internal.UnitTable.{unit_of_packed}
pub use Rattle.duration_str_reading.specs.Internal.Rest.{answer_left, checked_combination, end_at, IsPlaceless, leaving, number_fault, operator_read, ReadItem, Rest, rest_from, rest_of, start_left, terminal_at, terminals_left, total_with, unit_read, with_term}
pub use Rattle.duration_str_reading.specs.Internal.Steps.{is_number, IsAhead, IsSign, LooksAhead, rules_at, sign_sort, sort_at, sort_of, TakesNumber, TakesToken, TakesTokenWith}
pub use Rattle.std.proofs.lemmas.Grind.{common_steps}
pub use Rattle.std.proofs.Math.Seq.{drop-nil, take-add}
pub use Rattle.std.proofs.lemmas.List.Sums.{fold-append}
