pub use Rattle.std.proofs.Common.{add-zero, ap, append-nil, append_assoc, arith, Bool, bytes_eq, chars, decimal, drop, drop-cons, encode_utf8, encode_utf8_all, eq-eqb, eqb, eqb-true, false, find, flat_map, get_or, if◌then◌else◌, inl, inr, is_some, IsCharBoundary, IsTrue, IsUtf8, le-ltb, leb, leb-true, length, length-append, length-drop, length-take-le, List, lit<, lt-ltb, ltb, ltb-true, map, mul-pos, nat_le, None, not, Ok, Option, pow-suc, refl, Result, rules, Some, subst, suc, sym, take, take-append-drop, true, zero, [], ℕ, ◌%◌, ◌&&◌, ◌*◌, ◌++◌, ◌+◌, ◌-◌, ◌/◌, ◌<◌, ◌==◌, ◌^◌, ◌||◌, ◌∙◌, ◌∷◌, ◌≡◌, ◌≤◌, ◌⊎◌}
pub use Rattle.std.proofs.Math.Nat.{pow-le-pow_right, pow-succ'}
pub use Rattle.std.proofs.lemmas.Bool.{and_from, and_parts, cases_Bool, cases_lt, false_from_ne_true, or_cases}
pub use Rattle.std.proofs.lemmas.Bool.Decides.{nat_tests, same_from_decides}
pub use Rattle.std.proofs.lemmas.Fmt.{decimal_by_steps_wide, decimal_digit, decimal_step_wide, IsAscii-from_digits, length-decimal-le_wide}
pub use Rattle.std.proofs.lemmas.List.{drop_all, drop_more, length-reverse, map-append, reverse-reverse, take_more_set}
pub use Rattle.std.proofs.lemmas.List.Folds.{list_all-append, list_any-append}
pub use Rattle.std.proofs.lemmas.Slice.Eq.{bytes_eq-Decides}
pub use Rattle.std.proofs.lemmas.Str.{chars-nil, chars_past_char, drop_past_char, encode_ascii, encodes-chars, encodes-IsAscii, encodes_same, IsCharBoundary-past_char, IsUtf8-between, IsUtf8-drop, IsUtf8-past_char, IsUtf8-take, length-encode, length-le-encodes, scalars-chars}
pub use Rattle.std.specs.Char.{len_utf8, to_ascii_lowercase}
pub use Rattle.std.specs.List.{list_all, list_any}
pub use Rattle.std.specs.Prelude.{slice_index_or, ⊤}
pub use lib.Utf8.{encodes, scalar, scalar_cases, scalars}
pub use Rattle.duration_str_base.specs.declared.cause.Expected.{Expected}
pub use Rattle.duration_str_base.specs.declared.options.Options.{Options}
pub use Rattle.duration_str_base.specs.declared.packed.TheConstants.{NAMED_UNITS, NAMES, SLOTS, SPREAD}
pub use Rattle.duration_str_base.specs.declared.blank.TheConstants.{BLANKS}
pub use Rattle.duration_str_base.specs.declared.unit.TimeUnit.{TimeUnit}
pub use Rattle.duration_str_base.specs.declared.unit.TimeUnit.TheVariants.{Month, Second, Year}
pub use Rattle.duration_str_base.specs.Units.{nanos_of, rank_of, row_of, units}
pub use Rattle.duration_str_base.specs.Term.{fault_or, IsNumber, fits, Term, term_fault, value_of_term}
pub use Rattle.duration_str_base.specs.Internal.Positions.{ahead, letter_number, packed_number, packed_number_after, Stands}
pub use Rattle.duration_str_base.specs.Options.{off}
pub use Rattle.duration_str_base.specs.Text.{byte_len, chinese_letters, is_blank, is_chinese, is_digit, is_unit_letter, number_after, number_of, width}
pub use Rattle.duration_str_base.specs.Meaning.{meaning_of, table_of}
pub use Rattle.duration_str_base.specs.MoreNames.{more_names, more_row_of, more_rules}
pub use Rattle.duration_str_base.specs.Humantime.{humantime_row_of}
pub use Rattle.duration_str_base.specs.Rules.{comparison_form, is_in_row, is_named, Rules, rules_of, unit_of_word}
pub use Rattle.duration_str_base.specs.Internal.Numbers.{checked_term, u64_from}
pub use Rattle.duration_str_base.specs.Internal.UnitTable.{added_row_of, all_names, all_names_in, is_greek_mu, micro_if, packed_word, packs_to, Table, printed_row, with_micro}
pub use Rattle.duration_str_base.specs.declared.table.UnitTable.{UnitTable}
pub use Rattle.duration_str_base.specs.declared.table.UnitTable.TheVariants.{Humantime, More, Own}
pub use Rattle.std.proofs.lemmas.Grind.{common_steps}
pub use Rattle.std.proofs.Math.Seq.{take-add, take-append_seam}
pub use Rattle.duration_str_base.specs.declared.unit.Printed.{Printed}
pub use Rattle.std.specs.Str.Iter.{chars_rest}
