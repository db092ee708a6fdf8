pub use Rattle.std.proofs.Common.{add-zero, add_assoc, ap, append-nil, append_assoc, arith, Bool, chars, codes, decimal, div-add-mod', div-le_self, drop, encode_utf8_all, eqb, eqb-true, false, flat_map, get_or, IfSome, if◌then◌else◌, inl, inr, IsSome, IsUtf8, le-div_iff_mul-le, leb, leb-true, length, length-append, length-drop, length-take-le, List, map, nat_lt, None, not, Option, refl, rules, Some, subst, suc, sym, take, true, zero, [], ℕ, ◌%◌, ◌&&◌, ◌*◌, ◌++◌, ◌+◌, ◌-◌, ◌/◌, ◌<◌, ◌==◌, ◌^◌, ◌||◌, ◌↔◌, ◌∙◌, ◌∷◌, ◌≡◌, ◌≢◌, ◌≤◌, ◌⊎◌}
pub use Rattle.std.proofs.Math.Nat.{div-eq_of_lt-le, zero-div}
pub use Rattle.std.proofs.lemmas.Bool.{and_parts, cases_Bool, cases_lt, not-true}
pub use Rattle.std.proofs.lemmas.Bool.Decides.{nat_tests}
pub use Rattle.std.proofs.lemmas.Fmt.{IsAscii-decimal_wide, length-decimal-le_wide}
pub use Rattle.std.proofs.lemmas.List.{drop_all, drop_more, map-append}
pub use Rattle.std.proofs.lemmas.Str.{chars_from_encodes, encodes-append, encodes-IsAscii, IsUtf8-append, IsUtf8-from_ascii, IsUtf8-nil}
pub use Rattle.std.specs.Duration.{as_nanos, FitsDuration}
pub use Rattle.std.specs.List.{list_all}
pub use Rattle.std.specs.Prelude.{slice_index_or, ⊤}
pub use Rattle.duration_str_base.specs.declared.unit.TimeUnit.{TimeUnit}
pub use Rattle.duration_str_base.specs.declared.unit.TimeUnit.TheVariants.{Day, Hour, MicroSecond, MilliSecond, Minute, Month, NanoSecond, Quarter, Second, Week, Year}
pub use Rattle.duration_str_printing.specs.PrintingLaws.{AllParts, GreatestBreakdown, OneRounding, PartsAndRest, counts_of}
pub use Rattle.duration_str_printing.specs.declared.format.Format.{Format}
pub use Rattle.duration_str_printing.specs.declared.format.Style.{Style}
pub use Rattle.duration_str_printing.specs.declared.format.Style.TheVariants.{Compact, Long, Short}
pub use Rattle.duration_str_printing.specs.declared.printing.TheConstants.{MAX_LONG_LEN, MAX_PRINTED_LEN}
pub use Rattle.duration_str_printing.specs.Format.{counts_within, IsGreatestWithin, IsPrintedWithin, lengths_within, most_len, part_count, last_unit, shorter_units, text_within, units_within, whole_format, zero_unit, units_of}
pub use Rattle.duration_str_printing.specs.declared.format.Units.{Units}
pub use Rattle.duration_str_printing.specs.declared.format.TheConstants.Units.{ALL}
pub use Rattle.duration_str_printing.specs.Rounding.{KeepsWithin}
pub use Rattle.duration_str_printing.specs.Printing.{between, IsBefore, IsGreatestBreakdown, IsPrintedIn, joined_parts, nonzero, printed_counts, printed_part, printed_parts, weighted_sum}
pub use Rattle.duration_str_base.specs.Units.{nanos_of, rank_of, row_of, unit_lengths, units}
pub use Rattle.duration_str_base.specs.Text.{byte_len}
pub use Rattle.duration_str_base.specs.Internal.UnitTable.{printed_row}
pub use Rattle.duration_str_printing.specs.Internal.PrintedBytes.{name_part, part_bytes, with_counts, with_gap, with_part, with_parts}
pub use Rattle.std.proofs.lemmas.Grind.{common_steps}
pub use Rattle.std.proofs.Math.Seq.{take-append-add, take-append_seam}
pub use Rattle.duration_str_base.specs.declared.unit.Printed.{Printed}
