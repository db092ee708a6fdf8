pub use Rattle.std.proofs.Common.{ap, append-nil, append_assoc, arith, Bool, bytes_eq, chars, codes, decimal, drop, drop-cons, drop-drop, encode_utf8, encode_utf8_all, false, find, get_or, IfSome, if◌then◌else◌, inl, inr, IsCharBoundary, IsTrue, IsUtf8, leb-true, length, length-append, length-drop, length-take-le, List, lit<, ltb, ltb-true, map, nat_le, nat_lt, ne_eqb, None, not, Option, pow-suc, refl, rules, slice_range, Some, suc, sym, take, take-append-drop, true, zero, [], ℕ, ◌%◌, ◌&&◌, ◌*◌, ◌++◌, ◌+◌, ◌-◌, ◌/◌, ◌<◌, ◌==◌, ◌^◌, ◌||◌, ◌∙◌, ◌∷◌, ◌≡◌, ◌≢◌, ◌≤◌, unwrap_or}
pub use Rattle.std.proofs.lemmas.Bool.{and_from, and_parts, cases_Bool, cases_lt, false_from_ne_true, or_cases}
pub use Rattle.std.proofs.lemmas.Bool.Decides.{nat_tests}
pub use Rattle.std.proofs.lemmas.Fmt.{decimal_by_steps, IsAscii-from_digits, length-decimal-le}
pub use Rattle.std.proofs.lemmas.List.Folds.{list_all-append}
pub use Rattle.std.proofs.lemmas.Slice.Eq.{bytes_eq-Decides}
pub use Rattle.std.proofs.lemmas.Str.{chars-append, chars-encodes, chars_from_encodes, chars_past_char, encode_ascii, encodes-append, encodes-chars, IsCharBoundary-at_seam, IsCharBoundary-start, IsUtf8-append, IsUtf8-drop, IsUtf8-from_ascii, IsUtf8-past_char, IsUtf8-take, len_utf8_bounds, length-encode, scalars-chars}
pub use Rattle.std.specs.Char.{is_ascii_alphabetic, to_ascii_lowercase}
pub use Rattle.std.specs.List.{list_all, list_any, take_while}
pub use Rattle.std.specs.Prelude.{⊤}
pub use lib.Utf8.{encode, encodes, scalar, scalars}
pub use Rattle.duration_str_base.specs.declared.cause.Cause.{Cause}
pub use Rattle.duration_str_base.specs.declared.cause.Cause.TheVariants.{Overflow, Syntax}
pub use Rattle.duration_str_base.specs.declared.cause.Expected.{Expected}
pub use Rattle.duration_str_base.specs.declared.unit.TimeUnit.{TimeUnit}
pub use Rattle.duration_str_base.specs.declared.unit.TimeUnit.TheVariants.{Hour, Minute, Month, NanoSecond}
pub use Rattle.duration_str_base.specs.Units.{units, rank_of}
pub use Rattle.duration_str_base.specs.Term.{fits}
pub use Rattle.duration_str_base.specs.Internal.Positions.{ahead, Stops}
pub use Rattle.duration_str_base.specs.Options.{off}
pub use Rattle.duration_str_base.specs.Text.{byte_len, is_blank, is_digit, IsBlank, number_after, number_of}
pub use Rattle.duration_str_base.specs.Meaning.{table_of}
pub use Rattle.duration_str_base.specs.MoreNames.{more_names}
pub use Rattle.duration_str_base.specs.Rules.{is_named, rules_of, rules_with, unit_of_word}
pub use Rattle.duration_str_base.specs.Internal.Numbers.{u64_from}
pub use Rattle.duration_str_base.specs.Internal.UnitTable.{packed_word, with_micro}
pub use Rattle.std.proofs.lemmas.Grind.{common_steps}
pub use Rattle.std.proofs.Math.Seq.{take-nil}
pub use Rattle.std.proofs.lemmas.List.Sums.{take_while-cons}
pub use Rattle.std.specs.Str.Iter.{chars_rest}
pub use Rattle.std.proofs.lemmas.List.{drop_all}
