pub use Rattle.std.proofs.Common.{add-zero, add_assoc, ap, append-nil, append_assoc, arith, Bool, Bor, bytes_eq, chars, codes, decimal, div-le_self, drop, drop-drop, encode_utf8, encode_utf8_all, eq-eqb, eqb-true, false, IfSome, if◌then◌else◌, inl, inr, IsCharBoundary, IsNone, IsUtf8, leb-true, length, length-append, length-take-le, List, lit<, map, nat_le, ne_eqb, None, Option, option_map, refl, replicate, rules, Some, subst, suc, sym, take, take-append-drop, true, zero, [], ℕ, ◌%◌, ◌&&◌, ◌*◌, ◌++◌, ◌+◌, ◌-◌, ◌/◌, ◌<◌, ◌==◌, ◌^◌, ◌||◌, ◌↔◌, ◌∙◌, ◌∷◌, ◌≡◌, ◌≢◌, ◌≤◌, IsTrue}
pub use Rattle.std.proofs.lemmas.Bool.{and_parts, cases_Bool, not-true}
pub use Rattle.std.proofs.lemmas.Bool.Decides.{nat_tests}
pub use Rattle.std.proofs.lemmas.Fmt.{IsAscii-decimal, length-decimal-le}
pub use Rattle.std.proofs.lemmas.List.{replicate-append-replicate, take-replicate}
pub use Rattle.std.proofs.lemmas.Slice.Eq.{bytes_eq-Decides}
pub use Rattle.std.proofs.lemmas.Str.{chars-append, chars-encodes, chars_from_encodes, chars_past_char, encode_ascii, encodes-chars, IsCharBoundary-from_ascii, IsCharBoundary-start, IsUtf8-append, IsUtf8-drop, IsUtf8-from_ascii, IsUtf8-past_char, IsUtf8-take, len_utf8_bounds, length-encode, length-le-encodes, scalars-chars, encodes-append}
pub use Rattle.std.specs.List.{last_or, list_all, take_while}
pub use Rattle.std.specs.Option.{ForSome}
pub use Rattle.std.specs.Prelude.{cond}
pub use lib.Utf8.{scalar, scalars, encodes}
pub use Rattle.duration_str_base.specs.declared.cause.Cause.{Cause}
pub use Rattle.duration_str_base.specs.declared.cause.Cause.TheVariants.{Empty, Mixed, NotText, NumberTooLarge, OutOfRange, Overflow, Syntax}
pub use Rattle.duration_str_base.specs.declared.cause.Expected.{Expected}
pub use Rattle.duration_str_base.specs.declared.operator.CondUnit.TheVariants.{Plus, Star}
pub use Rattle.duration_str_base.specs.declared.options.Options.{Options}
pub use Rattle.duration_str_base.specs.declared.unit.TimeUnit.{TimeUnit}
pub use Rattle.duration_str_refusals.specs.Messages.{byte_text, caret_text, message_of}
pub use Rattle.duration_str_base.specs.Causes.{line_of, place_of}
pub use Rattle.duration_str_refusals.specs.Faults.{found_token, IsMissingAtEnd, IsSliceOf, token_at}
pub use Rattle.duration_str_reading.specs.ReadingLaws.{AreTokens}
pub use Rattle.duration_str_reading.specs.Place.{start_after}
pub use Rattle.duration_str_base.specs.Term.{fits}
pub use Rattle.duration_str_base.specs.Internal.Positions.{ahead}
pub use Rattle.duration_str_base.specs.Options.{off}
pub use Rattle.duration_str_base.specs.Text.{byte_len, is_blank, is_digit, number_of, width}
pub use Rattle.duration_str_reading.specs.Iteration.{source, tokens_left}
pub use Rattle.duration_str_reading.specs.Tokens.{goes_on, Token, tokens_from, tokens_of, with_first_character}
pub use Rattle.duration_str_base.specs.Meaning.{meaning_of}
pub use Rattle.duration_str_base.specs.Rules.{Rules, rules_of}
pub use Rattle.std.proofs.lemmas.Grind.{common_steps}
pub use Rattle.std.proofs.Math.Seq.{drop-nil}
pub use Rattle.std.proofs.lemmas.List.Sums.{sum_by-cons, take_while-cons}
pub use Rattle.std.specs.Str.Iter.{chars_rest}
pub use Rattle.std.specs.Char.{len_utf8}
