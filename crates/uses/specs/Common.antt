pub use Rattle.duration_str_reading.specs.Grammar.{IsSentenceOf, terminal_of}
pub use Rattle.duration_str_reading.specs.ReadingLaws.{HasNoStar, AllPlus}
pub use Rattle.duration_str_printing.specs.PrintingLaws.{counts_of}
pub use Rattle.duration_str_printing.specs.Printing.{IsGreatestBreakdown, IsPrintedIn, printed_counts}
pub use Rattle.duration_str_base.specs.Options.{off}
pub use Rattle.duration_str_reading.specs.Reading.{IsRead, IsRefused}
pub use Rattle.duration_str_base.specs.Rules.{Rules, rules_of, rules_with}
pub use Rattle.duration_str_base.specs.Units.{nanos_of, unit_lengths}
pub use Rattle.duration_str_base.specs.Term.{Term}
pub use Rattle.duration_str_reading.specs.Value.{written_terms}
pub use Rattle.duration_str_base.specs.declared.cause.Cause.{Cause}
pub use Rattle.duration_str_base.specs.declared.cause.Cause.TheVariants.{Overflow, Syntax}
pub use Rattle.duration_str_base.specs.declared.cause.Expected.{Expected}
pub use Rattle.duration_str_refusals.specs.declared.fault.Fault.{Fault}
pub use Rattle.duration_str_base.specs.declared.operator.CondUnit.TheVariants.{Plus, Star}
pub use Rattle.duration_str_base.specs.declared.options.Options.{Options}
pub use Rattle.duration_str_base.specs.declared.unit.TimeUnit.{TimeUnit}
pub use Rattle.std.specs.Duration.{as_nanos}
pub use Rattle.std.specs.List.{AllByRecursion, list_all}
pub use Rattle.std.specs.Str.{chars}
pub use Rattle.std.specs.declared.time.Duration.{Duration}
