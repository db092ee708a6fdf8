-- The result of a call, in terms of the sentences of the text.
use Rattle.duration_str_reading.specs.Answer.{answer}
use Rattle.std.proofs.Common.{arith, chars, Err, List, Ok, refl, Result, rules, ℕ, ◌≡◌}
use Rattle.std.specs.Duration.{as_nanos}
use Rattle.duration_str_base.specs.declared.cause.Cause.{Cause}
use Rattle.duration_str_refusals.specs.declared.fault.Fault.{Fault}
use Rattle.duration_str_base.specs.Options.{off}
use Rattle.duration_str.specs.Results.{Parses}
use Rattle.duration_str_base.specs.Rules.{Rules, rules_of}
use Rattle.std.specs.declared.time.Duration.{Duration}
use Rattle.std.specs.Prelude.{pos, IfErr, IsOkAnd, MatchResult}
use Rattle.duration_str.specs.Configuration.{ParsesAs}
use Rattle.duration_str.specs.OtherResults.{IsValueOrFault, Reads}
use Rattle.duration_str_reading.proofs.Sentences.AnswerLemmas.{answer_read, answer_refused, read_below}

pub reads_text : (r : Rules) (bytes : List ℕ) (result : Result ℕ Fault)
    → IsValueOrFault (λ nanos. answer r (chars bytes) ≡ Ok nanos) (λ cause. answer r (chars bytes) ≡ Err cause) bytes result
    → Reads r bytes result
reads_text r bytes (Ok nanos) h = search (arith, answer_read r)
reads_text r bytes (Err f) h = record {
  read = tt;
  accepts = λ n read. cc (h.1, (answer_read r (chars bytes) n).1 read);
  refused = (h.0, (answer_refused r (chars bytes) f.cause).0 h.1);
}

abbrev IsDurationOf : Result ℕ Fault → Result Duration Fault → Type 0
IsDurationOf n r = MatchResult n (λ nanos. IsOkAnd r (λ d. as_nanos d ≡ nanos)) (λ fault. r ≡ Err fault)

pub parses_text : (r : Rules) (bytes : List ℕ) (n : Result ℕ Fault) (result : Result Duration Fault)
    → IsDurationOf n result → Reads r bytes n → Parses r bytes result
parses_text r bytes (Ok nanos) (Ok d) is h = search (arith, read_below)
parses_text r bytes (Ok nanos) (Err f) is h = absurd is
parses_text r bytes (Err f) result is h =
    rw is (record { read = tt; accepts = h.accepts; refused = h.refused; fits = tt })

pub parses_as : (bytes : List ℕ) (r : Result Duration Fault) → Parses (rules_of off) bytes r
    → ParsesAs (λ d. pos (as_nanos d)) bytes r
parses_as bytes (Ok d) parsed = (as_nanos d, parsed.read, refl)
parses_as bytes (Err f) parsed = parsed.refused

pub same_on_err : (P : Cause → Type 0) (n : Result ℕ Fault) (r : Result Duration Fault) → IsDurationOf n r
    → IfErr n (λ f. P f.cause) → IfErr r (λ f. P f.cause)
same_on_err P a b same h = search rules
