-- Lemmas about what a call's answer says about a text.
use Rattle.std.proofs.Common.{ap, arith, inl, inr, IsUtf8, length, List, None, Option, refl, slice_get, slice_index_or, Some, subst, suc, zero, [], ℕ, ◌∷◌, ◌≡◌, ◌<◌, ◌≤◌, Bor}
use Rattle.std.specs.Option.{option_copied}
use Rattle.std.specs.Slice.{IsItemAt}
use Rattle.duration_str_base.specs.declared.unit.TimeUnit.{TimeUnit}
use Rattle.std.specs.Str.{chars}
use Rattle.duration_str_base.specs.declared.options.Options.{Options}
use Rattle.duration_str_base.specs.declared.cause.Cause.{Cause}
use Rattle.duration_str_reading.specs.Reading.{IsRead, IsRefused}
use Rattle.duration_str_c.specs.declared.answer.Answer.{Answer}
use Rattle.duration_str_c.specs.Answers.{AreOptions, IsAnswerTo, options_of_bits, rules_of_bits, TellsFault, value_answer}
use Rattle.duration_str_c.specs.Help.{IsHelpShown, ShowsHelp}
use Rattle.duration_str_c.specs.Messages.{IsSaidOf, IsShown, ShowsRefusal}

pub value_answers : (bits nanos : ℕ) (bytes same : List ℕ) (answer : Answer) → AreOptions bits → IsUtf8 same
    → bytes ≡ same → IsRead (rules_of_bits bits) (chars bytes) nanos → answer ≡ value_answer nanos → IsAnswerTo bits same answer
value_answers bits nanos bytes same answer known utf8 e read is = inr (inr (inl (known, utf8, nanos, rw e at read, is)))

pub refusal_answers : (o : Options) (bits : ℕ) (bytes same : List ℕ) (cause : Cause) (answer : Answer)
    → AreOptions bits → IsUtf8 same → o ≡ options_of_bits bits → bytes ≡ same → IsRefused (rules_of_bits bits) (chars same) cause
    → TellsFault o bytes cause answer → IsAnswerTo bits same answer
refusal_answers o bits bytes same cause answer known utf8 e f refused tells =
    inr (inr (inr (
      known,
      utf8,
      cause,
      refused,
      subst (λ (b : List ℕ). TellsFault (options_of_bits bits) b cause answer) f
          (subst (λ (q : Options). TellsFault q bytes cause answer) e tells),
    )))

pub said_shown : (bits : ℕ) {len : ℕ} {bytes line old new : List ℕ} (shown : Cause → List ℕ)
    → IsSaidOf bits bytes line → IsShown line old len new → ShowsRefusal shown bits bytes old len new
said_shown bits shown (inl (unknown, is)) h = inl (unknown, rw is at h)
said_shown bits shown (inr (inl (known, no_text, is))) h = inr (inl (known, no_text, rw is at h))
said_shown bits shown (inr (inr (inl (known, utf8, nanos, read, is)))) h =
    inr (inr (inl (known, utf8, nanos, read, rw is at h)))
said_shown bits shown (inr (inr (inr (known, utf8, cause, refused, none)))) h = absurd none

pub said_short : (bits : ℕ) {len : ℕ} {bytes line old new : List ℕ} → IsSaidOf bits bytes line
    → IsShown line old len new → len ≤ 14
said_short bits (inl (unknown, is)) h = omega (arith, rw is at h.0)
said_short bits (inr (inl (known, no_text, is))) h = omega (arith, rw is at h.0)
said_short bits (inr (inr (inl (known, utf8, nanos, read, is)))) h = omega (arith, rw is at h.0)
said_short bits (inr (inr (inr (known, utf8, cause, refused, none)))) h = absurd none

pub said_helped : (bits number : ℕ) (bytes line old new : List ℕ) (start len : ℕ) → IsSaidOf bits bytes line
    → IsHelpShown None None old number new start len → ShowsHelp bits bytes old number new start len
said_helped bits number bytes line old new start len (inl (unknown, is)) h = inl (unknown, h)
said_helped bits number bytes line old new start len (inr (inl (known, no_text, is))) h = inr (inl (known, no_text, h))
said_helped bits number bytes line old new start len (inr (inr (inl (known, utf8, nanos, read, is)))) h =
    inr (inr (inl (known, utf8, nanos, read, h)))
said_helped bits number bytes line old new start len (inr (inr (inr (known, utf8, cause, refused, none)))) h = absurd none

none_at : (us : List TimeUnit) (i : ℕ) → length us ≤ i → None ≡ slice_get us i
none_at [] i beyond = refl
none_at (v ∷ us) zero beyond = absurd (omega arith)
none_at (v ∷ us) (suc i) beyond = none_at us i (omega arith)

some_at : (us : List TimeUnit) (i : ℕ) (u : TimeUnit) → i < length us → ((d : TimeUnit) → u ≡ slice_index_or us i d)
    → Some u ≡ slice_get us i
some_at [] i u inside is = absurd (omega arith)
some_at (v ∷ us) zero u inside is = ap Some (is u)
some_at (v ∷ us) (suc i) u inside is = some_at us i u (omega arith) is

pub copied_at : (us : List TimeUnit) (i : ℕ) (r : Option (Bor TimeUnit)) → IsItemAt us i r
    → option_copied r ≡ slice_get us i
copied_at us i None item = none_at us i item.3
copied_at us i (Some u) item = some_at us i u.now item.3.0 (λ d. item.4 (omega arith) d)
