-- A lemma about durations that can't be rounded.
use Rattle.std.proofs.Common.{inl, inr, ℕ, ◌<◌, ◌⊎◌}
use Rattle.std.specs.Duration.{FitsDuration}
use Rattle.duration_str_printing.specs.declared.format.Format.{Format}
use Rattle.duration_str_c.specs.Rounding.{NoneRounded}

pub not_right : (rounding nanos : ℕ) (format : Format) → (FitsDuration nanos → ⊥) ⊎ (3 < rounding)
    → NoneRounded rounding format nanos
not_right rounding nanos format (inl long) = inl long
not_right rounding nanos format (inr above) = inr (inl above)
