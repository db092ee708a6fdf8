-- Lemmas about the unit at an index.
use Rattle.std.proofs.Common.{ap, arith, Bor, length, List, None, Option, refl, slice_get, slice_index_or, Some, suc, zero, [], ℕ, ◌∷◌, ◌≡◌, ◌<◌, ◌≤◌}
use Rattle.std.specs.Option.{option_copied}
use Rattle.std.specs.Slice.{IsItemAt}
use Rattle.duration_str_base.specs.declared.unit.TimeUnit.{TimeUnit}

none_at : (us : List TimeUnit) (i : ℕ) → length us ≤ i → None ≡ slice_get us i
none_at [] i beyond = refl
none_at (v ∷ us) zero beyond = absurd (omega arith)
none_at (v ∷ us) (suc i) beyond = none_at us i (omega arith)

some_at : (us : List TimeUnit) (i : ℕ) (u : TimeUnit) → i < length us → ((d : TimeUnit) → u ≡ slice_index_or us i d)
    → Some u ≡ slice_get us i
some_at [] i u inside is = absurd (omega arith)
some_at (v ∷ us) zero u inside is = ap Some (is u)
some_at (v ∷ us) (suc i) u inside is = some_at us i u (omega arith) is

pub copied_at : (us : List TimeUnit) (i : ℕ) (r : Option (Bor TimeUnit)) → IsItemAt us i r
    → option_copied r ≡ slice_get us i
copied_at us i None item = none_at us i item.3
copied_at us i (Some u) item = some_at us i u.now item.3.0 (λ d. item.4 (omega arith) d)
