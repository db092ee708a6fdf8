-- Lemmas about texts that multiply two parts, in either order.
use Rattle.std.proofs.Common.{arith, inl, inr, List, mul_comm, refl, rules, ℕ, ◌*◌, ◌/◌, ◌<◌, ◌^◌, ◌↔◌, ◌≡◌}
use Rattle.uses.proofs.Common.{IsRead, nanos_of, one_second, Rules, TwoFactors}
use Rattle.uses.proofs.Common.{MultipliesInEitherOrder, nanos_in, Part, Plus, Star, term_of_part}
use Rattle.duration_str_base.specs.declared.unit.TimeUnit.{TimeUnit}
use Rattle.duration_str_base.specs.declared.unit.TimeUnit.TheVariants.{Year}
use Rattle.uses.specs.Product.{Multiplies}

number_below : (n : ℕ) (u : TimeUnit) → n * nanos_of u < 2 ^ 64 → n < 2 ^ 64
number_below n Year h = omega arith
number_below n _ h = omega arith

pub record IsProduct (a b nanos : ℕ) : Type 0 where
  pub length : a < 2 ^ 64
  pub other_length : b < 2 ^ 64
  pub product : nanos < 2 ^ 64
  pub is : nanos ≡ a * b / one_second

exchanged : (a b nanos : ℕ) → IsProduct a b nanos → IsProduct b a nanos
exchanged a b nanos p = search (rules, mul_comm)

in_order : TwoFactors → (r : Rules) (text : List ℕ) (a b : Part) (nanos : ℕ) → Multiplies r a b text
    → (IsRead r text nanos ↔ IsProduct (nanos_in a) (nanos_in b) nanos)
in_order law r text a b nanos m =
    let read = law.product r text m.lexemes (term_of_part Plus a) (term_of_part Star b) nanos m.spells m.terms refl in (
      λ is_read. let h = read.0 is_read in record { length = h.1; other_length = h.3; product = h.4; is = h.5 },
      λ p. read.1 (
        number_below _ a.unit p.length,
        p.length,
        number_below _ b.unit p.other_length,
        p.other_length,
        p.product,
        p.is,
      ),
    )

pub read_as_product : TwoFactors → (r : Rules) (text : List ℕ) (a b : Part) (nanos : ℕ)
    → MultipliesInEitherOrder r a b text → (IsRead r text nanos ↔ IsProduct (nanos_in a) (nanos_in b) nanos)
read_as_product law r text a b nanos (inl m) = in_order law r text a b nanos m
read_as_product law r text a b nanos (inr m) =
    let read = in_order law r text b a nanos m in (λ is_read. exchanged _ _ _ (read.0 is_read), λ p. read.1 (exchanged _ _ _ p))
