-- Lemmas about the options that bits stand for.
use Rattle.std.proofs.Common.{ap, inl, inr, refl, ◌≡◌, ◌∙◌, ℕ}
use Rattle.std.proofs.lemmas.Bool.{cases_Bool}
use Rattle.duration_str_base.specs.declared.rules.Rules.{Rules as CodeRules}
use Rattle.duration_str_base.specs.Meaning.{meaning_of}
use Rattle.duration_str_base.specs.Rules.{Rules}
use Rattle.duration_str_js.specs.Reading.{has_flag, options_of_bits, rules_of_bits}

same_options : (bits : ℕ) → (rules_of_bits bits).options ≡ options_of_bits bits
same_options bits = elim (cases_Bool (has_flag bits 16)) [
  | inl more ↦ rw more refl
  | inr own ↦ rw own refl
]

pub options_of_rules : (bits : ℕ) (rules : CodeRules) → meaning_of rules ≡ rules_of_bits bits
    → rules.options ≡ options_of_bits bits
options_of_rules bits rules is = ap (λ (r : Rules). r.options) is ∙ same_options bits
