use Rattle.std.proofs.Common.{◌≡◌, ℕ, Bool, true, ◌&&◌, List, [], ◌∷◌, ◌++◌, length, refl, sym, ap, subst, ◌∙◌, append_assoc, append-nil, arith}
use Rattle.std.proofs.Math.Bool.{and_assoc, and-true}
use Rattle.duration_str_base.specs.declared.options.Options.{Options}
use Rattle.durstr_run.specs.Lines.{lines_of}
use Rattle.durstr_run.specs.Output.{IsLineOutput, AreOutputs, IsOutput}

-- The bytes written so far, followed by any output for the bytes that are left, are an output for
-- the whole input.
abbrev pub Continues : Options → List ℕ → List ℕ → List ℕ → Bool → Type 0
Continues o input left written so_far =
    (tail : List ℕ) (others : Bool) → IsOutput o left tail others → IsOutput o input (written ++ tail)
    (so_far && others)

first_and_rest : (o : Options) (bytes line rest text tail : List ℕ) (accepted others : Bool)
    → lines_of bytes ≡ line ∷ lines_of rest → IsLineOutput o line text accepted → IsOutput o rest tail others
    → IsOutput o bytes (text ++ (10 ∷ tail)) (accepted && others)
first_and_rest o bytes line rest text tail accepted others cut here after =
    subst (λ lines. AreOutputs o lines (text ++ (10 ∷ tail)) (accepted && others)) (sym cut)
    (text, tail, accepted, others, here, after, refl, refl)

pub Continues-line : (o : Options) (input left line rest written longer : List ℕ) (so_far accepted : Bool)
    → Continues o input left written so_far → lines_of left ≡ line ∷ lines_of rest
    → ((text : List ℕ) × IsLineOutput o line text accepted × (longer ≡ written ++ (text ++ (10 ∷ []))))
    → Continues o input rest longer (so_far && accepted)
Continues-line o input left line rest written longer so_far accepted before cut (text, here, grown) tail others after =
    let whole = before (text ++ (10 ∷ tail)) (accepted && others)
    (first_and_rest o left line rest text tail accepted others cut here after) in
    let joined : written ++ (text ++ (10 ∷ tail)) ≡ longer ++ tail =
    ap (λ t. written ++ t) (sym (append_assoc text (10 ∷ []) tail))
    ∙ sym (append_assoc written (text ++ (10 ∷ [])) tail)
    ∙ ap (λ t. t ++ tail) (sym grown) in
    subst (λ out. IsOutput o input out ((so_far && accepted) && others)) joined
    (subst (λ all. IsOutput o input (written ++ (text ++ (10 ∷ tail))) all)
    (sym (and_assoc so_far accepted others)) whole)

IsOutput-nil : (o : Options) (bytes : List ℕ) → length bytes ≡ 0 → IsOutput o bytes [] true
unfolding lines_of
IsOutput-nil o [] e = (refl, refl)
IsOutput-nil o (b ∷ bytes) e = absurd (omega arith)

pub Continues-end : (o : Options) (input left written : List ℕ) (so_far : Bool)
    → Continues o input left written so_far → length left ≡ 0 → IsOutput o input written so_far
Continues-end o input left written so_far before e =
    subst (λ out. IsOutput o input out so_far) (append-nil written)
    (subst (λ all. IsOutput o input (written ++ []) all) (and-true so_far) (before [] true (IsOutput-nil o left e)))
