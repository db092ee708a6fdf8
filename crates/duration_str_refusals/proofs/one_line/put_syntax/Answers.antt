use Rattle.duration_str_refusals.proofs.Common.{Bool, false, None, not-true, Option, refl, Some, sym, true, ◌∙◌, ◌≡◌}
use Rattle.std.proofs.lemmas.Bool.{not-false}
use Rattle.duration_str_base.proofs.BufferLemmas.{whole_is_longer}
use Rattle.duration_str_help.specs.contracts.help.HelpPartialEq.TheImpl
use Rattle.duration_str_help.specs.declared.help.Help.{Help}
use Rattle.duration_str_help.specs.declared.help.Help.TheVariants.{Fraction}
use Rattle.duration_str_help.specs.declared.suggestion.Replacement.{Replacement}
use Rattle.duration_str_refusals.specs.OneLine.{help_end}
use Rattle.std.specs.Option.{option_eq}
use Rattle.duration_str_refusals.proofs.one_line.put_syntax.Goals.{Else-ne}
use Rattle.duration_str_refusals.proofs.one_line.put_syntax.Goals as goal

abbrev is_fraction : Option Help → Bool
is_fraction help = option_eq TheImpl.eq-value.it help (Some Fraction)

-- No other help says a mend.
other_end : (help : Option Help) (replacement : Option Replacement) → is_fraction help ≡ false → help_end help replacement ≡ help_end help None
other_end None replacement other = refl
other_end (Some Fraction) replacement other = absurd (cc)
other_end (Some help) replacement other = refl

same_help : (help : Option Help) → is_fraction help ≡ true → help ≡ Some Fraction
same_help None same = absurd (cc)
same_help (Some Fraction) same = refl
same_help (Some help) same = absurd (cc)

found_fraction : (c : Else-ne) → c.found_at-found.result.help ≡ Some Fraction
found_fraction c =
    let help = c.found_at-found.result.help in
    same_help help (not-false (is_fraction help) (sym c.ne.ensures ∙ c.if-ne.false))

pub returns-in_err-end : goal.returns-in_err-end
returns-in_err-end c =
    rw (c.from_residual.ensures, ← c.found_at-found.ensures.piece, ← c.column_at-column.ensures)
    (whole_is_longer _ _ _ _ refl (c.in_err-end.ensures {u = tt}))

pub returns-then-ne : goal.returns-then-ne
returns-then-ne c =
    let found = c.found_at-found.ensures in
    let other = not-true (is_fraction c.found_at-found.result.help) (sym c.ne.ensures ∙ c.if-ne.true) in
    rw (← found.help, ← found.piece, ← c.column_at-column.ensures, other_end c.found_at-found.result.help _ other)
    (rw (c.in_ok-end.ensures {u = tt}).1 at c.put_help.ensures)

pub returns-in-Some : goal.returns-in-Some
returns-in-Some c =
    let found = c.found_at-found.ensures in
    let is = found_fraction (goal.at.returns-in-Some c).Else-ne in
    rw (← found.help, ← found.piece, ← c.column_at-column.ensures, is, ← c.fraction_replacement.ensures.replacement, c.in-Some.is)
    (rw (c.in_ok-end.ensures {u = tt}).1 at c.put_fraction_words.ensures)

pub returns-in-None : goal.returns-in-None
returns-in-None c =
    let found = c.found_at-found.ensures in
    let is = found_fraction (goal.at.returns-in-None c).Else-ne in
    rw (← found.help, ← found.piece, ← c.column_at-column.ensures, is, ← c.fraction_replacement.ensures.replacement, c.in-None.is)
    (rw ((c.in_ok-end.ensures {u = tt}).1, is) at c.put_help-in-None.ensures)
