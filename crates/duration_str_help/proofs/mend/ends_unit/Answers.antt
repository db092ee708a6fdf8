use Rattle.duration_str_help.proofs.Common.{ap, arith, Bool, chars_past_char, false, is_digit, ne_eqb, not, refl, sym, ◌==◌, ◌||◌, ◌∙◌, ◌≡◌}
use Rattle.duration_str_help.proofs.mend.ends_unit.Goals as goal

or_false : (b : Bool) → (b || false) ≡ b
or_false b = grind arith

pub returns-then-not-is_letter : goal.returns-then-not-is_letter
returns-then-not-is_letter c =
    let other : (c.in-Some.c == 46) ≡ false = ne_eqb c.in-Some.c 46 c.in-Some.c-test.1 in
    rw (
      chars_past_char c.args.text.now _ c.in-Some.c c.utf8.text (sym c.chars.ensures.rest ∙ (c.in-Some.ensures {u = tt}).steps.0),
      ← c.is_letter.ensures,
      c.if-not-is_letter.true,
      c.is_ascii_digit.ensures.value,
      other,
    ) (ap not (sym (or_false (is_digit c.in-Some.c))))

pub returns-else-not-is_letter : goal.returns-else-not-is_letter
returns-else-not-is_letter c =
    rw (
      chars_past_char c.args.text.now _ c.in-Some.c c.utf8.text (sym c.chars.ensures.rest ∙ (c.in-Some.ensures {u = tt}).steps.0),
      ← c.is_letter.ensures,
      c.if-not-is_letter.false,
    ) refl
