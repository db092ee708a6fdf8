use Rattle.std.proofs.Common.{arith, inl, inr, refl, rules, ◌≡◌}
use Rattle.std.proofs.lemmas.Str.Pattern.{strip_suffix_char}
use Rattle.uses.proofs.Common.{with_line_feed}
use Rattle.uses.proofs.LineLemmas.{text_read}
use Rattle.uses.proofs.line.without_line_feed.Goals as goal

is_line : (c : goal.In-Some) → c.args.line.now ≡ with_line_feed c.in-Some.text.now
is_line c =
    rw c.in-Some.is at (strip_suffix_char 10 c.args.line.now c.strip_suffix.result c.strip_suffix.ensures.cases
    (omega arith))

pub returns-in-Some-clause-text : goal.returns-in-Some-clause-text
returns-in-Some-clause-text c = inl (is_line c)

pub returns-in-Some-clause-read : goal.returns-in-Some-clause-read
returns-in-Some-clause-read c =
    rw (is_line c) (text_read c.one_sentence.ensures.sentence c.blanks_free.ensures c.in-Some.text.now (search rules))

pub returns-in-None-clause-text : goal.returns-in-None-clause-text
returns-in-None-clause-text c =
    let cases = strip_suffix_char 10 c.args.line.now c.strip_suffix.result c.strip_suffix.ensures.cases (omega arith) in
    inr (refl, rw c.in-None.is at cases)
