use Rattle.duration_str_base.proofs.Common.{refl}
use Rattle.duration_str_base.proofs.cause.Cause.line.Goals as goal

pub returns-then-expected : goal.returns-then-expected
unfolding lib.Utf8.encode
returns-then-expected c = rw (c.in-Syntax.is, c.if-expected.true) refl
