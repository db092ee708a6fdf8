use Rattle.duration_str_base.proofs.Common.{IsUtf8-between, rules}
use Rattle.duration_str_base.proofs.slice.range_from.Goals as goal

pub from_utf8_unchecked-requires : goal.from_utf8_unchecked-requires
from_utf8_unchecked-requires c = search (rules, IsUtf8-between c.args.text.now c.args.from)
