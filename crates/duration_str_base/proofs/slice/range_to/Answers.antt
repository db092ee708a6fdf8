use Rattle.std.proofs.lemmas.Str.{IsUtf8-take}
use Rattle.duration_str_base.proofs.slice.range_to.Goals as goal

pub from_utf8_unchecked-requires : goal.from_utf8_unchecked-requires
from_utf8_unchecked-requires c = rw c.as_bytes.ensures.value (IsUtf8-take c.args.text.now c.args.to c.utf8.text c.requires)
