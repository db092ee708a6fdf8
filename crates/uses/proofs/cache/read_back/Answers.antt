use Rattle.std.proofs.Common.{arith}
use Rattle.uses.proofs.cache.read_back.Goals as goal

pub returns-then-nanos-lt-LIMIT : goal.returns-then-nanos-lt-LIMIT
returns-then-nanos-lt-LIMIT c default_unit o style text printed =
    c.reads_back.ensures.below default_unit o style _ text (omega arith) printed

pub returns-then-nanos-from : goal.returns-then-nanos-from
returns-then-nanos-from c default_unit o style text printed =
    c.reads_back.ensures.above default_unit o style _ text (omega arith) (omega arith) printed

pub returns : goal.returns
returns c default_unit o style text printed =
    c.reads_back.ensures.far_above default_unit o style _ text (omega arith) (omega arith) printed
