use Rattle.duration_str_reading.proofs.Common.{IsUtf8-between, IsUtf8-had, rules}
use Rattle.duration_str_reading.proofs.eye.Eye.bytes_since.Goals as goal

pub returns-clause-utf8 : goal.returns-clause-utf8
returns-clause-utf8 c = search (rules, IsUtf8-had, IsUtf8-between)
