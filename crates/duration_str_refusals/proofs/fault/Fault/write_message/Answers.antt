use Rattle.duration_str_refusals.proofs.Common.{arith}
use Rattle.duration_str_refusals.proofs.SinkLemmas.{short_without_caret}
use Rattle.duration_str_refusals.proofs.fault.Fault.write_message.Goals as goal

pub unreachable-requires : goal.unreachable-requires
unreachable-requires g c =
    omega (
      arith,
      (c.in_default-message.ensures {u = tt}).long,
      short_without_caret c.layout-layout.result c.args.self.now.text.now c.line-line.result.now c.args.self.now.cause
          c.layout-layout.ensures.small c.in_default-layout.not-Caret c.line-line.ensures,
    )
