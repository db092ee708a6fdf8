use Rattle.duration_str_refusals.proofs.Common.{ap, byte_len, IsUtf8, place_of, rules, ◌≡◌}
use Rattle.duration_str_refusals.proofs.RunLemmas.{run_is_token}
use Rattle.duration_str_refusals.specs.Faults.{run_at}
use Rattle.duration_str_refusals.proofs.fault.Fault.run_len.Goals as goal

pub range_from-requires : goal.range_from-requires
range_from-requires c = c.args.self.now.placed c.in-Syntax.place (ap place_of c.in-Syntax.is)

pub returns-in-Syntax-clause-token : goal.returns-in-Syntax-clause-token
returns-in-Syntax-clause-token c =
    let utf8 : IsUtf8 c.args.self.now.text.now = search rules in
    let run : c.first_run_len.result ≡ byte_len (run_at c.args.o c.args.self.now.text.now c.args.self.now.cause) = search rules in
    rw run (run_is_token c.args.o c.args.self.now.text.now c.args.self.now.cause utf8)
