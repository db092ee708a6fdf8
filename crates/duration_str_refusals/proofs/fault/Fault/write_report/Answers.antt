use Rattle.duration_str_refusals.proofs.Common.{ap, arith, length, meaning_of, rules, ◌≤◌}
use Rattle.duration_str_refusals.specs.Messages.{laid_out}
use Rattle.duration_str_refusals.specs.Report.{report_of}
use Rattle.duration_str_refusals.proofs.ReportLemmas.{report_le}
use Rattle.duration_str_refusals.proofs.fault.Fault.write_report.Goals.{After-message}
use Rattle.duration_str_refusals.proofs.fault.Fault.write_report.Goals as goal

short : (c : After-message)
    → length (laid_out c.report_layout.result c.args.self.now.text.now c.write_one_line-line.result.now) ≤ 777
short c =
    let most : length (report_of (meaning_of c.args.rules) c.args.self.now.text.now c.args.self.now.cause) ≤ 777 = search (rules, report_le) in
    rw (c.write_one_line-line.ensures.text, c.report_layout.ensures) most

pub unreachable-requires : goal.unreachable-requires
unreachable-requires c =
    omega (arith, short (goal.at.unreachable-requires c).After-message, (c.in-None.ensures {u = tt}).long, c.told-buffer)

pub returns-clause-short : goal.returns-clause-short
returns-clause-short c =
    omega (arith, short (goal.at.returns-clause-short c).After-message, ap length (c.in-Some.ensures {u = tt}).text)
