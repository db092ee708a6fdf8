use Rattle.duration_str_reading.proofs.Common.{number, options_of, refl, rules_of, rules}
use Rattle.duration_str_reading.proofs.Cutting.StepLemmas.{other_what, takes_number}
use Rattle.duration_str_reading.proofs.token.Tokens.take_token.Goals as goal

pub returns-in-Operator : goal.returns-in-Operator
returns-in-Operator c =
    let taken = c.advance.ensures.sign (rules_of (options_of c.args.self.now)) _ tt (rw c.in-Operator.is at c.requires) in
    record { terminal = taken.terminal; token = taken.token; has = search rules }

pub returns-in-Other : goal.returns-in-Other
returns-in-Other c =
    let taken = c.advance-in-Other.ensures.sign (rules_of (options_of c.args.self.now)) _ tt (rw c.in-Other.is at c.requires) in
    record { terminal = taken.terminal; token = taken.token; has = other_what taken.terminal taken.has }

pub returns-in-Number : goal.returns-in-Number
returns-in-Number c =
    let e = c.take_digits.ensures in
    let taken = takes_number (rw c.in-Number.is at c.requires) e.kept e.digits e.stops refl in
    record { terminal = number taken.n; token = taken.token (rules_of (options_of c.args.self.now)); has = refl }
