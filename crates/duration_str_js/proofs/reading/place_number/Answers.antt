use Rattle.std.proofs.Common.{rules, arith, ◌≡◌, ◌≤◌, ◌<◌, ◌^◌, length, Some}
use Rattle.std.proofs.lemmas.Grind.{common_steps}
use Rattle.duration_str_base.specs.Causes.{place_of}
use Rattle.duration_str_js.proofs.reading.place_number.Goals as goal

pub overflow_cast-result : goal.overflow_cast-result
overflow_cast-result c =
    let fault = c.args.fault.now in
    let is : place_of fault.cause ≡ Some c.in-Some.place = search rules in
    let within : c.in-Some.place ≤ length fault.text.now = (fault.placed c.in-Some.place is).0 in
    let short : length fault.text.now < 2 ^ 63 = search rules in
    grind (arith, common_steps)

pub returns-in-Some : goal.returns-in-Some
returns-in-Some c =
    let fits = overflow_cast-result c in
    grind (arith, common_steps)
