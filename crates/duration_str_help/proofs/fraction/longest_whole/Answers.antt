use Rattle.duration_str_help.proofs.Common.{ap, arith, drop, drop_all, find, NanoSecond, None, rank_of, refl, Some, sym, table_of, take, TimeUnit, units, unwrap_or, ◌-◌, ◌≡◌, ◌∙◌, Option}
use Rattle.duration_str_help.specs.Fraction.{longest_whole}
use Rattle.duration_str_help.proofs.FractionLemmas.{divides, finds_here, from_rank, none_longer, skips_rest}
use Rattle.duration_str_help.proofs.fraction.longest_whole.Goals.{After-rank}
use Rattle.duration_str_help.proofs.fraction.longest_whole.Goals as goal

rest : (c : After-rank) → take (11 - c.rank.result) (drop c.rank.result units) ≡ drop (rank_of c.args.unit) units
rest c = rw c.rank.ensures (from_rank c.args.unit)

or_shortest : (c : After-rank) (found : Option TimeUnit)
    → find (divides (table_of c.args.table) c.args.nanos) (drop (rank_of c.args.unit) units) ≡ found
    → unwrap_or found NanoSecond ≡ longest_whole (table_of c.args.table) c.args.unit c.args.nanos
or_shortest c found is =
    ap (λ (v : Option TimeUnit). unwrap_or v NanoSecond) (sym is ∙ none_longer c.args.nanos c.args.table c.args.unit)

pub returns-then-nanos-eq0 : goal.returns-then-nanos-eq0
returns-then-nanos-eq0 c =
    let start = (goal.at.returns-then-nanos-eq0 c).After-rank in
    let items = rest start in
    rw items (or_shortest start (Some _) (finds_here (table_of c.args.table) (drop (rank_of c.args.unit) units) c.args.nanos
    c.loop-longest.longest-index c.nanos.result _ (omega (arith, rw items at c.loop-longest-test.true))
    (rw items at c.nanos.ensures) c.if-nanos-eq0.true c.loop-longest.invariant))

pub loop-longest-preserved : goal.loop-longest-preserved
loop-longest-preserved c =
    let items = rest (goal.at.loop-longest-preserved c).After-rank in
    skips_rest (table_of c.args.table) (drop (rank_of c.args.unit) units) c.args.nanos c.loop-longest.longest-index c.nanos.result _
    (omega (arith, rw items at c.loop-longest-test.true)) (rw items at c.nanos.ensures) c.if-nanos-eq0.false c.loop-longest.invariant

pub returns : goal.returns
returns c =
    let start = (goal.at.returns c).After-rank in
    let items = rest start in
    let past = rw items at c.loop-longest-test.false in
    or_shortest start None (sym c.loop-longest.invariant ∙ rw (drop_all c.loop-longest.longest-index (drop (rank_of c.args.unit) units) past) refl)
