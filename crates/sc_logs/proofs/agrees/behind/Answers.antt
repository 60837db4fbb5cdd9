use Rattle.std.proofs.Common.{rules}
use Rattle.sc_logs.proofs.WalkLemmas.{taken_step}
use Rattle.sc_logs.proofs.agrees.behind.Goals as goal

pub returns-then-is_same : goal.returns-then-is_same
returns-then-is_same c =
    λ es. taken_step c.args.exec c.args.e.now c.in-Some.first.now c.in-Some.more.now c.args.rest.now
    es (search rules) (search rules) (search rules)
