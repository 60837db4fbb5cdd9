use Rattle.std.proofs.Common.{◌≡◌, not}
use Rattle.sc_dag.specs.Outputs.{is_done_by}
use Rattle.sc_dag.proofs.NumberLemmas.{room_below}
use Rattle.sc_dag.proofs.outputs.missing_set.Given as goal

-- the partitions below this one that aren't done are named
abbrev pub invariant-loop-k : goal.invariant-loop-k
invariant-loop-k l =
    l.room ≡ room_below (λ p. not (is_done_by l.tracker l.stage.target l.results p))
    l.stage.tasks l.k
