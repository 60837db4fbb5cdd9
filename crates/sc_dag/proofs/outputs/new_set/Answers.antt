use Rattle.sc_dag.specs.Outputs.{is_done_by, missing_by}
use Rattle.sc_dag.proofs.FreshSets.{fresh_free, fresh_rises, fresh_within}
use Rattle.sc_dag.proofs.outputs.new_set.Goals as goal

pub hold_flagged-requires-clause-rising : goal.hold_flagged-requires-clause-rising
hold_flagged-requires-clause-rising c =
    rw c.missing_set-set.ensures
    (fresh_rises (is_done_by c.args.tracker.now c.args.stage.now.target c.args.results.now)
    c.args.stage.now.tasks)

pub hold_flagged-requires-clause-within : goal.hold_flagged-requires-clause-within
hold_flagged-requires-clause-within c =
    rw (c.missing_set-set.ensures, c.tasks.ensures)
    (fresh_within (is_done_by c.args.tracker.now c.args.stage.now.target c.args.results.now)
    c.args.stage.now.tasks)

pub hold_flagged-requires-clause-free : goal.hold_flagged-requires-clause-free
hold_flagged-requires-clause-free c =
    rw c.missing_set-set.ensures
    (fresh_free (missing_by c.args.tracker.now c.args.stage.now c.args.results.now))
