use Rattle.std.proofs.Common.{arith, ◌<◌, length}
use Rattle.sc_ids.proofs.ChangeLemmas.{view_changed, view_kept, view_past}
use Rattle.sc_dag.specs.Changes.{state_by}
use Rattle.sc_dag.proofs.stages.change_row.Goals as goal

pub returns-then-stage-len : goal.returns-then-stage-len
returns-then-stage-len c =
    let rows = c.args.rows.now.items in
    let stage = c.args.stage in
    let old = c.index_mut.result.now in
    let there : stage < length rows = omega (arith, c.args.rows.now.ok.0) in
    let at = c.index_mut.ensures.value in
    let is = c.change.ensures in
    record {
      states = view_changed (λ r. r.state) rows stage old c.change.new.self
          (state_by c.args.change) there at is.state;
      stages = view_kept (λ r. r.stage) rows stage old c.change.new.self there at is.stage;
      ready = view_kept (λ r. r.is_ready) rows stage old c.change.new.self there at is.ready;
    }

pub returns-else-stage-len-clause-states : goal.returns-else-stage-len-clause-states
returns-else-stage-len-clause-states c =
    view_past (λ r. r.state) c.args.rows.now.items c.args.stage (state_by c.args.change)
    (omega (arith, c.args.rows.now.ok.0))
