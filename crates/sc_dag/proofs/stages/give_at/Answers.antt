use Rattle.std.proofs.Common.{arith, ◌<◌, [], ap, length, sym, ◌∙◌}
use Rattle.std.proofs.lemmas.Result.{on_err_weaker, on_ok_weaker}
use Rattle.sc_ids.proofs.ChangeLemmas.{view_changed, view_kept, view_past}
use Rattle.sc_ids.specs.LimitDefaults.{default_limits}
use Rattle.sc_taskset.specs.Offers.{handed}
use Rattle.sc_tracker.specs.TrackerData.{tracker_data}
use Rattle.sc_dag.specs.DagData.{changed_newest}
use Rattle.sc_dag.specs.Offers.{may_be_given_in}
use Rattle.sc_dag.specs.Rows.{dag_of}
use Rattle.sc_dag.proofs.RowLemmas.{newest_there, state_there}
use Rattle.sc_dag.proofs.stages.give_at.Goals as goal

pub give-requires : goal.give-requires
give-requires c =
    let v = c.args.rows.now in
    let d = dag_of v.items (tracker_data [] [] 0) default_limits in
    let is = newest_there d c.args.a.stage c.index_mut.result.now.state
    (state_there v.items c.args.a.stage c.index_mut.result.now (omega (arith, v.ok.0))
    c.index_mut.ensures.value) in
    ap (λ s. may_be_given_in s c.args.exec c.args.now c.args.a.partition) (sym is)
    ∙ c.requires (tracker_data [] [] 0) default_limits

pub returns-then-stage-len : goal.returns-then-stage-len
returns-then-stage-len c =
    let rows = c.args.rows.now.items in
    let a = c.args.a in
    let old = c.index_mut.result.now in
    let new = c.give.new.self in
    let there : a.stage < length rows = omega (arith, c.args.rows.now.ok.0) in
    let at = c.index_mut.ensures.value in
    let is = c.give.ensures in
    record {
      given = on_ok_weaker c.give.result
          (λ e. view_changed (λ r. r.state) rows a.stage old new
          (changed_newest (λ set. handed set a.partition c.args.exec c.args.now)) there at e)
          is.given;
      refused = on_err_weaker c.give.result
          (λ e. view_kept (λ r. r.state) rows a.stage old new there at e) is.refused;
      stages = view_kept (λ r. r.stage) rows a.stage old new there at is.stage;
      ready = view_kept (λ r. r.is_ready) rows a.stage old new there at is.ready;
    }

pub returns-else-stage-len-clause-given : goal.returns-else-stage-len-clause-given
returns-else-stage-len-clause-given c =
    let a = c.args.a in
    view_past (λ r. r.state) c.args.rows.now.items a.stage
    (changed_newest (λ set. handed set a.partition c.args.exec c.args.now))
    (omega (arith, c.args.rows.now.ok.0))
