use Rattle.std.proofs.Common.{arith, rules, ap, sym, ◌∙◌}
use Rattle.sc_ids.proofs.ChangeLemmas.{view_changed, view_kept, view_past}
use Rattle.sc_taskset.specs.Reports.{after_failure}
use Rattle.sc_dag.specs.DagData.{changed_set}
use Rattle.sc_dag.specs.Reports.{reaches_limit_in}
use Rattle.sc_dag.specs.Rows.{dag_of}
use Rattle.sc_dag.proofs.RowLemmas.{set_past, state_past}
use Rattle.sc_dag.proofs.stages.fail_at.Goals as goal

pub returns-then-stage-len-clause-states : goal.returns-then-stage-len-clause-states
returns-then-stage-len-clause-states c =
    let a = c.args.a in
    view_changed (λ r. r.state) c.args.rows.now.items a.stage c.index_mut.result.now
    c.fail.new.self
    (changed_set a.stage_attempt (λ set. after_failure set a.partition a.nth c.args.cause))
    (omega (arith, c.args.rows.now.ok.0)) c.index_mut.ensures.value c.fail.ensures.state

pub returns-then-stage-len-clause-stages : goal.returns-then-stage-len-clause-stages
returns-then-stage-len-clause-stages c =
    let v = c.args.rows.now in
    view_kept (λ r. r.stage) v.items c.args.a.stage c.index_mut.result.now c.fail.new.self
    (omega (arith, v.ok.0)) c.index_mut.ensures.value c.fail.ensures.stage

pub returns-then-stage-len-clause-ready : goal.returns-then-stage-len-clause-ready
returns-then-stage-len-clause-ready c =
    let v = c.args.rows.now in
    view_kept (λ r. r.is_ready) v.items c.args.a.stage c.index_mut.result.now c.fail.new.self
    (omega (arith, v.ok.0)) c.index_mut.ensures.value c.fail.ensures.ready

pub returns-else-stage-len-clause-states : goal.returns-else-stage-len-clause-states
returns-else-stage-len-clause-states c =
    let a = c.args.a in
    view_past (λ r. r.state) c.args.rows.now.items a.stage
    (changed_set a.stage_attempt (λ set. after_failure set a.partition a.nth c.args.cause))
    (omega (arith, c.args.rows.now.ok.0))

pub returns-else-stage-len-clause-limit : goal.returns-else-stage-len-clause-limit
returns-else-stage-len-clause-limit c = λ t limits.
    let v = c.args.rows.now in
    let none = set_past (dag_of v.items t limits) c.args.a
    (state_past v.items c.args.a.stage (omega (arith, v.ok.0))) in
    let no = ap (λ s. reaches_limit_in s c.args.a c.args.cause) (sym none) in
    (λ e. absurd (search (rules, e)), λ e. absurd (search (rules, no ∙ e)))
