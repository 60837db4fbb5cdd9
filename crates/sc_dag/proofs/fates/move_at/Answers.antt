use Rattle.std.proofs.Common.{ap, sym, ◌∙◌}
use Rattle.sc_base.specs.Lists.{at_or}
use Rattle.sc_ids.proofs.ChangeLemmas.{view_changed, view_kept}
use Rattle.sc_dag.specs.DagData.{no_stage}
use Rattle.sc_dag.specs.Rows.{fated, stages_of, states_of}
use Rattle.sc_dag.specs.Submission.{started}
use Rattle.sc_dag.proofs.MoveLemmas.{change_none}
use Rattle.sc_dag.proofs.RowLemmas.{stage_there}
use Rattle.sc_dag.proofs.fates.move_at.Goals as goal

pub returns-in-Stays-clause-states : goal.returns-in-Stays-clause-states
returns-in-Stays-clause-states c =
    let rows = c.args.rows.now.items in
    let stage = at_or (stages_of rows) c.args.k no_stage in
    sym (change_none (states_of rows) c.args.k
    (fated c.args.fate c.args.tracker.now c.args.limits stage)
    (λ state. ap (λ f. fated f c.args.tracker.now c.args.limits stage state) c.in-Stays.is))

pub returns-in-Waits-clause-states : goal.returns-in-Waits-clause-states
returns-in-Waits-clause-states c =
    let rows = c.args.rows.now.items in
    let old = c.index_mut.result.now in
    let stage = at_or (stages_of rows) c.args.k no_stage in
    view_changed (λ r. r.state) rows c.args.k old c.change.new.self
    (fated c.args.fate c.args.tracker.now c.args.limits stage)
    c.requires.there c.index_mut.ensures.value
    (c.change.ensures.state
    ∙ ap (λ f. fated f c.args.tracker.now c.args.limits stage old.state) (sym c.in-Waits.is))

pub returns-in-Waits-clause-stages : goal.returns-in-Waits-clause-stages
returns-in-Waits-clause-stages c =
    view_kept (λ r. r.stage) c.args.rows.now.items c.args.k c.index_mut.result.now
    c.change.new.self c.requires.there c.index_mut.ensures.value c.change.ensures.stage

pub returns-in-Starts-clause-states : goal.returns-in-Starts-clause-states
returns-in-Starts-clause-states c =
    let rows = c.args.rows.now.items in
    let old = c.index_mut-in-Starts.result.now in
    let t = c.args.tracker.now in
    let stage = at_or (stages_of rows) c.args.k no_stage in
    view_changed (λ r. r.state) rows c.args.k old c.start.new.self
    (fated c.args.fate t c.args.limits stage)
    c.requires.there c.index_mut-in-Starts.ensures.value
    (c.start.ensures.state
    ∙ ap (λ s. started t c.args.limits s old.state)
    (sym (stage_there rows c.args.k old c.requires.there c.index_mut-in-Starts.ensures.value))
    ∙ ap (λ f. fated f t c.args.limits stage old.state) (sym c.in-Starts.is))

pub returns-in-Starts-clause-stages : goal.returns-in-Starts-clause-stages
returns-in-Starts-clause-stages c =
    view_kept (λ r. r.stage) c.args.rows.now.items c.args.k c.index_mut-in-Starts.result.now
    c.start.new.self c.requires.there c.index_mut-in-Starts.ensures.value c.start.ensures.stage
