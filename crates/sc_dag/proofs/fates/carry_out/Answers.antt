use Rattle.std.proofs.Common.{◌<◌, ap, arith, length, subst, sym, ◌∙◌}
use Rattle.std.proofs.lemmas.List.{length-map}
use Rattle.sc_base.specs.Lists.{at_or}
use Rattle.sc_ids.specs.Changes.{change_at}
use Rattle.sc_dag.specs.DagData.{no_stage}
use Rattle.sc_dag.specs.Submission.{moved_if}
use Rattle.sc_dag.specs.Rows.{RowData, SuitsFate, dag_of, fated, is_looked_at, states_of}
use Rattle.sc_dag.proofs.MoveLemmas.{complete_still, drop_more, number_all, one_moved, ready_still}
use Rattle.sc_dag.proofs.fates.carry_out.Goals as goal

pub move_at-requires-clause-ready : goal.move_at-requires-clause-ready
move_at-requires-clause-ready c = λ _.
    ready_still c.args.rows.now.items c.loop-k.rows.items c.loop-k.k c.requires.ready
    (omega (arith, c.args.rows.now.ok.0, c.loop-k-test.true, c.len-k-end.ensures))
    c.loop-k.invariant.rest

pub move_at-requires-clause-incomplete : goal.move_at-requires-clause-incomplete
move_at-requires-clause-incomplete c = λ starts.
    let d = dag_of c.args.rows.now.items c.args.tracker.now c.args.limits in
    complete_still c.args.rows.now.items c.loop-k.rows.items c.args.tracker.now c.loop-k.k
    c.loop-k.invariant.stages c.loop-k.invariant.rest
    ∙ (subst (SuitsFate d c.loop-k.k) (sym c.fate_at.ensures ∙ starts)
    (c.requires.suit c.loop-k.k)).1

pub loop-k-preserved : goal.loop-k-preserved
loop-k-preserved c =
    let i = c.loop-k.invariant in
    let rows = c.args.rows.now.items in
    let t = c.args.tracker.now in
    let now = c.loop-k.rows.items in
    let within : c.loop-k.k < length rows =
    omega (arith, c.args.rows.now.ok.0, c.loop-k-test.true, c.len-k-end.ensures) in
    record {
      states = one_moved (dag_of rows t c.args.limits) c.args.fates.now c.loop-k.k
          c.fate_at.result (states_of now) (states_of c.move_at.new.rows.items)
          c.fate_at.ensures c.requires.suit (rw (length-map rows (λ (r : RowData). r.state)) within)
          i.states
          (c.move_at.ensures.states
          ∙ ap (λ stages. change_at (states_of now) c.loop-k.k
          (fated c.fate_at.result t c.args.limits (at_or stages c.loop-k.k no_stage))) i.stages);
      stages = c.move_at.ensures.stages ∙ i.stages;
      rest = c.move_at.ensures.rest ∙ drop_more c.loop-k.k now rows i.rest;
      len = c.move_at.ensures.len ∙ i.len;
    }

pub returns-clause-states : goal.returns-clause-states
returns-clause-states c =
    let rows = c.args.rows.now.items in
    let d = dag_of rows c.args.tracker.now c.args.limits in
    c.loop-k.invariant.states
    ∙ number_all (moved_if d (is_looked_at c.args.fates.now)) 0 c.loop-k.k (states_of rows)
    (rw (length-map rows (λ (r : RowData). r.state))
    (omega (arith, c.args.rows.now.ok.0, c.loop-k-test.false, c.len-k-end.ensures)))
