use Rattle.std.proofs.Common.{arith, ◌<◌, ◌∙◌, length}
use Rattle.std.proofs.lemmas.List.{length-set}
use Rattle.sc_ids.proofs.ChangeLemmas.{view_kept}
use Rattle.sc_dag.proofs.RowLemmas.{ready_more}
use Rattle.sc_dag.proofs.stages.prepare_all.Goals as goal

pub returns-in_err-prepare-clause-states : goal.returns-in_err-prepare-clause-states
returns-in_err-prepare-clause-states c =
    let v = c.loop-k.rows in
    view_kept (λ r. r.state) v.items c.loop-k.k c.index_mut.result.now c.prepare.new.self
    (omega (arith, v.ok.0, c.loop-k.invariant.len, c.args.rows.now.ok.0))
    c.index_mut.ensures.value c.prepare.ensures.state
    ∙ c.loop-k.invariant.states

pub returns-in_err-prepare-clause-stages : goal.returns-in_err-prepare-clause-stages
returns-in_err-prepare-clause-stages c =
    let v = c.loop-k.rows in
    view_kept (λ r. r.stage) v.items c.loop-k.k c.index_mut.result.now c.prepare.new.self
    (omega (arith, v.ok.0, c.loop-k.invariant.len, c.args.rows.now.ok.0))
    c.index_mut.ensures.value c.prepare.ensures.stage
    ∙ c.loop-k.invariant.stages

pub loop-k-preserved : goal.loop-k-preserved
loop-k-preserved c =
    let v = c.loop-k.rows in
    let k = c.loop-k.k in
    let old = c.index_mut.result.now in
    let new = c.prepare.new.self in
    let i = c.loop-k.invariant in
    let there : k < length v.items = omega (arith, v.ok.0, i.len, c.args.rows.now.ok.0) in
    let at = c.index_mut.ensures.value in
    record {
      states = view_kept (λ r. r.state) v.items k old new there at c.prepare.ensures.state
          ∙ i.states;
      stages = view_kept (λ r. r.stage) v.items k old new there at c.prepare.ensures.stage
          ∙ i.stages;
      ready = ready_more v.items k new there c.in_ok-prepare.ensures.ready i.ready;
      len = length-set v.items k new ∙ i.len;
    }
