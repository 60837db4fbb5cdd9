use Rattle.std.proofs.Common.{◌∙◌, ap, map}
use Rattle.std.proofs.lemmas.List.{with_items_is}
use Rattle.sc_dag.specs.Rows.{ready_of, row_without_executor, stages_of, states_of}
use Rattle.sc_dag.proofs.RowLemmas.{lost_ready, lost_stages, lost_states}
use Rattle.sc_dag.proofs.stages.lose_all.Goals as goal

pub returns : goal.returns
returns c =
    let rows = c.args.rows.now.items in
    let is = with_items_is c.args.rows.now c.lose_each.new.rows
    (c.lose_each.auto.rows ∙ c.as_mut_slice.ensures.len)
    ∙ c.lose_each.ensures
    ∙ ap (map (row_without_executor c.args.exec)) c.as_mut_slice.ensures.value in
    record {
      states = ap states_of is ∙ lost_states c.args.exec rows;
      stages = ap stages_of is ∙ lost_stages c.args.exec rows;
      ready = ap ready_of is ∙ lost_ready c.args.exec rows;
    }
