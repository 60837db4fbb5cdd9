use Rattle.std.proofs.Common.{◌≡◌, ◌∙◌, All, map, ap, subst, sym}
use Rattle.sc_lineage.specs.NodeData.{shuffle_node, sort_by_key}
use Rattle.sc_lineage.specs.ScriptData.{ScriptData, WorkData}
use Rattle.sc_lineage.specs.Streams.{whole_stream}
use Rattle.sc_compute.specs.Results.{HasRows, rows_told}
use Rattle.sc_compute.proofs.ResultLemmas.{all_for}
use Rattle.sc_jobs.specs.JobData.{goal_action}
use Rattle.sc_jobs.specs.declared.goals.Goal.TheVariants as goals
use Rattle.sc_lineage.specs.NodeData.{cache_node}
use Rattle.sc_lineage.specs.Views.{node_data_of}
use Rattle.sc_lineage.proofs.PlaceLemmas.{at_or-found}
use Rattle.sc_jobs.proofs.NodeLemmas.{found_within}
use Rattle.sc_context.specs.Bounding.{parts_of}
use Rattle.sc_context.proofs.ResultLemmas.{item_at, parent_rows, some_inside, within_read}
use Rattle.sc_context.proofs.endings.Ended.bounds.Goals as goal

pub bounds_of_results-requires : goal.bounds_of_results-requires
bounds_of_results-requires g c =
    subst (All HasRows) (sym c.as_slice.ensures.value)
    (all_for g.W.Naming.work (goal_action g.W.Naming.work (goals.Bounds c.args.sort))
    c.args.self.now.results.items c.requires.results)

pub returns : goal.returns
returns g c =
    let work = g.W.Naming.work in
    let sort = c.args.sort in
    let is = c.requires.sort in
    let given = c.args.self.now.results.items in
    let read = c.nodes.result.now in
    let same = c.get.ensures ∙ c.is_named.ensures in
    let are = c.nodes.ensures ∙ ap (λ (s : ScriptData). s.nodes) c.script.ensures
    ∙ ap (λ (w : WorkData). w.script.nodes) same in
    let within = within_read node_data_of read work.script.nodes sort are
    (found_within work.script.nodes sort (shuffle_node sort_by_key is.0 is.1) is.2) in
    let found = item_at node_data_of read work.script.nodes sort c.index-nodes-sort.result are
    within c.index-nodes-sort.is in
    let node = some_inside (node_data_of c.index-nodes-sort.result)
    (shuffle_node sort_by_key is.0 is.1) (sym found ∙ is.2) in
    let parts : c.most_partitions-parts.result ≡ is.1 =
    c.most_partitions-parts.ensures ∙ ap parts_of node in
    let at = at_or-found work.script.nodes sort (shuffle_node sort_by_key is.0 is.1)
    (cache_node 0) is.2 in
    c.bounds_of_results.ensures.of_sort work sort is.0
    (at ∙ ap (λ n. shuffle_node sort_by_key is.0 n) (sym parts))
    (parent_rows work sort is.0 is.1 given at c.requires.results
    ∙ ap (λ rs. map whole_stream (map rows_told rs)) (sym c.as_slice.ensures.value))
