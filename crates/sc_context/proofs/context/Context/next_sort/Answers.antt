use Rattle.std.proofs.Common.{◌∙◌, ◌<◌, length, ap, subst, sym}
use Rattle.sc_lineage.specs.ScriptData.{ScriptData, WorkData}
use Rattle.sc_context.proofs.ResultLemmas.{node_within}
use Rattle.sc_context.proofs.context.Context.next_sort.Goals as goal

pub unbounded_sort-requires : goal.unbounded_sort-requires
unbounded_sort-requires g c =
    let work = c.get-work.result.now in
    let same = c.get-work.ensures ∙ c.is_named.ensures in
    subst (λ n. n < length work.script.nodes) (sym c.node_of-node.ensures)
    (node_within work c.actions.result.now c.actions-number.result
    c.index-actions-number.result c.is_sound.ensures.script
    (c.actions.ensures ∙ ap (λ (s : ScriptData). s.actions) c.script.ensures)
    (subst (λ (w : WorkData). c.actions-number.result < length w.script.actions) (sym same)
    (subst (λ n. n < length g.W.Naming.work.script.actions) (sym c.actions-number.ensures)
    c.requires.within))
    c.index-actions-number.is)
