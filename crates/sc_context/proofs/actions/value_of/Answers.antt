use Rattle.std.proofs.Common.{◌∙◌, IfOk, ap, subst, sym}
use Rattle.sc_compute.specs.Evaluations.{Gives, Settles}
use Rattle.sc_compute.specs.Results.{AreResultsOf}
use Rattle.sc_compute.proofs.ResultLemmas.{all_for}
use Rattle.sc_lineage.specs.Actions.{outcome_of_rows}
use Rattle.sc_lineage.specs.ScriptData.{ScriptData, WorkData, IsSoundScript}
use Rattle.sc_lineage.specs.Views.{action_data_of}
use Rattle.sc_context.specs.Contexts.{Evaluates}
use Rattle.sc_context.proofs.ResultLemmas.{action_at, both_ok, evaluates, node_within, within_read}
use Rattle.sc_context.proofs.actions.value_of.Goals as goal

pub settle-requires : goal.settle-requires
settle-requires g c =
    let work = g.W.Naming.work in
    let k = c.args.number in
    let read = c.actions.result.now in
    let action = action_data_of c.index-actions-number.result in
    let same = c.get-work.ensures ∙ c.is_named.ensures in
    let are = c.actions.ensures ∙ ap (λ (s : ScriptData). s.actions) c.script.ensures
    ∙ ap (λ (w : WorkData). w.script.actions) same in
    let within = within_read action_data_of read work.script.actions k are c.requires.within in
    let at = action_at read work.script.actions k c.index-actions-number.result are within
    c.index-actions-number.is in
    all_for work action c.args.results.items
    (subst (λ a. AreResultsOf work a c.args.results.items) at c.requires.results)

pub returns : goal.returns
returns g c =
    let work = g.W.Naming.work in
    let k = c.args.number in
    let read = c.actions.result.now in
    let results = c.args.results.items in
    let action = action_data_of c.index-actions-number.result in
    let same = c.get-work.ensures ∙ c.is_named.ensures in
    let are = c.actions.ensures ∙ ap (λ (s : ScriptData). s.actions) c.script.ensures
    ∙ ap (λ (w : WorkData). w.script.actions) same in
    let within = within_read action_data_of read work.script.actions k are c.requires.within in
    let at = action_at read work.script.actions k c.index-actions-number.result are within
    c.index-actions-number.is in
    let sound = subst (λ (w : WorkData). IsSoundScript w.script) same c.is_sound.ensures.script in
    let known = node_within work read k c.index-actions-number.result sound are c.requires.within
    c.index-actions-number.is in
    let own = subst (λ a. AreResultsOf work a results) at c.requires.results in
    subst (λ a. IfOk c.settle.result (Evaluates work a)) (sym at)
    (both_ok c.settle.result (Settles (outcome_of_rows action own.rows)) (Gives work action)
    (Evaluates work action)
    (λ v. evaluates work action own.rows v (c.outcome_law.ensures work action sound known))
    (c.settle.ensures.settles own.rows own.told) (c.settle.ensures.gives work own))
