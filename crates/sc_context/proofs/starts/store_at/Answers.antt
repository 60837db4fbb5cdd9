use Rattle.std.proofs.Common.{◌≡◌, ◌∙◌, ap, arith}
use Rattle.sc_ids.specs.declared.limits.Limits.{Limits}
use Rattle.sc_lineage.specs.ScriptData.{WorkData}
use Rattle.sc_world.proofs.CodeOrders.{wipe_of}
use Rattle.sc_context.specs.Starts.{empty_store}
use Rattle.sc_context.proofs.StartLemmas.{made_store, wiped_store}
use Rattle.sc_context.proofs.starts.store_at.Goals as goal
use Rattle.sc_context.proofs.starts.store_at.Goals.{else-generation-ne0, then-generation-ne0}

pub wipe-requires-clause-wipes : goal.wipe-requires-clause-wipes
wipe-requires-clause-wipes g c =
    (wipe_of c.plan.result.now c.args.exec c.args.generation c.wipe_order.result
    c.wipe_order.ensures).wipes

pub returns : goal.returns
returns g c =
    let cache : c.limits.result.cache ≡ g.W.Naming.work.limits.cache =
    ap (λ (l : Limits). l.cache) c.limits.ensures
    ∙ ap (λ (w : WorkData). w.limits.cache) (c.get-2.ensures ∙ c.is_named.ensures) in
    let made = made_store g.W.Naming.work c.args.exec c.limits.result.cache c.in_ok-store.store
    cache c.in_ok-store.ensures in
    elim c.if-generation-ne0.branch [
      | then-generation-ne0 w ↦ w.store-is
          ∙ wiped_store g.W.Naming.work w.plan.result.now c.args.exec c.args.generation
          w.wipe_order.result c.in_ok-store.store w.wipe.result w.wipe.new.self made
          w.wipe_order.ensures (omega (arith, w.if-generation-ne0.true)) w.wipe.ensures
      | else-generation-ne0 w ↦ w.store-is ∙ made
          ∙ ap (empty_store g.W.Naming.work c.args.exec)
          (omega (arith, w.if-generation-ne0.false))
    ]
