use Rattle.std.proofs.Common.{◌≡◌, ◌∙◌, [], ap}
use Rattle.sc_cache.specs.Caches.{cache_data}
use Rattle.sc_ids.specs.declared.limits.Limits.{Limits}
use Rattle.sc_jobs.proofs.KnownLemmas.{known-more}
use Rattle.sc_lineage.specs.ScriptData.{WorkData}
use Rattle.sc_store.specs.StoreData.{store_data}
use Rattle.sc_context.specs.Starts.{new_store}
use Rattle.sc_context.proofs.starts.new_stores.Goals as goal

pub loop-exec-preserved : goal.loop-exec-preserved
loop-exec-preserved g c =
    let cache : c.limits-limits.result.cache ≡ g.W.Naming.work.limits.cache =
    ap (λ (l : Limits). l.cache) c.limits-limits.ensures
    ∙ ap (λ (w : WorkData). w.limits.cache) (c.get-2.ensures ∙ c.is_named.ensures) in
    known-more (new_store g.W.Naming.work) c.loop-exec.exec c.loop-exec.stores.items
    c.push.new.self.items c.in_ok-make.field-0 c.loop-exec.invariant
    (c.in_ok-make.ensures
    ∙ ap (λ n. store_data c.loop-exec.exec 0 [] (cache_data [] n)) cache)
    c.in_ok-push.ensures.items
