use Rattle.std.proofs.Common.{rules, ◌≡◌, ◌∙◌, ◌++◌, [], ◌∷◌, ap}
use Rattle.sc_cache.specs.Caches.{cache_data}
use Rattle.sc_ids.specs.declared.limits.Limits.{Limits}
use Rattle.sc_jobs.proofs.KnownLemmas.{known-more}
use Rattle.sc_lineage.specs.ScriptData.{WorkData}
use Rattle.sc_store.specs.StoreData.{store_data}
use Rattle.sc_context.specs.Starts.{new_store}
use Rattle.sc_rows.proofs.world_lines.new_stores.Goals as goal

pub loop-exec-preserved : goal.loop-exec-preserved
loop-exec-preserved g c =
    let cache : c.limits-limits.result.cache ≡ g.W.Naming.work.limits.cache =
    ap (λ (l : Limits). l.cache) c.limits-limits.ensures
    ∙ ap (λ (w : WorkData). w.limits.cache) (c.get-2.ensures ∙ c.is_named.ensures) in
    let made : c.expect-store.result
    ≡ store_data c.loop-exec.exec 0 [] (cache_data [] c.limits-limits.result.cache) =
    search rules in
    let pushed : c.push.new.self.items ≡ c.loop-exec.stores.items ++ c.expect-store.result ∷ [] =
    search rules in
    known-more (new_store g.W.Naming.work) c.loop-exec.exec c.loop-exec.stores.items
    c.push.new.self.items c.expect-store.result c.loop-exec.invariant
    (made ∙ ap (λ n. store_data c.loop-exec.exec 0 [] (cache_data [] n)) cache)
    pushed
