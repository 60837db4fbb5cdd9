use Rattle.std.proofs.Common.{◌≡◌, ◌∙◌, List, ap, arith, map, subst, sym}
use Rattle.sc_base.specs.Lists.{numbers_below}
use Rattle.sc_desk.specs.DeskData.{core_of}
use Rattle.sc_ids.specs.declared.limits.Limits.{Limits}
use Rattle.sc_jobs.proofs.KnownLemmas.{known-more}
use Rattle.sc_lineage.specs.ScriptData.{WorkData}
use Rattle.sc_store.specs.StoreData.{StoreData}
use Rattle.sc_world.specs.Runs.{AreReady}
use Rattle.sc_context.specs.Starts.{empty_store, seen_store}
use Rattle.sc_context.proofs.StartLemmas.{seen_planned, seen_ready}
use Rattle.sc_context.proofs.starts.stores_at.Goals as goal

pub store_at-requires : goal.store_at-requires
store_at-requires g c = record {
  planned = seen_planned g.W.Naming.work c.args.desk.now c.loop-exec.exec c.seen.result
      c.seen.ensures c.is_sound.ensures;
}

pub loop-exec-preserved : goal.loop-exec-preserved
loop-exec-preserved g c =
    known-more (seen_store g.W.Naming.work (core_of c.args.desk.now).dag.tracker)
    c.loop-exec.exec c.loop-exec.stores.items c.push.new.self.items c.in_ok-store_at.field-0
    c.loop-exec.invariant
    (c.in_ok-store_at.ensures
    ∙ ap (empty_store g.W.Naming.work c.loop-exec.exec) c.seen.ensures)
    c.in_ok-push.ensures.items

pub returns : goal.returns
returns g c =
    let work = g.W.Naming.work in
    let core = core_of c.args.desk.now in
    let many : c.limits-executors.result.executors ≡ work.limits.executors =
    ap (λ (l : Limits). l.executors) c.limits-executors.ensures
    ∙ ap (λ (w : WorkData). w.limits.executors) (c.get.ensures ∙ c.work-work.ensures) in
    let end : c.loop-exec.exec ≡ work.limits.executors =
    omega (arith, many, c.loop-exec-test.false, c.loop-exec.auto.exec-end) in
    record {
      ready = subst (λ (items : List StoreData). AreReady work items core.dag.tracker core.told)
          (sym (c.loop-exec.invariant
          ∙ ap (λ n. map (seen_store work core.dag.tracker) (numbers_below n)) end))
          (seen_ready work c.args.desk.now c.requires.unregistered c.is_sound.ensures);
    }
