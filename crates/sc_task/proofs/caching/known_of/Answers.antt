use Rattle.std.proofs.Common.{◌∙◌, ap, subst, sym}
use Rattle.sc_ids.specs.declared.attempts.AttemptId.{AttemptId}
use Rattle.sc_lineage.specs.ScriptData.{IsSoundScript, WorkData}
use Rattle.sc_compute.specs.Tasks.{IsTargetOf}
use Rattle.sc_jobs.specs.JobData.{JobData, target_of}
use Rattle.sc_net.specs.Tasks.{target_of_task}
use Rattle.sc_task.specs.Caches.{has_cache}
use Rattle.sc_task.proofs.CacheLemmas.{takes_none}
use Rattle.sc_task.proofs.caching.known_of.Goals as goal

pub returns-then-not-has_cache-clause-takes : goal.returns-then-not-has_cache-clause-takes
returns-then-not-has_cache-clause-takes g c =
    let work = g.W.Naming.work in
    let t = c.args.task.now in
    let a = c.attempt-attempt.result in
    let same = c.get-work.ensures ∙ c.work-shared.ensures in
    takes_none work (target_of_task work t) c.args.store.now c.new.result.items
    c.new.ensures.items
    (subst (λ (w : WorkData). IsSoundScript w.script) same c.is_sound.ensures.script)
    (subst (IsTargetOf work)
    (c.task_target-target.ensures.target
    ∙ ap (λ (j : JobData). target_of work j a.stage a.partition) c.job.ensures
    ∙ ap (λ (b : AttemptId). target_of work t.job b.stage b.partition) c.attempt-attempt.ensures)
    c.task_target-target.ensures.known)
    (sym (ap has_cache same) ∙ sym c.has_cache.ensures ∙ c.if-not-has_cache.true)
