use Rattle.std.proofs.Common.{◌∙◌, List, ap, subst, sym}
use Rattle.sc_core.specs.CoreData.{job_runs}
use Rattle.sc_core.specs.declared.entries.Entry.{Entry}
use Rattle.sc_exec.specs.Verdicts.{AreLogged}
use Rattle.sc_exec.proofs.VerdictLemmas.{runs_on}
use Rattle.sc_exec.proofs.verdicts.judge.Goals as goal

pub returns-then-runs : goal.returns-then-runs
returns-then-runs g c =
    runs_on g.W.Naming.work c.args.desk.now c.args.workers.now c.worked_jobs_have_ended.ensures
    c.is_sound.ensures c.is_replay.ensures c.leaves_are_own.ensures c.requires.worked
    c.requires.places
    (subst (λ (entries : List Entry). AreLogged entries c.args.workers.now) c.entries.ensures
    (c.are_logged.ensures.0 c.if-not-are_logged.false))
    (sym c.wants_memory.ensures ∙ c.if-wants_memory.false)
    (ap job_runs (sym c.core.ensures) ∙ sym c.runs.ensures ∙ c.if-runs.true)
