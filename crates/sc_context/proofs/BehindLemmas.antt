-- How a job went before if it was given up.
use Rattle.std.proofs.Common.{◌≡◌, Option, Some, None, ap, subst}
use Rattle.std.specs.Prelude.{IfSome}
use Rattle.sc_lineage.specs.ScriptData.{WorkData}
use Rattle.sc_core.specs.declared.journals.JobHistory.{JobHistory}
use Rattle.sc_jobs.specs.JobData.{JobData, job_data}
use Rattle.sc_jobs.specs.declared.goals.Goal.{Goal}
use Rattle.sc_desk.specs.Sound.{AreEvident}
use Rattle.sc_context.specs.Goings.{IsTrial}
use Rattle.sc_context.specs.Histories.{WasTried}
use Rattle.sc_context.specs.Progress.{Progress}

-- a job is one for its goal
pub job_is : (goal : Goal) (job : JobData) → job.goal ≡ goal → job ≡ job_data goal job.graph
job_is goal job is = ap (λ g. job_data g job.graph) is

-- how a job went that was given up, behind so many others
pub tried_so : (work : WorkData) (p : Progress) (goal : Goal) (job : JobData)
    (tried : JobHistory) → job.goal ≡ goal → IsTrial work p.last goal job tried
    → WasTried work p goal job.graph tried
tried_so work p goal job tried is trial =
    record {
      opening = trial.opening;
      replays = trial.replays;
      evidence = subst (λ (j : JobData).
          AreEvident work j tried.opening tried.entries.items tried.end trial.replays)
          (job_is goal job is) trial.evidence;
    }

pub tried_if : (work : WorkData) (p : Progress) (goal : Goal) (job : JobData)
    (tried : Option JobHistory) → job.goal ≡ goal → IfSome tried (IsTrial work p.last goal job)
    → IfSome tried (WasTried work p goal job.graph)
tried_if work p goal job None is trial = tt
tried_if work p goal job (Some tried) is trial = tried_so work p goal job tried is trial
