-- The jobs of a run that is done are those of the work that was read.
use Rattle.std.proofs.Common.{List, length, subst}
use Rattle.sc_core.specs.declared.journals.JobHistory.{JobHistory}
use Rattle.sc_lineage.specs.ScriptData.{WorkData}
use Rattle.sc_plan.specs.Plans.{PlansHaveOneReading}
use Rattle.sc_print.specs.Printing.{HasDoneOver}
use Rattle.sc_script.specs.Parsing.{HaveOneReading}
use Rattle.sc_app.specs.declared.ran.Status.{Status}
use Rattle.sc_app.specs.Handed.{IsRun}
use Rattle.sc_app.specs.Promises.{ZeroShowsJobs}
use Rattle.sc_app.specs.Runs.{RunData}
use Rattle.sc_app.proofs.ReadingLemmas.{one_work}

pub zero_shows_jobs : HaveOneReading → PlansHaveOneReading → (run : RunData)
    (history given_up : List JobHistory) (status : Status)
    → IsRun run history given_up status → ZeroShowsJobs run history given_up status
zero_shows_jobs law plans run history given_up status is = λ done work read.
    let ran = is.jobs done in
    subst
    (λ (w : WorkData). HasDoneOver w run.files_before run.files_after history given_up
    (length w.script.actions))
    (one_work law plans run.words run.reads ran.0 work ran.1 read) ran.2
