-- How a job went whose executors take no more tasks.
use Rattle.std.specs.Prelude.{◌≡◌, ◌⊎◌, Bool, true, false, List, Contains}
use Rattle.std.specs.List.{list_any}
use Rattle.sc_core.specs.CoreData.{CoreData, job_runs}
use Rattle.sc_core.specs.declared.entries.Entry.{Entry}
use Rattle.sc_exec.specs.Workers.{lefts_of, logs_of}
use Rattle.sc_exec.specs.declared.lefts.Left.{Left}
use Rattle.sc_exec.specs.declared.lefts.Left.TheVariants as lefts
use Rattle.sc_exec.specs.declared.verdicts.Verdict.{Verdict}
use Rattle.sc_exec.specs.declared.verdicts.Verdict.TheVariants as verdicts
use Rattle.sc_exec.specs.declared.workers.Worker.{Worker}
use Rattle.sc_logs.specs.Logs.{Interleaves}

-- memory ran out
abbrev pub is_no_memory : Left → Bool
is_no_memory lefts.NoMemory = true
is_no_memory left = false

-- an executor met what can't be, so that its job has to be given up
abbrev pub gives_up : Left → Bool
gives_up (lefts.Busy held) = true
gives_up (lefts.Stranger stranger) = true
gives_up (lefts.Early early) = true
gives_up (lefts.Drained strange) = true
gives_up (lefts.Absent absence) = true
gives_up left = false

-- of one executor or more memory ran out
abbrev pub wants_memory : List Worker → Bool
wants_memory workers = list_any (λ w. is_no_memory w.left) workers

-- the entries of a job are an interleaving of what its executors wrote down
abbrev pub AreLogged : List Entry → List Worker → Type 0
AreLogged entries workers = Interleaves entries (logs_of workers)

-- why a job is given up: its entries aren't such an interleaving, or an executor met what can't be
abbrev pub IsGivenUp : List Entry → List Worker → Type 0
IsGivenUp entries workers =
    (AreLogged entries workers → ⊥)
    ⊎ ((left : Left) × Contains (lefts_of workers) left × (gives_up left ≡ true))

-- where the logs agree with a job's entries, memory sufficed and it runs on
abbrev pub RunsOn : CoreData → List Entry → List Worker → Type 0
RunsOn core entries workers =
    AreLogged entries workers → (wants_memory workers ≡ false) × (job_runs core ≡ true)

-- How a job went, exactly: where the logs agree with its entries, memory ran out, or else it has
-- ended; and where neither is so it is given up, for one of its reasons.
abbrev pub IsVerdict : CoreData → List Entry → List Worker → Verdict → Type 0
IsVerdict core entries workers verdicts.Ended =
    AreLogged entries workers × (wants_memory workers ≡ false) × (job_runs core ≡ false)
IsVerdict core entries workers verdicts.NoMemory =
    AreLogged entries workers × (wants_memory workers ≡ true)
IsVerdict core entries workers verdicts.GivenUp =
    IsGivenUp entries workers × RunsOn core entries workers
