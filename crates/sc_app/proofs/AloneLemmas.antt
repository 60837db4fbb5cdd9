-- In each job of a run attempts are authorised alone.
use Rattle.std.proofs.Common.{◌≡◌, ◌⊎◌, ℕ, inl, inr, List, [], ◌∷◌, All, Option, refl, sym, subst}
use Rattle.std.proofs.lemmas.List.Elements.{All-append, All-cons, All-nil}
use Rattle.sc_core.specs.declared.journals.JobHistory.{JobHistory}
use Rattle.sc_history.specs.Committing.{GrantsAreSole, WinnersCommit}
use Rattle.sc_lineage.specs.ScriptData.{WorkData}
use Rattle.sc_jobs.specs.JobData.{saves}
use Rattle.sc_jobs.specs.declared.goals.Goal.{Goal}
use Rattle.sc_context.specs.Aborts.{IsHalted}
use Rattle.sc_context.specs.Histories.{HasCome, HasGone, IsHistory}
use Rattle.sc_context.specs.Progress.{Progress, first_progress}
use Rattle.sc_context.specs.declared.records.GaveUp.{GaveUp}
use Rattle.sc_app.specs.declared.ran.Status.{Status}
use Rattle.sc_app.specs.declared.ran.Status.TheVariants as statuses
use Rattle.sc_app.specs.Ends.{NothingRan, NothingWritten, StandsBehind}
use Rattle.sc_app.specs.Handed.{IsRun, RanAllJobs}
use Rattle.sc_app.specs.Promises.{Ends, GrantsOneAlone, IsAuthorisedAlone}
use Rattle.sc_app.specs.Runs.{RunData}

module _ (sole : GrantsAreSole) (winners : WinnersCommit) where
  -- in any job no two attempts of a partition are granted at a time that they may commit
  grants-in : (h : JobHistory) → GrantsOneAlone h
  grants-in h = λ first more c a b parts replays one other same.
      sole h.opening c first a b replays one other same

  -- and so in each that was given up
  pub grants-given : (given : List GaveUp) → All (λ g. GrantsOneAlone g.history) given
  grants-given [] = All-nil (λ (g : GaveUp). GrantsOneAlone g.history)
  grants-given (g ∷ given) =
      All-cons (λ (g : GaveUp). GrantsOneAlone g.history) g given (grants-in g.history)
      (grants-given given)

  -- in a job that went so
  alone-in : (work : WorkData) (p : Progress) (goal : Goal) (tried : Option JobHistory)
      (h : JobHistory) → IsHistory work p goal tried h → IsAuthorisedAlone h
  alone-in work p goal tried h is =
      record {
        sole = grants-in h;
        winners = λ partition winner won.
            winners is.graph work.limits (saves work goal) work.plan is.from h.opening h.end
            h.entries.items partition winner is.opening is.began is.replays won;
      }

  -- in jobs that were done
  alone-come : (work : WorkData) (p : Progress) (histories given_up : List JobHistory)
      (q : Progress) → HasCome work p histories given_up q → All IsAuthorisedAlone histories
  alone-come work p [] given_up q come = All-nil IsAuthorisedAlone
  alone-come work p (h ∷ histories) given_up q come =
      All-cons IsAuthorisedAlone h histories
      (alone-in work p come.done.goal come.tried h come.done.is)
      (alone-come work come.mid histories come.rest q come.then)

  -- and in one more
  alone-gone : (work : WorkData) (histories given_up : List JobHistory) (p : Progress)
      (goal : Goal) (h : JobHistory) → HasGone work histories given_up p goal h
      → All IsAuthorisedAlone histories
  alone-gone work histories given_up p goal h gone =
      subst (λ hs. All IsAuthorisedAlone hs) (sym gone.all)
      (All-append IsAuthorisedAlone gone.before (h ∷ [])
      (alone-come work (first_progress work) gone.before gone.given_before p gone.come)
      (All-cons IsAuthorisedAlone h [] (alone-in work p goal gone.tried h gone.is)
      (All-nil IsAuthorisedAlone)))

  alone-halted : (work : WorkData) (k : ℕ) (histories given_up : List JobHistory)
      → IsHalted work k histories given_up → All IsAuthorisedAlone histories
  alone-halted work k histories given_up (inl (p, at, inl come)) =
      alone-come work (first_progress work) histories given_up p come
  alone-halted work k histories given_up (inl (p, at, inr (inl given))) =
      alone-come work (first_progress work) histories given.given_before p given.come
  alone-halted work k histories given_up (inl (p, at, inr (inr (goal, h, gone, kept)))) =
      alone-gone work histories given_up p goal h gone
  alone-halted work k histories given_up (inr (is, (abort, aborted))) =
      alone-gone work histories given_up aborted.progress aborted.goal aborted.history
      aborted.gone

  -- where no job was begun
  alone-none : (histories : List JobHistory) → histories ≡ [] → All IsAuthorisedAlone histories
  alone-none histories none =
      subst (λ hs. All IsAuthorisedAlone hs) (sym none) (All-nil IsAuthorisedAlone)

  alone-by : (run : RunData) (history given_up : List JobHistory) (status : Status)
      → Ends run history given_up status
      → (status ≡ statuses.Done → RanAllJobs run history given_up)
      → All IsAuthorisedAlone history
  alone-by run history given_up statuses.Done ends jobs = done (jobs refl)
    where
      done : RanAllJobs run history given_up → All IsAuthorisedAlone history
      done (work, read, over) =
          alone-come work (first_progress work) history given_up over.progress over.come
  alone-by run history given_up statuses.Usage ends jobs = alone-none history ends.nothing_ran.0
  alone-by run history given_up (statuses.Script fault) ends jobs =
      alone-none history ends.nothing_ran.0
  alone-by run history given_up (statuses.Plan fault) ends jobs =
      alone-none history ends.nothing_ran.0
  alone-by run history given_up (statuses.Input name missing) ends jobs =
      alone-none history ends.nothing_ran.0
  alone-by run history given_up (statuses.Aborted abort) ends jobs =
      let aborted = ends.aborted in
      alone-gone ends.work history given_up aborted.progress aborted.goal aborted.history
      aborted.gone
  alone-by run history given_up (statuses.DriverFault k fault) ends jobs =
      alone-come ends.work (first_progress ends.work) history given_up ends.jobs.progress
      ends.jobs.come
  alone-by run history given_up (statuses.OutputExists dir) ends jobs =
      alone-come ends.work (first_progress ends.work) history given_up ends.jobs.0 ends.jobs.1
  alone-by run history given_up (statuses.Device path) ends jobs =
      alone-halted ends.work ends.k history given_up ends.jobs
  alone-by run history given_up statuses.WriteFault ends jobs =
      alone-come ends.work (first_progress ends.work) history given_up ends.jobs.progress
      ends.jobs.come
  alone-by run history given_up statuses.OutOfMemory ends jobs = by ends.stands
    where
      by : (NothingWritten run × NothingRan history given_up) ⊎ StandsBehind run history given_up
          → All IsAuthorisedAlone history
      by (inl nothing) = alone-none history nothing.1.0
      by (inr behind) =
          alone-halted behind.work behind.stands.actions history given_up behind.stands.jobs
  alone-by run history given_up (statuses.NotText name) ends jobs =
      alone-none history ends.nothing_ran.0

  -- however a run ended
  pub alone : (run : RunData) (history given_up : List JobHistory) (status : Status)
      → IsRun run history given_up status → All IsAuthorisedAlone history
  alone run history given_up status is = alone-by run history given_up status is.ends is.jobs
