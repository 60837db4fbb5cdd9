-- Saves that were given up, among the jobs that were for an action.
use Rattle.std.proofs.Common.{◌≡◌, ◌∙◌, inl, inr, true, List, [], ◌∷◌, ◌++◌, Option, Some, None, refl, sym, subst, arith}
use Rattle.std.specs.Option.{option_to_list}
use Rattle.std.specs.Prelude.{IfSome, Result, Ok, Err}
use Rattle.std.proofs.lemmas.List.Elements.{Contains-append_right}
use Rattle.sc_base.specs.Outside.{FilesState}
use Rattle.sc_base.specs.Trees.{Path}
use Rattle.sc_base.specs.declared.refusals.OrMemory.{OrMemory}
use Rattle.sc_base.specs.declared.refusals.OrMemory.TheVariants.{Fault, OutOfMemory}
use Rattle.sc_lineage.specs.ScriptData.{WorkData}
use Rattle.sc_output.specs.Calls.{Call}
use Rattle.sc_output.specs.Commits.{abort_calls}
use Rattle.sc_ids.specs.Graphs.{StageData}
use Rattle.sc_core.specs.CoreData.{CoreData}
use Rattle.sc_core.specs.Openings.{IsOpening}
use Rattle.sc_core.specs.declared.journals.JobHistory.{JobHistory}
use Rattle.sc_jobs.specs.JobData.{JobData, goal_action, saves}
use Rattle.sc_jobs.specs.declared.goals.Goal.{Goal}
use Rattle.sc_desk.specs.Files.{dir_of_job}
use Rattle.sc_context.specs.Files.{EndsBy, FailsAgain, FailsIn, IsSave, IsTriedIn, StopsIn}
use Rattle.sc_context.specs.Histories.{WasTried}
use Rattle.sc_context.specs.Goings.{IsTrial}
use Rattle.sc_context.specs.Progress.{Progress}
use Rattle.sc_context.specs.declared.stops.JobFault.{JobFault}
use Rattle.sc_context.specs.declared.stops.JobFault.TheVariants as faults
use Rattle.sc_context.proofs.OutputLemmas.{saves_to}

-- a job that saves is known by how it began
save_of : (work : WorkData) (goal : Goal) (graph : List StageData) (last : Option CoreData)
    (h : JobHistory) → saves work goal ≡ true
    → IsOpening graph work.limits (saves work goal) work.plan last h.opening → IsSave work h
save_of work goal graph last h saved opening = (
  graph,
  last,
  subst (λ b. IsOpening graph work.limits b work.plan last h.opening) saved
      opening,
)

-- one that was given up is among those that were
own_of : (work : WorkData) (goal : Goal) (graph : List StageData) (last : Option CoreData)
    (dir : Option Path) (h : JobHistory) → dir ≡ dir_of_job work goal
    → IsOpening graph work.limits (saves work goal) work.plan last h.opening
    → (p : Path) → dir ≡ Some p → IsTriedIn work (h ∷ []) (Some h)
own_of work goal graph last dir h same opening p is = (
  (0, omega arith, refl),
  save_of work goal graph last h (saves_to (goal_action work goal) p (sym is ∙ same)) opening,
)

pub own_trial : (work : WorkData) (last : Option CoreData) (goal : Goal) (job : JobData)
    (dir : Option Path) (tried : Option JobHistory) → dir ≡ dir_of_job work goal
    → IfSome tried (IsTrial work last goal job) → (p : Path) → dir ≡ Some p
    → IsTriedIn work (option_to_list tried) tried
own_trial work last goal job dir None same was p is = tt
own_trial work last goal job dir (Some h) same was p is =
    own_of work goal job.graph last dir h same was.opening p is

pub own_tried : (work : WorkData) (from : Progress) (goal : Goal) (graph : List StageData)
    (dir : Option Path) (tried : Option JobHistory) → dir ≡ dir_of_job work goal
    → IfSome tried (WasTried work from goal graph) → (p : Path) → dir ≡ Some p
    → IsTriedIn work (option_to_list tried) tried
own_tried work from goal graph dir None same was p is = tt
own_tried work from goal graph dir (Some h) same was p is =
    own_of work goal graph from.last dir h same was.opening p is

-- more jobs were given up before
own_more : (work : WorkData) (front given : List JobHistory) (tried : Option JobHistory)
    → IsTriedIn work given tried → IsTriedIn work (front ++ given) tried
own_more work front given None own = tt
own_more work front given (Some h) own = (Contains-append_right front given h own.0, own.1)

ends_more : (work : WorkData) (front given : List JobHistory) (dir : Path)
    (before after : FilesState) (calls : List Call) (result : Result (Unit {0}) (OrMemory Path))
    → EndsBy work given dir before after calls result
    → EndsBy work (front ++ given) dir before after calls result
ends_more work front given dir before after calls result ends =
    record {
      tried = ends.tried;
      own = own_more work front given ends.tried ends.own;
      mid = ends.mid;
      way = ends.way;
      makes = ends.makes;
    }

again_more : (work : WorkData) (front given : List JobHistory) (dir path : Path)
    (before after : FilesState) → FailsAgain work given dir path before after
    → FailsAgain work (front ++ given) dir path before after
again_more work front given dir path before after fails =
    record {
      tried = fails.tried;
      own = own_more work front given (Some fails.tried) fails.own;
      mid = fails.mid;
      way = fails.way;
      at = fails.at;
      not_done = fails.not_done;
      half = fails.half;
    }

fails_more : (work : WorkData) (front given : List JobHistory) (dir : Path)
    (before after : FilesState) (why : OrMemory JobFault)
    → FailsIn work given dir before after why → FailsIn work (front ++ given) dir before after why
fails_more work front given dir before after (Fault (faults.Aborted abort)) fails =
    ends_more work front given dir before after (abort_calls dir) (Ok tt) fails
fails_more work front given dir before after (Fault (faults.Exists path)) fails = fails
fails_more work front given dir before after (Fault (faults.Device path)) (inl fails) = inl fails
fails_more work front given dir before after (Fault (faults.Device path))
    (inr (inl (calls, ending, ends))) =
    inr (inl (
      calls,
      ending,
      ends_more work front given dir before after calls (Err (Fault path)) ends,
    ))
fails_more work front given dir before after (Fault (faults.Device path)) (inr (inr fails)) =
    inr (inr (again_more work front given dir path before after fails))
fails_more work front given dir before after OutOfMemory (inl fails) = inl fails
fails_more work front given dir before after OutOfMemory (inr (calls, ending, inl ends)) =
    inr (calls, ending, inl (ends_more work front given dir before after calls (Ok tt) ends))
fails_more work front given dir before after OutOfMemory (inr (calls, ending, inr ends)) =
    inr (
      calls,
      ending,
      inr (ends_more work front given dir before after calls (Err OutOfMemory) ends),
    )

pub stops_more : (work : WorkData) (front given : List JobHistory) (dir : Option Path)
    (before after : FilesState) (why : OrMemory JobFault)
    → StopsIn work given dir before after why → StopsIn work (front ++ given) dir before after why
stops_more work front given None before after why stops = stops
stops_more work front given (Some dir) before after why (inl stops) = inl stops
stops_more work front given (Some dir) before after why (inr (later, fails)) =
    inr (later, fails_more work front given dir before after why fails)
