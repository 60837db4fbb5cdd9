-- What a report is answered that is posted, and what that leaves.
use Rattle.std.specs.Prelude.{ℕ, ◌≡◌, ◌==◌, ◌&&◌, ◌||◌, not, List, [], ◌∷◌, Bool, true, false, Option, Some, None, nat_lt}
use Rattle.std.specs.List.{list_any}
use Rattle.sc_commit.specs.declared.committers.Committer.{Committer}
use Rattle.sc_dag.specs.DagData.{stage_at}
use Rattle.sc_dag.specs.Submission.{is_map}
use Rattle.sc_ids.specs.declared.attempts.AttemptId.{AttemptId}
use Rattle.sc_ids.specs.declared.blocks.Loc.{Loc}
use Rattle.sc_ids.specs.declared.failures.Counts.{Counts}
use Rattle.sc_ids.specs.declared.failures.FailureCause.{FailureCause}
use Rattle.sc_ids.specs.declared.failures.FailureCause.TheVariants as causes
use Rattle.sc_ids.specs.declared.failures.Fault.{Fault}
use Rattle.sc_plan.specs.Attempts.{delay_of, is_doubled}
use Rattle.sc_plan.specs.PlanLines.{place_of}
use Rattle.sc_tracker.specs.declared.outputs.Location.{Location}
use Rattle.sc_tracker.specs.declared.outputs.Location.TheVariants.{Here, Missing}
use Rattle.sc_core.specs.CoreData.{CoreData, job_runs, running_of, shelved, shelved_if, told_once}
use Rattle.sc_core.specs.Tells.{TellsTo}
use Rattle.sc_core.specs.declared.answers.Answer.{Answer}
use Rattle.sc_core.specs.declared.answers.Answer.TheVariants as says
use Rattle.sc_core.specs.declared.events.Outcome.{Outcome}
use Rattle.sc_core.specs.declared.events.Outcome.TheVariants as outcomes
use Rattle.sc_core.specs.declared.running.Phase.{Phase}
use Rattle.sc_core.specs.declared.running.Phase.TheVariants as phases
use Rattle.sc_core.specs.declared.running.Running.{Running}

-- two locations are one
abbrev pub is_same_loc : Loc → Loc → Bool
is_same_loc a b = (a.exec == b.exec) && (a.generation == b.generation)

-- an input lies there
abbrev pub is_here : Loc → Location → Bool
is_here loc (Here at) = is_same_loc at loc
is_here loc (Missing last) = false

-- an input was there last, and isn't any more
abbrev pub was_last : Loc → Location → Bool
was_last loc (Here at) = false
was_last loc (Missing None) = false
was_last loc (Missing (Some last)) = is_same_loc last loc

-- two faults are one
abbrev pub is_same_fault : Fault → Fault → Bool
is_same_fault a b = are_same a.before b.before && are_same a.after b.after
  where
    are_same : Counts → Counts → Bool
    are_same a b = (a.faults == b.faults) && (a.clashes == b.clashes)

abbrev pub has_faulted : Phase → Fault → Bool
has_faulted (phases.Faulted told) fault = is_same_fault told fault
has_faulted phase fault = false

abbrev pub is_denied : Phase → Bool
is_denied phases.Denied = true
is_denied phase = false

abbrev pub has_moved : Phase → Bool
has_moved phases.Moved = true
has_moved phase = false

-- the job saves
abbrev pub is_save : List Committer → Bool
is_save [] = false
is_save (committer ∷ committers) = true

-- a failure may be one of this attempt: a missing input is one that it was given so
abbrev pub fits_failure : Running → FailureCause → Bool
fits_failure r causes.Planned = true
fits_failure r (causes.Raised raise) = true
fits_failure r (causes.Device fault) = has_faulted r.phase fault
fits_failure r (causes.Gone exec wanted found) =
    list_any (is_here (record { exec = exec; generation = wanted })) r.hand_out.inputs
    && nat_lt wanted found
fits_failure r (causes.Metadata last) = list_any (was_last last) r.hand_out.inputs
fits_failure r causes.Denied = is_denied r.phase

-- a report may be one of this attempt: a success is of its stage's kind, a map output on its own
-- executor, and the result of a save was moved
abbrev pub fits : CoreData → Running → Outcome → Bool
fits c r (outcomes.Map loc) =
    is_map (stage_at c.dag r.hand_out.attempt.stage).target && (loc.exec == r.exec)
fits c r outcomes.Result =
    not (is_map (stage_at c.dag r.hand_out.attempt.stage).target)
    && (not (is_save c.committers) || has_moved r.phase)
fits c r (outcomes.Failed cause) = fits_failure r cause

-- how many more reports are told before that of an attempt, where it comes late
abbrev pub delay_for : CoreData → AttemptId → Option ℕ
delay_for c a = delay_of c.plan (place_of a)

-- a second copy of its report comes
abbrev pub comes_twice : CoreData → AttemptId → Bool
comes_twice c a = is_doubled c.plan (place_of a)

-- a report is told to its attempt
abbrev pub TellsNow : CoreData → AttemptId → Outcome → Answer → CoreData → Type 0
TellsNow c a outcome answer after = TellsTo (running_of c a) c a outcome answer after

-- A report of a running attempt that fits it: a late one is to be told later, and any other one is
-- told. A second copy is to be told later too, due with the first one's delay.
abbrev pub PostsBy : Option ℕ → CoreData → AttemptId → Outcome → Answer → CoreData → Type 0
PostsBy None c a outcome answer after =
    TellsNow (shelved_if (comes_twice c a) c a outcome 0) a outcome answer after
PostsBy (Some delay) c a outcome answer after =
    (answer ≡ says.Shelved)
    × (after ≡ shelved_if (comes_twice c a) (shelved c a outcome delay) a outcome delay)

-- a report of an attempt that may run: of one that doesn't it is counted, and told to nobody
abbrev pub PostsOf : Option Running → CoreData → AttemptId → Outcome → Answer → CoreData → Type 0
PostsOf None c a outcome answer after = (answer ≡ says.Ignored) × (after ≡ told_once c)
PostsOf (Some r) c a outcome answer after =
    (fits c r outcome ≡ true) × PostsBy (delay_for c a) c a outcome answer after

-- a report in a job that may run: after its end nothing is told
abbrev pub PostsIf : Bool → CoreData → AttemptId → Outcome → Answer → CoreData → Type 0
PostsIf false c a outcome answer after = (answer ≡ says.Ignored) × (after ≡ c)
PostsIf true c a outcome answer after = PostsOf (running_of c a) c a outcome answer after

abbrev pub Posts : CoreData → AttemptId → Outcome → Answer → CoreData → Type 0
Posts c a outcome answer after = PostsIf (job_runs c) c a outcome answer after

abbrev pub misfits : CoreData → Option Running → Outcome → Bool
misfits c None outcome = false
misfits c (Some r) outcome = not (fits c r outcome)

-- a report isn't enabled: it is of a running attempt of a running job, and doesn't fit it
abbrev pub is_misfit : CoreData → AttemptId → Outcome → Bool
is_misfit c a outcome = job_runs c && misfits c (running_of c a) outcome
