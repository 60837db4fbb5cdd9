-- What an attempt of a save does before it reports: it stages its output, asks whether it may
-- commit, and moves its output to where it counts.
use Rattle.std.specs.Prelude.{◌≡◌, ◌==◌, ◌&&◌, List, Bool, true, false, Option, Some, None, if◌then◌else◌, map}
use Rattle.std.specs.List.{find}
use Rattle.std.specs.Option.{option_map}
use Rattle.sc_commit.specs.Committers.{committer_at}
use Rattle.sc_commit.specs.Committing.{after_ask, answer_to, denies}
use Rattle.sc_commit.specs.declared.committers.Permission.{Permission}
use Rattle.sc_commit.specs.declared.committers.Permission.TheVariants as permissions
use Rattle.sc_dag.specs.Reports.{after_hold}
use Rattle.sc_ids.specs.declared.attempts.AttemptId.{AttemptId}
use Rattle.sc_core.specs.CoreData.{CoreData, is_of, job_runs, result_stage, with_dag}
use Rattle.sc_core.specs.Posts.{is_save}
use Rattle.sc_core.specs.declared.answers.SideAnswer.{SideAnswer}
use Rattle.sc_core.specs.declared.answers.SideAnswer.TheVariants as says
use Rattle.sc_core.specs.declared.events.FileOutcome.{FileOutcome}
use Rattle.sc_core.specs.declared.events.FileOutcome.TheVariants.{Done, Failed}
use Rattle.sc_core.specs.declared.running.Phase.{Phase}
use Rattle.sc_core.specs.declared.running.Phase.TheVariants as phases
use Rattle.sc_core.specs.declared.running.Running.{Running}

-- ---- which attempt comes next

-- a running attempt has these numbers and is out
abbrev pub is_out_of : AttemptId → Running → Bool
is_out_of a r = is_of a r && r.is_out

-- how far an attempt has come that runs and is out
abbrev pub phase_out : AttemptId → List Running → Option Phase
phase_out a running = option_map (λ r. r.phase) (find (is_out_of a) running)

-- a job runs and saves, and an attempt is of its result stage
abbrev pub may_save : CoreData → AttemptId → Bool
may_save c a = job_runs c && (is_save c.committers && (a.stage == result_stage c.dag))

-- how far an attempt has come that may save: one of the result stage of a running save that runs
-- and is out
abbrev pub saver_phase : CoreData → AttemptId → Option Phase
saver_phase c a = if may_save c a then phase_out a c.running else None

abbrev pub is_given : Option Phase → Bool
is_given None = false
is_given (Some phases.Given) = true
is_given (Some phase) = false

abbrev pub is_staged : Option Phase → Bool
is_staged None = false
is_staged (Some phases.Staged) = true
is_staged (Some phase) = false

abbrev pub is_granted : Option Phase → Bool
is_granted None = false
is_granted (Some phases.Granted) = true
is_granted (Some phase) = false

-- ---- how far it comes

-- an attempt, which has come this far where it is this one and is out
abbrev pub as_far : AttemptId → Phase → Running → Running
as_far a phase r = if is_out_of a r then record r { phase = phase } else r

abbrev pub come_to : CoreData → AttemptId → Phase → CoreData
come_to c a phase = record c { running = map (as_far a phase) c.running }

-- ---- the three steps

abbrev pub staged_by : FileOutcome → Phase
staged_by Done = phases.Staged
staged_by (Failed fault) = phases.Faulted fault

abbrev pub stage_answer : FileOutcome → SideAnswer
stage_answer Done = says.Staged
stage_answer (Failed fault) = says.Fault fault

-- it has written its output aside, or failed to
abbrev pub StagesIf : Bool → CoreData → AttemptId → FileOutcome → SideAnswer → CoreData → Type 0
StagesIf false c a wrote said after = (said ≡ says.Over) × (after ≡ c)
StagesIf true c a wrote said after =
    (said ≡ stage_answer wrote) × (after ≡ come_to c a (staged_by wrote))

-- the committers, once it has asked
abbrev pub asked : CoreData → AttemptId → CoreData
asked c a = record c { committers = after_ask c.committers a true }

-- where its committer denies, its partition is held back
abbrev pub held_back : CoreData → AttemptId → CoreData
held_back c a =
    with_dag c
    (if denies (committer_at c.committers a.partition)
    then after_hold c.dag a.stage a.partition true else c.dag)

-- What the committers answer. Who is denied by a live grant is tried again only once that is freed.
abbrev pub AsksBy : Permission → CoreData → AttemptId → SideAnswer → CoreData → Type 0
AsksBy permissions.Granted c a said after =
    (said ≡ says.Granted) × (after ≡ come_to (asked c a) a phases.Granted)
AsksBy (permissions.Denied by) c a said after =
    (said ≡ says.Denied by) × (after ≡ come_to (held_back (asked c a) a) a phases.Denied)
AsksBy permissions.Over c a said after = (said ≡ says.Over) × (after ≡ c)

-- it asks whether it may commit
abbrev pub AsksIf : Bool → CoreData → AttemptId → SideAnswer → CoreData → Type 0
AsksIf false c a said after = (said ≡ says.Over) × (after ≡ c)
AsksIf true c a said after = AsksBy (answer_to c.committers a true) c a said after

abbrev pub moved_by : FileOutcome → Phase
moved_by Done = phases.Moved
moved_by (Failed fault) = phases.Faulted fault

abbrev pub move_answer : FileOutcome → SideAnswer
move_answer Done = says.Moved
move_answer (Failed fault) = says.Fault fault

-- it has moved its output, or failed to; the grant is kept until its report is told
abbrev pub MovesIf : Bool → CoreData → AttemptId → FileOutcome → SideAnswer → CoreData → Type 0
MovesIf false c a renamed said after = (said ≡ says.Over) × (after ≡ c)
MovesIf true c a renamed said after =
    (said ≡ move_answer renamed) × (after ≡ come_to c a (moved_by renamed))
