-- How entries of a journal are written: one line each.
use Rattle.std.specs.Prelude.{ℕ, List, [], ◌∷◌, ◌++◌, Some, None, codes, decimal}
use Rattle.std.specs.List.{flat_map}
use Rattle.sc_expr.specs.RaiseTexts.{raise_text}
use Rattle.sc_ids.specs.Attempts.{attempt_text}
use Rattle.sc_ids.specs.declared.attempts.Mark.{Mark}
use Rattle.sc_ids.specs.declared.attempts.Mark.TheVariants as marks
use Rattle.sc_ids.specs.declared.blocks.Loc.{Loc}
use Rattle.sc_ids.specs.declared.failures.FailureCause.{FailureCause}
use Rattle.sc_ids.specs.declared.failures.FailureCause.TheVariants as causes
use Rattle.sc_ids.specs.declared.failures.Fault.{Fault}
use Rattle.sc_tracker.specs.declared.outputs.Location.{Location}
use Rattle.sc_tracker.specs.declared.outputs.Location.TheVariants.{Here, Missing}
use Rattle.sc_core.specs.HandOuts.{HandOutData}
use Rattle.sc_core.specs.declared.answers.Abort.{Abort}
use Rattle.sc_core.specs.declared.answers.Abort.TheVariants as aborts
use Rattle.sc_core.specs.declared.answers.Answer.{Answer}
use Rattle.sc_core.specs.declared.answers.Answer.TheVariants as says
use Rattle.sc_core.specs.declared.answers.SideAnswer.{SideAnswer}
use Rattle.sc_core.specs.declared.answers.SideAnswer.TheVariants as sides
use Rattle.sc_core.specs.declared.entries.Entry.{Entry}
use Rattle.sc_core.specs.declared.events.Event.{Event}
use Rattle.sc_core.specs.declared.events.Event.TheVariants.{Post, Release, Side, Take, TellLost}
use Rattle.sc_core.specs.declared.events.SideEvent.{SideEvent}
use Rattle.sc_core.specs.declared.events.SideEvent.TheVariants.{Ask, Leave, Move, Stage, Tick}
use Rattle.sc_core.specs.declared.events.Outcome.{Outcome}
use Rattle.sc_core.specs.declared.events.Outcome.TheVariants as outcomes

-- an executor's store at a generation
abbrev pub loc_text : Loc → List ℕ
loc_text loc = decimal loc.exec ++ codes "@" ++ decimal loc.generation

-- where an input lies; one that is missing has a hyphen, and where it was last
abbrev pub location_text : Location → List ℕ
location_text (Here loc) = loc_text loc
location_text (Missing None) = codes "-"
location_text (Missing (Some last)) = codes "-" ++ loc_text last

-- where inputs lie, each behind a space
abbrev pub locations_text : List Location → List ℕ
locations_text inputs = flat_map (λ at. codes " " ++ location_text at) inputs

-- the same of a task, where it has inputs
abbrev pub inputs_text : List Location → List ℕ
inputs_text [] = []
inputs_text (at ∷ inputs) = codes ", from" ++ locations_text (at ∷ inputs)

-- a task handed out
abbrev pub task_text : HandOutData → List ℕ
task_text h =
    codes "task " ++ attempt_text h.attempt ++ codes ", epoch " ++ decimal h.epoch
    ++ inputs_text h.inputs

-- a call on the files that failed: what they had counted before it and after it
abbrev pub fault_text : Fault → List ℕ
fault_text fault =
    codes "device, faults " ++ decimal fault.before.faults ++ codes " to "
    ++ decimal fault.after.faults ++ codes ", clashes " ++ decimal fault.before.clashes
    ++ codes " to " ++ decimal fault.after.clashes

abbrev pub cause_text : FailureCause → List ℕ
cause_text causes.Planned = codes "planned"
cause_text (causes.Raised raise) = codes "raised " ++ raise_text raise
cause_text (causes.Device fault) = fault_text fault
cause_text (causes.Gone exec wanted found) =
    codes "gone " ++ decimal exec ++ codes "@" ++ decimal wanted ++ codes " found "
    ++ decimal found
cause_text (causes.Metadata last) = codes "missing -" ++ loc_text last
cause_text causes.Denied = codes "denied"

abbrev pub outcome_text : Outcome → List ℕ
outcome_text (outcomes.Map loc) = codes "map at " ++ loc_text loc
outcome_text outcomes.Result = codes "result"
outcome_text (outcomes.Failed cause) = codes "failed: " ++ cause_text cause

abbrev pub side_event_text : SideEvent → List ℕ
side_event_text (Leave exec) = codes "leave " ++ decimal exec
side_event_text (Tick now) = codes "tick " ++ decimal now
side_event_text (Stage attempt wrote) = codes "stage " ++ attempt_text attempt
side_event_text (Ask attempt) = codes "ask " ++ attempt_text attempt
side_event_text (Move attempt renamed) = codes "move " ++ attempt_text attempt

abbrev pub event_text : Event → List ℕ
event_text (Take exec) = codes "take"
event_text (Post attempt outcome) =
    codes "post " ++ attempt_text attempt ++ codes " " ++ outcome_text outcome
event_text (Release key) = codes "release " ++ decimal key
event_text (TellLost exec) = codes "lost " ++ decimal exec
event_text (Side event) = side_event_text event

-- a partition that failed as often as is allowed in an attempt of its stage
abbrev pub limit_text : ℕ → ℕ → ℕ → List ℕ
limit_text stage number partition =
    codes "task limit of " ++ decimal stage ++ codes "." ++ decimal number
    ++ codes " partition " ++ decimal partition

abbrev pub abort_text : Abort → List ℕ
abort_text (aborts.TaskLimit stage number partition) = limit_text stage number partition
abort_text (aborts.StageLimit stage) = codes "stage limit of " ++ decimal stage
abort_text aborts.NoExecutor = codes "no executor"
abort_text aborts.Budget = codes "budget"

abbrev pub side_answer_text : SideAnswer → List ℕ
side_answer_text sides.Ignored = codes "ignored"
side_answer_text sides.Left = codes "left"
side_answer_text sides.Ticked = codes "ticked"
side_answer_text sides.Over = codes "over"
side_answer_text sides.Staged = codes "staged"
side_answer_text sides.Granted = codes "granted"
side_answer_text (sides.Denied by) = codes "denied by " ++ attempt_text by
side_answer_text sides.Moved = codes "moved"
side_answer_text (sides.Fault fault) = fault_text fault

abbrev pub answer_text : Answer → List ℕ
answer_text (says.Task h) = task_text h
answer_text (says.Wait out) = codes "wait for " ++ attempt_text out
answer_text (says.Busy held) = codes "busy with " ++ attempt_text held
answer_text says.Lost = codes "lost"
answer_text (says.Stopped exec) = codes "stopped by " ++ decimal exec
answer_text says.Ended = codes "ended"
answer_text (says.Aborted why) = codes "aborted: " ++ abort_text why
answer_text says.Ignored = codes "ignored"
answer_text says.Shelved = codes "shelved"
answer_text says.Told = codes "told"
answer_text says.Repeated = codes "repeated"
answer_text says.Registered = codes "registered"
answer_text says.Bogus = codes "bogus"
answer_text says.Finished = codes "finished"
answer_text says.Again = codes "again"
answer_text says.Resubmitted = codes "resubmitted"
answer_text (says.Side said) = side_answer_text said

abbrev pub mark_text : Mark → List ℕ
mark_text (marks.Exec exec) = decimal exec
mark_text marks.Driver = codes "driver"

-- an entry: who, what, and what it was answered
abbrev pub entry_text : Entry → List ℕ
entry_text e =
    mark_text e.by ++ codes " " ++ event_text e.event ++ codes ": " ++ answer_text e.answer
