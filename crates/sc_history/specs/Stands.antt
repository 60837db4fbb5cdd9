-- What stands of the output of an attempt of a save, as the entries tell.
use Rattle.std.specs.Prelude.{ℕ, ◌≡◌, List, [], ◌∷◌, Bool, All, Option, Some, if◌then◌else◌}
use Rattle.sc_commit.specs.CommitLaws.{winner_of}
use Rattle.sc_commit.specs.Committing.{is_same}
use Rattle.sc_ids.specs.Graphs.{StageData}
use Rattle.sc_ids.specs.declared.attempts.AttemptId.{AttemptId}
use Rattle.sc_ids.specs.declared.limits.Limits.{Limits}
use Rattle.sc_plan.specs.declared.lines.PlanLine.{PlanLine}
use Rattle.sc_core.specs.CoreData.{CoreData}
use Rattle.sc_core.specs.Journals.{Replays}
use Rattle.sc_core.specs.Openings.{IsOpening}
use Rattle.sc_core.specs.Sound.{IsSoundCore}
use Rattle.sc_core.specs.declared.answers.Answer.{Answer}
use Rattle.sc_core.specs.declared.answers.Answer.TheVariants as says
use Rattle.sc_core.specs.declared.answers.SideAnswer.{SideAnswer}
use Rattle.sc_core.specs.declared.answers.SideAnswer.TheVariants as sides
use Rattle.sc_core.specs.declared.entries.Entry.{Entry}
use Rattle.sc_core.specs.declared.events.Event.{Event}
use Rattle.sc_core.specs.declared.events.Event.TheVariants.{Side}
use Rattle.sc_core.specs.declared.events.SideEvent.TheVariants.{Move, Stage}
use Rattle.sc_core.specs.declared.running.Phase.{Phase}
use Rattle.sc_core.specs.declared.running.Phase.TheVariants as phases

-- what stands of an output: nothing, all of it aside, all of it where it counts, or, once a call on
-- the files failed, nobody knows what
pub data Stand : Type 0 where
  nothing : Stand
  staged : Stand
  committed : Stand
  unknown : Stand

-- what an answer tells of it
abbrev pub stand_by : SideAnswer → Stand → Stand
stand_by sides.Staged before = staged
stand_by sides.Moved before = committed
stand_by (sides.Fault fault) before = unknown
stand_by answer before = before

-- what an answer leaves of it
abbrev pub stand_with : Answer → Stand → Stand
stand_with (says.Side said) before = stand_by said before
stand_with answer before = before

-- what an event of an attempt leaves of its output: only its own calls on the files change that
abbrev pub stand_after : AttemptId → Event → Answer → Stand → Stand
stand_after a (Side (Stage attempt wrote)) answer before =
    if is_same attempt a then stand_with answer before else before
stand_after a (Side (Move attempt renamed)) answer before =
    if is_same attempt a then stand_with answer before else before
stand_after a event answer before = before

-- what some more entries leave of it
abbrev pub stand_from : AttemptId → Stand → List Entry → Stand
stand_from a before [] = before
stand_from a before (e ∷ entries) =
    stand_from a (stand_after a e.event e.answer before) entries

-- what stands of the output of an attempt behind some entries of a journal
abbrev pub stand_of : AttemptId → List Entry → Stand
stand_of a entries = stand_from a nothing entries

-- what stands of it as far as its attempt has come
abbrev pub StandsAsFar : Phase → Stand → Type 0
StandsAsFar phases.Given stand = Unit {0}
StandsAsFar phases.Staged stand = stand ≡ staged
StandsAsFar phases.Granted stand = stand ≡ staged
StandsAsFar phases.Denied stand = stand ≡ staged
StandsAsFar phases.Moved stand = stand ≡ committed
StandsAsFar (phases.Faulted fault) stand = stand ≡ unknown

-- The output of each running attempt stands as far as this has come, and that of each one that has
-- won stands where it counts.
abbrev pub StandsAreTold : Type 0
StandsAreTold =
    (graph : List StageData) (limits : Limits) (saves : Bool) (plan : List PlanLine)
    (last : Option CoreData) (opening end : CoreData) (entries : List Entry)
    → IsOpening graph limits saves plan last opening → IsSoundCore opening
    → Replays opening entries end
    → All (λ r. StandsAsFar r.phase (stand_of r.hand_out.attempt entries)) end.running
    × ((p : ℕ) (winner : AttemptId) → winner_of end.committers p ≡ Some winner
    → stand_of winner entries ≡ committed)
