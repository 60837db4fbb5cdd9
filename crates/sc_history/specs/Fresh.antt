-- Which attempts a journal hands out.
use Rattle.std.specs.Prelude.{◌≢◌, Bool, List, [], ◌∷◌, Option}
use Rattle.std.specs.List.{AllPairs, flat_map}
use Rattle.sc_ids.specs.Graphs.{StageData}
use Rattle.sc_ids.specs.declared.attempts.AttemptId.{AttemptId}
use Rattle.sc_ids.specs.declared.limits.Limits.{Limits}
use Rattle.sc_plan.specs.declared.lines.PlanLine.{PlanLine}
use Rattle.sc_core.specs.CoreData.{CoreData}
use Rattle.sc_core.specs.Journals.{Replays}
use Rattle.sc_core.specs.Openings.{IsOpening}
use Rattle.sc_core.specs.Sound.{IsSoundCore}
use Rattle.sc_core.specs.declared.answers.Answer.{Answer}
use Rattle.sc_core.specs.declared.answers.Answer.TheVariants as says
use Rattle.sc_core.specs.declared.entries.Entry.{Entry}
use Rattle.sc_core.specs.declared.events.Event.{Event}
use Rattle.sc_core.specs.declared.events.Event.TheVariants.{Take}

-- the attempt that an answer hands out
abbrev pub given_with : Answer → List AttemptId
given_with (says.Task h) = h.attempt ∷ []
given_with answer = []

abbrev pub given_by : Event → Answer → List AttemptId
given_by (Take exec) answer = given_with answer
given_by event answer = []

-- the attempts that some entries hand out, in order
abbrev pub attempts_given : List Entry → List AttemptId
attempts_given entries = flat_map (λ e. given_by e.event e.answer) entries

-- no attempt is handed out twice
abbrev pub TakesAreFresh : Type 0
TakesAreFresh =
    (graph : List StageData) (limits : Limits) (saves : Bool) (plan : List PlanLine)
    (last : Option CoreData) (opening end : CoreData) (entries : List Entry)
    → IsOpening graph limits saves plan last opening
    → IsSoundCore opening → Replays opening entries end
    → AllPairs (λ a b. a ≢ b) (attempts_given entries)
