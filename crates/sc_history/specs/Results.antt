-- How often a journal tells the result of a partition.
use Rattle.std.specs.Prelude.{ℕ, ◌==◌, ◌<◌, ◌≤◌, ◌≡◌, ◌&&◌, Bool, true, false, List, Option, count_by}
use Rattle.sc_ids.specs.Graphs.{StageData}
use Rattle.sc_ids.specs.declared.limits.Limits.{Limits}
use Rattle.sc_plan.specs.declared.lines.PlanLine.{PlanLine}
use Rattle.sc_dag.specs.DagData.{stage_at}
use Rattle.sc_core.specs.CoreData.{CoreData, result_stage}
use Rattle.sc_core.specs.Journals.{Replays}
use Rattle.sc_core.specs.Openings.{IsOpening}
use Rattle.sc_core.specs.Sound.{IsSoundCore}
use Rattle.sc_core.specs.declared.answers.Answer.{Answer}
use Rattle.sc_core.specs.declared.answers.Answer.TheVariants as says
use Rattle.sc_core.specs.declared.answers.JobState.TheVariants as jobs
use Rattle.sc_core.specs.declared.entries.Entry.{Entry}
use Rattle.sc_history.specs.Tellings.{Telling, tellings}

-- a partition has its result
abbrev pub is_finish : Answer → Bool
is_finish says.Finished = true
is_finish answer = false

-- a report gave the result of a partition of a stage
abbrev pub finishes : ℕ → ℕ → Telling → Bool
finishes stage partition t =
    (t.attempt.stage == stage) && ((t.attempt.partition == partition) && is_finish t.answer)

-- how many reports did
abbrev pub times_finished : List Telling → ℕ → ℕ → ℕ
times_finished told stage partition = count_by (finishes stage partition) told

-- no partition gets its result twice, and each one of the result stage has it in a job that is done
abbrev pub ResultsAreOnce : Type 0
ResultsAreOnce =
    (graph : List StageData) (limits : Limits) (saves : Bool) (plan : List PlanLine)
    (last : Option CoreData) (opening end : CoreData) (entries : List Entry)
    → IsOpening graph limits saves plan last opening → IsSoundCore opening
    → (replays : Replays opening entries end)
    → ((stage partition : ℕ)
    → times_finished (tellings opening entries end replays) stage partition ≤ 1)
    × ((partition : ℕ) → end.job ≡ jobs.Done
    → partition < (stage_at end.dag (result_stage end.dag)).tasks
    → times_finished (tellings opening entries end replays) (result_stage end.dag) partition ≡ 1)
