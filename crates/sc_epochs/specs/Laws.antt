-- Laws of epochs in worlds.
use Rattle.std.specs.Prelude.{ℕ, ◌≡◌, true, List, [], Some}
use Rattle.sc_ids.specs.declared.blocks.Loc.{Loc}
use Rattle.sc_lineage.specs.ScriptData.{WorkData}
use Rattle.sc_tracker.specs.TrackerData.{trust_of}
use Rattle.sc_tracker.specs.Trust.{is_marked}
use Rattle.sc_core.specs.CoreData.{running_of, shelved_of}
use Rattle.sc_core.specs.declared.answers.Answer.TheVariants as says
use Rattle.sc_core.specs.declared.events.Outcome.TheVariants as outcomes
use Rattle.sc_core.specs.declared.running.Running.{Running}
use Rattle.sc_core.specs.declared.running.Shelved.{Shelved}
use Rattle.sc_net.specs.Tasks.{TaskData}
use Rattle.sc_net.specs.declared.findings.Finding.TheVariants as findings
use Rattle.sc_store.specs.StoreData.{StoreData}
use Rattle.sc_task.specs.Attempts.{reported}
use Rattle.sc_desk.specs.DeskData.{DeskData}
use Rattle.sc_world.specs.Runs.{IsWorld, idle_world}
use Rattle.sc_world.specs.Steps.{Goes}
use Rattle.sc_world.specs.WorldData.{WorldData, core_in, held_at}
use Rattle.sc_world.specs.declared.steps.Applied.{Applied}
use Rattle.sc_world.specs.declared.steps.Applied.TheVariants as applied
use Rattle.sc_world.specs.declared.steps.Step.{Step}
use Rattle.sc_world.specs.declared.steps.Step.TheVariants as steps
use Rattle.sc_epochs.specs.Found.{FindsStale}
use Rattle.sc_epochs.specs.Worlds.{ComesAbout}

-- ---- outputs that may be lost

-- where a job begins nothing is out, and nothing is to be told later
abbrev pub BeginningsFindStale : Type 0
BeginningsFindStale =
    (work : WorkData) (desk : DeskData) (stores : List StoreData) → desk.shelf ≡ []
    → FindsStale (idle_world work desk stores)

-- what epochs find in a world they find behind each step
abbrev pub StepsFindStale : Type 0
StepsFindStale =
    (work : WorkData) (w after : WorldData) (step : Step) (answer : Applied) → IsWorld work w
    → FindsStale w → Goes work w step answer after → FindsStale after

-- so they do in every world that a job comes to
abbrev pub WorldsFindStale : Type 0
WorldsFindStale =
    (work : WorkData) (w : WorldData) → ComesAbout work w → IsWorld work w × FindsStale w

-- A map output that is answered bogus, as its report is posted or told late, is one that the epoch
-- of its task rules out: it is at or below the executor's mark. None is refused by its generation
-- alone.
abbrev pub EpochsFindBogus : Type 0
EpochsFindBogus =
    (work : WorkData) (w after : WorldData) (loc : Loc) → IsWorld work w → FindsStale w
    → ((exec : ℕ) (task : TaskData)
    → held_at w exec ≡ Some (reported task (findings.Map loc))
    → Goes work w (steps.Post exec) (applied.Told says.Bogus) after
    → is_marked (trust_of (core_in w).dag.tracker loc.exec).mark task.hand_out.epoch ≡ true)
    × ((key : ℕ) (s : Shelved) (r : Running) → shelved_of (core_in w) key ≡ Some s
    → s.outcome ≡ outcomes.Map loc → running_of (core_in w) s.attempt ≡ Some r
    → Goes work w (steps.Release key) (applied.Told says.Bogus) after
    → is_marked (trust_of (core_in w).dag.tracker loc.exec).mark r.hand_out.epoch ≡ true)
