-- Laws of worlds: what holds of them after every list of steps.
use Rattle.std.specs.Prelude.{ℕ, ◌≡◌, ◌≢◌, ◌≤◌, List, [], ◌++◌, All, Option, Some, None, slice_get}
use Rattle.sc_ids.specs.declared.attempts.Mark.TheVariants.{Driver}
use Rattle.sc_ids.specs.declared.blocks.BlockId.{BlockId}
use Rattle.sc_ids.specs.declared.blocks.Loc.{Loc}
use Rattle.sc_lineage.specs.ScriptData.{WorkData}
use Rattle.sc_core.specs.CoreData.{CoreData}
use Rattle.sc_core.specs.Openings.{IsOpening}
use Rattle.sc_core.specs.Sound.{IsSoundCore}
use Rattle.sc_core.specs.declared.entries.Entry.{Entry}
use Rattle.sc_jobs.specs.JobData.{saves}
use Rattle.sc_store.specs.StoreData.{StoreData, output_in}
use Rattle.sc_net.specs.Reports.{IsTrueReport, report_data}
use Rattle.sc_net.specs.Tasks.{TaskData}
use Rattle.sc_net.specs.declared.findings.Finding.{Finding}
use Rattle.sc_task.specs.Attempts.{assigned, reported}
use Rattle.sc_task.specs.Nexts.{next_of}
use Rattle.sc_task.specs.declared.next.Next.TheVariants.{Fetch, Missing}
use Rattle.sc_desk.specs.DeskData.{DeskData, core_of}
use Rattle.sc_desk.specs.Dues.{IsInTime}
use Rattle.sc_desk.specs.Posts.{IsKnown}
use Rattle.sc_desk.specs.Sound.{IsSoundDesk}
use Rattle.sc_world.specs.Runs.{AreReady, IsWorld, Reaches, idle_world}
use Rattle.sc_world.specs.Steps.{Goes}
use Rattle.sc_world.specs.WorldData.{WorldData, core_in, held_at}
use Rattle.sc_world.specs.declared.steps.Applied.{Applied}
use Rattle.sc_world.specs.declared.steps.Step.{Step}

-- what one step leaves is sound, where the desk that it leaves is right by its type
abbrev pub StepsKeepSound : Type 0
StepsKeepSound =
    (work : WorkData) (w after : WorldData) (step : Step) (answer : Applied) → IsWorld work w
    → Goes work w step answer after → IsSoundDesk work after.desk → IsWorld work after

-- where a job begins over stores that have what its tracker knows, there is a world
abbrev pub WorldsBegin : Type 0
WorldsBegin =
    (work : WorkData) (last : Option CoreData) (desk : DeskData) (stores : List StoreData)
    → IsSoundCore (core_of desk) → IsSoundDesk work desk
    → IsOpening desk.job.graph work.limits (saves work desk.job.goal) work.plan last
    (core_of desk)
    → desk.shelf ≡ []
    → AreReady work stores (core_of desk).dag.tracker (core_of desk).told
    → IsWorld work (idle_world work desk stores)

-- and where it has ended the stores are ready for the next one
abbrev pub WorldsLeaveReady : Type 0
WorldsLeaveReady =
    (work : WorkData) (w : WorldData) → IsWorld work w
    → AreReady work w.stores (core_in w).dag.tracker (core_in w).told

-- Whatever was wiped: a block that an attempt fetches lies in the store of its location, where that
-- isn't past the location's generation, and a store is there.
abbrev pub FetchesFind : Type 0
FetchesFind =
    (work : WorkData) (w : WorldData) (exec : ℕ) (t : TaskData) (got : ℕ) (block : BlockId)
    (loc : Loc) → IsWorld work w → held_at w exec ≡ Some (assigned t got)
    → next_of t got ≡ Fetch block loc
    → (store : StoreData) × (slice_get w.stores loc.exec ≡ Some store)
    × (store.generation ≤ loc.generation → output_in store block ≢ None)

-- a block that has no location for an attempt lay somewhere before
abbrev pub MissesAreKnown : Type 0
MissesAreKnown =
    (work : WorkData) (w : WorldData) (exec : ℕ) (t : TaskData) (got : ℕ) → IsWorld work w
    → held_at w exec ≡ Some (assigned t got) → next_of t got ≢ Missing None

-- a true report that an executor holds is no stranger to the desk, and speaks of no generation that
-- no wipe has brought yet
abbrev pub ReportsAreKnown : Type 0
ReportsAreKnown =
    (work : WorkData) (w : WorldData) (exec : ℕ) (t : TaskData) (finding : Finding)
    → IsWorld work w → held_at w exec ≡ Some (reported t finding) → IsTrueReport work t finding
    → IsKnown w.desk (report_data t finding) × IsInTime work (core_in w).told finding

-- all that was entered at a desk since another one is the driver's
abbrev pub DriverEnters : DeskData → DeskData → Type 0
DriverEnters before after =
    (more : List Entry) × (after.journal.entries ≡ before.journal.entries ++ more)
    × All (λ e. e.by ≡ Driver) more

-- all that steps enter is the driver's
abbrev pub DriverEntersAll : Type 0
DriverEntersAll =
    (work : WorkData) (w after : WorldData) → Reaches work w after
    → DriverEnters w.desk after.desk
