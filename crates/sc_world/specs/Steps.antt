-- The steps of a world: what each of them does, and when it is enabled.
use Rattle.std.specs.Prelude.{ℕ, ◌+◌, ◌<◌, ◌≤◌, ◌≡◌, ◌⊎◌, ◌||◌, Bool, true, false, List, Option, Some, None, if◌then◌else◌, length, slice_get}
use Rattle.sc_ids.specs.declared.attempts.Mark.TheVariants.{Driver}
use Rattle.sc_ids.specs.declared.blocks.Loc.{Loc}
use Rattle.sc_lineage.specs.ScriptData.{WorkData}
use Rattle.sc_lineage.specs.Targets.{own_value}
use Rattle.sc_cache.specs.Caches.{without_last}
use Rattle.sc_core.specs.CoreData.{job_runs}
use Rattle.sc_core.specs.declared.answers.Answer.{Answer}
use Rattle.sc_core.specs.declared.answers.Answer.TheVariants as says
use Rattle.sc_core.specs.declared.answers.SideAnswer.{SideAnswer}
use Rattle.sc_core.specs.declared.answers.SideAnswer.TheVariants as sides
use Rattle.sc_core.specs.declared.events.Event.TheVariants.{Take}
use Rattle.sc_core.specs.declared.events.FileOutcome.{FileOutcome}
use Rattle.sc_core.specs.declared.events.SideEvent.{SideEvent}
use Rattle.sc_core.specs.declared.events.SideEvent.TheVariants.{Ask, Move, Stage, Tick}
use Rattle.sc_compute.specs.declared.results.TaskResult.TheVariants.{Saved}
use Rattle.sc_jobs.specs.JobData.{saves}
use Rattle.sc_desk.specs.Asides.{Notes}
use Rattle.sc_desk.specs.DeskData.{DeskData, core_of}
use Rattle.sc_desk.specs.Dues.{IsOrdered}
use Rattle.sc_desk.specs.Entries.{Enters}
use Rattle.sc_desk.specs.Orders.{IsDueAmong}
use Rattle.sc_desk.specs.Posts.{Receives}
use Rattle.sc_desk.specs.Shelves.{shelf_in}
use Rattle.sc_desk.specs.Tellings.{Releases, TellsLost}
use Rattle.sc_desk.specs.declared.receipts.Noted.{Noted}
use Rattle.sc_desk.specs.declared.receipts.Receipt.{Receipt}
use Rattle.sc_plan.specs.Orders.{wipes_of}
use Rattle.sc_plan.specs.declared.orders.Order.{Order}
use Rattle.sc_store.specs.StoreData.{StoreData, with_cache}
use Rattle.sc_store.specs.Storing.{Wipes}
use Rattle.sc_store.specs.declared.answers.WipeAnswer.{WipeAnswer}
use Rattle.sc_net.specs.Reports.{IsResultOf, loc_at, report_data}
use Rattle.sc_net.specs.Tasks.{TaskData, is_map_task, is_planned, target_of_task, task_data}
use Rattle.sc_net.specs.declared.findings.Finding.{Finding}
use Rattle.sc_net.specs.declared.findings.Finding.TheVariants as findings
use Rattle.sc_task.specs.Attempts.{AttemptData, assigned, computed, granted, reported, staged, stored}
use Rattle.sc_task.specs.Nexts.{next_of}
use Rattle.sc_task.specs.Steps.{FailsAs, PutsOwn}
use Rattle.sc_task.specs.declared.next.Next.{Next}
use Rattle.sc_task.specs.declared.next.Next.TheVariants.{Complete, Fetch, Missing}
use Rattle.sc_world.specs.Caching.{Caches}
use Rattle.sc_world.specs.WorldData.{WorldData, core_in, held_at, with_desk, with_held, with_store}
use Rattle.sc_world.specs.declared.places.AttemptState.{AttemptState}
use Rattle.sc_world.specs.declared.places.AttemptState.TheVariants as phases
use Rattle.sc_world.specs.declared.steps.Applied.{Applied}
use Rattle.sc_world.specs.declared.steps.Applied.TheVariants as applied
use Rattle.sc_world.specs.declared.steps.Kept.{Kept}
use Rattle.sc_world.specs.declared.steps.Step.{Step}
use Rattle.sc_world.specs.declared.steps.Step.TheVariants as steps

-- ---- an executor asks for a task

-- a task that is given is held by the executor, which has read nothing yet
abbrev pub given_to : WorldData → ℕ → DeskData → Answer → WorldData
given_to w exec desk (says.Task h) =
    with_held (with_desk w desk) exec (Some (assigned (task_data w.desk.job h) 0))
given_to w exec desk answer = with_desk w desk

pub record Takes (w : WorldData) (exec : ℕ) (answer : Answer) (after : WorldData) : Type 0 where
  pub desk : DeskData
  pub enters : Enters w.desk Driver (Take exec) answer desk
  pub results : desk.results ≡ w.desk.results
  pub shelf : desk.shelf ≡ shelf_in (core_of desk) w.desk.shelf
  pub is : after ≡ given_to w exec desk answer

-- ---- an attempt reads

-- A block is fetched from the store of its location: it is got exactly where the store isn't past
-- that generation, and else is gone, which is to be reported.
abbrev pub Gets : TaskData → ℕ → Loc → StoreData → AttemptData → Type 0
Gets t got loc store after =
    ((store.generation ≤ loc.generation) × (after ≡ assigned t (got + 1)))
    ⊎ ((loc.generation < store.generation)
    × (after ≡ reported t (findings.Gone loc.exec loc.generation store.generation)))

-- what an attempt is then that reads the next block of its task
abbrev pub ReadsNext : List StoreData → TaskData → ℕ → Next → AttemptData → Type 0
ReadsNext stores t got (Fetch block loc) after =
    (store : StoreData) × (slice_get stores loc.exec ≡ Some store) × Gets t got loc store after
ReadsNext stores t got (Missing (Some last)) after = after ≡ reported t (findings.Metadata last)
ReadsNext stores t got (Missing None) after = ⊥
ReadsNext stores t got Complete after = ⊥

pub record ReadsAt (stores : List StoreData) (before after : Option AttemptData) : Type 0 where
  pub task : TaskData
  pub got : ℕ
  pub held : before ≡ Some (assigned task got)
  pub next : AttemptData
  pub reads : ReadsNext stores task got (next_of task got) next
  pub is : after ≡ Some next

-- ---- an attempt computes

-- what a task computes is put or written before it is reported: that of a map task is a block, and
-- that of a save's result task a part
abbrev pub is_put_aside : WorkData → TaskData → Bool
is_put_aside work t = is_map_task t || saves work t.job.goal

-- what an attempt has then, of which nothing raises: what is to be put aside, or what it hands
-- over, to report
abbrev pub HasMade : WorkData → TaskData → AttemptData → Type 0
HasMade work t (computed made) = (made ≡ t) × (is_put_aside work t ≡ true)
HasMade work t (reported task (findings.Result given)) =
    (task ≡ t) × (is_put_aside work t ≡ false) × IsResultOf work t given
HasMade work t attempt = ⊥

-- an attempt fails as planned, or its own value raises, or it has made it
abbrev pub Makes : WorkData → TaskData → AttemptData → Type 0
Makes work t after =
    ((finding : Finding) × FailsAs work t finding × (after ≡ reported t finding))
    ⊎ ((is_planned work t ≡ false) × ((own_value work (target_of_task work t)).raise ≡ None)
    × HasMade work t after)

-- An executor's attempt that has read all computes, and its store uses and keeps cached partitions.
pub record Computes (work : WorkData) (w : WorldData) (exec : ℕ) (kept : Kept) (after : WorldData)
    : Type 0 where
  pub task : TaskData
  pub got : ℕ
  pub held : held_at w exec ≡ Some (assigned task got)
  pub complete : next_of task got ≡ Complete
  pub next : AttemptData
  pub makes : Makes work task next
  pub store : StoreData
  pub own : slice_get w.stores exec ≡ Some store
  pub cached : StoreData
  pub caches : Caches work task kept store cached
  pub is : after ≡ with_held (with_store w exec cached) exec (Some next)

-- ---- a map task puts its block

pub record Puts (work : WorkData) (w : WorldData) (exec : ℕ) (loc : Loc) (after : WorldData)
    : Type 0 where
  pub task : TaskData
  pub held : held_at w exec ≡ Some (computed task)
  pub store : StoreData
  pub own : slice_get w.stores exec ≡ Some store
  pub next : StoreData
  pub puts : PutsOwn work task store next
  pub loc_is : loc ≡ loc_at exec store.generation
  pub is : after ≡ with_held (with_store w exec next) exec (Some (reported task (findings.Map loc)))

-- ---- an attempt of a save writes its part, asks whether it may commit, and moves it

-- what an executor has of an attempt that was to write its part, by the answer: nothing any more
-- where the attempt was over
abbrev pub after_stage : TaskData → SideAnswer → Option AttemptData
after_stage t sides.Staged = Some (staged t)
after_stage t (sides.Fault fault) = Some (reported t (findings.Device fault))
after_stage t said = None

-- of one that was to ask
abbrev pub after_ask : TaskData → SideAnswer → Option AttemptData
after_ask t sides.Granted = Some (granted t)
after_ask t (sides.Denied by) = Some (reported t findings.Denied)
after_ask t said = None

-- and of one that was to move its part
abbrev pub after_move : TaskData → SideAnswer → Option AttemptData
after_move t sides.Moved = Some (reported t (findings.Result Saved))
after_move t (sides.Fault fault) = Some (reported t (findings.Device fault))
after_move t said = None

-- what an executor has of an attempt that did one of the three
abbrev pub after_side : AttemptData → SideAnswer → Option AttemptData
after_side (computed t) said = after_stage t said
after_side (staged t) said = after_ask t said
after_side (granted t) said = after_move t said
after_side a said = None

-- an executor's attempt, which was so, does something beside the reports
pub record GoesAside (w : WorldData) (exec : ℕ) (before : AttemptData) (event : SideEvent)
    (answer : SideAnswer) (after : WorldData) : Type 0 where
  pub held : held_at w exec ≡ Some before
  pub desk : DeskData
  pub noted : Noted
  pub notes : Notes w.desk Driver event noted desk
  pub told : answer ≡ noted.answer
  pub is : after ≡ with_held (with_desk w desk) exec (after_side before answer)

-- it writes its part, with this outcome where it comes next
pub record Stages (w : WorldData) (exec : ℕ) (answer : SideAnswer) (after : WorldData) : Type 0
  where
    pub task : TaskData
    pub part : is_map_task task ≡ false
    pub wrote : FileOutcome
    pub goes : GoesAside w exec (computed task) (Stage task.hand_out.attempt wrote) answer after

-- it asks
pub record AsksOne (w : WorldData) (exec : ℕ) (answer : SideAnswer) (after : WorldData) : Type 0
  where
    pub task : TaskData
    pub goes : GoesAside w exec (staged task) (Ask task.hand_out.attempt) answer after

-- it moves its part
pub record Moves (w : WorldData) (exec : ℕ) (answer : SideAnswer) (after : WorldData) : Type 0
  where
    pub task : TaskData
    pub renamed : FileOutcome
    pub goes : GoesAside w exec (granted task) (Move task.hand_out.attempt renamed) answer after

-- ---- an attempt reports

pub record Posts (work : WorkData) (w : WorldData) (exec : ℕ) (answer : Answer) (after : WorldData)
    : Type 0 where
  pub task : TaskData
  pub finding : Finding
  pub held : held_at w exec ≡ Some (reported task finding)
  pub desk : DeskData
  pub receipt : Receipt
  pub receives : Receives work w.desk Driver (report_data task finding) receipt desk
  pub told : answer ≡ receipt.answer
  pub is : after ≡ with_held (with_desk w desk) exec None

-- ---- a report is told that was to be told later, and an executor is told lost

pub record ReleasesOne (w : WorldData) (key : ℕ) (answer : Answer) (after : WorldData) : Type 0
  where
    pub desk : DeskData
    pub receipt : Receipt
    pub releases : Releases w.desk Driver key receipt desk
    pub told : answer ≡ receipt.answer
    pub is : after ≡ with_desk w desk

pub record LosesOne (w : WorldData) (exec : ℕ) (answer : Answer) (after : WorldData) : Type 0 where
  pub desk : DeskData
  pub receipt : Receipt
  pub tells : TellsLost w.desk Driver exec receipt desk
  pub told : answer ≡ receipt.answer
  pub is : after ≡ with_desk w desk

-- ---- the time is entered

pub record TicksOne (w : WorldData) (now : ℕ) (answer : SideAnswer) (after : WorldData) : Type 0
  where
    pub desk : DeskData
    pub noted : Noted
    pub notes : Notes w.desk Driver (Tick now) noted desk
    pub told : answer ≡ noted.answer
    pub is : after ≡ with_desk w desk

-- ---- a store is wiped, or lets a cached block go

-- while the job runs, by a wipe of the plan that is due
pub record WipesOne (work : WorkData) (w : WorldData) (order : Order) (answer : WipeAnswer)
    (after : WorldData) : Type 0 where
  pub runs : job_runs (core_in w) ≡ true
  pub due : IsDueAmong (wipes_of work.plan order.exec) (core_in w).told order
  pub store : StoreData
  pub own : slice_get w.stores order.exec ≡ Some store
  pub next : StoreData
  pub wipes : Wipes store order.number answer next
  pub is : after ≡ with_store w order.exec next

pub record EvictsOne (w : WorldData) (exec : ℕ) (after : WorldData) : Type 0 where
  pub runs : job_runs (core_in w) ≡ true
  pub store : StoreData
  pub own : slice_get w.stores exec ≡ Some store
  pub is : after ≡ with_store w exec (with_cache store (without_last store.cache))

-- ---- the next order is handed out

-- while the job runs, the order of the plan that comes next, if one is due
pub record HandsOrder (work : WorkData) (w : WorldData) (order : Option Order) (after : WorldData)
    : Type 0 where
  pub runs : job_runs (core_in w) ≡ true
  pub desk : DeskData
  pub ordered : IsOrdered work w.desk order desk
  pub is : after ≡ with_desk w desk

-- ---- any step

-- an executor's attempt reads, and nothing else changes
pub record Reads (w : WorldData) (exec : ℕ) (after : WorldData) : Type 0 where
  pub held : Option AttemptData
  pub reads : ReadsAt w.stores (held_at w exec) held
  pub is : after ≡ with_held w exec held

-- what one step that is enabled answers, and what it leaves of a world
abbrev pub Does : WorkData → WorldData → Step → Applied → WorldData → Type 0
Does work w (steps.Take exec) (applied.Told answer) after =
    (exec < length w.held) × Takes w exec answer after
Does work w (steps.Read exec) applied.Done after = Reads w exec after
Does work w (steps.Compute exec) (applied.Computed kept) after = Computes work w exec kept after
Does work w (steps.Put exec) (applied.Put loc) after = Puts work w exec loc after
Does work w (steps.Stage exec) (applied.Noted answer) after = Stages w exec answer after
Does work w (steps.Ask exec) (applied.Noted answer) after = AsksOne w exec answer after
Does work w (steps.Move exec) (applied.Noted answer) after = Moves w exec answer after
Does work w (steps.Post exec) (applied.Told answer) after = Posts work w exec answer after
Does work w (steps.Release key) (applied.Told answer) after = ReleasesOne w key answer after
Does work w (steps.TellLost exec) (applied.Told answer) after = LosesOne w exec answer after
Does work w (steps.Tick now) (applied.Noted answer) after = TicksOne w now answer after
Does work w (steps.Wipe order) (applied.Wipe answer) after = WipesOne work w order answer after
Does work w (steps.Evict exec) applied.Done after = EvictsOne w exec after
Does work w steps.NextOrder (applied.Ordered order) after = HandsOrder work w order after
Does work w step answer after = ⊥

-- a step isn't enabled: there is nothing that it could answer and leave
abbrev pub IsNotEnabled : WorkData → WorldData → Step → Type 0
IsNotEnabled work w step =
    (answer : Applied) (after : WorldData) → Does work w step answer after → ⊥

-- what any step answers and leaves: one that isn't enabled changes nothing
abbrev pub Goes : WorkData → WorldData → Step → Applied → WorldData → Type 0
Goes work w step applied.NotEnabled after = IsNotEnabled work w step × (after ≡ w)
Goes work w step answer after = Does work w step answer after

-- ---- what comes next for an attempt

-- what an attempt that reads does next
abbrev pub phase_reading : Next → AttemptState
phase_reading (Fetch block loc) = phases.Reads
phase_reading (Missing last) = phases.Reads
phase_reading Complete = phases.Computes

-- how far the attempt is that an executor may have out
abbrev pub phase_of : Option AttemptData → AttemptState
phase_of None = phases.Idle
phase_of (Some (assigned t got)) = phase_reading (next_of t got)
phase_of (Some (computed t)) = if is_map_task t then phases.Puts else phases.Stages
phase_of (Some (stored t loc)) = phases.Reports
phase_of (Some (staged t)) = phases.Asks
phase_of (Some (granted t)) = phases.Moves
phase_of (Some (reported t finding)) = phases.Reports
