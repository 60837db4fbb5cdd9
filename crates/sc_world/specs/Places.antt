-- Attempts in their places: what they need for their next step, and what it leaves.
use Rattle.std.specs.Prelude.{ℕ, ◌≡◌, true, false, List, Option, Some, None, IfSome, slice_get}
use Rattle.sc_base.specs.Lists.{at_or}
use Rattle.sc_ids.specs.Changes.{change_at}
use Rattle.sc_ids.specs.declared.attempts.AttemptId.{AttemptId}
use Rattle.sc_ids.specs.declared.blocks.Loc.{Loc}
use Rattle.sc_core.specs.declared.answers.SideAnswer.{SideAnswer}
use Rattle.sc_lineage.specs.ScriptData.{WorkData}
use Rattle.sc_plan.specs.declared.orders.Order.{Order}
use Rattle.sc_cache.specs.Caches.{without_last}
use Rattle.sc_store.specs.StoreData.{StoreData, with_cache}
use Rattle.sc_store.specs.Storing.{Wipes}
use Rattle.sc_store.specs.declared.answers.WipeAnswer.{WipeAnswer}
use Rattle.sc_net.specs.Reports.{loc_at}
use Rattle.sc_jobs.specs.JobData.{saves}
use Rattle.sc_net.specs.Tasks.{TaskData, is_map_task}
use Rattle.sc_net.specs.declared.findings.Finding.TheVariants as findings
use Rattle.sc_task.specs.Attempts.{AttemptData, assigned, computed, granted, reported, staged, stored, task_of}
use Rattle.sc_task.specs.States.{IsPartText}
use Rattle.sc_task.specs.Nexts.{next_of}
use Rattle.sc_task.specs.Steps.{PutsOwn}
use Rattle.sc_task.specs.declared.next.Next.{Next}
use Rattle.sc_task.specs.declared.next.Next.TheVariants.{Fetch, Missing, Complete}
use Rattle.sc_desk.specs.declared.posts.Posted.{Posted}
use Rattle.sc_desk.specs.declared.posts.Posted.TheVariants as posted
use Rattle.sc_desk.specs.declared.takes.Taken.{Taken}
use Rattle.sc_desk.specs.declared.takes.Taken.TheVariants as takes
use Rattle.sc_world.specs.Caching.{Caches}
use Rattle.sc_world.specs.Steps.{Gets, Makes, ReadsAt, after_side, is_put_aside}
use Rattle.sc_world.specs.Ties.{StandsAt, StandsIn}
use Rattle.sc_world.specs.declared.steps.Kept.{Kept}

-- stores are those of the executors, in order
abbrev pub AreInOrder : List StoreData → Type 0
AreInOrder stores = (exec : ℕ) → IfSome (slice_get stores exec) (λ s. s.exec ≡ exec)

-- what comes next stands: a block lies at its location, or had none and lay somewhere before
abbrev pub NextStands : List StoreData → Next → Type 0
NextStands stores (Fetch block loc) = StandsAt stores block loc
NextStands stores (Missing None) = ⊥
NextStands stores (Missing (Some last)) = Unit {0}
NextStands stores Complete = Unit {0}

-- what comes next for an attempt stands
abbrev pub ReadStands : List StoreData → AttemptData → Type 0
ReadStands stores (assigned t got) = NextStands stores (next_of t got)
ReadStands stores (computed t) = Unit {0}
ReadStands stores (stored t loc) = Unit {0}
ReadStands stores (staged t) = Unit {0}
ReadStands stores (granted t) = Unit {0}
ReadStands stores (reported t finding) = Unit {0}

-- a block is fetched from this store, where it stands
abbrev pub FetchStands : StoreData → Next → Type 0
FetchStands store (Fetch block loc) = (loc.exec ≡ store.exec) × StandsIn store block loc
FetchStands store (Missing last) = ⊥
FetchStands store Complete = ⊥

-- what an attempt is then that fetches a block from this store
abbrev pub FetchesTo : StoreData → TaskData → ℕ → Next → AttemptData → Type 0
FetchesTo store t got (Fetch block loc) after = Gets t got loc store after
FetchesTo store t got (Missing last) after = ⊥
FetchesTo store t got Complete after = ⊥

-- ---- places

-- So an attempt may rest between two steps: one that has computed has what is to be put aside, and
-- one whose block was put reports at once.
abbrev pub IsAtRest : WorkData → Option AttemptData → Type 0
IsAtRest work None = Unit {0}
IsAtRest work (Some (assigned t got)) = Unit {0}
IsAtRest work (Some (computed t)) = is_put_aside work t ≡ true
IsAtRest work (Some (stored t loc)) = ⊥
IsAtRest work (Some (staged t)) = saves work t.job.goal ≡ true
IsAtRest work (Some (granted t)) = saves work t.job.goal ≡ true
IsAtRest work (Some (reported t finding)) = Unit {0}

-- an attempt computes that has read all, and the store of its executor uses and keeps partitions
pub record ComputesAt (work : WorkData) (before : Option AttemptData) (store : StoreData)
    (kept : Kept) (after : Option AttemptData) (cached : StoreData) : Type 0 where
  pub task : TaskData
  pub got : ℕ
  pub held : before ≡ Some (assigned task got)
  pub complete : next_of task got ≡ Complete
  pub next : AttemptData
  pub makes : Makes work task next
  pub caches : Caches work task kept store cached
  pub is : after ≡ Some next

-- an attempt puts the block that it has computed, and is to report where
pub record PutsAt (work : WorkData) (before : Option AttemptData) (store : StoreData) (loc : Loc)
    (after : Option AttemptData) (next : StoreData) : Type 0 where
  pub task : TaskData
  pub held : before ≡ Some (computed task)
  pub puts : PutsOwn work task store next
  pub loc_is : loc ≡ loc_at store.exec store.generation
  pub is : after ≡ Some (reported task (findings.Map loc))

-- the same steps of the attempt of an executor, among those of all
pub record ReadsAmong (stores : List StoreData) (exec : ℕ)
    (before after : List (Option AttemptData)) : Type 0 where
  pub next : Option AttemptData
  pub reads : ReadsAt stores (at_or before exec None) next
  pub is : after ≡ change_at before exec (λ _. next)

pub record ComputesAmong (work : WorkData) (exec : ℕ) (before : List (Option AttemptData))
    (stores : List StoreData) (kept : Kept) (after : List (Option AttemptData))
    (later : List StoreData) : Type 0 where
  pub store : StoreData
  pub own : slice_get stores exec ≡ Some store
  pub next : Option AttemptData
  pub cached : StoreData
  pub computes : ComputesAt work (at_or before exec None) store kept next cached
  pub is : after ≡ change_at before exec (λ _. next)
  pub stores_are : later ≡ change_at stores exec (λ _. cached)

pub record PutsAmong (work : WorkData) (exec : ℕ) (before : List (Option AttemptData))
    (stores : List StoreData) (loc : Loc) (after : List (Option AttemptData))
    (later : List StoreData) : Type 0 where
  pub store : StoreData
  pub own : slice_get stores exec ≡ Some store
  pub next : Option AttemptData
  pub full : StoreData
  pub puts : PutsAt work (at_or before exec None) store loc next full
  pub is : after ≡ change_at before exec (λ _. next)
  pub stores_are : later ≡ change_at stores exec (λ _. full)

-- the store of an order's executor is wiped by it, among those of all, and one lets a block go
pub record WipesAmong (order : Order) (stores : List StoreData) (answer : WipeAnswer)
    (later : List StoreData) : Type 0 where
  pub store : StoreData
  pub own : slice_get stores order.exec ≡ Some store
  pub next : StoreData
  pub wipes : Wipes store order.number answer next
  pub stores_are : later ≡ change_at stores order.exec (λ _. next)

pub record EvictsAmong (exec : ℕ) (stores later : List StoreData) : Type 0 where
  pub store : StoreData
  pub own : slice_get stores exec ≡ Some store
  pub stores_are : later
      ≡ change_at stores exec (λ _. with_cache store (without_last store.cache))

-- what an attempt is to write, which it has computed: the text of its part
pub record HasPart (work : WorkData) (before : Option AttemptData) (attempt : AttemptId)
    (text : List ℕ) : Type 0 where
  pub task : TaskData
  pub held : before ≡ Some (computed task)
  pub is_of : attempt ≡ task.hand_out.attempt
  pub is_text : IsPartText work task text

-- what an executor has once its attempt did something beside the reports that is answered so
abbrev pub settled : Option AttemptData → SideAnswer → Option AttemptData
settled None said = None
settled (Some a) said = after_side a said

-- the attempt of an executor is one of a save, which does something beside the reports
abbrev pub IsAside : Option AttemptData → Type 0
IsAside None = ⊥
IsAside (Some (computed t)) = is_map_task t ≡ false
IsAside (Some (staged t)) = Unit {0}
IsAside (Some (granted t)) = Unit {0}
IsAside (Some a) = ⊥

-- the attempt of an executor has these numbers
pub record IsAttemptOf (held : Option AttemptData) (attempt : AttemptId) : Type 0 where
  pub a : AttemptData
  pub is_held : held ≡ Some a
  pub is_of : attempt ≡ (task_of a).hand_out.attempt

-- the places once an executor has what it was given
abbrev pub held_with :
    {W : _} → List (Option AttemptData) → ℕ → Taken W → List (Option AttemptData)
held_with held exec (takes.Task t) = change_at held exec (λ _. Some (assigned t 0))
held_with held exec taken = held

-- a report that is posted is received
abbrev pub IsReceived : {W : _} → Posted W → Type 0
IsReceived (posted.Receipt receipt) = Unit {0}
IsReceived (posted.Stranger back) = ⊥
IsReceived (posted.Early back due) = ⊥
