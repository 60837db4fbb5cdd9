-- The turns of a serial run: whose each of them is, and what is done in it.
use Rattle.std.specs.Prelude.{ℕ, ◌+◌, ◌<◌, ◌≤◌, ◌≡◌, ◌⊎◌, Bool, true, false, Option, Some, None}
use Rattle.sc_ids.specs.declared.blocks.Loc.{Loc}
use Rattle.sc_plan.specs.declared.orders.Order.{Order}
use Rattle.sc_plan.specs.declared.orders.OrderKind.{OrderKind}
use Rattle.sc_plan.specs.declared.orders.OrderKind.TheVariants as kinds
use Rattle.sc_lineage.specs.ScriptData.{WorkData}
use Rattle.sc_core.specs.CoreData.{CoreData, job_runs}
use Rattle.sc_core.specs.Takes.{is_lost}
use Rattle.sc_core.specs.declared.answers.Answer.{Answer}
use Rattle.sc_core.specs.declared.answers.SideAnswer.{SideAnswer}
use Rattle.sc_store.specs.declared.answers.WipeAnswer.{WipeAnswer}
use Rattle.sc_desk.specs.Dues.{IsDueLoss, IsDueReport}
use Rattle.sc_desk.specs.Orders.{ComesNext}
use Rattle.sc_world.specs.Steps.{AsksOne, Computes, EvictsOne, HandsOrder, LosesOne, Moves, Posts, Puts, Reads, ReleasesOne, Stages, Takes, WipesOne}
use Rattle.sc_world.specs.WorldData.{WorldData, core_in, held_at}
use Rattle.sc_world.specs.declared.steps.Kept.{Kept}

-- ---- whose turn it is

-- the executors from one number on and below another were all told lost
abbrev pub AreLost : CoreData → ℕ → ℕ → Type 0
AreLost c from end = (exec : ℕ) → from ≤ exec → exec < end → is_lost c exec ≡ true

-- the first of them that wasn't
pub record IsFirstLive (c : CoreData) (from end exec : ℕ) : Type 0 where
  pub behind : from ≤ exec
  pub below : exec < end
  pub live : is_lost c exec ≡ false
  pub first : AreLost c from exec

-- The turn is that of the first executor from one on that wasn't told lost, or where all from there
-- on were, of the first of all that wasn't.
abbrev pub IsNextLive : ℕ → CoreData → ℕ → ℕ → Type 0
IsNextLive executors c from exec =
    IsFirstLive c from executors exec
    ⊎ (AreLost c from executors × IsFirstLive c 0 executors exec)

-- ---- what the driver does before an executor asks

-- the loss that is due is told
pub record TellsDueLoss (w after : WorldData) : Type 0 where
  pub lost : ℕ
  pub due : IsDueLoss (core_in w) (Some lost)
  pub answer : Answer
  pub tells : LosesOne w lost answer after

-- the report is told that is due where this executor is to ask
pub record TellsDueReport (exec : ℕ) (w after : WorldData) : Type 0 where
  pub key : ℕ
  pub due : IsDueReport (core_in w) exec (Some key)
  pub answer : Answer
  pub tells : ReleasesOne w key answer after

-- an order is carried out: a store is wiped, or lets a cached block go
abbrev pub CarriesOutAs : OrderKind → WorkData → Order → WorldData → WorldData → Type 0
CarriesOutAs kinds.Drop work order w after =
    (answer : WipeAnswer) × WipesOne work w order answer after
CarriesOutAs kinds.Lose work order w after =
    (answer : WipeAnswer) × WipesOne work w order answer after
CarriesOutAs kinds.Evict work order w after = EvictsOne w order.exec after

-- as its kind says
abbrev pub CarriesOut : WorkData → Order → WorldData → WorldData → Type 0
CarriesOut work order w after = CarriesOutAs order.kind work order w after

-- the order of the fault plan that comes next is handed out, and carried out
pub record ObeysDueOrder (work : WorkData) (w after : WorldData) : Type 0 where
  pub order : Order
  pub handed : WorldData
  pub hands : HandsOrder work w (Some order) handed
  pub obeys : CarriesOut work order handed after

-- One thing that is due is done: a loss is told, or where none is due a report, or where none of
-- these is due either an order of the fault plan is obeyed.
abbrev pub DoesDue : WorkData → ℕ → WorldData → WorldData → Type 0
DoesDue work exec w after =
    TellsDueLoss w after
    ⊎ ((IsDueLoss (core_in w) None × TellsDueReport exec w after)
    ⊎ (IsDueLoss (core_in w) None × IsDueReport (core_in w) exec None
    × ObeysDueOrder work w after))

-- nothing is due where this executor is to ask
pub record HasNoDue (work : WorkData) (exec : ℕ) (w : WorldData) : Type 0 where
  pub losses : IsDueLoss (core_in w) None
  pub reports : IsDueReport (core_in w) exec None
  pub orders : ComesNext work.plan (core_in w).told w.desk.ordered None

-- ---- what an executor does

-- an attempt of a save writes its part, asks, or moves it
abbrev pub GoesInSave : WorldData → ℕ → SideAnswer → WorldData → Type 0
GoesInSave w exec answer after =
    Stages w exec answer after ⊎ (AsksOne w exec answer after ⊎ Moves w exec answer after)

-- an executor's attempt goes on by one step that does nothing with files
abbrev pub AdvancesPlain : WorkData → ℕ → WorldData → WorldData → Type 0
AdvancesPlain work exec w after =
    Reads w exec after
    ⊎ (((kept : Kept) × Computes work w exec kept after)
    ⊎ (((loc : Loc) × Puts work w exec loc after)
    ⊎ ((answer : Answer) × Posts work w exec answer after)))

-- an executor's attempt goes on by one step
abbrev pub AdvancesOne : WorkData → ℕ → WorldData → WorldData → Type 0
AdvancesOne work exec w after =
    AdvancesPlain work exec w after ⊎ ((answer : SideAnswer) × GoesInSave w exec answer after)

-- it goes on by steps, one after the other
pub data AdvancesBy (work : WorkData) (exec : ℕ) (w : WorldData) : WorldData → Type 0 where
  no_step : AdvancesBy work exec w w
  one_step : (mid after : WorldData) → AdvancesBy work exec w mid
      → AdvancesOne work exec mid after → AdvancesBy work exec w after

-- an executor has asked for a task, and its attempt has gone on so far
pub record WorksSoFar (work : WorkData) (exec : ℕ) (w after : WorldData) : Type 0 where
  pub answer : Answer
  pub asked : WorldData
  pub asks : Takes w exec answer asked
  pub goes : AdvancesBy work exec asked after

-- it has reported, or was over, if it got one
pub record Works (work : WorkData) (exec : ℕ) (w after : WorldData) : Type 0 where
  pub so_far : WorksSoFar work exec w after
  pub reported : held_at after exec ≡ None

-- ---- turns

-- Where something is due it is done, and the turn is this executor's again. Where nothing is, the
-- executor works, and the turn goes on to the next one.
abbrev pub UsesTurn : WorkData → ℕ → ℕ → WorldData → WorldData → Type 0
UsesTurn work exec next w after =
    (DoesDue work exec w after × (next ≡ exec))
    ⊎ (HasNoDue work exec w × Works work exec w after × (next ≡ exec + 1))

-- one turn, of the next executor from one on: while the job runs
pub record TakesTurn (work : WorkData) (from next : ℕ) (w after : WorldData) : Type 0 where
  pub runs : job_runs (core_in w) ≡ true
  pub exec : ℕ
  pub turn : IsNextLive work.limits.executors (core_in w) from exec
  pub uses : UsesTurn work exec next w after

-- turns, one after the other
pub data TakesTurns (work : WorkData) (from : ℕ) (w : WorldData) : ℕ → WorldData → Type 0 where
  no_turn : TakesTurns work from w from w
  one_turn : (turn next : ℕ) (mid after : WorldData) → TakesTurns work from w turn mid
      → TakesTurn work turn next mid after → TakesTurns work from w next after

-- a job is run to its end by turns, of which the first is that of the next executor from one on
pub record RunsByTurns (work : WorkData) (from : ℕ) (w after : WorldData) : Type 0 where
  pub next : ℕ
  pub turns : TakesTurns work from w next after
  pub ended : job_runs (core_in after) ≡ false

-- A turn is left: nothing was done in it, or where nothing was due the executor has worked so far.
abbrev pub LeavesTurn : WorkData → ℕ → WorldData → WorldData → Type 0
LeavesTurn work from w after =
    (after ≡ w)
    ⊎ ((exec : ℕ) × IsNextLive work.limits.executors (core_in w) from exec
    × HasNoDue work exec w × WorksSoFar work exec w after)

-- a job is run by turns, of which the last was left, while the job ran
pub record RunsShort (work : WorkData) (from : ℕ) (w after : WorldData) : Type 0 where
  pub turn : ℕ
  pub mid : WorldData
  pub turns : TakesTurns work from w turn mid
  pub runs : job_runs (core_in mid) ≡ true
  pub leaves : LeavesTurn work turn mid after

-- ---- what the parts of a turn answer

-- the first executor of a range that wasn't told lost, if there is one
abbrev pub FindsLive : CoreData → ℕ → ℕ → Option ℕ → Type 0
FindsLive c from end (Some exec) = IsFirstLive c from end exec
FindsLive c from end None = AreLost c from end

-- whether something was due, which was done
abbrev pub DoesDueIf : Bool → WorkData → ℕ → WorldData → WorldData → Type 0
DoesDueIf true work exec w after = DoesDue work exec w after
DoesDueIf false work exec w after = HasNoDue work exec w

-- an executor that was to work stopped: before it asked, or on the way
abbrev pub StopsWork : WorkData → ℕ → WorldData → WorldData → Type 0
StopsWork work exec w after = (after ≡ w) ⊎ WorksSoFar work exec w after
