-- What the serial run of a job keeps, and how it comes to an end.
use Rattle.std.specs.Prelude.{ℕ, ◌+◌, ◌-◌, ◌≡◌, ◌≢◌, ◌<◌, ◌≤◌, Bool, true, false, Option, Some, None, length}
use Rattle.sc_lineage.specs.ScriptData.{WorkData}
use Rattle.sc_core.specs.CoreData.{job_runs}
use Rattle.sc_core.specs.Laws.{left_to_do}
use Rattle.sc_core.specs.Takes.{is_lost}
use Rattle.sc_task.specs.Attempts.{AttemptData, assigned, computed, granted, reported, staged, stored}
use Rattle.sc_desk.specs.Dues.{IsDueReport}
use Rattle.sc_desk.specs.Orders.{orders_left}
use Rattle.sc_world.specs.Runs.{Reaches}
use Rattle.sc_world.specs.WorldData.{WorldData, core_in, held_at}

-- no executor has an attempt out
abbrev pub IsResting : WorldData → Type 0
IsResting w = (exec : ℕ) → held_at w exec ≡ None

-- no other executor has one
abbrev pub IsAlone : ℕ → WorldData → Type 0
IsAlone exec w = (other : ℕ) → other ≢ exec → held_at w other ≡ None

-- it is the same job
pub record IsSameJob (w after : WorldData) : Type 0 where
  pub job : after.desk.job ≡ w.desk.job
  pub opening : after.desk.journal.opening ≡ w.desk.journal.opening
  pub carried : after.desk.carried ≡ w.desk.carried

-- a job goes on by steps
pub record GoesOn (work : WorkData) (w after : WorldData) : Type 0 where
  pub reaches : Reaches work w after
  pub same : IsSameJob w after

-- ---- how much is left

-- how much may still happen: in the scheduler, and by orders of the plan
abbrev pub left_in : WorkData → WorldData → ℕ
left_in work w = left_to_do (core_in w) + orders_left work.plan w.desk.ordered

-- there is less to do, if the job runs on
abbrev pub IsLess : WorkData → WorldData → WorldData → Type 0
IsLess work w after = job_runs (core_in after) ≡ true → left_in work after < left_in work w

-- there is no more to do, if the job runs on, which it did before then
abbrev pub IsNoMore : WorkData → WorldData → WorldData → Type 0
IsNoMore work w after =
    job_runs (core_in after) ≡ true
    → (job_runs (core_in w) ≡ true) × (left_in work after ≤ left_in work w)

-- how many steps an attempt may take at most until it has reported
abbrev pub steps_left : Option AttemptData → ℕ
steps_left None = 0
steps_left (Some (assigned t got)) = length t.hand_out.inputs - got + 5
steps_left (Some (computed t)) = 4
steps_left (Some (staged t)) = 3
steps_left (Some (granted t)) = 2
steps_left (Some (stored t loc)) = 1
steps_left (Some (reported t finding)) = 1

-- ---- turns

-- a turn is over: the job has gone on, all executors rest, and there is less to do
pub record Turns (work : WorkData) (w after : WorldData) : Type 0 where
  pub on : GoesOn work w after
  pub rests : IsResting after
  pub less : IsLess work w after

-- an executor has asked: it alone may have an attempt out, and there is less to do
pub record Asks (work : WorkData) (exec : ℕ) (w after : WorldData) : Type 0 where
  pub on : GoesOn work w after
  pub alone : IsAlone exec after
  pub less : IsLess work w after

-- an executor's attempt has gone on by a step, and there is no more to do
pub record Advances (work : WorkData) (exec : ℕ) (w after : WorldData) : Type 0 where
  pub on : GoesOn work w after
  pub alone : IsAlone exec after
  pub fewer : steps_left (held_at after exec) < steps_left (held_at w exec)
  pub no_more : IsNoMore work w after

-- it has reported
pub record Finishes (work : WorkData) (w after : WorldData) : Type 0 where
  pub on : GoesOn work w after
  pub rests : IsResting after
  pub no_more : IsNoMore work w after

-- the driver has done what was due before an executor asks, or nothing was
abbrev pub Drives : WorkData → ℕ → Bool → WorldData → WorldData → Type 0
Drives work exec true w after = Turns work w after
Drives work exec false w after = (after ≡ w) × IsDueReport (core_in w) exec None

-- an executor may ask for a task
pub record IsLive (w : WorldData) (exec : ℕ) : Type 0 where
  pub there : exec < length w.held
  pub live : is_lost (core_in w) exec ≡ false
