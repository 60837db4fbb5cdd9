-- What an executor that asks for a task is answered, and what that leaves.
use Rattle.std.specs.Prelude.{ℕ, ◌+◌, ◌<◌, ◌≤◌, ◌≡◌, ◌≢◌, [], ◌∷◌, ◌++◌, Bool, true, false, Some, None, not, slice_get}
use Rattle.sc_dag.specs.Offers.{HasNone, IsOffer, handed_out}
use Rattle.sc_ids.specs.declared.attempts.AttemptId.{AttemptId}
use Rattle.sc_tracker.specs.Trust.{is_live}
use Rattle.sc_core.specs.CoreData.{CoreData, ended, held_by, job_runs, under_way}
use Rattle.sc_core.specs.HandOuts.{HandOutData, inputs_of}
use Rattle.sc_core.specs.declared.answers.Abort.TheVariants.{Budget}
use Rattle.sc_core.specs.declared.answers.Answer.{Answer}
use Rattle.sc_core.specs.declared.answers.Answer.TheVariants as says
use Rattle.sc_core.specs.declared.answers.JobState.TheVariants as jobs
use Rattle.sc_core.specs.declared.running.Phase.TheVariants.{Given}
use Rattle.sc_core.specs.declared.running.Running.{Running}

-- an executor gets nothing more: it was told lost, or is none of the run
abbrev pub is_lost : CoreData → ℕ → Bool
is_lost c exec = not (is_live (slice_get c.dag.tracker.trust exec))

-- an executor gets a task if there is one: the job runs, nobody left early, the executor isn't
-- lost, and has no attempt out
pub record IsAsking (c : CoreData) (exec : ℕ) : Type 0 where
  pub runs : job_runs c ≡ true
  pub stays : c.left_first ≡ None
  pub live : is_lost c exec ≡ false
  pub free : held_by c exec ≡ None

-- what goes with the task that comes next
pub record IsHandOut (c : CoreData) (exec : ℕ) (h : HandOutData) : Type 0 where
  pub offer : IsOffer c.dag exec c.now h.attempt
  pub epoch : h.epoch ≡ c.dag.tracker.epoch
  pub inputs : h.inputs ≡ inputs_of c.dag h.attempt.stage

abbrev pub running_on : HandOutData → ℕ → Running
running_on h exec = record { hand_out = h; exec = exec; phase = Given; is_out = true }

-- a task handed out
abbrev pub with_task : CoreData → ℕ → HandOutData → CoreData
with_task c exec h =
    record c {
      handed = c.handed + 1;
      running = c.running ++ running_on h exec ∷ [];
      dag = handed_out c.dag h.attempt exec c.now;
    }

-- The answers to a Take, each with its cause, and what they leave: a task, or the end of the job
-- where there would be one more than is allowed; nothing else changes anything.
abbrev pub Takes : CoreData → ℕ → Answer → CoreData → Type 0
Takes c exec says.Ended after = (job_runs c ≡ false) × (after ≡ c)
Takes c exec (says.Stopped first) after =
    (job_runs c ≡ true) × (c.left_first ≡ Some first) × (after ≡ c)
Takes c exec says.Lost after =
    (job_runs c ≡ true) × (c.left_first ≡ None) × (is_lost c exec ≡ true) × (after ≡ c)
Takes c exec (says.Busy held) after =
    (job_runs c ≡ true) × (c.left_first ≡ None) × (is_lost c exec ≡ false)
    × (held_by c exec ≡ Some held) × (after ≡ c)
Takes c exec (says.Task h) after =
    IsAsking c exec × IsHandOut c exec h × (c.handed < c.dag.limits.hand_outs)
    × (after ≡ with_task c exec h)
Takes c exec (says.Aborted Budget) after =
    (a : AttemptId) × IsAsking c exec × IsOffer c.dag exec c.now a
    × (c.dag.limits.hand_outs ≤ c.handed) × (after ≡ ended c (jobs.Aborted Budget))
Takes c exec (says.Wait out) after =
    IsAsking c exec × HasNone c.dag exec c.now × (under_way c ≡ Some out) × (after ≡ c)
Takes c exec answer after = ⊥

-- where an executor may have to wait, an attempt is under way
abbrev pub WaitsWell : CoreData → ℕ → Type 0
WaitsWell c exec = job_runs c ≡ true → HasNone c.dag exec c.now → under_way c ≢ None
