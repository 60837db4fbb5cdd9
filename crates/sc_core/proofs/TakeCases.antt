-- What a Take comes to: a task, the end of the job by its budget, or no change.
use Rattle.std.proofs.Common.{◌≡◌, ℕ, ◌≤◌, ◌<◌, ◌⊎◌, inl, inr, true, false, refl}
use Rattle.sc_ids.specs.declared.attempts.AttemptId.{AttemptId}
use Rattle.sc_dag.specs.Offers.{IsOffer}
use Rattle.sc_core.specs.CoreData.{CoreData, ended}
use Rattle.sc_core.specs.HandOuts.{HandOutData}
use Rattle.sc_core.specs.Laws.{changes_nothing}
use Rattle.sc_core.specs.Owners.{has_task}
use Rattle.sc_core.specs.Takes.{IsAsking, IsHandOut, Takes, with_task}
use Rattle.sc_core.specs.declared.answers.Abort.TheVariants as aborts
use Rattle.sc_core.specs.declared.answers.Answer.{Answer}
use Rattle.sc_core.specs.declared.answers.Answer.TheVariants as says
use Rattle.sc_core.specs.declared.answers.JobState.TheVariants as jobs

-- a task is handed out
pub record GivesTask (c after : CoreData) (exec : ℕ) (answer : Answer) : Type 0 where
  pub task : HandOutData
  pub told : answer ≡ says.Task task
  pub asking : IsAsking c exec
  pub out : IsHandOut c exec task
  pub below : c.handed < c.dag.limits.hand_outs
  pub is : after ≡ with_task c exec task

-- there would be one more than is allowed
pub record SpendsBudget (c after : CoreData) (exec : ℕ) (answer : Answer) : Type 0 where
  pub attempt : AttemptId
  pub told : answer ≡ says.Aborted aborts.Budget
  pub asking : IsAsking c exec
  pub offer : IsOffer c.dag exec c.now attempt
  pub most : c.dag.limits.hand_outs ≤ c.handed
  pub is : after ≡ ended c (jobs.Aborted aborts.Budget)

-- it is only said how things are
pub record SaysHow (c after : CoreData) (answer : Answer) : Type 0 where
  pub told : changes_nothing answer ≡ true
  pub plain : has_task answer ≡ false
  pub is : after ≡ c

abbrev pub TakesSo : CoreData → CoreData → ℕ → Answer → Type 0
TakesSo c after exec answer =
    GivesTask c after exec answer ⊎ (SpendsBudget c after exec answer ⊎ SaysHow c after answer)

pub takes_so : (c after : CoreData) (exec : ℕ) (answer : Answer) → Takes c exec answer after
    → TakesSo c after exec answer
takes_so c after exec (says.Task h) (asking, out, below, is) =
    inl (record {
      task = h;
      told = refl;
      asking = asking;
      out = out;
      below = below;
      is = is;
    })
takes_so c after exec (says.Aborted aborts.Budget) (a, asking, offer, le, is) =
    inr (inl (record {
      attempt = a;
      told = refl;
      asking = asking;
      offer = offer;
      most = le;
      is = is;
    }))
takes_so c after exec (says.Wait out) (asking, none, way, is) =
    inr (inr (record { told = refl; plain = refl; is = is }))
takes_so c after exec (says.Busy held) (runs, stays, live, has, is) =
    inr (inr (record { told = refl; plain = refl; is = is }))
takes_so c after exec says.Lost (runs, stays, lost, is) =
    inr (inr (record { told = refl; plain = refl; is = is }))
takes_so c after exec (says.Stopped first) (runs, left, is) =
    inr (inr (record { told = refl; plain = refl; is = is }))
takes_so c after exec says.Ended (runs, is) =
    inr (inr (record { told = refl; plain = refl; is = is }))
takes_so c after exec (says.Aborted (aborts.TaskLimit s n p)) h = absurd h
takes_so c after exec (says.Aborted (aborts.StageLimit s)) h = absurd h
takes_so c after exec (says.Aborted aborts.NoExecutor) h = absurd h
takes_so c after exec says.Ignored h = absurd h
takes_so c after exec says.Shelved h = absurd h
takes_so c after exec says.Told h = absurd h
takes_so c after exec says.Repeated h = absurd h
takes_so c after exec says.Registered h = absurd h
takes_so c after exec says.Bogus h = absurd h
takes_so c after exec says.Finished h = absurd h
takes_so c after exec says.Again h = absurd h
takes_so c after exec says.Resubmitted h = absurd h
takes_so c after exec (says.Side said) h = absurd h
