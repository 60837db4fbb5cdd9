-- Whom an executor waits for that gets no task.
use Rattle.std.specs.Prelude.{ℕ, ◌≡◌, ◌≢◌, ◌⊎◌, true, false, Some}
use Rattle.sc_ids.specs.declared.attempts.AttemptId.{AttemptId}
use Rattle.sc_core.specs.CoreData.{CoreData, held_by}
use Rattle.sc_core.specs.Sound.{IsSoundCore, is_shelved}
use Rattle.sc_core.specs.Steps.{Steps}
use Rattle.sc_core.specs.Takes.{is_lost}
use Rattle.sc_core.specs.declared.answers.Answer.TheVariants as says
use Rattle.sc_core.specs.declared.events.Event.TheVariants.{Take}

-- another executor, which isn't lost, has an attempt out
pub record IsOutElsewhere (c : CoreData) (exec : ℕ) (out : AttemptId) : Type 0 where
  pub holder : ℕ
  pub other : holder ≢ exec
  pub live : is_lost c holder ≡ false
  pub holds : held_by c holder ≡ Some out

-- an attempt is out elsewhere, or its report is to be told later
abbrev pub IsForOthers : CoreData → ℕ → AttemptId → Type 0
IsForOthers c exec out = IsOutElsewhere c exec out ⊎ (is_shelved c.shelf out ≡ true)

-- an executor that waits does so for others
abbrev pub WaitsAreForOthers : Type 0
WaitsAreForOthers =
    (c after : CoreData) (exec : ℕ) (out : AttemptId) → IsSoundCore c
    → Steps c (Take exec) (says.Wait out) after → IsForOthers c exec out
