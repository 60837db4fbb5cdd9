-- What happens beside the reports, what it is answered, and what that leaves.
use Rattle.std.specs.Prelude.{ℕ, ◌≡◌, ◌≤◌, ◌⊎◌, Bool, true, false, Option, Some, None, IfSome, map, max}
use Rattle.sc_dag.specs.DagData.{DagData}
use Rattle.sc_dag.specs.Reports.{after_hold}
use Rattle.sc_core.specs.CoreData.{CoreData, job_runs}
use Rattle.sc_core.specs.Posts.{is_save}
use Rattle.sc_core.specs.Saving.{AsksIf, MovesIf, StagesIf, is_given, is_granted, is_staged, saver_phase}
use Rattle.sc_core.specs.declared.answers.Answer.{Answer}
use Rattle.sc_core.specs.declared.answers.Answer.TheVariants as says
use Rattle.sc_core.specs.declared.answers.SideAnswer.{SideAnswer}
use Rattle.sc_core.specs.declared.answers.SideAnswer.TheVariants.{Ignored, Left, Ticked}
use Rattle.sc_core.specs.declared.events.SideEvent.{SideEvent}
use Rattle.sc_core.specs.declared.events.SideEvent.TheVariants.{Ask, Leave, Move, Stage, Tick}
use Rattle.sc_core.specs.declared.running.Running.{Running}

-- the first executor that left early, once this one has left too
abbrev pub first_with : Option ℕ → ℕ → Option ℕ
first_with None exec = Some exec
first_with (Some first) exec = Some first

abbrev pub with_leaver : CoreData → ℕ → CoreData
with_leaver c exec = record c { left_first = first_with c.left_first exec }

-- the greatest time that the clock showed, once it showed this one too
abbrev pub with_tick : CoreData → ℕ → CoreData
with_tick c now = record c { now = max c.now now }

-- an executor leaves early, in a job that may run
abbrev pub LeavesIf : Bool → CoreData → ℕ → SideAnswer → CoreData → Type 0
LeavesIf false c exec said after = (said ≡ Ignored) × (after ≡ c)
LeavesIf true c exec said after = (said ≡ Left) × (after ≡ with_leaver c exec)

-- the clock is read, in a job that may run
abbrev pub TicksIf : Bool → CoreData → ℕ → SideAnswer → CoreData → Type 0
TicksIf false c now said after = (said ≡ Ignored) × (after ≡ c)
TicksIf true c now said after = (said ≡ Ticked) × (after ≡ with_tick c now)

-- What happens beside the reports, what it is answered and leaves. A step of a save is over where
-- its attempt doesn't come next: to stage once it was given, to ask once it staged, to move once
-- it was granted.
abbrev pub Sides : CoreData → SideEvent → SideAnswer → CoreData → Type 0
Sides c (Leave exec) said after = LeavesIf (job_runs c) c exec said after
Sides c (Tick now) said after = TicksIf (job_runs c) c now said after
Sides c (Stage attempt wrote) said after =
    StagesIf (is_given (saver_phase c attempt)) c attempt wrote said after
Sides c (Ask attempt) said after = AsksIf (is_staged (saver_phase c attempt)) c attempt said after
Sides c (Move attempt renamed) said after =
    MovesIf (is_granted (saver_phase c attempt)) c attempt renamed said after

-- the same among all answers
abbrev pub StepsAside : CoreData → SideEvent → Answer → CoreData → Type 0
StepsAside c event answer after =
    (said : SideAnswer) × (answer ≡ says.Side said) × Sides c event said after

-- an attempt that runs, but for how far it has come while it is out
pub record IsFurther (r after : Running) : Type 0 where
  pub hand_out : after.hand_out ≡ r.hand_out
  pub exec : after.exec ≡ r.exec
  pub is_out : after.is_out ≡ r.is_out
  pub phase : r.is_out ≡ false → after.phase ≡ r.phase

-- stages, but for whether a partition is held back
abbrev pub MayHold : DagData → DagData → Type 0
MayHold d after =
    (after ≡ d) ⊎ ((s : ℕ) × (p : ℕ) × (denied : Bool) × (after ≡ after_hold d s p denied))

-- A core, but for how far attempts have come that are out, who may commit and which partition is
-- held back for that, who left first, and the greatest tick. No tick goes back, and who left first
-- stays so.
pub record IsAside (c after : CoreData) : Type 0 where
  pub told : after.told ≡ c.told
  pub ticks : c.now ≤ after.now
  pub leaver : IfSome c.left_first (λ first. after.left_first ≡ Some first)
  pub handed : after.handed ≡ c.handed
  pub job : after.job ≡ c.job
  pub further : Running → Running
  pub each : (r : Running) → IsFurther r (further r)
  pub running : after.running ≡ map further c.running
  pub shelf : after.shelf ≡ c.shelf
  pub next_key : after.next_key ≡ c.next_key
  pub saves : is_save after.committers ≡ is_save c.committers
  pub dag : MayHold c.dag after.dag
  pub plan : after.plan ≡ c.plan
