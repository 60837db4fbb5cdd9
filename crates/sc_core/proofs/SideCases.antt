-- What happens beside the reports is always answered, in one way.
use Rattle.std.proofs.Common.{◌≡◌, Bool, true, false, refl, ap, sym, ◌∙◌}
use Rattle.sc_commit.specs.Committing.{answer_to}
use Rattle.sc_commit.specs.declared.committers.Permission.{Permission}
use Rattle.sc_commit.specs.declared.committers.Permission.TheVariants as permissions
use Rattle.sc_core.specs.CoreData.{CoreData, job_runs}
use Rattle.sc_core.specs.Saving.{AsksBy, AsksIf, MovesIf, StagesIf, asked, come_to, held_back, is_given, is_granted, is_staged, move_answer, moved_by, saver_phase, stage_answer, staged_by}
use Rattle.sc_core.specs.Sides.{LeavesIf, Sides, StepsAside, TicksIf, with_leaver, with_tick}
use Rattle.sc_core.specs.declared.answers.Answer.{Answer}
use Rattle.sc_core.specs.declared.answers.Answer.TheVariants as says
use Rattle.sc_core.specs.declared.answers.SideAnswer.{SideAnswer}
use Rattle.sc_core.specs.declared.answers.SideAnswer.TheVariants as sides
use Rattle.sc_core.specs.declared.events.SideEvent.{SideEvent}
use Rattle.sc_core.specs.declared.events.SideEvent.TheVariants.{Ask, Leave, Move, Stage, Tick}
use Rattle.sc_core.specs.declared.running.Phase.TheVariants as phases

-- an answer and a state that an equation each gives
abbrev Are : SideAnswer → CoreData → SideAnswer → CoreData → Type 0
Are said next a x = (a ≡ said) × (x ≡ next)

-- they are the only ones
alone : (said a b : SideAnswer) (next x y : CoreData) → Are said next a x → Are said next b y
    → (a ≡ b) × (x ≡ y)
alone said a b next x y (says, is) (says_too, is_too) = (says ∙ sym says_too, is ∙ sym is_too)

-- what each event is answered, and what it leaves
there : (c : CoreData) (event : SideEvent)
    → (said : SideAnswer) × (next : CoreData) × ((a : SideAnswer) (x : CoreData)
    → Sides c event a x → Are said next a x) × Sides c event said next
there c (Leave exec) = by (job_runs c)
  where
    by : (b : Bool) → (said : SideAnswer) × (next : CoreData) × ((a : SideAnswer) (x : CoreData)
        → LeavesIf b c exec a x → Are said next a x) × LeavesIf b c exec said next
    by false = (sides.Ignored, c, λ a x h. h, (refl, refl))
    by true = (sides.Left, with_leaver c exec, λ a x h. h, (refl, refl))
there c (Tick now) = by (job_runs c)
  where
    by : (b : Bool) → (said : SideAnswer) × (next : CoreData) × ((a : SideAnswer) (x : CoreData)
        → TicksIf b c now a x → Are said next a x) × TicksIf b c now said next
    by false = (sides.Ignored, c, λ a x h. h, (refl, refl))
    by true = (sides.Ticked, with_tick c now, λ a x h. h, (refl, refl))
there c (Stage a wrote) = by (is_given (saver_phase c a))
  where
    by : (b : Bool) → (said : SideAnswer) × (next : CoreData) × ((s : SideAnswer) (x : CoreData)
        → StagesIf b c a wrote s x → Are said next s x) × StagesIf b c a wrote said next
    by false = (sides.Over, c, λ s x h. h, (refl, refl))
    by true = (stage_answer wrote, come_to c a (staged_by wrote), λ s x h. h, (refl, refl))
there c (Ask a) = by (is_staged (saver_phase c a))
  where
    asks : (permission : Permission)
        → (said : SideAnswer) × (next : CoreData) × ((s : SideAnswer) (x : CoreData)
        → AsksBy permission c a s x → Are said next s x) × AsksBy permission c a said next
    asks permissions.Granted =
        (sides.Granted, come_to (asked c a) a phases.Granted, λ s x h. h, (refl, refl))
    asks (permissions.Denied other) = (
      sides.Denied other,
      come_to (held_back (asked c a) a) a phases.Denied,
      λ s x h. h,
      (refl, refl),
    )
    asks permissions.Over = (sides.Over, c, λ s x h. h, (refl, refl))

    by : (b : Bool) → (said : SideAnswer) × (next : CoreData) × ((s : SideAnswer) (x : CoreData)
        → AsksIf b c a s x → Are said next s x) × AsksIf b c a said next
    by false = (sides.Over, c, λ s x h. h, (refl, refl))
    by true = asks (answer_to c.committers a true)
there c (Move a renamed) = by (is_granted (saver_phase c a))
  where
    by : (b : Bool) → (said : SideAnswer) × (next : CoreData) × ((s : SideAnswer) (x : CoreData)
        → MovesIf b c a renamed s x → Are said next s x) × MovesIf b c a renamed said next
    by false = (sides.Over, c, λ s x h. h, (refl, refl))
    by true = (move_answer renamed, come_to c a (moved_by renamed), λ s x h. h, (refl, refl))

-- one answer, and one state that is left
pub steps_aside_agree : (c x y : CoreData) (event : SideEvent) (a b : Answer)
    → StepsAside c event a x → StepsAside c event b y → (a ≡ b) × (x ≡ y)
steps_aside_agree c x y event a b (said, told, step) (also, told_too, step_too) =
    let one = there c event in
    let same = alone one.0 said also one.1 x y (one.2 said x step) (one.2 also y step_too) in
    (told ∙ ap says.Side same.0 ∙ sym told_too, same.1)

-- there is an answer
pub steps_aside_there : (c : CoreData) (event : SideEvent)
    → (answer : Answer) × (after : CoreData) × StepsAside c event answer after
steps_aside_there c event =
    let one = there c event in (says.Side one.0, one.1, (one.0, refl, one.3))

-- after the end of the job nothing changes
ended_sides : (c after : CoreData) (event : SideEvent) (said : SideAnswer) → job_runs c ≡ false
    → Sides c event said after → after ≡ c
ended_sides c after (Leave exec) said ended step = (rw ended at step).1
ended_sides c after (Tick now) said ended step = (rw ended at step).1
ended_sides c after (Stage a wrote) said ended step = (rw ended at step).1
ended_sides c after (Ask a) said ended step = (rw ended at step).1
ended_sides c after (Move a renamed) said ended step = (rw ended at step).1

pub ended_aside : (c after : CoreData) (event : SideEvent) (answer : Answer) → job_runs c ≡ false
    → StepsAside c event answer after → after ≡ c
ended_aside c after event answer ended (said, told, step) =
    ended_sides c after event said ended step
