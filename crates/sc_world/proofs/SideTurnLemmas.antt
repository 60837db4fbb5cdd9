-- How the attempt of an executor goes on that writes its part, asks whether it may commit, or moves
-- it, and that no more is left to do then.
use Rattle.std.proofs.Common.{◌≡◌, ℕ, ◌+◌, ◌<◌, ◌≤◌, true, Some, None, ap, sym, subst, ◌∙◌, arith}
use Rattle.sc_ids.proofs.ChangeLemmas.{at_or_change_other}
use Rattle.sc_core.specs.CoreData.{is_running_job, job_runs}
use Rattle.sc_core.specs.Laws.{left_to_do}
use Rattle.sc_core.specs.declared.answers.Answer.TheVariants as says
use Rattle.sc_core.specs.declared.answers.SideAnswer.{SideAnswer}
use Rattle.sc_core.specs.declared.answers.SideAnswer.TheVariants as sides
use Rattle.sc_core.specs.declared.events.SideEvent.{SideEvent}
use Rattle.sc_core.proofs.LawLemmas.{side_events_stay_aside}
use Rattle.sc_lineage.specs.ScriptData.{WorkData}
use Rattle.sc_net.specs.Tasks.{TaskData}
use Rattle.sc_task.specs.Attempts.{AttemptData, computed, granted, staged}
use Rattle.sc_desk.specs.DeskData.{DeskData, core_of}
use Rattle.sc_desk.specs.Orders.{orders_left}
use Rattle.sc_desk.specs.Sound.{IsSoundDesk}
use Rattle.sc_world.specs.Runs.{Reaches}
use Rattle.sc_world.specs.Serial.{Advances, IsAlone, IsNoMore, IsSameJob, left_in, steps_left}
use Rattle.sc_world.specs.Steps.{AsksOne, GoesAside, Moves, Stages, after_ask, after_move, after_side, after_stage}
use Rattle.sc_world.specs.WorldData.{WorldData, core_in, held_at}
use Rattle.sc_world.specs.declared.steps.Applied.TheVariants as applied
use Rattle.sc_world.specs.declared.steps.Step.TheVariants as steps
use Rattle.sc_world.proofs.CodeRuns.{reached_by}
use Rattle.sc_world.proofs.HeldLemmas.{held_here}

-- ---- fewer steps are left for it

stage_fewer : (t : TaskData) (said : SideAnswer)
    → steps_left (after_stage t said) < steps_left (Some (computed t))
stage_fewer t sides.Staged = omega arith
stage_fewer t (sides.Fault fault) = omega arith
stage_fewer t sides.Ignored = omega arith
stage_fewer t sides.Left = omega arith
stage_fewer t sides.Ticked = omega arith
stage_fewer t sides.Over = omega arith
stage_fewer t sides.Granted = omega arith
stage_fewer t (sides.Denied first) = omega arith
stage_fewer t sides.Moved = omega arith

ask_fewer : (t : TaskData) (said : SideAnswer)
    → steps_left (after_ask t said) < steps_left (Some (staged t))
ask_fewer t sides.Granted = omega arith
ask_fewer t (sides.Denied first) = omega arith
ask_fewer t sides.Ignored = omega arith
ask_fewer t sides.Left = omega arith
ask_fewer t sides.Ticked = omega arith
ask_fewer t sides.Over = omega arith
ask_fewer t sides.Staged = omega arith
ask_fewer t sides.Moved = omega arith
ask_fewer t (sides.Fault fault) = omega arith

move_fewer : (t : TaskData) (said : SideAnswer)
    → steps_left (after_move t said) < steps_left (Some (granted t))
move_fewer t sides.Moved = omega arith
move_fewer t (sides.Fault fault) = omega arith
move_fewer t sides.Ignored = omega arith
move_fewer t sides.Left = omega arith
move_fewer t sides.Ticked = omega arith
move_fewer t sides.Over = omega arith
move_fewer t sides.Staged = omega arith
move_fewer t sides.Granted = omega arith
move_fewer t (sides.Denied first) = omega arith

-- ---- any of the three

-- it is the same job, of which there is no more to do
aside_same : (w : WorldData) (exec : ℕ) (before : AttemptData) (event : SideEvent)
    (answer : SideAnswer) (after : WorldData) → GoesAside w exec before event answer after
    → IsSameJob w after
aside_same w exec before event answer after g =
    let is = ap (λ (x : WorldData). x.desk) g.is in
    record {
      job = ap (λ (d : DeskData). d.job) is ∙ g.notes.enters.job;
      opening = ap (λ (d : DeskData). d.journal.opening) is ∙ g.notes.enters.opening;
      carried = ap (λ (d : DeskData). d.carried) is ∙ g.notes.enters.carried;
    }

aside_no_more : (work : WorkData) (w : WorldData) (exec : ℕ) (before : AttemptData)
    (event : SideEvent) (answer : SideAnswer) (after : WorldData)
    → GoesAside w exec before event answer after → IsNoMore work w after
aside_no_more work w exec before event answer after g =
    subst NoMore (sym (ap (λ (x : WorldData). x.desk) g.is))
    (λ runs. let is =
    side_events_stay_aside (core_in w) (core_of g.desk) event (says.Side g.noted.answer)
    g.notes.enters.step in (
      ap is_running_job (sym is.0.job) ∙ runs,
      rw (is.1, g.notes.enters.ordered) (omega arith),
    ))
  where
    NoMore : DeskData → Type 0
    NoMore d =
        job_runs (core_of d) ≡ true
        → (job_runs (core_in w) ≡ true)
        × (left_to_do (core_of d) + orders_left work.plan d.ordered ≤ left_in work w)

-- the attempts of others are as they were
aside_alone : (w : WorldData) (exec : ℕ) (before : AttemptData) (event : SideEvent)
    (answer : SideAnswer) (after : WorldData) → GoesAside w exec before event answer after
    → IsAlone exec w → IsAlone exec after
aside_alone w exec before event answer after g alone other differs =
    ap (λ (x : WorldData). held_at x other) g.is
    ∙ at_or_change_other w.held exec other None (λ _. after_side before answer) differs
    ∙ alone other differs

aside_advances : (work : WorkData) (w : WorldData) (exec : ℕ) (before : AttemptData)
    (event : SideEvent) (answer : SideAnswer) (after : WorldData)
    → GoesAside w exec before event answer after → IsAlone exec w → Reaches work w after
    → steps_left (after_side before answer) < steps_left (Some before)
    → Advances work exec w after
aside_advances work w exec before event answer after g alone reaches fewer =
    record {
      on = record { reaches = reaches; same = aside_same w exec before event answer after g };
      alone = aside_alone w exec before event answer after g alone;
      fewer = rw (now, g.held) fewer;
      no_more = aside_no_more work w exec before event answer after g;
    }
  where
    now : held_at after exec ≡ after_side before answer
    now =
        ap (λ (x : WorldData). held_at x exec) g.is
        ∙ held_here w.held exec before (after_side before answer) g.held

-- ---- the three

-- it writes its part
pub stages_advances : (work : WorkData) (w : WorldData) (exec : ℕ) (answer : SideAnswer)
    (after : WorldData) → IsAlone exec w → Stages w exec answer after
    → IsSoundDesk work after.desk → Advances work exec w after
stages_advances work w exec answer after alone p desk =
    aside_advances work w exec (computed p.task) _ answer after p.goes alone
    (reached_by work w after (steps.Stage exec) (applied.Noted answer) p desk)
    (stage_fewer p.task answer)

-- it asks
pub asks_advances : (work : WorkData) (w : WorldData) (exec : ℕ) (answer : SideAnswer)
    (after : WorldData) → IsAlone exec w → AsksOne w exec answer after
    → IsSoundDesk work after.desk → Advances work exec w after
asks_advances work w exec answer after alone p desk =
    aside_advances work w exec (staged p.task) _ answer after p.goes alone
    (reached_by work w after (steps.Ask exec) (applied.Noted answer) p desk)
    (ask_fewer p.task answer)

-- it moves its part
pub moves_advances : (work : WorkData) (w : WorldData) (exec : ℕ) (answer : SideAnswer)
    (after : WorldData) → IsAlone exec w → Moves w exec answer after
    → IsSoundDesk work after.desk → Advances work exec w after
moves_advances work w exec answer after alone p desk =
    aside_advances work w exec (granted p.task) _ answer after p.goes alone
    (reached_by work w after (steps.Move exec) (applied.Noted answer) p desk)
    (move_fewer p.task answer)
