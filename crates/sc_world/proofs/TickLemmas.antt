-- What holds of a world holds on, once the time was entered.
use Rattle.std.proofs.Common.{◌≡◌, ◌∙◌, ℕ, All, Bool, true, false, List, ap, subst, sym}
use Rattle.sc_core.specs.CoreData.{CoreData, is_running_job, job_runs}
use Rattle.sc_core.specs.Sides.{IsAside, TicksIf}
use Rattle.sc_core.specs.declared.answers.Answer.TheVariants as says
use Rattle.sc_core.specs.declared.answers.SideAnswer.{SideAnswer}
use Rattle.sc_core.specs.declared.events.SideEvent.TheVariants.{Tick}
use Rattle.sc_core.specs.declared.running.Running.{Running}
use Rattle.sc_core.proofs.LawLemmas.{side_events_stay_aside}
use Rattle.sc_lineage.specs.ScriptData.{WorkData}
use Rattle.sc_net.specs.Reports.{ReportData}
use Rattle.sc_net.specs.declared.shelved.ShelvedReport.{ShelvedReport}
use Rattle.sc_desk.specs.DeskData.{core_of}
use Rattle.sc_world.specs.Sound.{IsSoundWorld, Says}
use Rattle.sc_world.specs.Steps.{TicksOne}
use Rattle.sc_world.specs.WorldData.{WorldData, core_in}
use Rattle.sc_world.proofs.BehindLemmas.{aside_behind}
use Rattle.sc_world.proofs.LeaveLemmas.{kept_sound, shelf_all, was_out}
use Rattle.sc_world.proofs.OutLemmas.{AreOut}
use Rattle.sc_world.proofs.SideLemmas.{sides_of}

-- by the time nobody leaves, and what runs stays as it is
stays : (b : Bool) (c after : CoreData) (now : ℕ) (said : SideAnswer)
    → TicksIf b c now said after
    → (after.running ≡ c.running) × (after.left_first ≡ c.left_first)
stays true c after now said (says, is) =
    (ap (λ (x : CoreData). x.running) is, ap (λ (x : CoreData). x.left_first) is)
stays false c after now said (says, is) =
    (ap (λ (x : CoreData). x.running) is, ap (λ (x : CoreData). x.left_first) is)

pub ticks_sound : (work : WorkData) (w : WorldData) (now : ℕ) (answer : SideAnswer)
    (after : WorldData) → IsSoundWorld work w → TicksOne w now answer after
    → IsSoundWorld work after
ticks_sound work w now answer after sound p =
    subst (IsSoundWorld work) (sym p.is)
    (kept_sound work w p.desk sound
    (record {
      job = p.notes.enters.job;
      behind = aside_behind work w (core_of p.desk) sound aside same.1;
      shelved = subst (λ shelf. All Right shelf) (sym p.notes.shelf)
          (shelf_all Right (core_of p.desk) w.desk.shelf sound.shelved);
    })
    (λ r. subst (λ (rs : List Running). AreOut work w.held rs) (sym same.0)
    (was_out work w sound (ap is_running_job (sym aside.job) ∙ r))))
  where
    Right : ShelvedReport ReportData → Type 0
    Right s = Says w.stores s.report.task s.report.finding

    aside : IsAside (core_in w) (core_of p.desk)
    aside =
        (side_events_stay_aside (core_in w) (core_of p.desk) (Tick now)
        (says.Side p.noted.answer) p.notes.enters.step).0

    same : ((core_of p.desk).running ≡ (core_in w).running)
        × ((core_of p.desk).left_first ≡ (core_in w).left_first)
    same =
        stays (job_runs (core_in w)) (core_in w) (core_of p.desk) now p.noted.answer
        (sides_of w.desk p.desk (Tick now) p.noted p.notes)
