-- What an attempt of a save leaves that writes its part, asks whether it may commit, or moves it.
use Rattle.std.proofs.Common.{◌≡◌, ◌⊎◌, inl, inr, ℕ, Bool, true, false, List, Some, None, map, refl, ap, ◌∙◌}
use Rattle.sc_compute.specs.declared.results.TaskResult.TheVariants.{Saved}
use Rattle.sc_commit.specs.Committing.{answer_to}
use Rattle.sc_commit.specs.declared.committers.Permission.{Permission}
use Rattle.sc_commit.specs.declared.committers.Permission.TheVariants as permissions
use Rattle.sc_dag.proofs.Tests.{clash}
use Rattle.sc_core.specs.CoreData.{CoreData}
use Rattle.sc_core.specs.Saving.{AsksBy, AsksIf, MovesIf, StagesIf, as_far, is_given, is_granted, is_staged, saver_phase}
use Rattle.sc_core.specs.Sides.{Sides}
use Rattle.sc_core.specs.Sound.{IsSoundCore}
use Rattle.sc_core.specs.declared.answers.Answer.TheVariants as says
use Rattle.sc_core.specs.declared.answers.SideAnswer.{SideAnswer}
use Rattle.sc_core.specs.declared.answers.SideAnswer.TheVariants as sides
use Rattle.sc_core.specs.declared.events.FileOutcome.{FileOutcome}
use Rattle.sc_core.specs.declared.events.FileOutcome.TheVariants as files
use Rattle.sc_core.specs.declared.events.SideEvent.TheVariants.{Ask, Move, Stage}
use Rattle.sc_core.specs.declared.running.Phase.{Phase}
use Rattle.sc_core.specs.declared.running.Phase.TheVariants as phases
use Rattle.sc_core.proofs.LawLemmas.{asks_are_over}
use Rattle.sc_lineage.specs.ScriptData.{WorkData}
use Rattle.sc_jobs.specs.JobData.{saves}
use Rattle.sc_store.specs.StoreData.{StoreData}
use Rattle.sc_net.specs.Tasks.{TaskData}
use Rattle.sc_net.specs.declared.findings.Finding.TheVariants as findings
use Rattle.sc_task.specs.Attempts.{AttemptData, computed, granted, reported, staged, task_of}
use Rattle.sc_world.specs.Places.{IsAtRest}
use Rattle.sc_world.specs.Sound.{Brings, ComesAt}
use Rattle.sc_world.specs.Steps.{after_side}

-- an attempt has come further, in the core too
pub record Comes (work : WorkData) (c after : CoreData) (before : AttemptData) (said : SideAnswer)
    : Type 0 where
  pub phase : Phase
  pub next : AttemptData
  pub is : after_side before said ≡ Some next
  pub same : task_of next ≡ task_of before
  pub comes : ComesAt next phase
  pub rests : IsAtRest work (Some next)
  pub brings : (stores : List StoreData) (exec : ℕ) → Brings stores exec next
  pub running : after.running ≡ map (as_far (task_of before).hand_out.attempt phase) c.running
  pub stays : after.left_first ≡ c.left_first

-- or it is over, where it doesn't come next
pub record IsOver (c after : CoreData) (before : AttemptData) (said : SideAnswer) : Type 0 where
  pub none : after_side before said ≡ None
  pub same : after ≡ c
  pub never : (phase : Phase) → ComesAt before phase
      → saver_phase c (task_of before).hand_out.attempt ≡ Some phase → ⊥

abbrev pub ComesOrOver : WorkData → CoreData → CoreData → AttemptData → SideAnswer → Type 0
ComesOrOver work c after before said =
    Comes work c after before said ⊎ IsOver c after before said

-- it was to write its part
pub stages_leave : (work : WorkData) (c after : CoreData) (t : TaskData) (wrote : FileOutcome)
    (said : SideAnswer) → saves work t.job.goal ≡ true
    → Sides c (Stage t.hand_out.attempt wrote) said after
    → ComesOrOver work c after (computed t) said
stages_leave work c after t wrote said saving step =
    by (is_given (saver_phase c t.hand_out.attempt)) refl step
  where
    wrote_so : (outcome : FileOutcome) → StagesIf true c t.hand_out.attempt outcome said after
        → Comes work c after (computed t) said
    wrote_so files.Done (says, is) =
        record {
          phase = phases.Staged;
          next = staged t;
          is = ap (after_side (computed t)) says;
          same = refl;
          comes = refl;
          rests = saving;
          brings = λ stores exec. tt;
          running = ap (λ (x : CoreData). x.running) is;
          stays = ap (λ (x : CoreData). x.left_first) is;
        }
    wrote_so (files.Failed fault) (says, is) =
        record {
          phase = phases.Faulted fault;
          next = reported t (findings.Device fault);
          is = ap (after_side (computed t)) says;
          same = refl;
          comes = refl;
          rests = tt;
          brings = λ stores exec. (tt, tt);
          running = ap (λ (x : CoreData). x.running) is;
          stays = ap (λ (x : CoreData). x.left_first) is;
        }

    by : (b : Bool) → is_given (saver_phase c t.hand_out.attempt) ≡ b
        → StagesIf b c t.hand_out.attempt wrote said after
        → ComesOrOver work c after (computed t) said
    by true e h = inl (wrote_so wrote h)
    by false e (says, is) =
        inr (record {
          none = ap (after_side (computed t)) says;
          same = is;
          never = λ phase at far.
              clash (ap is_given (far ∙ ap Some at)) e;
        })

-- it was to ask
pub asks_leave : (work : WorkData) (c after : CoreData) (t : TaskData) (said : SideAnswer)
    → IsSoundCore c → saves work t.job.goal ≡ true → Sides c (Ask t.hand_out.attempt) said after
    → ComesOrOver work c after (staged t) said
asks_leave work c after t said sound saving step =
    by (is_staged (saver_phase c t.hand_out.attempt)) refl step
  where
    over : said ≡ sides.Over → is_staged (saver_phase c t.hand_out.attempt) ≡ false
    over e =
        (asks_are_over c after t.hand_out.attempt (says.Side said) sound (said, refl, step)).0
        (ap says.Side e)

    said_so : (permission : Permission) → AsksBy permission c t.hand_out.attempt said after
        → is_staged (saver_phase c t.hand_out.attempt) ≡ true
        → Comes work c after (staged t) said
    said_so permissions.Granted (says, is) e =
        record {
          phase = phases.Granted;
          next = granted t;
          is = ap (after_side (staged t)) says;
          same = refl;
          comes = refl;
          rests = saving;
          brings = λ stores exec. tt;
          running = ap (λ (x : CoreData). x.running) is;
          stays = ap (λ (x : CoreData). x.left_first) is;
        }
    said_so (permissions.Denied first) (says, is) e =
        record {
          phase = phases.Denied;
          next = reported t findings.Denied;
          is = ap (after_side (staged t)) says;
          same = refl;
          comes = refl;
          rests = tt;
          brings = λ stores exec. (tt, tt);
          running = ap (λ (x : CoreData). x.running) is;
          stays = ap (λ (x : CoreData). x.left_first) is;
        }
    said_so permissions.Over (says, is) e = absurd (clash e (over says))

    by : (b : Bool) → is_staged (saver_phase c t.hand_out.attempt) ≡ b
        → AsksIf b c t.hand_out.attempt said after → ComesOrOver work c after (staged t) said
    by true e h = inl (said_so (answer_to c.committers t.hand_out.attempt true) h e)
    by false e (says, is) =
        inr (record {
          none = ap (after_side (staged t)) says;
          same = is;
          never = λ phase at far. clash (ap is_staged (far ∙ ap Some at)) e;
        })

-- it was to move its part
pub moves_leave : (work : WorkData) (c after : CoreData) (t : TaskData) (renamed : FileOutcome)
    (said : SideAnswer) → Sides c (Move t.hand_out.attempt renamed) said after
    → ComesOrOver work c after (granted t) said
moves_leave work c after t renamed said step =
    by (is_granted (saver_phase c t.hand_out.attempt)) refl step
  where
    moved_so : (outcome : FileOutcome) → MovesIf true c t.hand_out.attempt outcome said after
        → Comes work c after (granted t) said
    moved_so files.Done (says, is) =
        record {
          phase = phases.Moved;
          next = reported t (findings.Result Saved);
          is = ap (after_side (granted t)) says;
          same = refl;
          comes = refl;
          rests = tt;
          brings = λ stores exec. (tt, tt);
          running = ap (λ (x : CoreData). x.running) is;
          stays = ap (λ (x : CoreData). x.left_first) is;
        }
    moved_so (files.Failed fault) (says, is) =
        record {
          phase = phases.Faulted fault;
          next = reported t (findings.Device fault);
          is = ap (after_side (granted t)) says;
          same = refl;
          comes = refl;
          rests = tt;
          brings = λ stores exec. (tt, tt);
          running = ap (λ (x : CoreData). x.running) is;
          stays = ap (λ (x : CoreData). x.left_first) is;
        }

    by : (b : Bool) → is_granted (saver_phase c t.hand_out.attempt) ≡ b
        → MovesIf b c t.hand_out.attempt renamed said after
        → ComesOrOver work c after (granted t) said
    by true e h = inl (moved_so renamed h)
    by false e (says, is) =
        inr (record {
          none = ap (after_side (granted t)) says;
          same = is;
          never = λ phase at far. clash (ap is_granted (far ∙ ap Some at)) e;
        })
