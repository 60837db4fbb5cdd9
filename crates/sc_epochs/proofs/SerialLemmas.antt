-- What a job survives that is run on one thread.
use Rattle.std.proofs.Common.{◌≡◌, List, [], ◌∷◌, ◌++◌, refl, ap, sym, subst, ◌∙◌, true≢false}
use Rattle.sc_lineage.specs.ScriptData.{WorkData}
use Rattle.sc_core.specs.CoreData.{CoreData, is_running_job}
use Rattle.sc_core.specs.Openings.{IsOpening}
use Rattle.sc_core.specs.declared.answers.Abort.{Abort}
use Rattle.sc_core.specs.declared.answers.Abort.TheVariants as aborts
use Rattle.sc_core.specs.declared.answers.JobState.{JobState}
use Rattle.sc_core.specs.declared.answers.JobState.TheVariants as jobs
use Rattle.sc_jobs.specs.JobData.{saves}
use Rattle.sc_jobs.specs.declared.goals.Goal.{Goal}
use Rattle.sc_desk.specs.DeskData.{core_of}
use Rattle.sc_world.specs.Laws.{StepsKeepSound, WorldsBegin}
use Rattle.sc_world.specs.Runs.{Runs, idle_world}
use Rattle.sc_world.specs.WorldData.{WorldData, core_in}
use Rattle.sc_world.specs.declared.steps.Applied.{Applied}
use Rattle.sc_world.specs.declared.steps.Step.{Step}
use Rattle.sc_epochs.specs.Serial.{BeginningsComeAbout, EndsInRoom, IsTaskLimit, ReachedComeAbout, RoomSuffices, SerialRunsSurvive}
use Rattle.sc_epochs.specs.Worlds.{ComesAbout}
use Rattle.sc_epochs.proofs.SurviveLemmas.{bounds_need_no_more, few_losses_abort_none, hand_outs_are_bounded, spared_executors_go_on}

-- ---- worlds of a run

-- some steps behind others
runs_then : (work : WorkData) (w mid after : WorldData) (xs ys : List Step)
    (qs bs : List Applied) → Runs work w xs qs mid → Runs work mid ys bs after
    → Runs work w (xs ++ ys) (qs ++ bs) after
runs_then work w mid after [] ys [] bs is rest =
    subst (λ (x : WorldData). Runs work x ys bs after) is rest
runs_then work w mid after (x ∷ xs) ys (a ∷ qs) bs (next, goes, sound, runs) rest =
    (next, goes, sound, runs_then work next mid after xs ys qs bs runs rest)
runs_then work w mid after [] ys (a ∷ qs) bs bad rest = absurd bad
runs_then work w mid after (x ∷ xs) ys [] bs bad rest = absurd bad

pub beginnings_come_about : BeginningsComeAbout
beginnings_come_about work desk stores (passed, last, goal, b) core sound ready =
    record {
      desk = desk;
      stores = stores;
      begun = record {
        last = last;
        core = core;
        sound = sound;
        opening = subst (λ (x : Goal). IsOpening desk.job.graph work.limits (saves work x)
            work.plan last (core_of desk)) (sym b.goal_is)
            (subst (λ (x : CoreData). IsOpening desk.job.graph work.limits (saves work goal)
            work.plan last x) (sym b.core) b.opening);
        shelf = b.shelf;
        ready = ready;
      };
      reaches = record { steps = []; answers = []; runs = refl };
    }

pub reached_come_about : ReachedComeAbout
reached_come_about work w after comes more =
    record {
      desk = comes.desk;
      stores = comes.stores;
      begun = comes.begun;
      reaches = record {
        steps = comes.reaches.steps ++ more.steps;
        answers = comes.reaches.answers ++ more.answers;
        runs = runs_then work (idle_world work comes.desk comes.stores) w after
            comes.reaches.steps more.steps comes.reaches.answers more.answers
            comes.reaches.runs more.runs;
      };
    }

-- ---- how a job ends that there is room for

pub room_suffices : WorldsBegin → StepsKeepSound → RoomSuffices
room_suffices begins keeps work w are comes room ended = by (core_in w).job refl
  where
    why_not : (why : Abort) → (core_in w).job ≡ jobs.Aborted why → IsTaskLimit why
    why_not (aborts.TaskLimit s n p) e = tt
    why_not (aborts.StageLimit s) e =
        absurd (few_losses_abort_none begins keeps work w s comes room.stages e)
    why_not aborts.NoExecutor e =
        absurd (spared_executors_go_on begins keeps work w room.spared comes room.there room.never
        e)
    why_not aborts.Budget e =
        absurd (bounds_need_no_more begins keeps work w are comes room.budget e)

    by : (job : JobState) → (core_in w).job ≡ job → EndsInRoom job
    by jobs.Running e = absurd (true≢false (sym (ap is_running_job e) ∙ ended))
    by jobs.Done e = tt
    by (jobs.Aborted why) e = why_not why e

-- ---- serial runs

pub serial_runs_survive : WorldsBegin → StepsKeepSound → SerialRunsSurvive
serial_runs_survive begins keeps work desk stores after are out = (
  hand_outs_are_bounded begins keeps work after are comes,
  λ room. room_suffices begins keeps work after are comes room out.ended,
)
  where
    comes : ComesAbout work after
    comes =
        reached_come_about work (idle_world work desk stores) after
        (beginnings_come_about work desk stores out.begun out.core out.sound out.ready) out.reaches
