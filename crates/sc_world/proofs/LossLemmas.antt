-- What holds of a world holds on, once an executor was told lost.
use Rattle.std.proofs.Common.{ℕ, not, All, Bool, true, false, List, [], ◌∷◌, sym, subst, ◌∙◌, true≢false}
use Rattle.sc_ids.specs.declared.attempts.AttemptId.{AttemptId}
use Rattle.sc_commit.specs.declared.committers.Ending.TheVariants as endings
use Rattle.sc_tracker.specs.TrackerData.{TrackerData}
use Rattle.sc_tracker.specs.Trust.{are_lost}
use Rattle.sc_dag.specs.Losses.{after_lost}
use Rattle.sc_dag.specs.Sound.{IsSoundDag}
use Rattle.sc_dag.proofs.Tests.{both_left}
use Rattle.sc_core.specs.CoreData.{CoreData, job_runs, with_dag}
use Rattle.sc_core.specs.Losses.{Loses as CoreLoses}
use Rattle.sc_core.specs.Losses.{LosesOrAborts, all_released, attempts_on, runs_on, without_executor}
use Rattle.sc_core.specs.Sound.{IsSoundCore}
use Rattle.sc_core.specs.Tells.{released}
use Rattle.sc_core.specs.declared.answers.Abort.TheVariants.{NoExecutor}
use Rattle.sc_core.specs.declared.answers.Answer.{Answer}
use Rattle.sc_core.specs.declared.answers.JobState.TheVariants as jobs
use Rattle.sc_core.proofs.LeftLemmas.{Left}
use Rattle.sc_core.proofs.LoseLemmas.{all_left}
use Rattle.sc_core.proofs.LossLemmas.{Loses, lost_loses}
use Rattle.sc_lineage.specs.ScriptData.{WorkData}
use Rattle.sc_net.specs.Reports.{ReportData}
use Rattle.sc_net.specs.declared.shelved.ShelvedReport.{ShelvedReport}
use Rattle.sc_desk.specs.DeskData.{core_of}
use Rattle.sc_world.specs.Sound.{IsSoundWorld, Says}
use Rattle.sc_world.specs.Steps.{LosesOne}
use Rattle.sc_world.specs.Ties.{AreTied}
use Rattle.sc_world.specs.WorldData.{WorldData, core_in}
use Rattle.sc_world.proofs.BehindLemmas.{IsBehind, ended_behind, itself_behind}
use Rattle.sc_world.proofs.LeaveLemmas.{shelf_all}
use Rattle.sc_world.proofs.FewerLemmas.{filter_among}
use Rattle.sc_world.proofs.ReleaseLemmas.{IsFewer, fewer_sound}
use Rattle.sc_world.proofs.TieLemmas.{lost_tied}
use Rattle.sc_world.proofs.TrackLemmas.{Frees, frees_itself, frees_then, released_frees}

-- ---- grants that are freed

all_frees : (these : List AttemptId) (c : CoreData) → Frees c (all_released these c)
all_frees [] c = frees_itself c
all_frees (a ∷ these) c =
    frees_then c (released c a endings.Failed) (all_released these (released c a endings.Failed))
    (released_frees c a endings.Failed) (all_frees these (released c a endings.Failed))

-- ---- cores

lost_behind : (w : WorldData) (c : CoreData) (exec : ℕ) → IsSoundDag c.dag → IsBehind w c
    → IsBehind w (without_executor c exec)
lost_behind w c exec sound h =
    record {
      told = rw left.told h.told;
      stages = left.stages ∙ h.stages;
      tied = subst (λ (t : TrackerData). AreTied w.stores t) (sym frees.dag.tracker)
          (lost_tied w.stores c.dag.tracker exec h.tied);
      given = λ a g. left.given a (loses.given a (h.given a g));
      saves = frees.saves ∙ h.saves;
      stays = frees.stays ∙ h.stays;
    }
  where
    mid : CoreData
    mid = with_dag c (after_lost c.dag exec)

    left : Left mid (all_released (attempts_on exec c.running) mid)
    left = all_left (attempts_on exec c.running) mid

    frees : Frees mid (all_released (attempts_on exec c.running) mid)
    frees = all_frees (attempts_on exec c.running) mid

    loses : Loses exec c.dag (after_lost c.dag exec)
    loses = lost_loses c.dag exec sound

lost : (work : WorkData) (w : WorldData) (exec : ℕ) (answer : Answer) (after : CoreData)
    → IsSoundWorld work w → IsSoundCore (core_in w) → CoreLoses (core_in w) exec answer after
    → IsFewer w after
lost work w exec answer after sound core (may, step) =
    by (are_lost next.dag.tracker.trust) step
  where
    c : CoreData
    c = core_in w

    next : CoreData
    next = without_executor (core_in w) exec

    behind : IsBehind w (without_executor (core_in w) exec)
    behind = lost_behind w c exec core.job.dag (itself_behind work w sound)

    by : (b : Bool) → LosesOrAborts b next answer after → IsFewer w after
    by true (says, is) =
        subst (λ x. IsFewer w x) (sym is)
        (record {
          behind = ended_behind w next (jobs.Aborted NoExecutor) behind;
          ran = λ r. absurd (true≢false (sym r));
          among = λ r. absurd (true≢false (sym r));
        })
    by false (says, is) =
        subst (λ x. IsFewer w x) (sym is)
        (record {
          behind = behind;
          ran = λ r. both_left (job_runs c) _ may;
          among = λ r. filter_among (λ x. not (runs_on exec x)) c.running core.job.apart;
        })

-- ---- worlds

pub loses_sound : (work : WorkData) (w : WorldData) (exec : ℕ) (answer : Answer)
    (after : WorldData) → IsSoundWorld work w → IsSoundCore (core_in w)
    → LosesOne w exec answer after → IsSoundWorld work after
loses_sound work w exec answer after sound core p =
    subst (IsSoundWorld work) (sym p.is)
    (fewer_sound work w p.desk sound
    (lost work w exec p.receipt.answer (core_of p.desk) sound core p.tells.enters.step)
    p.tells.enters.job
    (subst (λ shelf. All Right shelf) (sym p.tells.shelf)
    (shelf_all Right (core_of p.desk) w.desk.shelf sound.shelved)))
  where
    Right : ShelvedReport ReportData → Type 0
    Right s = Says w.stores s.report.task s.report.finding
