-- What holds of the core of a world holds of one that follows it by an event.
use Rattle.std.proofs.Common.{◌≡◌, ◌⊎◌, inl, inr, ℕ, ◌<◌, ◌≤◌, ◌^◌, Bool, true, false, List, Option, Some, None, refl, ap, sym, subst, ◌∙◌, arith, rules}
use Rattle.sc_ids.specs.Graphs.{StageData}
use Rattle.sc_ids.specs.declared.attempts.AttemptId.{AttemptId}
use Rattle.sc_ids.specs.declared.blocks.BlockId.{BlockId}
use Rattle.sc_ids.specs.declared.blocks.Target.{Target}
use Rattle.sc_ids.specs.declared.blocks.Target.TheVariants as targets
use Rattle.sc_lineage.specs.ScriptData.{WorkData}
use Rattle.sc_tracker.specs.TrackerData.{TrackerData}
use Rattle.sc_dag.specs.DagData.{DagData}
use Rattle.sc_dag.specs.Openings.{AreNumbered}
use Rattle.sc_dag.specs.Reports.{block_by}
use Rattle.sc_core.specs.CoreData.{CoreData, ended, shelved_if, without_shelved}
use Rattle.sc_core.specs.Posts.{is_save}
use Rattle.sc_core.specs.Sides.{IsAside, MayHold}
use Rattle.sc_core.specs.Sound.{was_given}
use Rattle.sc_core.specs.declared.answers.JobState.{JobState}
use Rattle.sc_core.specs.declared.events.Outcome.{Outcome}
use Rattle.sc_core.proofs.PlannedLemmas.{counted_more}
use Rattle.sc_core.proofs.SideLemmas.{held_stages, held_tracker}
use Rattle.sc_core.proofs.TaskCallLemmas.{hold_calms}
use Rattle.sc_store.specs.StoreData.{StoreData}
use Rattle.sc_jobs.specs.JobData.{HasPartition}
use Rattle.sc_net.specs.Reports.{outcome_of}
use Rattle.sc_net.specs.Tasks.{IsTaskOf, TaskData, block_left, block_left_by, block_of_task, stage_of_task}
use Rattle.sc_net.specs.declared.findings.Finding.{Finding}
use Rattle.sc_net.specs.declared.findings.Finding.TheVariants as findings
use Rattle.sc_world.specs.Sound.{IsSoundWorld, Says}
use Rattle.sc_world.specs.Ties.{AreTied, StandsAt}
use Rattle.sc_world.specs.Tracks.{Learns, own_block}
use Rattle.sc_world.specs.WorldData.{WorldData, core_in}
use Rattle.sc_world.proofs.FitLemmas.{stage_stands}
use Rattle.sc_world.proofs.TieLemmas.{gone_tied, registered_tied}
use Rattle.sc_world.proofs.ToldLemmas.{IsTold}

-- ---- what a true report lets the tracker learn

-- the block of an attempt in the core is the task's
block_is : (c : CoreData) (t : TaskData) → AreNumbered t.job.graph c.dag.stages
    → IsTaskOf t.job t.hand_out → own_block c t.hand_out.attempt ≡ block_of_task t
block_is c t numbered task = by (stage_of_task t) refl
  where
    made : (target : Target) (p : ℕ) → block_by target p ≡ block_left target p
    made (targets.Map shuffle) p = refl
    made (targets.Result node) p = refl

    by : (o : Option StageData) → stage_of_task t ≡ o
        → own_block c t.hand_out.attempt ≡ block_left_by o t.hand_out.attempt.partition
    by None e =
        absurd (subst (λ o. HasPartition o t.hand_out.attempt.partition) e task.task)
    by (Some stage) e =
        ap (λ (s : StageData). block_by s.target t.hand_out.attempt.partition)
        (stage_stands t.job.graph c.dag.stages t.hand_out.attempt.stage stage numbered e)
        ∙ made stage.target t.hand_out.attempt.partition

-- it is so in the stores
learnt_tied : (stores : List StoreData) (t : TrackerData) (task : TaskData) (finding : Finding)
    (after : TrackerData) → AreTied stores t → Says stores task finding
    → Learns t (block_of_task task) (outcome_of finding) after → AreTied stores after
learnt_tied stores t task (findings.Map loc) after tied put learns =
    by (block_of_task task) refl learns
  where
    by : (o : Option BlockId) → block_of_task task ≡ o
        → Learns t o (outcome_of (findings.Map loc)) after → AreTied stores after
    by None e l = absurd l
    by (Some b) e l =
        let same : Some put.block ≡ Some b = sym put.own ∙ e in
        let one : put.block ≡ b = search (rules, same) in
        rw l (registered_tied stores t b loc tied
        (subst (λ b. StandsAt stores b loc) one put.there))
learnt_tied stores t task (findings.Result given) after tied says learns =
    absurd (nothing (block_of_task task) learns)
  where
    nothing : (o : Option BlockId) → Learns t o (outcome_of (findings.Result given)) after → ⊥
    nothing None l = l
    nothing (Some b) l = l
learnt_tied stores t task findings.Planned after tied says learns =
    absurd (nothing (block_of_task task) learns)
  where
    nothing : (o : Option BlockId) → Learns t o (outcome_of findings.Planned) after → ⊥
    nothing None l = l
    nothing (Some b) l = l
learnt_tied stores t task (findings.Raised r) after tied says learns =
    absurd (nothing (block_of_task task) learns)
  where
    nothing : (o : Option BlockId) → Learns t o (outcome_of (findings.Raised r)) after → ⊥
    nothing None l = l
    nothing (Some b) l = l
learnt_tied stores t task (findings.Gone on wanted found) after tied says learns =
    by (block_of_task task) learns
  where
    by : (o : Option BlockId) → Learns t o (outcome_of (findings.Gone on wanted found)) after
        → AreTied stores after
    by None l = rw l (gone_tied stores t on found tied says)
    by (Some b) l = rw l (gone_tied stores t on found tied says)
learnt_tied stores t task (findings.Metadata last) after tied says learns =
    absurd (nothing (block_of_task task) learns)
  where
    nothing : (o : Option BlockId) → Learns t o (outcome_of (findings.Metadata last)) after → ⊥
    nothing None l = l
    nothing (Some b) l = l
learnt_tied stores t task (findings.Device fault) after tied says learns =
    absurd (nothing (block_of_task task) learns)
  where
    nothing : (o : Option BlockId) → Learns t o (outcome_of (findings.Device fault)) after → ⊥
    nothing None l = l
    nothing (Some b) l = l
learnt_tied stores t task findings.Denied after tied says learns =
    absurd (nothing (block_of_task task) learns)
  where
    nothing : (o : Option BlockId) → Learns t o (outcome_of findings.Denied) after → ⊥
    nothing None l = l
    nothing (Some b) l = l

-- ---- cores

-- what holds of a core that follows the one of a world
pub record IsBehind (w : WorldData) (c : CoreData) : Type 0 where
  pub told : (core_in w).told ≤ c.told
  pub stages : c.dag.stages ≡ (core_in w).dag.stages
  pub tied : AreTied w.stores c.dag.tracker
  pub given : (a : AttemptId) → was_given (core_in w).dag a ≡ true → was_given c.dag a ≡ true
  pub saves : is_save c.committers ≡ is_save (core_in w).committers
  pub stays : c.left_first ≡ None

pub itself_behind : (work : WorkData) (w : WorldData) → IsSoundWorld work w
    → IsBehind w (core_in w)
itself_behind work w sound =
    record {
      told = omega arith;
      stages = refl;
      tied = sound.tied;
      given = λ a g. g;
      saves = refl;
      stays = sound.stays;
    }

pub ended_behind : (w : WorldData) (c : CoreData) (job : JobState) → IsBehind w c
    → IsBehind w (ended c job)
ended_behind w c job h =
    record {
      told = h.told;
      stages = h.stages;
      tied = h.tied;
      given = h.given;
      saves = h.saves;
      stays = h.stays;
    }

pub late_behind : (twice : Bool) (w : WorldData) (c : CoreData) (a : AttemptId) (outcome : Outcome)
    (delay : ℕ) → IsBehind w c → IsBehind w (shelved_if twice c a outcome delay)
late_behind false w c a outcome delay h = h
late_behind true w c a outcome delay h =
    record {
      told = h.told;
      stages = h.stages;
      tied = h.tied;
      given = h.given;
      saves = h.saves;
      stays = h.stays;
    }

pub without_behind : (w : WorldData) (c : CoreData) (key : ℕ) → IsBehind w c
    → IsBehind w (without_shelved c key)
without_behind w c key h =
    record {
      told = h.told;
      stages = h.stages;
      tied = h.tied;
      given = h.given;
      saves = h.saves;
      stays = h.stays;
    }

-- what was handed out stays so where a partition is held back
given_held : (d after : DagData) (a : AttemptId) → MayHold d after → was_given d a ≡ true
    → was_given after a ≡ true
given_held d after a (inl is) g = subst (λ x. was_given x a ≡ true) (sym is) g
given_held d after a (inr (s, p, denied, is)) g =
    subst (λ x. was_given x a ≡ true) (sym is) ((hold_calms d s p denied).given a g)

-- something happens beside the reports
pub aside_behind : (work : WorkData) (w : WorldData) (after : CoreData) → IsSoundWorld work w
    → IsAside (core_in w) after → after.left_first ≡ (core_in w).left_first → IsBehind w after
aside_behind work w after sound is stays =
    record {
      told = subst (λ (n : ℕ). (core_in w).told ≤ n) (sym is.told) (omega arith);
      stages = held_stages (core_in w).dag after.dag is.dag;
      tied = subst (λ (t : TrackerData). AreTied w.stores t)
          (sym (held_tracker (core_in w).dag after.dag is.dag)) sound.tied;
      given = λ a g. given_held (core_in w).dag after.dag a is.dag g;
      saves = is.saves;
      stays = stays ∙ sound.stays;
    }

-- a report is told that is right about the stores
pub told_behind : (w : WorldData) (c after : CoreData) (t : TaskData) (finding : Finding)
    → IsBehind w c → c.told < 2 ^ 64 → AreNumbered t.job.graph (core_in w).dag.stages
    → IsTaskOf t.job t.hand_out → Says w.stores t finding
    → IsTold c t.hand_out.attempt (outcome_of finding) after → IsBehind w after
told_behind w c after t finding h fits numbered task says is =
    record {
      told = rw is.told (more h.told (counted_more c.told fits));
      stages = is.stages ∙ h.stages;
      tied = tied is.tracker;
      given = λ a g. is.given a (h.given a g);
      saves = is.saves ∙ h.saves;
      stays = is.stays ∙ h.stays;
    }
  where
    more : {m n o : ℕ} → m ≤ n → n ≤ o → m ≤ o
    more le ge = omega (arith, le, ge)

    block : own_block c t.hand_out.attempt ≡ block_of_task t
    block =
        block_is c t
        (subst (λ stages. AreNumbered t.job.graph stages) (sym h.stages) numbered) task

    tied : (after.dag.tracker ≡ c.dag.tracker)
        ⊎ Learns c.dag.tracker (own_block c t.hand_out.attempt) (outcome_of finding)
        after.dag.tracker
        → AreTied w.stores after.dag.tracker
    tied (inl e) = rw e h.tied
    tied (inr l) =
        learnt_tied w.stores c.dag.tracker t finding after.dag.tracker h.tied says
        (subst (λ b. Learns c.dag.tracker b (outcome_of finding) after.dag.tracker) block l)
