-- What holds of the stages of every job.
use Rattle.std.specs.Prelude.{ℕ, ◌-◌, ◌<◌, ◌≤◌, ◌≡◌, ◌≢◌, ◌⊎◌, Bool, List, [], true, false, Option, Some, None, IfSome, All, if◌then◌else◌, length, slice_get, take}
use Rattle.std.specs.Option.{option_map}
use Rattle.sc_base.specs.Lists.{at_or}
use Rattle.sc_ids.specs.Graphs.{StageData}
use Rattle.sc_ids.specs.declared.attempts.AttemptId.{AttemptId}
use Rattle.sc_ids.specs.declared.blocks.ShuffleId.{ShuffleId}
use Rattle.sc_ids.specs.declared.blocks.Target.TheVariants as targets
use Rattle.sc_taskset.specs.Lookups.{copy_at, task_at}
use Rattle.sc_taskset.specs.Sound.{IsSoundSet}
use Rattle.sc_taskset.specs.TaskSetData.{TaskData, TaskSetData}
use Rattle.sc_taskset.specs.declared.tasks.Finish.{Finish}
use Rattle.sc_taskset.specs.declared.tasks.Finish.TheVariants.{OnExecutor, Unfinished}
use Rattle.sc_tracker.specs.TrackerData.{TrackerData, output_of, outputs_of}
use Rattle.sc_tracker.specs.TrackerFacts.{IsSoundTracker}
use Rattle.sc_dag.specs.Births.{AreBornInTurn, AreCharged, ReadsOutput, WasThere, births_of}
use Rattle.sc_dag.specs.DagData.{DagData, StageState, newest_at, no_stage, stage_at}
use Rattle.sc_dag.specs.Openings.{AreOfTwo}
use Rattle.sc_dag.specs.Outputs.{block_of, held_in, is_done, results_in}
use Rattle.sc_dag.specs.Reports.{set_of, wants_in}
use Rattle.sc_dag.specs.Submission.{is_map}
use Rattle.sc_dag.specs.declared.attempts.StageAttempt.{StageAttempt}

-- the stages themselves
pub record AreSoundStages (stages : List StageData) (t : TrackerData) : Type 0 where
  -- the numbers of parents are smaller
  pub older : (s : ℕ) → All (λ parent. parent < s) (at_or stages s no_stage).parents
  -- no shuffle has two stages
  pub apart : (r s : ℕ) → r ≢ s
      → AreOfTwo (at_or stages r no_stage).target (at_or stages s no_stage).target
  -- map outputs alone are read: a parent is a map stage, or has no task
  pub read : (s : ℕ)
      → All (λ parent. (is_map (at_or stages parent no_stage).target ≡ true)
      ⊎ ((at_or stages parent no_stage).tasks ≡ 0))
      (at_or stages s no_stage).parents
  -- there is room for the outputs of each map stage
  pub room : (s : ℕ) (shuffle : ShuffleId)
      → (at_or stages s no_stage).target ≡ targets.Map shuffle
      → (at_or stages s no_stage).tasks ≤ length (outputs_of t shuffle)

-- a task set is one of a stage, whose tasks these are
pub record IsSetOf (stage : StageData) (set : TaskSetData) : Type 0 where
  pub sound : IsSoundSet set
  pub kind : set.is_map ≡ is_map stage.target
  pub within : All (λ task. task.partition < stage.tasks) set.tasks

-- an attempt of a stage; one that failed starts nothing more
pub record IsAttemptOf (stage : StageData) (a : StageAttempt) : Type 0 where
  pub set : IsSetOf stage a.set
  pub failed : a.has_failed ≡ true → a.set.is_zombie ≡ true

-- the attempts of a stage in this job
abbrev pub attempts_in : Option StageState → List StageAttempt
attempts_in None = []
attempts_in (Some state) = state.attempts

abbrev pub attempts_of : DagData → ℕ → List StageAttempt
attempts_of d s = attempts_in (slice_get d.states s)

-- how a partition is finished in a task set
abbrev pub finish_among : Option TaskData → Finish
finish_among None = Unfinished
finish_among (Some task) = task.finish

abbrev pub finish_in : Option TaskSetData → ℕ → Finish
finish_in None p = Unfinished
finish_in (Some set) p = finish_among (task_at p set.tasks)

-- the executor on which an attempt runs
abbrev pub runner_among : Option TaskData → ℕ → Option ℕ
runner_among None nth = None
runner_among (Some task) nth = option_map (λ c. c.exec) (copy_at nth task.copies)

abbrev pub runner_in : Option TaskSetData → AttemptId → Option ℕ
runner_in None a = None
runner_in (Some set) a = runner_among (task_at a.partition set.tasks) a.nth

-- where an attempt runs, if it does
abbrev pub runner_of : DagData → AttemptId → Option ℕ
runner_of d a = runner_in (set_of d a) a

-- the tasks of a set that may be there are held back exactly as the flags of their partitions say
abbrev pub AreHeldBy : List Bool → Option TaskSetData → Type 0
AreHeldBy flags set =
    IfSome set (λ s. All (λ task. task.denied ≡ at_or flags task.partition false) s.tasks)

-- the stages of every job
pub record IsSoundDag (d : DagData) : Type 0 where
  pub tracker : IsSoundTracker d.tracker
  pub stages : AreSoundStages d.stages d.tracker
  pub states : length d.states ≡ length d.stages
  -- a result stage has a place for each of its results
  pub results : (s : ℕ) → length (results_in (slice_get d.states s))
      ≡ (if is_map (stage_at d s).target then 0 else (stage_at d s).tasks)
  pub attempts : (s : ℕ) → All (IsAttemptOf (stage_at d s)) (attempts_of d s)
  -- only the newest attempt of a stage hands out tasks
  pub older : (s : ℕ) → All (λ a. a.set.is_zombie ≡ true)
      (take (length (attempts_of d s) - 1) (attempts_of d s))
  -- what a task of the newest attempt has made, where it is registered still, is on its executor
  pub made : (s p exec : ℕ) (shuffle : ShuffleId) → (stage_at d s).target ≡ targets.Map shuffle
      → finish_in (newest_at d s) p ≡ OnExecutor exec
      → IfSome (output_of d.tracker (block_of shuffle p)).here (λ loc. loc.exec ≡ exec)
  -- what the newest attempt still wants isn't done
  pub wanted : (s p : ℕ) → wants_in (newest_at d s) p ≡ true → is_done d s p ≡ false
  -- and of a result stage all else is
  pub covered : (s p : ℕ) → is_map (stage_at d s).target ≡ false → p < (stage_at d s).tasks
      → newest_at d s ≢ None → wants_in (newest_at d s) p ≡ false → is_done d s p ≡ true
  -- a stage has a flag for each of its partitions
  pub flags : (s : ℕ) → length (held_in (slice_get d.states s)) ≡ (stage_at d s).tasks
  -- and the tasks of its newest attempt are held back exactly as these say
  pub held : (s : ℕ) → AreHeldBy (held_in (slice_get d.states s)) (newest_at d s)
  -- the attempts of a stage began one after another, and no later than now
  pub born : (s : ℕ) → AreBornInTurn d.tracker.epoch (births_of (attempts_of d s))
  -- they failed, or were given up, for events that came after they began
  pub charged : (s : ℕ) → AreCharged d.tracker.epoch (attempts_of d s)
  -- what an attempt reads was there when it began
  pub inputs : (s p : ℕ) (shuffle : ShuffleId) → ReadsOutput d.stages s shuffle p
      → All (WasThere d.tracker (block_of shuffle p)) (births_of (attempts_of d s))
