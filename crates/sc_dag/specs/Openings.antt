-- The stages of a job that begins.
use Rattle.std.specs.Prelude.{ℕ, ◌+◌, ◌<◌, ◌≡◌, ◌⊎◌, List, [], ◌∷◌, ◌++◌, All, Contains, true, false, Option, Some, None, if◌then◌else◌, length, replicate, slice_get}
use Rattle.std.specs.List.{AllPairs}
use Rattle.sc_base.specs.Lists.{at_or}
use Rattle.sc_ids.specs.Graphs.{StageData}
use Rattle.sc_ids.specs.declared.blocks.ShuffleId.{ShuffleId}
use Rattle.sc_ids.specs.declared.blocks.Target.{Target}
use Rattle.sc_ids.specs.declared.blocks.Target.TheVariants as targets
use Rattle.sc_tracker.specs.TrackerData.{TrackerData, outputs_of}
use Rattle.sc_tracker.specs.Tracking.{has_room, sized}
use Rattle.sc_dag.specs.DagData.{DagData, StageState, no_stage}
use Rattle.sc_dag.specs.Submission.{is_map}

-- two targets are not map sides of one shuffle
abbrev pub AreOfTwo : Target → Target → Type 0
AreOfTwo a b = (shuffle : ShuffleId) → a ≡ targets.Map shuffle → b ≡ targets.Map shuffle → ⊥

-- the stages of a job: map stages and then the result stage
pub record IsJob (graph : List StageData) : Type 0 where
  pub maps : List StageData
  pub result : StageData
  pub all : graph ≡ maps ++ result ∷ []
  pub are_maps : All (λ stage. is_map stage.target ≡ true) maps
  pub is_result : is_map result.target ≡ false
  -- it has a task, so the job has something to do
  pub some : 0 < result.tasks
  -- numbers rise, and those of parents are smaller
  pub rising : AllPairs (λ a b. a.id < b.id) graph
  pub older : All (λ stage. All (λ parent. parent < stage.id) stage.parents) graph
  -- no shuffle has two stages
  pub apart : AllPairs (λ a b. AreOfTwo a.target b.target) graph

-- What a tracker that is carried on knows fits a job: it has room for no shuffle of it, or for all
-- outputs of its map stage.
abbrev pub FitsIn : TrackerData → StageData → Type 0
FitsIn t stage = (shuffle : ShuffleId) → stage.target ≡ targets.Map shuffle
    → (has_room t shuffle ≡ false) ⊎ (length (outputs_of t shuffle) ≡ stage.tasks)

abbrev pub FitsJob : TrackerData → List StageData → Type 0
FitsJob t graph = All (FitsIn t) graph

-- the number behind the last one of some stages
abbrev pub number_behind : List StageData → ℕ
number_behind [] = 0
number_behind (stage ∷ []) = stage.id + 1
number_behind (stage ∷ next ∷ graph) = number_behind (next ∷ graph)

-- the stages of a job by their numbers, where a number that isn't of the job has none
pub record AreNumbered (graph stages : List StageData) : Type 0 where
  pub many : length stages ≡ number_behind graph
  pub each : All (λ stage. slice_get stages stage.id ≡ Some stage) graph
  pub only : (s : ℕ) → (at_or stages s no_stage ≡ no_stage)
      ⊎ (Contains graph (at_or stages s no_stage) × ((at_or stages s no_stage).id ≡ s))

-- room for the outputs of a map stage
abbrev pub sized_by : TrackerData → StageData → TrackerData
sized_by t stage = sized_for stage.target stage.tasks
  where
    sized_for : Target → ℕ → TrackerData
    sized_for (targets.Map shuffle) tasks = sized t shuffle tasks
    sized_for (targets.Result node) tasks = t

-- room for the outputs of all map stages
abbrev pub sized_for_all : TrackerData → List StageData → TrackerData
sized_for_all t [] = t
sized_for_all t (stage ∷ graph) = sized_for_all (sized_by t stage) graph

-- a stage that nothing was done for in this job
abbrev pub blank_state : StageData → ℕ → StageState
blank_state stage before =
    record {
      before = before;
      attempts = [];
      waits = false;
      results = replicate (if is_map stage.target then 0 else stage.tasks) false;
      held = replicate stage.tasks false;
    }

-- how many attempts the stage of a number had in all jobs so far
abbrev pub attempts_so_far : Option DagData → ℕ → ℕ
attempts_so_far None s = 0
attempts_so_far (Some last) s = so_far (slice_get last.states s)
  where
    so_far : Option StageState → ℕ
    so_far None = 0
    so_far (Some state) = state.before + length state.attempts

-- the states of stages that nothing was done for
abbrev pub blank_states : Option DagData → ℕ → List StageData → List StageState
blank_states last n [] = []
blank_states last n (stage ∷ stages) =
    blank_state stage (attempts_so_far last n) ∷ blank_states last (n + 1) stages

-- A job that begins, behind another one or none: what is carried on is the tracker and how many
-- attempts the stages had.
pub record Opens (graph : List StageData) (last : Option DagData) (t : TrackerData) (d : DagData)
    : Type 0 where
  pub numbered : AreNumbered graph d.stages
  pub states : d.states ≡ blank_states last 0 d.stages
  pub tracker : d.tracker ≡ sized_for_all t graph
