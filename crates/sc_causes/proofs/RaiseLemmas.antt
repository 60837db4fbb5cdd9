-- A raise of a task leaves what its job is for without a value.
use Rattle.std.proofs.Common.{◌≡◌, ◌∙◌, ℕ, ◌<◌, true, List, Option, Some, None, is_some, length, refl, ap, sym, subst, arith}
use Rattle.std.proofs.lemmas.List.Elements.{All-contains}
use Rattle.std.specs.List.{Contains}
use Rattle.sc_ids.specs.Graphs.{StageData}
use Rattle.sc_ids.specs.declared.blocks.ShuffleId.{ShuffleId}
use Rattle.sc_ids.specs.declared.blocks.Target.{Target}
use Rattle.sc_ids.specs.declared.blocks.Target.TheVariants as targets
use Rattle.sc_lineage.specs.Actions.{action_outcome, never}
use Rattle.sc_lineage.specs.Meaning.{local_streams}
use Rattle.sc_lineage.specs.ScriptData.{WorkData, IsSoundScript, collect_action}
use Rattle.sc_lineage.specs.Streams.{raises}
use Rattle.sc_lineage.specs.Targets.{map_target, own_value, result_target}
use Rattle.sc_laws.specs.Spreads.{NeverByRaise, RaisesSomewhere}
use Rattle.sc_laws.proofs.NeverLemmas.{nevers_by_raises}
use Rattle.sc_laws.proofs.SpreadLemmas.{own_raises_are_spread}
use Rattle.sc_laws.proofs.StreamLemmas.{raises_by}
use Rattle.sc_stagecut.specs.Carrying.{CarriedData, IsCarriedFor}
use Rattle.sc_stagecut.specs.Cuts.{IsCut}
use Rattle.sc_stagecut.specs.Numbering.{mapped_node}
use Rattle.sc_compute.specs.Stages.{local_count}
use Rattle.sc_jobs.specs.JobData.{HasPartition, HasTask, IsGoal, goal_action, goal_node, job_data, stage_in, target_among, target_by, target_of}
use Rattle.sc_jobs.specs.Plans.{AreTasksFor, IsStageFor}
use Rattle.sc_jobs.specs.declared.goals.Goal.{Goal}
use Rattle.sc_jobs.specs.declared.goals.Goal.TheVariants as goals
use Rattle.sc_jobs.proofs.NodeLemmas.{found_within, goal_known, mapped_same, sort_parent}
use Rattle.sc_jobs.proofs.PlanLemmas.{lawful, planned}
use Rattle.sc_jobs.proofs.StageLemmas.{found_there}
use Rattle.sc_causes.specs.Raises.{RaisesLeaveNoValue, Serves}
use Rattle.sc_causes.proofs.ReadLemmas.{raises_reached, reaching_there, shuffles_side, sort_raises}

-- where the rows of a node never can be collected the node raises
collect_raises : (work : WorkData) (node : ℕ) → NeverByRaise work (collect_action node)
    → action_outcome work (collect_action node) ≡ never → RaisesSomewhere work node
collect_raises work node law is =
    let some = law.only is in raises_by (local_streams work node) some.0 some.2

-- The goals of a work.
module _ (work : WorkData) (sound : IsSoundScript work.script) where
  -- what leaves a goal without an outcome
  law_of : (goal : Goal) → IsGoal work goal → NeverByRaise work (goal_action work goal)
  law_of goal is =
      nevers_by_raises work (goal_action work goal) sound (goal_known work goal sound is)

  -- an action whose node reads a sort, where the sort's parent never has an outcome
  reader_is_never : (sort k : ℕ) → IsGoal work (goals.Bounds sort)
      → action_outcome work (goal_action work (goals.Bounds sort)) ≡ never
      → Serves work (goals.Bounds sort) k
      → action_outcome work (goal_action work (goals.Action k)) ≡ never
  reader_is_never sort k is own reach =
      let node = goal_node work (goals.Action k) in
      let parent = collect_raises work (goal_node work (goals.Bounds sort))
      (law_of (goals.Bounds sort) is) own in
      let raised : RaisesSomewhere work sort =
      sort_raises work sound sort is.0 is.1 is.2
      (subst (RaisesSomewhere work) (sort_parent work sort is.0 is.1 sound is.2).0 parent) in
      let there : node < length work.script.nodes =
      reaching_there work node sort reach
      (found_within work.script.nodes sort _ is.2) in
      (nevers_by_raises work (goal_action work (goals.Action k)) sound there).of_node
      (raises_reached work sound node sort reach raised)

  -- likewise what a job serves, where what it is for never has an outcome
  served_is_never : (goal : Goal) → IsGoal work goal
      → action_outcome work (goal_action work goal) ≡ never → (k : ℕ) → Serves work goal k
      → action_outcome work (goal_action work (goals.Action k)) ≡ never
  served_is_never (goals.Action number) is own k same =
      subst (λ i. action_outcome work (goal_action work (goals.Action i)) ≡ never) same own
  served_is_never (goals.Bounds sort) is own k reach = reader_is_never sort k is own reach

  -- A job that was cut.
  module _ (carried : CarriedData) (known : IsCarriedFor work.script.nodes carried) (goal : Goal)
      (is : IsGoal work goal) (graph : List StageData)
      (cut : IsCut work carried (goal_node work goal) graph) where
    -- a stage has the tasks of what it makes
    tasks_for : (stage : StageData) (t : Target) → Contains graph stage → stage.target ≡ t
        → AreTasksFor work goal t stage.tasks
    tasks_for stage t there makes =
        let P : Target → Type 0 = λ u. AreTasksFor work goal u stage.tasks in
        subst P makes
        (All-contains (IsStageFor work goal) graph stage
        (planned work sound carried known goal is graph cut).stages there)

    -- a raise of a map task leaves it without an outcome
    map_is_never : (stage : StageData) (s : ShuffleId) (p : ℕ) → Contains graph stage
        → stage.target ≡ targets.Map s → p < stage.tasks
        → AreTasksFor work goal (targets.Map s) stage.tasks
        → raises (own_value work (map_target s.node s.side p)) ≡ true
        → action_outcome work (goal_action work goal) ≡ never
    map_is_never stage s p there makes below are raised =
        let parent = mapped_node work.script.nodes s in
        let both = (lawful work sound carried known goal is graph cut).only s stage.id
        (stage, there, makes, refl) in
        let same : stage.tasks ≡ local_count work parent =
        are.1 ∙ ap (local_count work) (sym (mapped_same work s)) in
        let within : p < length (local_streams work parent) = omega (arith, below, same) in
        (law_of goal is).of_node
        (raises_reached work sound (goal_node work goal) s.node both.1
        (own_raises_are_spread work s.node s.side parent p sound
        (shuffles_side work s both.0) within raised))

    -- so does one of a result task
    result_is_never : (node tasks p : ℕ) → p < tasks
        → AreTasksFor work goal (targets.Result node) tasks
        → raises (own_value work (result_target (goal_action work goal) p)) ≡ true
        → action_outcome work (goal_action work goal) ≡ never
    result_is_never node tasks p below are raised =
        let count = are.1 in
        (law_of goal is).of_result p (omega (arith, below, count)) raised

    -- and so one of any task of a stage
    task_is_never : (stage : StageData) (p : ℕ) (t : Target) → Contains graph stage
        → stage.target ≡ t → p < stage.tasks
        → raises (own_value work (target_by work goal t p)) ≡ true
        → action_outcome work (goal_action work goal) ≡ never
    task_is_never stage p (targets.Map s) there makes below raised =
        map_is_never stage s p there makes below (tasks_for stage (targets.Map s) there makes)
        raised
    task_is_never stage p (targets.Result node) there makes below raised =
        result_is_never node stage.tasks p below (tasks_for stage (targets.Result node) there makes)
        raised

    pub own_is_never : (id p : ℕ) → HasTask graph id p
        → raises (own_value work (target_of work (job_data goal graph) id p)) ≡ true
        → action_outcome work (goal_action work goal) ≡ never
    own_is_never id p has raised = at (stage_in graph id) refl has raised
      where
        at : (o : Option StageData) → stage_in graph id ≡ o → HasPartition o p
            → raises (own_value work (target_among work goal o p)) ≡ true
            → action_outcome work (goal_action work goal) ≡ never
        at None e below raise = absurd below
        at (Some stage) e below raise =
            task_is_never stage p stage.target (found_there graph id stage e).0 refl below raise

pub raises_leave_no_value : RaisesLeaveNoValue
raises_leave_no_value work carried goal graph stage p r sound known is cut has raise =
    let own = own_is_never work sound carried known goal is graph cut stage p has
    (ap is_some raise) in
    record { own = own; served = served_is_never work sound goal is own }
