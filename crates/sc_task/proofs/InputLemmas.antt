-- What was handed in for a task are the inputs of what it is to compute.
use Rattle.std.proofs.Common.{◌≡◌, ℕ, ◌+◌, ◌<◌, List, [], ◌∷◌, Option, Some, None, All, IfSome, length, take, get_or, refl, sym, subst}
use Rattle.std.proofs.lemmas.List.{take_more}
use Rattle.std.proofs.lemmas.List.Elements.{All-append, All-cons, All-contains, All-nil, All-weaker}
use Rattle.std.specs.List.{Contains}
use Rattle.std.specs.Option.{option_map}
use Rattle.sc_ids.specs.Graphs.{StageData}
use Rattle.sc_ids.specs.declared.blocks.Target.{Target}
use Rattle.sc_ids.specs.declared.blocks.Target.TheVariants as targets
use Rattle.sc_lineage.specs.ScriptData.{WorkData}
use Rattle.sc_stagecut.specs.Numbering.{side_of}
use Rattle.sc_compute.specs.Asking.{node_taken}
use Rattle.sc_compute.specs.Inputs.{HasInputs}
use Rattle.sc_compute.specs.Stages.{HasOutputs}
use Rattle.sc_compute.specs.declared.stages.ShuffleInputs.{ShuffleInputs}
use Rattle.sc_jobs.specs.JobData.{HasPartition, parents_in, stage_in, target_among, target_by}
use Rattle.sc_jobs.specs.Plans.{AreTasksFor, IsJobFor, IsStageFor, ReadsInputs, ReadsSide, node_taken_by}
use Rattle.sc_jobs.proofs.StageLemmas.{found_there, stage_found}
use Rattle.sc_net.specs.Tasks.{IsTaskOf, TaskData, stage_of_task, target_of_task}
use Rattle.sc_task.specs.Handing.{AreHanded, IsHanded, IsHandedBy}

-- what was handed in stays where more is
pub handed_still : (before after : ShuffleInputs)
    → ((k side : ℕ) → HasOutputs before k side → HasOutputs after k side)
    → (graph : List StageData) (id : ℕ) → IsHandedBy graph before id → IsHandedBy graph after id
handed_still before after kept graph id = by (stage_in graph id)
  where
    by : (o : Option StageData) → IfSome o (IsHanded before) → IfSome o (IsHanded after)
    by None handed = tt
    by (Some stage) handed = λ s makes. kept s.node s.side (handed s makes)

-- one stage more was handed in
pub handed_more : (before after : ShuffleInputs) (graph : List StageData) (items : List ℕ)
    (i d : ℕ) → i < length items
    → ((k side : ℕ) → HasOutputs before k side → HasOutputs after k side)
    → IsHandedBy graph after (get_or items i d)
    → All (IsHandedBy graph before) (take i items)
    → All (IsHandedBy graph after) (take (i + 1) items)
handed_more before after graph items i d within kept one all =
    let P = IsHandedBy graph after in
    let x = get_or items i d in
    subst (All P) (sym (take_more items i d within))
    (All-append P (take i items) (x ∷ [])
    (All-weaker (IsHandedBy graph before) P (handed_still before after kept graph) (take i items)
    all)
    (All-cons P x [] one (All-nil P)))

-- a stage that is found was handed in
pub handed_found : (graph : List StageData) (inputs : ShuffleInputs) (id : ℕ) (stage : StageData)
    → stage_in graph id ≡ Some stage → IsHanded inputs stage → IsHandedBy graph inputs id
handed_found graph inputs id stage found handed =
    let P : Option StageData → Type 0 = λ o. IfSome o (IsHanded inputs) in
    subst P (sym found) handed

-- nothing was found
pub none_if : {A B : Type 0} (o : Option A) (f : A → B) (p : Option B)
    → ((x : A) → o ≡ Some x → ⊥) → option_map f o ≡ p → p ≡ None
none_if None f p nothing is = sym is
none_if (Some x) f p nothing is = absurd (nothing x refl)

pub handed_none : (graph : List StageData) (inputs : ShuffleInputs) (id : ℕ)
    → stage_in graph id ≡ None → IsHandedBy graph inputs id
handed_none graph inputs id none =
    let P : Option StageData → Type 0 = λ o. IfSome o (IsHanded inputs) in
    subst P (sym none) tt

-- A task of a job, for which all that it reads was handed in.
module _ (work : WorkData) (t : TaskData) (inputs : ShuffleInputs) (is : IsJobFor work t.job)
    (of : IsTaskOf t.job t.hand_out) (are : AreHanded t inputs) where
  abbrev graph : List StageData
  graph = t.job.graph

  abbrev id : ℕ
  id = t.hand_out.attempt.stage

  abbrev p : ℕ
  p = t.hand_out.attempt.partition

  -- the shuffles that its stage takes in were handed in
  stage_inputs : (stage : StageData) → stage_of_task t ≡ Some stage
      → HasInputs work inputs (node_taken_by work stage.target)
  stage_inputs stage found = λ k takes side through.
      let there = (found_there graph id stage found).0 in
      let all : ReadsInputs work graph stage =
      All-contains (ReadsInputs work graph) graph stage is.inputs there in
      let reads : ReadsSide graph stage k side = all k side takes through in
      let parent = reads.parent in
      let Q : Option StageData → Type 0 = λ o. Contains (parents_in o) parent.id in
      let handed = All-contains (IsHandedBy graph inputs) (parents_in (stage_of_task t)) parent.id
      are (subst Q (sym found) reads.read) in
      let P : Option StageData → Type 0 = λ o. IfSome o (IsHanded inputs) in
      let so : IsHanded inputs parent =
      subst P (stage_found graph parent is.job.rising reads.there) handed in
      so (side_of k side) reads.makes

  -- so all inputs of its target were
  pub task_inputs : HasInputs work inputs (node_taken work (target_of_task work t))
  task_inputs = at (stage_of_task t) refl of.task
    where
      by : (stage : StageData) → stage_of_task t ≡ Some stage → (target : Target)
          → stage.target ≡ target
          → HasInputs work inputs (node_taken work (target_by work t.job.goal target p))
      by stage found (targets.Map s) makes =
          let P : Target → Type 0 = λ x. HasInputs work inputs (node_taken_by work x) in
          subst P makes (stage_inputs stage found)
      by stage found (targets.Result node) makes =
          let Q : Target → Type 0 = λ x. AreTasksFor work t.job.goal x stage.tasks in
          let tasks = subst Q makes (All-contains (IsStageFor work t.job.goal) graph stage
          is.stages (found_there graph id stage found).0) in
          let P : Target → Type 0 = λ x. HasInputs work inputs (node_taken_by work x) in
          subst (HasInputs work inputs) tasks.0 (subst P makes (stage_inputs stage found))

      at : (o : Option StageData) → stage_of_task t ≡ o → HasPartition o p
          → HasInputs work inputs (node_taken work (target_among work t.job.goal o p))
      at None found has = absurd has
      at (Some stage) found has = by stage found stage.target refl
