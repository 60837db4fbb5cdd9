-- Stages whose outputs are handed in.
use Rattle.std.specs.declared.alloc.Global.{Global}
use Rattle.std.specs.Prelude.{ℕ, ◌≡◌, All, IfSome, List, Some, Vec, slice_get}
use Rattle.std.specs.List.{AllZip}
use Rattle.sc_value.specs.Datum.{Datum}
use Rattle.sc_ids.specs.Graphs.{StageData}
use Rattle.sc_ids.specs.declared.blocks.BlockId.{BlockId}
use Rattle.sc_ids.specs.declared.blocks.ShuffleId.{ShuffleId}
use Rattle.sc_ids.specs.declared.blocks.Target.TheVariants as targets
use Rattle.sc_lineage.specs.ScriptData.{WorkData}
use Rattle.sc_compute.specs.Stages.{HasOutputs, handed_in}
use Rattle.sc_compute.specs.declared.stages.ShuffleInputs.{ShuffleInputs}
use Rattle.sc_jobs.specs.JobData.{parents_in, stage_in}
use Rattle.sc_jobs.specs.Plans.{IsShuffleOf, maps_of}
use Rattle.sc_net.specs.Tasks.{TaskData, blocks_of_task, stage_of_task}

-- a map stage is one of a shuffle of the work, with all its map tasks
abbrev pub IsOfWork : WorkData → StageData → Type 0
IsOfWork work stage = (s : ShuffleId) → stage.target ≡ targets.Map s
    → IsShuffleOf work s × (stage.tasks ≡ maps_of work s)

-- the outputs of a stage were handed in, if it is one of map tasks
abbrev pub IsHanded : ShuffleInputs → StageData → Type 0
IsHanded inputs stage =
    (s : ShuffleId) → stage.target ≡ targets.Map s → HasOutputs inputs s.node s.side

-- the same of the stage of a number
abbrev pub IsHandedBy : List StageData → ShuffleInputs → ℕ → Type 0
IsHandedBy graph inputs id = IfSome (stage_in graph id) (IsHanded inputs)

-- the outputs of each shuffle that a task reads were handed in
abbrev pub AreHanded : TaskData → ShuffleInputs → Type 0
AreHanded t inputs = All (IsHandedBy t.job.graph inputs) (parents_in (stage_of_task t))

-- What was read of a block is what was handed in of it: it stands at the place of its map partition
-- among the outputs of its shuffle.
abbrev pub IsHandedIn : ShuffleInputs → BlockId → List (List Datum) → Type 0
IsHandedIn inputs block output =
    (outputs : Vec (List (List Datum)) Global)
    × (handed_in inputs block.shuffle.node block.shuffle.side ≡ Some outputs)
    × (slice_get outputs.items block.map ≡ Some output)

-- all that was read of a task's blocks was handed in so
abbrev pub AreHandedIn : TaskData → List (List (List Datum)) → ShuffleInputs → Type 0
AreHandedIn t got inputs = AllZip (IsHandedIn inputs) (blocks_of_task t) got
