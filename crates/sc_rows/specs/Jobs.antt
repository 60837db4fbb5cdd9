-- The jobs that tests begin.
use Rattle.std.specs.Prelude.{ℕ, List, [], ◌∷◌, length}
use Rattle.sc_ids.specs.Graphs.{StageData, stage_data}
use Rattle.sc_ids.specs.declared.blocks.ShuffleId.{ShuffleId}
use Rattle.sc_ids.specs.declared.blocks.Target.TheVariants as targets
use Rattle.sc_tracker.specs.TrackerData.{outputs_of}
use Rattle.sc_core.specs.CoreData.{CoreData}

-- the shuffle of a word count
abbrev pub words_shuffle : ShuffleId
words_shuffle = record { node = 3; side = 0 }

-- its stages: two outputs, and two results by the stage of a number
abbrev pub word_count : ℕ → List StageData
word_count last =
    stage_data 0 (targets.Map words_shuffle) 2 []
    ∷ stage_data last (targets.Result 3) 2 (0 ∷ []) ∷ []

-- so many results, with no shuffle before them
abbrev pub results_alone : ℕ → List StageData
results_alone tasks = stage_data 0 (targets.Result 0) tasks [] ∷ []

-- how many outputs of the shuffle a core has room for
abbrev pub room_of : CoreData → ℕ
room_of c = length (outputs_of c.dag.tracker words_shuffle)
