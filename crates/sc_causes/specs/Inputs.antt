-- The law of missing inputs: none is missing but one that was lost.
use Rattle.std.specs.Prelude.{ℕ, ◌≤◌, ◌≡◌, All, Some, None}
use Rattle.sc_ids.specs.declared.blocks.BlockId.{BlockId}
use Rattle.sc_ids.specs.declared.blocks.Loc.{Loc}
use Rattle.sc_tracker.specs.TrackerData.{TrackerData, output_of, trust_of}
use Rattle.sc_tracker.specs.declared.outputs.Location.{Location}
use Rattle.sc_tracker.specs.declared.outputs.Location.TheVariants.{Here, Missing}
use Rattle.sc_core.specs.CoreData.{CoreData}
use Rattle.sc_core.specs.HandOuts.{HandOutData}
use Rattle.sc_core.specs.Sound.{IsSoundCore}
use Rattle.sc_core.specs.Takes.{IsHandOut}

-- An output that was there last was lost: what its executor had was forgotten, in an event that
-- came no earlier than the output was registered there.
pub record WasLostAt (t : TrackerData) (last : Loc) : Type 0 where
  pub block : BlockId
  pub placed : (output_of t block).last ≡ Some last
  pub mark : ℕ
  pub marked : (trust_of t last.exec).mark ≡ Some mark
  pub since : (output_of t block).since ≤ mark

-- an input has its place, or was lost where it was last
abbrev pub IsThereOrLost : TrackerData → Location → Type 0
IsThereOrLost t (Here loc) = Unit {0}
IsThereOrLost t (Missing None) = ⊥
IsThereOrLost t (Missing (Some last)) = WasLostAt t last

-- of the inputs that are handed out with a task those without a place were lost
abbrev pub MissingInputsWereLost : Type 0
MissingInputsWereLost =
    (c : CoreData) (exec : ℕ) (h : HandOutData) → IsSoundCore c → IsHandOut c exec h
    → All (IsThereOrLost c.dag.tracker) h.inputs
