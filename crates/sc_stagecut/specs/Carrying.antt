-- What is carried from job to job.
use Rattle.std.specs.Prelude.{ℕ, ◌+◌, ◌<◌, ◌≡◌, ◌≢◌, Bool, true, false, not, ◌&&◌, List, [], ◌∷◌, ◌++◌, Option, Some, None, is_some, All, Contains, filter_map, if◌then◌else◌, nat_le, slice_get}
use Rattle.std.specs.List.{AllPairs}
use Rattle.std.specs.Option.{option_map}
use Rattle.sc_base.specs.Lists.{at_or}
use Rattle.sc_value.specs.Keys.{KeyData}
use Rattle.sc_ids.specs.Changes.{change_at}
use Rattle.sc_ids.specs.Graphs.{StageData}
use Rattle.sc_ids.specs.declared.blocks.ShuffleId.{ShuffleId}
use Rattle.sc_ids.specs.declared.blocks.Target.{Target}
use Rattle.sc_ids.specs.declared.blocks.Target.TheVariants as targets
use Rattle.sc_lineage.specs.Meaning.{bounds_step, known_of, meanings_by}
use Rattle.sc_lineage.specs.NodeData.{NodeData, ShufflingData, reduce_by_key, group_by_key, sort_by_key, repartition, text_node, parallelize_node, each_node, union_node, coalesce_node, cache_node, shuffle_node, meet_node}
use Rattle.sc_lineage.specs.ScriptData.{WorkData}
use Rattle.sc_stagecut.specs.Numbering.{is_shuffle, mapped_node, numbered}
use Rattle.sc_stagecut.specs.Reaching.{IsReached, IsWithin}
use Rattle.sc_stagecut.specs.declared.carried.Numbered.{Numbered}

-- what is carried
pub record CarriedData : Type 0 where
  -- the shuffles that have a map stage, in the order of its numbers
  pub stages : List Numbered
  -- the number of the next stage
  pub next : ℕ
  -- the bounds of each node, where they were found
  pub bounds : List (Option (List KeyData))

abbrev pub carried_data : List Numbered → ℕ → List (Option (List KeyData)) → CarriedData
carried_data stages next bounds = record { stages = stages; next = next; bounds = bounds }

-- a shuffle has a number below another
abbrev pub HasOlder : List Numbered → ShuffleId → ℕ → Type 0
HasOlder stages s stage = (n : Numbered) × Contains stages n × (n.shuffle ≡ s) × (n.stage < stage)

-- the numbered stages are those of jobs of a script with these nodes
pub record AreStagesOf (nodes : List NodeData) (stages : List Numbered) (next : ℕ) : Type 0 where
  -- they are map stages of its shuffles
  pub shuffles : All (λ n. is_shuffle nodes n.shuffle ≡ true) stages
  -- their numbers were given out, and rise
  pub given : All (λ n. n.stage < next) stages
  pub rising : AllPairs (λ m n. m.stage < n.stage) stages
  -- no shuffle has two
  pub once : AllPairs (λ m n. m.shuffle ≢ n.shuffle) stages
  -- the shuffles that the tasks of a stage read have stages with smaller numbers
  pub parents : (n : Numbered) (s : ShuffleId) → Contains stages n → is_shuffle nodes s ≡ true
      → IsWithin nodes (mapped_node nodes n.shuffle) s.node → HasOlder stages s n.stage

-- what is carried is of this script
abbrev pub IsCarriedFor : List NodeData → CarriedData → Type 0
IsCarriedFor nodes carried = AreStagesOf nodes carried.stages carried.next

-- the bounds that were found are those of the meaning
abbrev pub AreRightBounds : WorkData → CarriedData → Type 0
AreRightBounds work carried =
    (k parent n : ℕ) (bounds : List KeyData)
    → slice_get work.script.nodes k ≡ Some (shuffle_node sort_by_key parent n)
    → at_or carried.bounds k None ≡ Some bounds
    → bounds ≡ bounds_step (meanings_by (known_of work) work) (shuffle_node sort_by_key parent n)

-- what is carried serves a job of any work
pub record IsForAny (carried : CarriedData) : Type 0 where
  pub stages : (nodes : List NodeData) → IsCarriedFor nodes carried
  pub right : (work : WorkData) → AreRightBounds work carried

-- a shuffle is a sort
abbrev pub is_sorting : ShufflingData → Bool
is_sorting (reduce_by_key e) = false
is_sorting group_by_key = false
is_sorting sort_by_key = true
is_sorting repartition = false

-- a node is a sort
abbrev pub is_sort : NodeData → Bool
is_sort (text_node name n) = false
is_sort (parallelize_node rows n) = false
is_sort (each_node kind parent e) = false
is_sort (union_node left right) = false
is_sort (coalesce_node parent n) = false
is_sort (cache_node parent) = false
is_sort (shuffle_node kind parent n) = is_sorting kind
is_sort (meet_node kind left right n) = false

-- a node that may be there is a sort whose bounds weren't found
abbrev pub is_unbounded : Option NodeData → Option (List KeyData) → Bool
is_unbounded None bounds = false
is_unbounded (Some node) bounds = is_sort node && not (is_some bounds)

-- a node reaches a sort whose bounds weren't found
pub record LacksBounds (nodes : List NodeData) (carried : CarriedData) (node k : ℕ) : Type 0 where
  pub reached : IsReached nodes node k
  pub unbounded : is_unbounded (slice_get nodes k) (at_or carried.bounds k None) ≡ true

-- a node reaches none
abbrev pub HasBounds : List NodeData → CarriedData → ℕ → Type 0
HasBounds nodes carried node = (k : ℕ) → LacksBounds nodes carried node k → ⊥

-- the first sort that a node reaches and whose bounds weren't found, if there is one
abbrev pub IsFirstLacking : List NodeData → CarriedData → ℕ → Option ℕ → Type 0
IsFirstLacking nodes carried node None = HasBounds nodes carried node
IsFirstLacking nodes carried node (Some sort) =
    LacksBounds nodes carried node sort
    × ((k : ℕ) → k < sort → LacksBounds nodes carried node k → ⊥)

-- bounds were found
abbrev pub with_bounds : CarriedData → ℕ → List KeyData → CarriedData
with_bounds carried node bounds =
    carried_data carried.stages carried.next (change_at carried.bounds node (λ _. Some bounds))

-- the shuffle of a map stage
abbrev pub shuffle_of : Target → Option ShuffleId
shuffle_of (targets.Map s) = Some s
shuffle_of (targets.Result node) = None

-- the number of a map stage from one number on
abbrev pub new_number : ℕ → StageData → Option Numbered
new_number next stage =
    if nat_le next stage.id then option_map (λ s. numbered s stage.id) (shuffle_of stage.target)
    else None

-- the number behind that of the last of some stages
abbrev pub number_behind : ℕ → List StageData → ℕ
number_behind next [] = next
number_behind next (stage ∷ stages) = number_behind (stage.id + 1) stages

-- a job was begun: its new map stages are carried too
abbrev pub after_job : CarriedData → List StageData → CarriedData
after_job carried graph =
    carried_data (carried.stages ++ filter_map (new_number carried.next) graph)
    (number_behind carried.next graph) carried.bounds
