-- The partitions of cache nodes that a target reads.
use Rattle.std.specs.Prelude.{ℕ, ◌≡◌, ◌+◌, ◌*◌, ◌/◌, ◌%◌, ◌^◌, ◌<◌, ◌⊎◌, Bool, true, false, List, Option, Some, None, Contains, length}
use Rattle.std.specs.List.{All}
use Rattle.sc_lineage.specs.Dependencies.{PlaceData, place}
use Rattle.sc_lineage.specs.ScriptData.{WorkData, node_of_action}
use Rattle.sc_lineage.specs.Targets.{TargetData, map_target, result_target}
use Rattle.sc_lineage.specs.Views.{place_data_of}
use Rattle.sc_lineage.specs.declared.dependencies.Place.{Place}
use Rattle.sc_compute.specs.Caching.{is_cache}
use Rattle.sc_compute.specs.Needs.{Needs, is_among}
use Rattle.sc_compute.specs.Stages.{HasMade, local_count, mapped_in, node_at}
use Rattle.sc_compute.specs.declared.asking.Asking.{Asking}
use Rattle.sc_compute.specs.declared.stages.ShuffleInputs.{ShuffleInputs}

-- the partition that a target takes: its node, and its number
abbrev pub node_taken : WorkData → TargetData → ℕ
node_taken work (map_target node side m) = mapped_in (node_at work node) side
node_taken work (result_target action p) = node_of_action action

abbrev pub partition_taken : TargetData → ℕ
partition_taken (map_target node side m) = m
partition_taken (result_target action p) = p

abbrev pub place_taken : WorkData → TargetData → PlaceData
place_taken work target = place (node_taken work target) (partition_taken target)

-- a partition as a number: those of later nodes have greater ones
abbrev pub place_number : Place → ℕ
place_number at = at.node * 2 ^ 32 + at.partition

-- the partition of a number
abbrev pub place_of_number : ℕ → PlaceData
place_of_number number = place (number / 2 ^ 32) (number % 2 ^ 32)

-- a work has a partition, and all was made for its node
pub record IsThere (work : WorkData) (stages : ShuffleInputs) (node p : ℕ) : Type 0 where
  pub known : node < length work.script.nodes
  pub within : p < local_count work node
  pub made : HasMade stages node

-- a partition that is still to be looked at, by its number, which is below another
pub record IsLeft (work : WorkData) (stages : ShuffleInputs) (below number : ℕ) : Type 0 where
  pub before : number < below
  pub there : IsThere work stages (number / 2 ^ 32) (number % 2 ^ 32)

-- all that is still to be looked at is there
abbrev pub IsAsking : WorkData → ShuffleInputs → Asking → Type 0
IsAsking work stages asking = All (IsLeft work stages asking.below) asking.left.keys

-- a partition of a cache node that is asked for: all that is left is before it
pub record IsAsked (work : WorkData) (stages : ShuffleInputs) (asking : Asking) (at : Place) :
    Type 0 where
  pub cache : is_cache (node_at work at.node) ≡ true
  pub there : IsThere work stages at.node at.partition
  pub last : place_number at ≡ asking.below

-- ---- what is asked for

-- only partitions of cache nodes are had
abbrev pub AreOfCaches : WorkData → (PlaceData → Bool) → Type 0
AreOfCaches work had = (at : PlaceData) → had at ≡ true → is_cache (node_at work at.node) ≡ true

-- a partition that is had is needed for another, where no other that is had stands between
pub record IsTakenFor (work : WorkData) (had : PlaceData → Bool) (from at : PlaceData) : Type 0
  where
    pub there : had at ≡ true
    pub needed : Needs work had from at

-- a partition is needed for one of those that are still to be looked at, by their numbers
abbrev pub IsBehind : WorkData → (PlaceData → Bool) → List ℕ → PlaceData → Type 0
IsBehind work had left at =
    (number : ℕ) × Contains left number × Needs work had (place_of_number number) at

-- What is asked for a partition, where some are had: only what is needed for it is still to be
-- looked at, and each that is taken for it was given already, or is behind what is left.
pub record AsksFor (work : WorkData) (had : PlaceData → Bool) (from : PlaceData)
    (given : List PlaceData) (asking : Asking) : Type 0 where
  pub only : All (λ number. Needs work had from (place_of_number number)) asking.left.keys
  pub all : (at : PlaceData) → IsTakenFor work had from at
      → (is_among given at ≡ true) ⊎ IsBehind work had asking.left.keys at

-- the same once one was asked for, which is needed, and behind which nothing was looked at yet
pub record AsksPast (work : WorkData) (had : PlaceData → Bool) (from : PlaceData)
    (given : List PlaceData) (asking : Asking) (one : PlaceData) : Type 0 where
  pub needed : Needs work had from one
  pub only : All (λ number. Needs work had from (place_of_number number)) asking.left.keys
  pub all : (at : PlaceData) → IsTakenFor work had from at
      → (is_among given at ≡ true) ⊎ IsBehind work had asking.left.keys at
      ⊎ Needs work had one at

-- all that is taken for a partition was given
abbrev pub AreAllGiven : WorkData → (PlaceData → Bool) → PlaceData → List PlaceData → Type 0
AreAllGiven work had from given =
    (at : PlaceData) → IsTakenFor work had from at → is_among given at ≡ true

-- What is asked for next, whichever partitions of cache nodes are had: one that is needed; or
-- nothing, once all that is taken was given.
abbrev pub AsksNext : WorkData → Asking → Asking → Option Place → Type 0
AsksNext work before after (Some one) =
    (had : PlaceData → Bool) (from : PlaceData) (given : List PlaceData) → AreOfCaches work had
    → AsksFor work had from given before
    → AsksPast work had from given after (place_data_of one)
AsksNext work before after None =
    (had : PlaceData → Bool) (from : PlaceData) (given : List PlaceData) → AreOfCaches work had
    → AsksFor work had from given before → AreAllGiven work had from given

-- what is behind one that isn't had is still to be looked at then
abbrev pub AsksBehind : WorkData → PlaceData → Asking → Asking → Type 0
AsksBehind work one before after =
    (had : PlaceData → Bool) (from : PlaceData) (given : List PlaceData) → had one ≡ false
    → AsksPast work had from given before one → AsksFor work had from given after
