-- The shuffles of a cut are those of the work.
use Rattle.std.proofs.Common.{◌≡◌, ◌∙◌, ℕ, zero, suc, ◌<◌, Bool, true, false, List, [], ◌∷◌, Option, Some, None, length, map, if◌then◌else◌, refl, ap, sym, subst, arith}
use Rattle.std.proofs.lemmas.Bool.{false≢true}
use Rattle.std.proofs.lemmas.List.Elements.{All-get_or, All-head}
use Rattle.std.specs.List.{slice_get}
use Rattle.sc_base.specs.Lists.{at_or}
use Rattle.sc_ids.specs.declared.blocks.ShuffleId.{ShuffleId}
use Rattle.sc_lineage.specs.Dependencies.{Dependency, dependencies_by, dependencies_of, one_to_one, parent_of, range_behind, grouped, shuffled, unless_parted}
use Rattle.sc_lineage.specs.Meaning.{known_of}
use Rattle.sc_lineage.specs.NodeData.{NodeData, reduce_by_key, group_by_key, sort_by_key, repartition, text_node, parallelize_node, each_node, union_node, coalesce_node, cache_node, shuffle_node, meet_node}
use Rattle.sc_lineage.specs.Partitioners.{PartitionerData, is_parted_by, no_partitioner}
use Rattle.sc_lineage.specs.ScriptData.{WorkData, IsSoundScript, collect_action, node_of_action}
use Rattle.sc_lineage.proofs.MeaningLemmas.{reads_before}
use Rattle.sc_lineage.proofs.PlaceLemmas.{at_or-found, at_or-get_or}
use Rattle.sc_stagecut.specs.Carrying.{is_sort}
use Rattle.sc_stagecut.specs.Numbering.{is_shuffle, is_some_shuffle, mapped_node, parent_or, side_of}
use Rattle.sc_stagecut.specs.Reaching.{dependencies_among, is_shuffled}
use Rattle.sc_compute.specs.Stages.{GoesThrough, mapped_in, node_at}
use Rattle.sc_compute.specs.Tasks.{IsSideOf}
use Rattle.sc_jobs.specs.JobData.{IsGoal, goal_node}
use Rattle.sc_jobs.specs.Plans.{IsShuffleOf}
use Rattle.sc_jobs.specs.declared.goals.Goal.{Goal}
use Rattle.sc_jobs.specs.declared.goals.Goal.TheVariants as goals

-- what is found is there
pub found_within : {A : Type 0} (xs : List A) (i : ℕ) (x : A) → slice_get xs i ≡ Some x
    → i < length xs
found_within [] i x is = cc
found_within (y ∷ xs) zero x is = omega arith
found_within (y ∷ xs) (suc i) x is = let rest = found_within xs i x is in omega (arith, rest)

-- a dependency that is a shuffle and isn't skipped
not_skipped : (skipped : Bool) (parent : ℕ) (by : PartitionerData)
    → is_shuffled (if skipped then one_to_one parent else shuffled parent by) ≡ true
    → skipped ≡ false
not_skipped true parent by h = absurd (false≢true h)
not_skipped false parent by h = refl

-- the side of a shuffle is one of its node
pub side_is : (known : List PartitionerData) (node : NodeData) (side : ℕ)
    → is_some_shuffle (slice_get (dependencies_by known node) side) ≡ true → IsSideOf node side
side_is known (text_node name n) side h = absurd (false≢true h)
side_is known (parallelize_node rows n) side h = absurd (false≢true h)
side_is known (each_node kind parent e) zero h = absurd (false≢true h)
side_is known (each_node kind parent e) (suc side) h = absurd (false≢true h)
side_is known (union_node left right) zero h = absurd (false≢true h)
side_is known (union_node left right) (suc zero) h = absurd (false≢true h)
side_is known (union_node left right) (suc (suc side)) h = absurd (false≢true h)
side_is known (coalesce_node parent n) zero h = absurd (false≢true h)
side_is known (coalesce_node parent n) (suc side) h = absurd (false≢true h)
side_is known (cache_node parent) zero h = absurd (false≢true h)
side_is known (cache_node parent) (suc side) h = absurd (false≢true h)
side_is known (shuffle_node kind parent n) zero h = omega arith
side_is known (shuffle_node kind parent n) (suc side) h = absurd (false≢true h)
side_is known (meet_node kind left right n) zero h = omega arith
side_is known (meet_node kind left right n) (suc zero) h = omega arith
side_is known (meet_node kind left right n) (suc (suc side)) h = absurd (false≢true h)

-- and its rows go through
pub goes_through : (work : WorkData) (node : NodeData) (side : ℕ)
    → is_some_shuffle (slice_get (dependencies_by (known_of work) node) side) ≡ true
    → GoesThrough work node side
goes_through work (text_node name n) side h = absurd (false≢true h)
goes_through work (parallelize_node rows n) side h = absurd (false≢true h)
goes_through work (each_node kind parent e) zero h = absurd (false≢true h)
goes_through work (each_node kind parent e) (suc side) h = absurd (false≢true h)
goes_through work (union_node left right) zero h = absurd (false≢true h)
goes_through work (union_node left right) (suc zero) h = absurd (false≢true h)
goes_through work (union_node left right) (suc (suc side)) h = absurd (false≢true h)
goes_through work (coalesce_node parent n) zero h = absurd (false≢true h)
goes_through work (coalesce_node parent n) (suc side) h = absurd (false≢true h)
goes_through work (cache_node parent) zero h = absurd (false≢true h)
goes_through work (cache_node parent) (suc side) h = absurd (false≢true h)
goes_through work (shuffle_node kind parent n) zero h = not_skipped _ _ _ h
goes_through work (shuffle_node kind parent n) (suc side) h = absurd (false≢true h)
goes_through work (meet_node kind left right n) zero h = not_skipped _ _ _ h
goes_through work (meet_node kind left right n) (suc zero) h = not_skipped _ _ _ h
goes_through work (meet_node kind left right n) (suc (suc side)) h = absurd (false≢true h)

-- a side that goes through is a shuffle
shuffled_so : (skipped : Bool) (parent : ℕ) (by : PartitionerData) → skipped ≡ false
    → is_shuffled (if skipped then one_to_one parent else shuffled parent by) ≡ true
shuffled_so true parent by isnt = absurd (false≢true (sym isnt))
shuffled_so false parent by isnt = refl

pub through_shuffle : (work : WorkData) (node : NodeData) (side : ℕ) → GoesThrough work node side
    → is_some_shuffle (slice_get (dependencies_by (known_of work) node) side) ≡ true
through_shuffle work (text_node name n) side through = absurd through
through_shuffle work (parallelize_node rows n) side through = absurd through
through_shuffle work (each_node kind parent e) side through = absurd through
through_shuffle work (union_node left right) side through = absurd through
through_shuffle work (coalesce_node parent n) side through = absurd through
through_shuffle work (cache_node parent) side through = absurd through
through_shuffle work (shuffle_node kind parent n) zero through = shuffled_so _ _ _ through
through_shuffle work (shuffle_node kind parent n) (suc side) through = absurd through
through_shuffle work (meet_node kind left right n) zero through = shuffled_so _ _ _ through
through_shuffle work (meet_node kind left right n) (suc zero) through = shuffled_so _ _ _ through
through_shuffle work (meet_node kind left right n) (suc (suc side)) through = absurd through

-- the parent of a dependency is that of the side, whether it is skipped or not
same_parent : (known : List PartitionerData) (d : Dependency)
    → parent_of (unless_parted known d) ≡ parent_of d
same_parent known (one_to_one parent) = refl
same_parent known (range_behind parent others) = refl
same_parent known (grouped parent n) = refl
same_parent known (shuffled parent by) =
    either (is_parted_by by (at_or known parent no_partitioner))
  where
    either : (b : Bool) → parent_of (if b then one_to_one parent else shuffled parent by) ≡ parent
    either true = refl
    either false = refl

same_side : (known : List PartitionerData) (ds : List Dependency) (side : ℕ)
    → parent_or (slice_get (map (unless_parted known) ds) side) ≡ at_or (map parent_of ds) side 0
same_side known [] side = refl
same_side known (d ∷ ds) zero = same_parent known d
same_side known (d ∷ ds) (suc side) = same_side known ds side

-- where there is no node
missing : (xs : List NodeData) (i : ℕ) → slice_get xs i ≡ None
    → at_or xs i (cache_node 0) ≡ cache_node 0
missing [] i is = refl
missing (x ∷ xs) zero is = cc
missing (x ∷ xs) (suc i) is = missing xs i is

-- The shuffles of a work.
module _ (work : WorkData) where
  -- the node whose partitions the map tasks of a shuffle take
  pub mapped_same : (s : ShuffleId)
      → mapped_node work.script.nodes s ≡ mapped_in (node_at work s.node) s.side
  mapped_same s = at (slice_get work.script.nodes s.node) refl
    where
      nothing : (side : ℕ) → at_or (zero ∷ []) side zero ≡ zero
      nothing zero = refl
      nothing (suc side) = refl

      at : (node : Option NodeData) → slice_get work.script.nodes s.node ≡ node
          → parent_or (slice_get (dependencies_among (known_of work) node) s.side)
          ≡ mapped_in (node_at work s.node) s.side
      at None is =
          sym (ap (λ node. mapped_in node s.side) (missing work.script.nodes s.node is)
          ∙ nothing s.side)
      at (Some node) is =
          same_side (known_of work) (dependencies_of node) s.side
          ∙ sym (ap (λ x. mapped_in x s.side)
          (at_or-found work.script.nodes s.node node (cache_node 0) is))

  -- a shuffle of the script
  pub is_shuffle_of : (s : ShuffleId) → is_shuffle work.script.nodes s ≡ true → IsShuffleOf work s
  is_shuffle_of s h = at (slice_get work.script.nodes s.node) refl h
    where
      at : (node : Option NodeData) → slice_get work.script.nodes s.node ≡ node
          → is_some_shuffle (slice_get (dependencies_among (known_of work) node) s.side) ≡ true
          → IsShuffleOf work s
      at None is shuffle = absurd (false≢true shuffle)
      at (Some node) is shuffle =
          let same = sym (at_or-found work.script.nodes s.node node (cache_node 0) is) in
          let Side : NodeData → Type 0 = λ x. IsSideOf x s.side in
          let Through : NodeData → Type 0 = λ x. GoesThrough work x s.side in
          record {
            known = found_within work.script.nodes s.node node is;
            side = subst Side same (side_is (known_of work) node s.side shuffle);
            through = subst Through same (goes_through work node s.side shuffle);
          }

  -- a side that goes through is one
  pub shuffle_of_through : (k side : ℕ) → GoesThrough work (node_at work k) side
      → is_shuffle work.script.nodes (side_of k side) ≡ true
  shuffle_of_through k side through = at (slice_get work.script.nodes k) refl
    where
      none : (node : NodeData) → node ≡ cache_node 0 → GoesThrough work node side → ⊥
      none node is goes =
          let P : NodeData → Type 0 = λ n. GoesThrough work n side in subst P is goes

      at : (node : Option NodeData) → slice_get work.script.nodes k ≡ node
          → is_some_shuffle (slice_get (dependencies_among (known_of work) node) side) ≡ true
      at None is = absurd (none (node_at work k) (missing work.script.nodes k is) through)
      at (Some node) is =
          let P : NodeData → Type 0 = λ n. GoesThrough work n side in
          through_shuffle work node side
          (subst P (at_or-found work.script.nodes k node (cache_node 0) is) through)

-- a node that is a sort
pub sort_is : (node : NodeData) → is_sort node ≡ true
    → (parent n : ℕ) × (node ≡ shuffle_node sort_by_key parent n)
sort_is (text_node name n) h = absurd (false≢true h)
sort_is (parallelize_node rows n) h = absurd (false≢true h)
sort_is (each_node kind parent e) h = absurd (false≢true h)
sort_is (union_node left right) h = absurd (false≢true h)
sort_is (coalesce_node parent n) h = absurd (false≢true h)
sort_is (cache_node parent) h = absurd (false≢true h)
sort_is (shuffle_node (reduce_by_key e) parent n) h = absurd (false≢true h)
sort_is (shuffle_node group_by_key parent n) h = absurd (false≢true h)
sort_is (shuffle_node sort_by_key parent n) h = (parent, n, refl)
sort_is (shuffle_node repartition parent n) h = absurd (false≢true h)
sort_is (meet_node kind left right n) h = absurd (false≢true h)

-- the parent of a sort comes before it
pub sort_parent : (work : WorkData) (sort parent n : ℕ) → IsSoundScript work.script
    → slice_get work.script.nodes sort ≡ Some (shuffle_node sort_by_key parent n)
    → (mapped_in (node_at work sort) 0 ≡ parent) × (parent < sort)
sort_parent work sort parent n sound is = (
  ap (λ node. mapped_in node 0) (at_or-found work.script.nodes sort _ (cache_node 0) is),
  All-head (λ p. p < sort) parent []
      (reads_before work.script sort (shuffle_node sort_by_key parent n) sound is),
)

-- the node that a job is for is there
pub goal_known : (work : WorkData) (goal : Goal) → IsSoundScript work.script → IsGoal work goal
    → goal_node work goal < length work.script.nodes
goal_known work (goals.Action number) sound within =
    let actions = work.script.actions in
    let P : ℕ → Type 0 = λ k. k < length work.script.nodes in
    subst P (sym (ap node_of_action (at_or-get_or actions number (collect_action 0))))
    (All-get_or (λ action. node_of_action action < length work.script.nodes) actions number
    (collect_action 0) within sound.actions)
goal_known work (goals.Bounds sort) sound is =
    let both = sort_parent work sort is.0 is.1 sound is.2 in
    let within = found_within work.script.nodes sort _ is.2 in
    omega (arith, both.0, both.1, within)
