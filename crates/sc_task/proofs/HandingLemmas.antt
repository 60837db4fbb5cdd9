-- What was read of a task's blocks, by the shuffles that they are of.
use Rattle.std.proofs.Common.{◌≡◌, ◌∙◌, ℕ, zero, suc, ◌+◌, ◌<◌, ◌≤◌, List, [], ◌∷◌, ◌++◌, Option, Some, None, All, length, map, take, drop, get_or, refl, ap, sym, subst, arith}
use Rattle.std.proofs.lemmas.List.Elements.{All-contains, All-head, All-tail}
use Rattle.std.proofs.lemmas.Option.{get_or_from_slice_get, slice_get-get_or}
use Rattle.std.specs.List.{AllZip, flat_map, slice_get}
use Rattle.sc_base.specs.Lists.{at_or, numbers_below, numbers_from}
use Rattle.sc_value.specs.Datum.{Datum}
use Rattle.sc_ids.specs.Graphs.{StageData}
use Rattle.sc_ids.specs.declared.blocks.ShuffleId.{ShuffleId}
use Rattle.sc_ids.specs.declared.blocks.Target.{Target}
use Rattle.sc_ids.specs.declared.blocks.Target.TheVariants as targets
use Rattle.sc_combine.specs.Outputs.{IsOutput}
use Rattle.sc_lineage.specs.Dependencies.{parents_of}
use Rattle.sc_lineage.specs.NodeData.{NodeData, text_node, parallelize_node, each_node, union_node, coalesce_node, cache_node, shuffle_node, meet_node}
use Rattle.sc_lineage.specs.ScriptData.{IsSoundScript, WorkData}
use Rattle.sc_lineage.proofs.PlaceLemmas.{at_or-get_or}
use Rattle.sc_lineage.specs.Targets.{map_target}
use Rattle.sc_dag.specs.Outputs.{block_of}
use Rattle.sc_compute.specs.Stages.{AreOutputs, mapped_in, node_at}
use Rattle.sc_compute.specs.Tasks.{IsSideOf}
use Rattle.sc_compute.proofs.NodeLemmas.{IsNode, parents_known}
use Rattle.sc_store.specs.OwnBlocks.{IsOwnBlock}
use Rattle.sc_jobs.specs.JobData.{JobData, blocks_by, blocks_left, stage_in, target_among, target_by}
use Rattle.sc_jobs.specs.Plans.{AreTasksFor, IsJobFor, IsShuffleOf, IsStageFor, MapsInto, maps_of}
use Rattle.sc_jobs.specs.declared.goals.Goal.{Goal}
use Rattle.sc_jobs.proofs.StageLemmas.{found_there}
use Rattle.sc_task.specs.Handing.{IsOfWork}
use Rattle.sc_task.specs.States.{AreOf}
use Rattle.sc_task.proofs.ListLemmas.{flat_next}
use Rattle.sc_task.proofs.ReadLemmas.{zip_length}

module _ {A B : Type 0} (R : A → B → Type 0) where
  -- what stands beside the items of two lists is cut where the first one ends
  pub zip_cut : (xs others : List A) (ys : List B) → AllZip R (xs ++ others) ys
      → AllZip R xs (take (length xs) ys) × AllZip R others (drop (length xs) ys)
  zip_cut [] others ys all = (tt, all)
  zip_cut (x ∷ xs) others [] all = absurd all
  zip_cut (x ∷ xs) others (y ∷ ys) all =
      let rest = zip_cut xs others ys all.1 in ((all.0, rest.0), rest.1)

  pub zip_long : (xs others : List A) (ys : List B) → AllZip R (xs ++ others) ys
      → length xs ≤ length ys
  zip_long [] others ys all = omega arith
  zip_long (x ∷ xs) others [] all = absurd all
  zip_long (x ∷ xs) others (y ∷ ys) all =
      let rest = zip_long xs others ys all.1 in omega (arith, rest)

pub numbers_count : (first count : ℕ) → length (numbers_from first count) ≡ count
numbers_count first zero = refl
numbers_count first (suc count) = ap suc (numbers_count (suc first) count)

pub map_count : {A B : Type 0} (f : A → B) (xs : List A) → length (map f xs) ≡ length xs
map_count f [] = refl
map_count f (x ∷ xs) = ap suc (map_count f xs)

-- Outputs of the blocks of a shuffle.
module _ (work : WorkData) (s : ShuffleId) where
  pub each_is : (first count m : ℕ) (outputs : List (List (List Datum)))
      → AreOf work (map (block_of s) (numbers_from first count)) outputs → m < length outputs
      → IsOutput work s.node s.side (first + m) (at_or outputs m [])
  each_is first zero m [] are below = absurd (omega (arith, below))
  each_is first zero m (o ∷ outputs) are below = absurd are
  each_is first (suc count) m [] are below = absurd are
  each_is first (suc count) zero (o ∷ outputs) are below =
      let same : first ≡ first + 0 = omega arith in
      subst (λ k. IsOutput work s.node s.side k o) same are.0
  each_is first (suc count) (suc m) (o ∷ outputs) are below =
      let same : suc first + m ≡ first + suc m = omega arith in
      subst (λ k. IsOutput work s.node s.side k (at_or outputs m [])) same
      (each_is (suc first) count m outputs are.1 (omega (arith, below)))

  pub outputs_of : (tasks : ℕ) (outputs : List (List (List Datum))) → IsShuffleOf work s
      → tasks ≡ maps_of work s → AreOf work (map (block_of s) (numbers_below tasks)) outputs
      → AreOutputs work s.node s.side outputs
  outputs_of tasks outputs is count are =
      let blocks = map (block_of s) (numbers_below tasks) in
      let long = zip_length (λ b o. IsOutput work b.shuffle.node b.shuffle.side b.map o)
      blocks outputs are in
      record {
        known = is.known;
        through = is.through;
        count =
            sym long ∙ map_count (block_of s) (numbers_below tasks)
            ∙ numbers_count 0 tasks ∙ count;
        each = λ m below.
            let same : 0 + m ≡ m = omega arith in
            subst (λ k. IsOutput work s.node s.side k (at_or outputs m [])) same
            (each_is 0 tasks m outputs are below);
      }

-- a stage of a job that is found is one of the work
pub found_of_work : (work : WorkData) (job : JobData) (id : ℕ) (stage : StageData)
    → IsJobFor work job → stage_in job.graph id ≡ Some stage → IsOfWork work stage
found_of_work work job id stage is found =
    let there = found_there job.graph id stage found in
    let one = All-contains (IsStageFor work job.goal) job.graph stage is.stages there.0 in
    λ s makes. by stage.target one s makes
  where
    by : (t : Target) → AreTasksFor work job.goal t stage.tasks → (s : ShuffleId)
        → t ≡ targets.Map s → IsShuffleOf work s × (stage.tasks ≡ maps_of work s)
    by (targets.Map at) are s makes =
        let same : at ≡ s = cc in
        subst (λ q. IsShuffleOf work q × (stage.tasks ≡ maps_of work q)) same are
    by (targets.Result node) are s makes = absurd (cc)

-- the node of a task's map side is one that a stage of the job maps into
pub maps_into : (work : WorkData) (goal : Goal) (graph : List StageData) (id p : ℕ)
    (node side m : ℕ) → map_target node side m ≡ target_among work goal (stage_in graph id) p
    → MapsInto graph node
maps_into work goal graph id p node side m is = by (stage_in graph id) refl is
  where
    at : (stage : StageData) → stage_in graph id ≡ Some stage → (t : Target) → stage.target ≡ t
        → map_target node side m ≡ target_by work goal t p → MapsInto graph node
    at stage found (targets.Map s) makes same =
        let one : s.node ≡ node = cc in
        subst (MapsInto graph) one
        (record {
          stage = stage;
          there = (found_there graph id stage found).0;
          side = s.side;
          makes = makes;
        })
    at stage found (targets.Result k) makes same = absurd (cc)

    by : (o : Option StageData) → stage_in graph id ≡ o
        → map_target node side m ≡ target_among work goal o p → MapsInto graph node
    by None found same = absurd (cc)
    by (Some stage) found same = at stage found stage.target refl same

-- a map stage's outputs are those of its shuffle
pub outputs_by : (work : WorkData) (stage : StageData) (s : ShuffleId)
    (given got : List (List (List Datum))) → IsOfWork work stage → stage.target ≡ targets.Map s
    → AreOf work (blocks_left (Some stage)) given → got ≡ given
    → AreOutputs work s.node s.side got
outputs_by work stage s given got of_work makes are same =
    let is = of_work s makes in
    subst (AreOutputs work s.node s.side) (sym same)
    (outputs_of work s stage.tasks given is.0 is.1
    (subst (λ t. AreOf work (blocks_by t stage.tasks) given) makes are))

-- a map stage leaves as many blocks as it has tasks
pub count_by_map : (t : Target) (tasks n : ℕ) (s : ShuffleId) → t ≡ targets.Map s → n ≡ tasks
    → n ≡ length (blocks_by t tasks)
count_by_map t tasks n s makes same =
    same ∙ sym (numbers_count 0 tasks) ∙ sym (map_count (block_of s) (numbers_below tasks))
    ∙ sym (ap (λ q. length (blocks_by q tasks)) makes)

-- Of stages whose blocks are left to hand in.
module _ (work : WorkData) (graph : List StageData) (items : List ℕ) (i : ℕ)
    (rest : List (List (List Datum))) where
  -- those of the next stage come first, and those of the others behind them
  pub next_cut : (d n : ℕ) (stage : StageData) → i < length items
      → Some stage ≡ stage_in graph (get_or items i d)
      → n ≡ length (blocks_left (Some stage))
      → AreOf work (flat_map (λ id. blocks_left (stage_in graph id)) (drop i items)) rest
      → (n ≤ length rest) × AreOf work (blocks_left (Some stage)) (take n rest)
      × AreOf work (flat_map (λ id. blocks_left (stage_in graph id)) (drop (i + 1) items))
      (drop n rest)
  next_cut d n stage within is count are =
      let f = λ (id : ℕ). blocks_left (stage_in graph id) in
      let x = get_or items i d in
      let others = flat_map f (drop (i + 1) items) in
      let own = blocks_left (Some stage) in
      let at : x ≡ get_or items i x =
      sym (get_or_from_slice_get items i x x (slice_get-get_or items i d within)) in
      let all = subst (λ bs. AreOf work bs rest)
      (flat_next f items i x within at ∙ ap (λ o. blocks_left o ++ others) (sym is)) are in
      let long = zip_long (IsOwnBlock work) own others rest all in
      let both = zip_cut (IsOwnBlock work) own others rest all in (
        omega (arith, long, count),
        subst (λ k. AreOf work own (take k rest)) (sym count) both.0,
        subst (λ k. AreOf work others (drop k rest)) (sym count) both.1,
      )

  -- where there is no next stage, those of the others are left
  pub next_none : (d : ℕ) → i < length items → stage_in graph (get_or items i d) ≡ None
      → AreOf work (flat_map (λ id. blocks_left (stage_in graph id)) (drop i items)) rest
      → AreOf work (flat_map (λ id. blocks_left (stage_in graph id)) (drop (i + 1) items)) rest
  next_none d within none are =
      let f = λ (id : ℕ). blocks_left (stage_in graph id) in
      let x = get_or items i d in
      let others = flat_map f (drop (i + 1) items) in
      let at : x ≡ get_or items i x =
      sym (get_or_from_slice_get items i x x (slice_get-get_or items i d within)) in
      subst (λ bs. AreOf work bs rest)
      (flat_next f items i x within at ∙ ap (λ o. blocks_left o ++ others) none) are

-- the only or left parent of a node is one of its script, and so is the right one
pub mapped_known : (node : NodeData) (side n : ℕ) → IsSideOf node side
    → All (λ q. q < n) (parents_of node) → mapped_in node side < n
mapped_known (shuffle_node kind parent m) zero n is all = All-head (λ q. q < n) parent [] all
mapped_known (shuffle_node kind parent m) (suc side) n is all = absurd (omega (arith, is))
mapped_known (meet_node kind left right m) zero n is all =
    All-head (λ q. q < n) left (right ∷ []) all
mapped_known (meet_node kind left right m) (suc zero) n is all =
    All-head (λ q. q < n) right [] (All-tail (λ q. q < n) left (right ∷ []) all)
mapped_known (meet_node kind left right m) (suc (suc side)) n is all = absurd (omega (arith, is))
mapped_known (text_node name m) side n is all = absurd is
mapped_known (parallelize_node rows m) side n is all = absurd is
mapped_known (each_node kind parent e) side n is all = absurd is
mapped_known (union_node left right) side n is all = absurd is
mapped_known (coalesce_node parent m) side n is all = absurd is
mapped_known (cache_node parent) side n is all = absurd is

pub parent_known : (work : WorkData) (k side parent : ℕ) → IsSoundScript work.script
    → k < length work.script.nodes → IsSideOf (node_at work k) side
    → parent ≡ mapped_in (node_at work k) side → parent < length work.script.nodes
parent_known work k side parent sound known is same =
    let nodes = work.script.nodes in
    let found : slice_get nodes k ≡ Some (node_at work k) =
    slice_get-get_or nodes k (cache_node 0) known
    ∙ ap Some (sym (at_or-get_or nodes k (cache_node 0))) in
    let at : IsNode work k (node_at work k) =
    record { sound = sound; known = known; is = found } in
    let all = parents_known at in
    let less = mapped_known (node_at work k) side (length nodes) is all in
    omega (arith, less, same)
