-- The stages of a job read all shuffles that their tasks take in.
use Rattle.std.proofs.Common.{◌≡◌, ◌∙◌, ℕ, zero, suc, Bool, true, false, cond, List, [], ◌∷◌, Option, Some, None, map, filter, flat_map, refl, ap, sym, subst, arith}
use Rattle.std.proofs.lemmas.List.Elements.{All-contains, All-contains_itself, All-weaker}
use Rattle.std.specs.List.{All, Contains, slice_get}
use Rattle.sc_ids.specs.Graphs.{StageData}
use Rattle.sc_ids.specs.declared.blocks.ShuffleId.{ShuffleId}
use Rattle.sc_ids.specs.declared.blocks.Target.{Target}
use Rattle.sc_ids.specs.declared.blocks.Target.TheVariants as targets
use Rattle.sc_lineage.specs.Dependencies.{Dependency, one_to_one, range_behind, grouped, shuffled, dependencies_by, parent_of}
use Rattle.sc_lineage.specs.Meaning.{known_of}
use Rattle.sc_lineage.specs.NodeData.{NodeData}
use Rattle.sc_lineage.specs.Partitioners.{PartitionerData}
use Rattle.sc_lineage.specs.ScriptData.{WorkData}
use Rattle.sc_stagecut.specs.Carrying.{CarriedData}
use Rattle.sc_stagecut.specs.CutLaws.{HasStage, IsLawfulCut, taken_node}
use Rattle.sc_stagecut.specs.Numbering.{is_shuffle, is_some_shuffle, mapped_node, parent_or, side_of}
use Rattle.sc_stagecut.specs.Reaching.{IsReached, IsWithin, Leads, Reaches, dependencies_among, dependencies_at}
use Rattle.sc_stagecut.proofs.PathLemmas.{reaches-further, within-reached}
use Rattle.sc_compute.specs.Inputs.{Leads as LeadsDirectly, TakesIn, direct_parent, direct_parents, direct_parents_of}
use Rattle.sc_compute.specs.Stages.{GoesThrough, node_at}
use Rattle.sc_jobs.specs.JobData.{goal_node}
use Rattle.sc_jobs.specs.Plans.{AreTasksFor, IsStageFor, ReadsInputs, ReadsSide, node_taken_by}
use Rattle.sc_jobs.specs.declared.goals.Goal.{Goal}
use Rattle.sc_jobs.proofs.NodeLemmas.{mapped_same, shuffle_of_through}

-- The parents by the dependencies that pass a test.
abbrev passing : (Dependency → Bool) → List NodeData → ℕ → List ℕ
passing test nodes k = map parent_of (filter test (dependencies_at nodes k))

-- where each but a shuffle passes, those are the parents that are read as they are
module _ (test : Dependency → Bool) (one : (parent : ℕ) → test (one_to_one parent) ≡ true)
    (range : (parent : ℕ) (others : List ℕ) → test (range_behind parent others) ≡ true)
    (group : (parent n : ℕ) → test (grouped parent n) ≡ true)
    (through : (parent : ℕ) (by : PartitionerData) → test (shuffled parent by) ≡ false) where
  abbrev Passing : Bool → Dependency → List Dependency → List ℕ
  Passing passes d ds = map parent_of (cond passes (d ∷ filter test ds) (filter test ds))

  direct_passing : (ds : List Dependency)
      → flat_map direct_parent ds ≡ map parent_of (filter test ds)
  direct_passing [] = refl
  direct_passing (one_to_one parent ∷ ds) =
      ap (λ ps. parent ∷ ps) (direct_passing ds)
      ∙ sym (ap (λ b. Passing b (one_to_one parent) ds) (one parent))
  direct_passing (range_behind parent others ∷ ds) =
      ap (λ ps. parent ∷ ps) (direct_passing ds)
      ∙ sym (ap (λ b. Passing b (range_behind parent others) ds) (range parent others))
  direct_passing (grouped parent n ∷ ds) =
      ap (λ ps. parent ∷ ps) (direct_passing ds)
      ∙ sym (ap (λ b. Passing b (grouped parent n) ds) (group parent n))
  direct_passing (shuffled parent by ∷ ds) =
      direct_passing ds ∙ sym (ap (λ b. Passing b (shuffled parent by) ds) (through parent by))

  parents_passing : (work : WorkData) (k : ℕ)
      → direct_parents work k ≡ passing test work.script.nodes k
  parents_passing work k = at (slice_get work.script.nodes k)
    where
      at : (node : Option NodeData) → direct_parents_of work node
          ≡ map parent_of (filter test (dependencies_among (known_of work) node))
      at None = refl
      at (Some node) = direct_passing (dependencies_by (known_of work) node)

  taken_by : (work : WorkData) (from to : ℕ) → TakesIn work from to
      → Reaches (passing test work.script.nodes) from to
  taken_by work from to takes = (takes.0, along from takes.0 takes.1)
    where
      along : (i : ℕ) (path : List ℕ) → LeadsDirectly work i path to
          → Leads (passing test work.script.nodes) i path to
      along i [] leads = leads
      along i (via ∷ path) leads =
          (subst (λ ps. Contains ps via) (parents_passing work i) leads.0, along via path leads.1)

-- what a node takes in is within it
within_taken : (work : WorkData) (from to : ℕ) → TakesIn work from to
    → IsWithin work.script.nodes from to
within_taken work from to takes =
    taken_by _ (λ parent. refl) (λ parent others. refl) (λ parent n. refl) (λ parent by. refl) work
    from to takes

-- where each dependency passes, the parent of a side is among those
followed_side : (test : Dependency → Bool) → ((d : Dependency) → test d ≡ true)
    → (ds : List Dependency) (side : ℕ) → is_some_shuffle (slice_get ds side) ≡ true
    → Contains (map parent_of (filter test ds)) (parent_or (slice_get ds side))
followed_side test all [] side some = cc
followed_side test all (d ∷ ds) zero some =
    subst (λ b. Contains (map parent_of (cond b (d ∷ filter test ds) (filter test ds)))
    (parent_of d)) (sym (all d)) (0, omega arith, refl)
followed_side test all (d ∷ ds) (suc side) some =
    let rest = followed_side test all ds side some in
    subst (λ b. Contains (map parent_of (cond b (d ∷ filter test ds) (filter test ds)))
    (parent_or (slice_get ds side))) (sym (all d)) (suc rest.0, omega (arith, rest.1), rest.2)

side_by : (test : Dependency → Bool) → ((d : Dependency) → test d ≡ true)
    → (nodes : List NodeData) (s : ShuffleId) → is_shuffle nodes s ≡ true
    → Reaches (passing test nodes) s.node (mapped_node nodes s)
side_by test all nodes s some = (
  mapped_node nodes s ∷ [],
  (followed_side test all (dependencies_at nodes s.node) s.side some, refl),
)

-- so the node whose partitions the map tasks of a shuffle take is reached from its node
side_reached : (nodes : List NodeData) (s : ShuffleId) → is_shuffle nodes s ≡ true
    → IsReached nodes s.node (mapped_node nodes s)
side_reached nodes s some = side_by _ (λ d. refl) nodes s some

-- The stages of a job that was cut.
module _ (work : WorkData) (carried : CarriedData) (goal : Goal) (graph : List StageData)
    (lawful : IsLawfulCut work.script.nodes carried (goal_node work goal) graph)
    (stages : All (IsStageFor work goal) graph) where
  abbrev nodes : List NodeData
  nodes = work.script.nodes

  abbrev node : ℕ
  node = goal_node work goal

  taken_same : (target : Target) → node_taken_by work target ≡ taken_node nodes target
  taken_same (targets.Map s) = sym (mapped_same work s)
  taken_same (targets.Result k) = refl

  -- the node whose partitions a stage takes is reached
  taken_reached : (stage : StageData) → Contains graph stage
      → IsReached nodes node (taken_node nodes stage.target)
  taken_reached stage there =
      by stage.target refl (All-contains (IsStageFor work goal) graph stage stages there)
    where
      by : (target : Target) → stage.target ≡ target
          → AreTasksFor work goal stage.target stage.tasks
          → IsReached nodes node (taken_node nodes stage.target)
      by (targets.Map s) makes are =
          let only = lawful.only s stage.id (stage, there, makes, refl) in
          let P : Target → Type 0 = λ t. IsReached nodes node (taken_node nodes t) in
          subst P (sym makes)
          (reaches-further _ node s.node (mapped_node nodes s)
          only.1 (side_reached nodes s only.0))
      by (targets.Result k) makes are =
          let P : Target → Type 0 = λ t. IsReached nodes node (taken_node nodes t) in
          let Q : Target → Type 0 = λ t. AreTasksFor work goal t stage.tasks in
          let same : k ≡ node = (subst Q makes are).0 in
          subst P (sym makes) ([], sym same)

  reads_side : (stage : StageData) → Contains graph stage → (k side : ℕ)
      → TakesIn work (node_taken_by work stage.target) k → GoesThrough work (node_at work k) side
      → ReadsSide graph stage k side
  reads_side stage there k side takes through =
      let s = side_of k side in
      let some = shuffle_of_through work k side through in
      let From : ℕ → Type 0 = λ from. IsWithin nodes from k in
      let within = subst From (taken_same stage.target)
      (within_taken work (node_taken_by work stage.target) k takes) in
      let made = lawful.made s some
      (reaches-further _ node (taken_node nodes stage.target) k
      (taken_reached stage there)
      (within-reached nodes (taken_node nodes stage.target) k within)) in
      let has : HasStage graph s made.0 = made.1 in
      let read = (lawful.parents stage made.0 there).1 (s, some, within, has) in
      record {
        parent = has.0;
        there = has.1;
        read = subst (Contains stage.parents) (sym has.3) read;
        makes = has.2;
      }

  -- each stage reads what its tasks take in
  pub read_inputs : All (ReadsInputs work graph) graph
  read_inputs =
      All-weaker (Contains graph) (ReadsInputs work graph)
      (λ stage there. reads_side stage there) graph (All-contains_itself graph)
