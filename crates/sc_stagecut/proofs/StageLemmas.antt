-- Stages of numbered shuffles.
use Rattle.std.proofs.Common.{◌≡◌, ℕ, zero, suc, ◌<◌, Bool, true, List, [], ◌∷◌, ◌++◌, Option, Some, None, length, map, filter, get_or, All, refl, ap, sym, subst, arith}
use Rattle.std.proofs.lemmas.Bool.{false≢true}
use Rattle.std.proofs.lemmas.List.Elements.{All-append, All-cons, All-filter, All-head, All-nil, All-same, All-tail, filter_passes}
use Rattle.std.specs.List.{AllZip, slice_get}
use Rattle.sc_base.specs.Lists.{at_or}
use Rattle.sc_ids.specs.Graphs.{StageData}
use Rattle.sc_ids.specs.declared.blocks.ShuffleId.{ShuffleId}
use Rattle.sc_ids.specs.declared.blocks.Target.{Target}
use Rattle.sc_ids.specs.declared.blocks.Target.TheVariants as targets
use Rattle.sc_lineage.specs.Dependencies.{Dependency, parent_of}
use Rattle.sc_lineage.specs.Meaning.{known_of, part_count_by}
use Rattle.sc_lineage.specs.NodeData.{NodeData}
use Rattle.sc_lineage.specs.Partitioners.{partitioners_of}
use Rattle.sc_lineage.specs.ScriptData.{ScriptData, WorkData, IsSoundScript}
use Rattle.sc_stagecut.specs.Carrying.{CarriedData, HasBounds, IsCarriedFor, LacksBounds}
use Rattle.sc_stagecut.specs.Counting.{IsCountedStage}
use Rattle.sc_stagecut.specs.Cuts.{AreNumbers, IsMapStage, IsStage, NeedsStage}
use Rattle.sc_stagecut.specs.Numbering.{dependency_of, is_shuffle, is_some_shuffle, mapped_node, numbered, numbered_from, parent_or}
use Rattle.sc_stagecut.specs.Reaching.{IsReached, dependencies_among, dependencies_at, followed_from}
use Rattle.sc_stagecut.specs.declared.carried.Numbered.{Numbered}
use Rattle.sc_stagecut.specs.declared.reads.Follow.TheVariants as follows
use Rattle.sc_stagecut.proofs.DependencyLemmas.{depends_before, every, followed_before}
use Rattle.sc_stagecut.proofs.MarkLemmas.{reaches-below, reaches-step}

-- what holds of each item holds of one that was found
found_holds : {A : Type 0} (P : A → Type 0) (xs : List A) (i : ℕ) (x : A) → All P xs
    → slice_get xs i ≡ Some x → P x
found_holds P [] i x all is = cc
found_holds {A} P (y ∷ xs) zero x all is =
    let same : y ≡ x = cc in
    let Q : A → Type 0 = P in
    subst Q same (All-head P y xs all)
found_holds P (y ∷ xs) (suc i) x all is = found_holds P xs i x (All-tail P y xs all) is

-- an item that was found is one
found_in : {A B : Type 0} (f : A → B) (xs : List A) (i : ℕ) (x : A) → slice_get xs i ≡ Some x
    → (k : ℕ) × (k < length (map f xs)) × (get_or (map f xs) k (f x) ≡ f x)
found_in f [] i x is = cc
found_in f (y ∷ xs) zero x is =
    let same : y ≡ x = cc in (0, omega arith, ap f same)
found_in f (y ∷ xs) (suc i) x is =
    let rest = found_in f xs i x is in (suc rest.0, omega (arith, rest.1), rest.2)

-- The nodes of a checked script.
module _ (script : ScriptData) (sound : IsSoundScript script) where
  -- a shuffle takes partitions of a node before its own
  pub mapped_before : (s : ShuffleId) → is_shuffle script.nodes s ≡ true
      → mapped_node script.nodes s < s.node
  mapped_before s is = at (dependency_of script.nodes s) refl is
    where
      at : (d : Option Dependency) → dependency_of script.nodes s ≡ d
          → is_some_shuffle d ≡ true → parent_or d < s.node
      at None e h = absurd (false≢true h)
      at (Some d) e h =
          found_holds (λ x. parent_of x < s.node) (dependencies_at script.nodes s.node) s.side d
          (depends_before script sound s.node) e

  -- a shuffle is of a node that is there
  pub shuffle_there : (s : ShuffleId) → is_shuffle script.nodes s ≡ true
      → s.node < length script.nodes
  shuffle_there s is = there script.nodes s.node is
    where
      there : (nodes : List NodeData) (i : ℕ)
          → is_some_shuffle (slice_get (dependencies_among (partitioners_of script.nodes)
          (slice_get nodes i)) s.side) ≡ true → i < length nodes
      there [] i h = absurd (false≢true h)
      there (n ∷ nodes) zero h = omega arith
      there (n ∷ nodes) (suc i) h = let rest = there nodes i h in omega (arith, rest)

  -- what reaches the node of a shuffle reaches that whose partitions it takes
  pub reaches_mapped : (node : ℕ) (s : ShuffleId) → is_shuffle script.nodes s ≡ true
      → IsReached script.nodes node s.node
      → IsReached script.nodes node (mapped_node script.nodes s)
  reaches_mapped node s is reach = at (dependency_of script.nodes s) refl is
    where
      at : (d : Option Dependency) → dependency_of script.nodes s ≡ d
          → is_some_shuffle d ≡ true → IsReached script.nodes node (parent_or d)
      at None e h = absurd (false≢true h)
      at (Some d) e h =
          let ds = dependencies_at script.nodes s.node in
          let P : List Dependency → Type 0 = λ es.
          (k : ℕ) × (k < length (map parent_of es))
          × (get_or (map parent_of es) k (parent_of d) ≡ parent_of d) in
          reaches-step (followed_from follows.Every script.nodes) node
          (followed_before script sound follows.Every) s.node (parent_of d) reach
          (subst P (sym (every ds)) (found_in parent_of ds s.side d e))

-- The numbers of a job's map stages.
module _ (script : ScriptData) (sound : IsSoundScript script) (carried : CarriedData) (node : ℕ)
    (numbers : List Numbered) (next : ℕ) (are : AreNumbers script.nodes carried node numbers next)
    (known : IsCarriedFor script.nodes carried) where
  -- each is that of a shuffle that is reached
  pub record IsNumber (n : Numbered) : Type 0 where
    pub shuffle : is_shuffle script.nodes n.shuffle ≡ true
    pub reached : IsReached script.nodes node n.shuffle.node

  those : {A : Type 0} (P : A → Type 0) (test : A → Bool) → ((x : A) → test x ≡ true → P x)
      → (xs : List A) → All P (filter test xs)
  those P test holds xs i d at = holds (get_or (filter test xs) i d) (filter_passes test xs i d at)

  kept_are : All IsNumber are.kept
  kept_are =
      let test = are.are_kept.0 in
      let Shuffle : Numbered → Type 0 = λ n. is_shuffle script.nodes n.shuffle ≡ true in
      let shuffles : All Shuffle (filter test carried.stages) =
      All-filter test Shuffle carried.stages known.shuffles in
      let reached = those (λ n. IsReached script.nodes node n.shuffle.node) test
      (λ n is. (are.are_kept.1 n).0 is) carried.stages in
      All-same IsNumber are.kept (filter test carried.stages) are.are_kept.2
      (λ i d at. record { shuffle = shuffles i d at; reached = reached i d at })

  fresh_are : (first : ℕ) (ss : List ShuffleId)
      → All (NeedsStage script.nodes carried.stages node) ss → All IsNumber (numbered_from first ss)
  fresh_are first [] all = All-nil IsNumber
  fresh_are first (s ∷ ss) all =
      let P : ShuffleId → Type 0 = NeedsStage script.nodes carried.stages node in
      let one = All-head P s ss all in
      All-cons IsNumber (numbered s first) (numbered_from (suc first) ss)
      (record { shuffle = one.shuffle; reached = one.reached })
      (fresh_are (suc first) ss (All-tail P s ss all))

  pub numbers_are : All IsNumber numbers
  numbers_are =
      let P : ShuffleId → Type 0 = NeedsStage script.nodes carried.stages node in
      All-same IsNumber numbers (are.kept ++ numbered_from carried.next are.fresh) are.all
      (All-append IsNumber are.kept (numbered_from carried.next are.fresh) kept_are
      (fresh_are carried.next are.fresh
      (All-same P are.fresh (filter are.are_fresh.0 _) are.are_fresh.2
      (those P are.are_fresh.0 (λ s is. (are.are_fresh.1 s).0 is) _))))

  pub numbers_are_shuffles : All (λ n. is_shuffle script.nodes n.shuffle ≡ true) numbers
  numbers_are_shuffles i d at = (numbers_are i d at).shuffle

-- where no sort up to a node lacks bounds, none that it reaches does
pub lacks_below : (script : ScriptData) (sound : IsSoundScript script) (carried : CarriedData)
    (node end : ℕ) → node < end
    → ((k : ℕ) → k < end → LacksBounds script.nodes carried node k → ⊥)
    → HasBounds script.nodes carried node
lacks_below script sound carried node end past none k lacks =
    let down = reaches-below (followed_from follows.Every script.nodes) node
    (followed_before script sound follows.Every) k lacks.reached in
    none k (omega (arith, down)) lacks

-- what holds of lists in step, where something holds of each item of the first
AllZip-weaker : {A B : Type 0} (P : A → Type 0) (R S : A → B → Type 0)
    → ((x : A) (y : B) → P x → R x y → S x y) → (xs : List A) (ys : List B) → All P xs
    → AllZip R xs ys → AllZip S xs ys
AllZip-weaker P R S weaker [] [] all zip = tt
AllZip-weaker P R S weaker [] (y ∷ ys) all zip = zip
AllZip-weaker P R S weaker (x ∷ xs) [] all zip = zip
AllZip-weaker P R S weaker (x ∷ xs) (y ∷ ys) all zip = (
  weaker x y (All-head P x xs all) zip.0,
  AllZip-weaker P R S weaker xs ys (All-tail P x xs all) zip.1,
)

-- a stage with another count that is the same
pub recounted : (nodes : List NodeData) (numbers : List Numbered) (id : ℕ) (target : Target)
    (node : ℕ) (stage : StageData) (count other : ℕ) → count ≡ other
    → IsStage nodes numbers id target node count stage
    → IsStage nodes numbers id target node other stage
recounted nodes numbers id target node stage count other same is =
    let P : ℕ → Type 0 = λ n. IsStage nodes numbers id target node n stage in subst P same is

-- map stages by counts that are right at what is reached
pub map_stages-meant : (work : WorkData) (sound : IsSoundScript work.script) (node : ℕ)
    (counts : List ℕ) (ordered numbers : List Numbered) (maps : List StageData)
    → ((k : ℕ) → IsReached work.script.nodes node k
    → at_or counts k 0 ≡ part_count_by (known_of work) work k)
    → All (λ n. (is_shuffle work.script.nodes n.shuffle ≡ true)
    × IsReached work.script.nodes node n.shuffle.node) numbers
    → AllZip (IsCountedStage work.script.nodes counts ordered) numbers maps
    → AllZip (IsMapStage work ordered) numbers maps
map_stages-meant work sound node counts ordered numbers maps right are zip =
    let nodes = work.script.nodes in
    AllZip-weaker
    (λ n. (is_shuffle nodes n.shuffle ≡ true) × IsReached nodes node n.shuffle.node)
    (IsCountedStage nodes counts ordered) (IsMapStage work ordered)
    (λ n stage is counted.
    recounted nodes ordered n.stage (targets.Map n.shuffle) (mapped_node nodes n.shuffle) stage
    (at_or counts (mapped_node nodes n.shuffle) 0)
    (part_count_by (known_of work) work (mapped_node nodes n.shuffle))
    (right (mapped_node nodes n.shuffle)
    (reaches_mapped work.script sound node n.shuffle is.0 is.1)) counted)
    numbers maps are zip
