-- What was read of a task's blocks is what was handed in of them.
use Rattle.std.specs.declared.alloc.Global.{Global}
use Rattle.std.proofs.Common.{◌≡◌, ◌∙◌, ℕ, zero, suc, ◌+◌, ◌<◌, true, List, [], ◌∷◌, Option, Some, None, Vec, All, IfSome, length, map, slice_get, refl, ap, ap₂, sym, subst, arith}
use Rattle.std.proofs.lemmas.List.Elements.{All-append, All-cons, All-head, All-map, All-nil, All-tail}
use Rattle.std.specs.List.{AllZip, flat_map}
use Rattle.std.specs.Option.{is_some}
use Rattle.sc_base.specs.Lists.{at_or, numbers_below, numbers_from}
use Rattle.sc_value.specs.Datum.{Datum}
use Rattle.sc_ids.specs.Graphs.{StageData}
use Rattle.sc_ids.specs.declared.blocks.BlockId.{BlockId}
use Rattle.sc_ids.specs.declared.blocks.ShuffleId.{ShuffleId}
use Rattle.sc_ids.specs.declared.blocks.Target.{Target}
use Rattle.sc_ids.specs.declared.blocks.Target.TheVariants as targets
use Rattle.sc_combine.specs.Deals.{IsDealt}
use Rattle.sc_combine.specs.Outputs.{IsOutput, dealing_for}
use Rattle.sc_lineage.specs.ScriptData.{WorkData}
use Rattle.sc_lineage.specs.declared.streams.Stream.{Stream}
use Rattle.sc_lineage.proofs.PlaceLemmas.{slice_get-at_or}
use Rattle.sc_dag.specs.Outputs.{block_of}
use Rattle.sc_compute.specs.Keeping.{same_place}
use Rattle.sc_compute.specs.Stages.{AreOutputs, AreRight, handed_in}
use Rattle.sc_compute.specs.declared.stages.ShuffleInputs.{ShuffleInputs}
use Rattle.sc_store.specs.OwnBlocks.{IsOwnBlock}
use Rattle.sc_jobs.specs.JobData.{JobData, blocks_by, blocks_left, parents_in, stage_in}
use Rattle.sc_jobs.specs.Plans.{IsJobFor}
use Rattle.sc_net.specs.Tasks.{TaskData, blocks_of_task, stage_of_task}
use Rattle.sc_task.specs.Handing.{AreHanded, AreHandedIn, IsHanded, IsHandedBy, IsHandedIn}
use Rattle.sc_task.specs.States.{HasReadAll}
use Rattle.sc_task.proofs.HandingLemmas.{found_of_work}
use Rattle.std.specs.HashMap.{get}

abbrev Output : Type 0
Output = List (List Datum)

-- ---- lists

pub all_flat : {A B : Type 0} (P : B → Type 0) (f : A → List B) (xs : List A)
    → All (λ x. All P (f x)) xs → All P (flat_map f xs)
all_flat P f [] all = All-nil P
all_flat P f (x ∷ xs) all =
    All-append P (f x) (flat_map f xs) (All-head (λ y. All P (f y)) x xs all)
    (all_flat P f xs (All-tail (λ y. All P (f y)) x xs all))

pub zip_onto : {A B : Type 0} (P : A → Type 0) (R S : A → B → Type 0) (xs : List A) (ys : List B)
    → ((x : A) (y : B) → P x → R x y → S x y) → All P xs → AllZip R xs ys → AllZip S xs ys
zip_onto P R S [] [] f all zip = tt
zip_onto P R S [] (y ∷ ys) f all zip = absurd zip
zip_onto P R S (x ∷ xs) [] f all zip = absurd zip
zip_onto P R S (x ∷ xs) (y ∷ ys) f all zip =
    (f x y (All-head P x xs all) zip.0, zip_onto P R S xs ys f (All-tail P x xs all) zip.1)

pub numbers_within : (first count bound : ℕ) → first + count ≡ bound
    → All (λ m. m < bound) (numbers_from first count)
numbers_within first zero bound is = All-nil (λ m. m < bound)
numbers_within first (suc count) bound is =
    All-cons (λ m. m < bound) first (numbers_from (suc first) count) (omega (arith, is))
    (numbers_within (suc first) count bound (omega (arith, is)))

pub lists_same : (xs ys : List (List Datum)) → length xs ≡ length ys
    → ((j : ℕ) → at_or xs j [] ≡ at_or ys j []) → xs ≡ ys
lists_same [] [] long each = refl
lists_same [] (y ∷ ys) long each = absurd (cc)
lists_same (x ∷ xs) [] long each = absurd (cc)
lists_same (x ∷ xs) (y ∷ ys) long each =
    let shorter : length xs ≡ length ys = cc in
    ap₂ (λ z zs. z ∷ zs) (each 0) (lists_same xs ys shorter (λ j. each (suc j)))

-- ---- outputs

-- a map task has one output
pub one_output : (work : WorkData) (node side m : ℕ) (a b : Output) → IsOutput work node side m a
    → IsOutput work node side m b → a ≡ b
one_output work node side m a b left right =
    let rows : left.rows ≡ right.rows =
    ap (λ (s : Stream). s.rows) (sym left.own ∙ right.own) in
    let dealt : IsDealt (dealing_for work node) m left.rows b =
    subst (λ rs. IsDealt (dealing_for work node) m rs b) (sym rows) right.by_bucket in
    lists_same a b (left.by_bucket.count ∙ sym dealt.count)
    (λ j. left.by_bucket.each j ∙ sym (dealt.each j))

-- there are outputs for the shuffle of a block, of which one is at the place of its map partition
abbrev HasPlace : ShuffleInputs → BlockId → Type 0
HasPlace inputs b =
    (outputs : Vec Output Global) × (handed_in inputs b.shuffle.node b.shuffle.side ≡ Some outputs)
    × (b.map < length outputs.items)

module _ (work : WorkData) (inputs : ShuffleInputs) (right : AreRight work inputs) where
  -- what was read of such a block is that one
  read_is : (b : BlockId) (got : Output) → HasPlace inputs b → IsOwnBlock work b got
      → IsHandedIn inputs b got
  read_is b got has own =
      let outputs = has.0 in
      let P : Option (Vec Output Global) → Type 0 =
      λ o. IfSome o (λ v. AreOutputs work b.shuffle.node b.shuffle.side v.items) in
      let are : AreOutputs work b.shuffle.node b.shuffle.side outputs.items =
      subst P has.1 (right.handed b.shuffle.node b.shuffle.side) in (
        outputs,
        has.1,
        slice_get-at_or outputs.items b.map [] has.2
            ∙ ap Some (one_output work b.shuffle.node b.shuffle.side b.map
            (at_or outputs.items b.map []) got (are.each b.map has.2) own),
      )

  -- the blocks of a stage that was handed in have their places
  module _ (job : JobData) (is : IsJobFor work job) where
    places_of : (id : ℕ) → IsHandedBy job.graph inputs id
        → All (HasPlace inputs) (blocks_left (stage_in job.graph id))
    places_of id handed = at (stage_in job.graph id) refl handed
      where
        of_map : (stage : StageData) (s : ShuffleId) → stage_in job.graph id ≡ Some stage
            → stage.target ≡ targets.Map s → (o : Option (Vec Output Global))
            → handed_in inputs s.node s.side ≡ o → is_some o ≡ true
            → All (HasPlace inputs) (map (block_of s) (numbers_below stage.tasks))
        of_map stage s found makes None there some = absurd (cc)
        of_map stage s found makes (Some outputs) there some =
            let of_work = found_of_work work job id stage is found s makes in
            let P : Option (Vec Output Global) → Type 0 =
            λ o. IfSome o (λ v. AreOutputs work s.node s.side v.items) in
            let are : AreOutputs work s.node s.side outputs.items =
            subst P there (right.handed s.node s.side) in
            let many : length outputs.items ≡ stage.tasks = are.count ∙ sym of_work.1 in
            All-map (HasPlace inputs) (block_of s) (numbers_below stage.tasks)
            (each (numbers_below stage.tasks)
            (numbers_within 0 stage.tasks (length outputs.items) (omega (arith, many))))
          where
            each : (ms : List ℕ) → All (λ m. m < length outputs.items) ms
                → All (λ m. HasPlace inputs (block_of s m)) ms
            each [] all = All-nil (λ m. HasPlace inputs (block_of s m))
            each (m ∷ ms) all =
                All-cons (λ m. HasPlace inputs (block_of s m)) m ms
                (outputs, there, All-head (λ m. m < length outputs.items) m ms all)
                (each ms (All-tail (λ m. m < length outputs.items) m ms all))

        of_stage : (stage : StageData) (t : Target) → stage_in job.graph id ≡ Some stage
            → stage.target ≡ t → IsHanded inputs stage
            → All (HasPlace inputs) (blocks_by t stage.tasks)
        of_stage stage (targets.Map s) found makes given =
            of_map stage s found makes (handed_in inputs s.node s.side) refl (given s makes)
        of_stage stage (targets.Result node) found makes given = All-nil (HasPlace inputs)

        at : (o : Option StageData) → stage_in job.graph id ≡ o → IfSome o (IsHanded inputs)
            → All (HasPlace inputs) (blocks_left o)
        at None found given = All-nil (HasPlace inputs)
        at (Some stage) found given = of_stage stage stage.target found refl given

  -- so what was read of all blocks of a task was handed in
  pub read_handed : (t : TaskData) (got : List Output) → IsJobFor work t.job → AreHanded t inputs
      → HasReadAll work t got → AreHandedIn t got inputs
  read_handed t got is handed all =
      zip_onto (HasPlace inputs) (IsOwnBlock work) (IsHandedIn inputs) (blocks_of_task t) got
      read_is
      (all_flat (HasPlace inputs) (λ id. blocks_left (stage_in t.job.graph id))
      (parents_in (stage_of_task t)) (each (parents_in (stage_of_task t)) handed))
      all
    where
      each : (ids : List ℕ) → All (IsHandedBy t.job.graph inputs) ids
          → All (λ id. All (HasPlace inputs) (blocks_left (stage_in t.job.graph id))) ids
      each [] all = All-nil (λ id. All (HasPlace inputs) (blocks_left (stage_in t.job.graph id)))
      each (id ∷ ids) all =
          All-cons (λ id. All (HasPlace inputs) (blocks_left (stage_in t.job.graph id))) id ids
          (places_of t.job is id (All-head (IsHandedBy t.job.graph inputs) id ids all))
          (each ids (All-tail (IsHandedBy t.job.graph inputs) id ids all))

-- and it stays so while what was handed in does
pub handed_stay : (t : TaskData) (got : List Output) (before after : ShuffleInputs)
    → after.handed ≡ before.handed → AreHandedIn t got before → AreHandedIn t got after
handed_stay t got before after same are =
    subst (λ h. AllZip (λ (b : BlockId) (output : Output). (outputs : Vec Output Global)
    × (get same_place h (b.shuffle.node, b.shuffle.side) ≡ Some outputs)
    × (slice_get outputs.items b.map ≡ Some output)) (blocks_of_task t) got)
    (sym same) are
