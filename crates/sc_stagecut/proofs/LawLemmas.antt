-- The laws of cuts.
use Rattle.std.proofs.Common.{◌≡◌, ◌↔◌, ◌∙◌, ℕ, ◌+◌, ◌<◌, ◌≤◌, Bool, true, nat_le, Option, List, [], ◌∷◌, ◌++◌, map, filter, All, inl, inr, ◌⊎◌, refl, ap, ap₂, sym, subst, arith}
use Rattle.std.proofs.lemmas.List.{append-nil}
use Rattle.std.proofs.lemmas.List.Elements.{All-cons, All-contains, All-contains_itself, All-nil, All-weaker, Contains-append_cases, Contains-append_left, filter-append, filter_map-append}
use Rattle.std.proofs.lemmas.List.Kept.{AllPairs-cons}
use Rattle.std.specs.List.{AllPairs, Contains, cons_option, filter_map}
use Rattle.sc_ids.specs.Graphs.{StageData}
use Rattle.sc_ids.specs.declared.blocks.ShuffleId.{ShuffleId}
use Rattle.sc_ids.specs.declared.blocks.Target.{Target}
use Rattle.sc_ids.specs.declared.blocks.Target.TheVariants as targets
use Rattle.sc_lineage.specs.Meaning.{known_of, part_count_by}
use Rattle.sc_lineage.specs.NodeData.{NodeData}
use Rattle.sc_lineage.specs.ScriptData.{WorkData, IsSoundScript}
use Rattle.sc_stagecut.specs.Carrying.{AreStagesOf, CarriedData, IsCarriedFor, after_job, new_number, number_behind}
use Rattle.sc_stagecut.specs.CutLaws.{CutsAreLawful, HasStage, IsLawfulCut, IsOfRead, taken_node}
use Rattle.sc_stagecut.specs.Cuts.{IsCut, IsMapStage, IsStage}
use Rattle.sc_stagecut.specs.Numbering.{in_side_order, is_shuffle, mapped_node, numbered_from}
use Rattle.sc_stagecut.specs.Reaching.{IsReached, IsWithin, followed_from}
use Rattle.sc_stagecut.specs.declared.reads.Follow.TheVariants as follows
use Rattle.sc_stagecut.specs.declared.carried.Numbered.{Numbered}
use Rattle.sc_stagecut.proofs.DependencyLemmas.{followed_before}
use Rattle.sc_stagecut.proofs.MarkLemmas.{reaches-below}
use Rattle.sc_stagecut.proofs.JobLemmas.{Needs, carried_on, fresh_between, kept_there, kept_in, numbers_given, numbers_older, numbers_rising, numbers_there}
use Rattle.sc_stagecut.proofs.OrderLemmas.{AllPairs-append, Contains-cases, Contains-filter, Contains-from_filter, Contains-from_map, Contains-map, zip_beside, zip_from}
use Rattle.sc_stagecut.proofs.SideLemmas.{IsBetween, in_side_order_from, in_side_order_there, shuffle_side}
use Rattle.sc_stagecut.proofs.StageLemmas.{IsNumber, numbers_are}
use Rattle.sc_stagecut.proofs.NewLemmas.{all_from, behind_last, maps_rise, new_of_maps, new_of_result, none_from}

module _ (work : WorkData) (sound : IsSoundScript work.script) (carried : CarriedData)
    (known : IsCarriedFor work.script.nodes carried) (node : ℕ) (graph : List StageData)
    (cut : IsCut work carried node graph) where
  abbrev nodes : List NodeData
  nodes = work.script.nodes

  abbrev fresh : List Numbered
  fresh = numbered_from carried.next cut.are_numbers.fresh

  -- the numbered shuffles in the order of (node, side)
  abbrev ordered : List Numbered
  ordered = in_side_order (node + 1) cut.numbers

  in_graph : (stage : StageData) → Contains (cut.maps ++ cut.result ∷ []) stage
      → Contains graph stage
  in_graph stage c =
      let Q : List StageData → Type 0 = λ ss. Contains ss stage in subst Q (sym cut.all) c

  in_parts : (stage : StageData) → Contains graph stage
      → Contains cut.maps stage ⊎ Contains (cut.result ∷ []) stage
  in_parts stage c =
      let Q : List StageData → Type 0 = λ ss. Contains ss stage in
      Contains-append_cases cut.maps (cut.result ∷ []) stage (subst Q cut.all c)

  -- the stage of a number
  stage_of : (n : Numbered) → Contains cut.numbers n → HasStage graph n.shuffle n.stage
  stage_of n c =
      let one = zip_beside (IsMapStage work ordered) cut.numbers cut.maps n cut.are_maps c in (
        one.0,
        in_graph one.0 (Contains-append_left cut.maps (cut.result ∷ []) one.0 one.1),
        one.2.makes,
        one.2.is_numbered,
      )

  -- the number of a stage
  abbrev HasNumber : ShuffleId → ℕ → Type 0
  HasNumber s id = (n : Numbered) × Contains cut.numbers n × (n.shuffle ≡ s) × (n.stage ≡ id)

  only_result : (stage : StageData) → Contains (cut.result ∷ []) stage → cut.result ≡ stage
  only_result stage c = by (Contains-cases cut.result stage [] c)
    where
      by : (cut.result ≡ stage) ⊎ Contains [] stage → cut.result ≡ stage
      by (inl same) = same
      by (inr none) = absurd (omega (arith, none.1))

  number_of : (s : ShuffleId) (id : ℕ) → HasStage graph s id → HasNumber s id
  number_of s id has = by (in_parts has.0 has.1)
    where
      by : Contains cut.maps has.0 ⊎ Contains (cut.result ∷ []) has.0 → HasNumber s id
      by (inl c) =
          let one = zip_from (IsMapStage work ordered) cut.numbers cut.maps has.0 cut.are_maps c
          in
          (one.0, one.1, made_for (sym one.2.makes ∙ has.2), sym one.2.is_numbered ∙ has.3)
        where
          made_for : {a b : ShuffleId} → targets.Map a ≡ targets.Map b → a ≡ b
          made_for same = cc
      by (inr c) =
          let other : targets.Result node ≡ targets.Map s =
          sym cut.is_result.makes ∙ ap (λ (x : StageData). x.target) (only_result has.0 c)
          ∙ has.2 in
          cc

  -- the parents of a stage that takes the partitions of a node
  parents_are : (id : ℕ) (target : Target) (from count : ℕ) (stage : StageData)
      → IsStage nodes ordered id target from count stage → taken_node nodes target ≡ from
      → (p : ℕ) → Contains stage.parents p ↔ IsOfRead nodes graph stage.target p
  parents_are id target from count stage is takes p = (there, back)
    where
      at : taken_node nodes stage.target ≡ from
      at = ap (taken_node nodes) is.makes ∙ takes

      there : Contains stage.parents p → IsOfRead nodes graph stage.target p
      there c =
          let Q : List ℕ → Type 0 = λ ps. Contains ps p in
          let one = Contains-from_map (λ (n : Numbered). n.stage) is.read p
          (subst Q is.parents c) in
          let S : List Numbered → Type 0 = λ ms. Contains ms one.0 in
          let both = Contains-from_filter is.are_read.0 ordered one.0
          (subst S is.are_read.2 one.1) in
          let listed = in_side_order_from (node + 1) cut.numbers one.0 both.0 in
          let within = (is.are_read.1 one.0).0 both.1 in
          let number = All-contains
          (IsNumber work.script sound carried node cut.numbers cut.next cut.are_numbers known)
          cut.numbers one.0
          (numbers_are work.script sound carried node cut.numbers cut.next cut.are_numbers known)
          listed in
          let W : ℕ → Type 0 = λ k. IsWithin nodes k one.0.shuffle.node in
          let H : ℕ → Type 0 = λ k. HasStage graph one.0.shuffle k in (
            one.0.shuffle,
            number.shuffle,
            subst W (sym at) within,
            subst H one.2 (stage_of one.0 listed),
          )

      back : IsOfRead nodes graph stage.target p → Contains stage.parents p
      back read =
          let one = number_of read.0 p read.3 in
          let W : ℕ → Type 0 = λ k. IsWithin nodes k read.0.node in
          let V : ShuffleId → Type 0 = λ s. IsWithin nodes from s.node in
          let within = subst V (sym one.2) (subst W at read.2) in
          let S : List Numbered → Type 0 = λ ms. Contains ms one.0 in
          let T : ShuffleId → Type 0 = λ s. is_shuffle nodes s ≡ true in
          let number = All-contains
          (IsNumber work.script sound carried node cut.numbers cut.next cut.are_numbers known)
          cut.numbers one.0
          (numbers_are work.script sound carried node cut.numbers cut.next cut.are_numbers known)
          one.1 in
          let low = reaches-below (followed_from follows.Every nodes) node
          (followed_before work.script sound follows.Every) one.0.shuffle.node number.reached in
          let listed = in_side_order_there (node + 1) cut.numbers one.0 (omega (arith, low))
          (shuffle_side nodes one.0.shuffle (subst T (sym one.2) read.1)) one.1 in
          let kept = subst S (sym is.are_read.2)
          (Contains-filter is.are_read.0 ordered one.0 listed
          ((is.are_read.1 one.0).1 within)) in
          let Q : List ℕ → Type 0 = λ ps. Contains ps p in
          let P : ℕ → Type 0 = λ k. Contains (map (λ (n : Numbered). n.stage) is.read) k in
          subst Q (sym is.parents)
          (subst P one.3 (Contains-map (λ (n : Numbered). n.stage) is.read one.0 kept))

  parents_of_stage : (stage : StageData) (p : ℕ) → Contains graph stage
      → Contains stage.parents p ↔ IsOfRead nodes graph stage.target p
  parents_of_stage stage p c = by (in_parts stage c)
    where
      by : Contains cut.maps stage ⊎ Contains (cut.result ∷ []) stage
          → Contains stage.parents p ↔ IsOfRead nodes graph stage.target p
      by (inl at) =
          let one = zip_from (IsMapStage work ordered) cut.numbers cut.maps stage
          cut.are_maps at in
          parents_are one.0.stage (targets.Map one.0.shuffle) (mapped_node nodes one.0.shuffle)
          (part_count_by (known_of work) work (mapped_node nodes one.0.shuffle)) stage one.2 refl p
      by (inr at) =
          let P : StageData → Type 0 = λ x.
          Contains x.parents p ↔ IsOfRead nodes graph x.target p in
          subst P (only_result stage at)
          (parents_are cut.next (targets.Result node) node
          (part_count_by (known_of work) work node) cut.result cut.is_result refl p)

  -- parents of a stage are numbers with something
  each_parent : (P : ℕ → Type 0) (id : ℕ) (target : Target) (from count : ℕ) (stage : StageData)
      → IsStage nodes ordered id target from count stage
      → ((m : Numbered) → Contains cut.numbers m → IsWithin nodes from m.shuffle.node → P m.stage)
      → All P stage.parents
  each_parent P id target from count stage is holds =
      let C = Contains stage.parents in
      All-weaker C P
      (λ p c.
      let Q : List ℕ → Type 0 = λ ps. Contains ps p in
      let one = Contains-from_map (λ (n : Numbered). n.stage) is.read p (subst Q is.parents c) in
      let S : List Numbered → Type 0 = λ ms. Contains ms one.0 in
      let both = Contains-from_filter is.are_read.0 ordered one.0
      (subst S is.are_read.2 one.1) in
      let listed = in_side_order_from (node + 1) cut.numbers one.0 both.0 in
      subst P one.2 (holds one.0 listed ((is.are_read.1 one.0).0 both.1)))
      stage.parents (All-contains_itself stage.parents)

  shuffle_is : (n : Numbered) → Contains cut.numbers n
      → IsNumber work.script sound carried node cut.numbers cut.next cut.are_numbers known n
  shuffle_is n c =
      All-contains
      (IsNumber work.script sound carried node cut.numbers cut.next cut.are_numbers known)
      cut.numbers n
      (numbers_are work.script sound carried node cut.numbers cut.next cut.are_numbers known) c

  older_parents : (stage : StageData) → Contains graph stage
      → All (λ p. p < stage.id) stage.parents
  older_parents stage c = by (in_parts stage c)
    where
      by : Contains cut.maps stage ⊎ Contains (cut.result ∷ []) stage
          → All (λ p. p < stage.id) stage.parents
      by (inl at) =
          let one = zip_from (IsMapStage work ordered) cut.numbers cut.maps stage
          cut.are_maps at in
          let n = one.0 in
          let id = one.2.is_numbered in
          each_parent (λ p. p < stage.id) n.stage (targets.Map n.shuffle)
          (mapped_node nodes n.shuffle)
          (part_count_by (known_of work) work (mapped_node nodes n.shuffle)) stage one.2
          (λ m at_m within.
          let shuffle = shuffle_is m at_m in
          let less = numbers_older work.script sound carried node cut.numbers cut.next
          cut.are_numbers known m n at_m one.1 shuffle.shuffle within in
          omega (arith, less, id))
      by (inr at) =
          let P : StageData → Type 0 = λ x. All (λ p. p < x.id) x.parents in
          let id = cut.is_result.is_numbered in
          subst P (only_result stage at)
          (each_parent (λ p. p < cut.result.id) cut.next (targets.Result node) node
          (part_count_by (known_of work) work node) cut.result cut.is_result
          (λ m at_m within.
          let less = All-contains (λ n. n.stage < cut.next) cut.numbers m
          (numbers_given work.script sound carried node cut.numbers cut.next cut.are_numbers known)
          at_m in
          omega (arith, less, id)))

  graph_rises : AllPairs (λ a b. a.id < b.id) graph
  graph_rises =
      let R : StageData → StageData → Type 0 = λ a b. a.id < b.id in
      let Q : List StageData → Type 0 = λ ss. AllPairs R ss in
      let none : AllPairs R [] = λ i j d before at. absurd (omega arith) in
      let last = cut.is_result.is_numbered in
      subst Q (sym cut.all)
      (AllPairs-append R cut.maps (cut.result ∷ [])
      (maps_rise work ordered cut.next cut.numbers cut.maps cut.are_maps
      (numbers_rising work.script sound carried node cut.numbers cut.next cut.are_numbers known))
      (AllPairs-cons R cut.result [] (All-nil (R cut.result)) none)
      (All-weaker (Contains cut.maps) (λ a. All (R a) (cut.result ∷ []))
      (λ a c.
      let one = zip_from (IsMapStage work ordered) cut.numbers cut.maps a cut.are_maps c in
      let id = one.2.is_numbered in
      let less = All-contains (λ n. n.stage < cut.next) cut.numbers one.0
      (numbers_given work.script sound carried node cut.numbers cut.next cut.are_numbers known)
      one.1 in
      All-cons (R a) cut.result [] (omega (arith, id, less, last)) (All-nil (R a)))
      cut.maps (All-contains_itself cut.maps)))

  -- what is carried on
  new_is : filter_map (new_number carried.next) graph ≡ fresh
  new_is =
      let give = new_number carried.next in
      let are = cut.are_numbers in
      let from : Numbered → Bool = λ n. nat_le carried.next n.stage in
      let below : All (λ n. n.stage < carried.next) are.kept =
      All-weaker (Contains carried.stages) (λ n. n.stage < carried.next)
      (λ n c. All-contains (λ x. x.stage < carried.next) carried.stages n known.given c) are.kept
      (kept_there work.script sound carried node cut.numbers cut.next are known) in
      let above : All (λ n. carried.next ≤ n.stage) fresh =
      All-weaker (IsBetween (Needs work.script sound carried node cut.numbers cut.next are known)
      carried.next cut.next) (λ n. carried.next ≤ n.stage) (λ n between. between.from) fresh
      (fresh_between work.script sound carried node cut.numbers cut.next are known) in
      ap (filter_map give) cut.all
      ∙ filter_map-append give cut.maps (cut.result ∷ [])
      ∙ ap₂ (λ ms rest. ms ++ rest)
      (new_of_maps work ordered carried.next cut.numbers cut.maps cut.are_maps)
      (ap (λ (o : Option Numbered). cons_option o [])
      (new_of_result carried.next node cut.result cut.is_result.makes))
      ∙ append-nil (filter from cut.numbers)
      ∙ ap (filter from) are.all
      ∙ filter-append from are.kept fresh
      ∙ ap₂ (λ ms rest. ms ++ rest) (none_from carried.next are.kept below)
      (all_from carried.next fresh above)

  carries_on : IsCarriedFor nodes (after_job carried graph)
  carries_on =
      let behind : number_behind carried.next graph ≡ cut.next + 1 =
      ap (number_behind carried.next) cut.all ∙ behind_last carried.next cut.maps cut.result
      ∙ ap (λ i. i + 1) cut.is_result.is_numbered in
      let P : ℕ → Type 0 = λ next. AreStagesOf nodes (carried.stages ++ fresh) next in
      let Q : List Numbered → Type 0 = λ ns.
      AreStagesOf nodes (carried.stages ++ ns) (number_behind carried.next graph) in
      subst Q (sym new_is)
      (subst P (sym behind)
      (carried_on work.script sound carried node cut.numbers cut.next cut.are_numbers known))

  pub is_lawful : IsLawfulCut nodes carried node graph
  is_lawful = record {
    made = λ s is reach.
        let one = numbers_there work.script sound carried node cut.numbers cut.next cut.are_numbers
        known s is reach in
        let H : ShuffleId → Type 0 = λ t. HasStage graph t one.0.stage in
        (one.0.stage, subst H one.2 (stage_of one.0 one.1));
    only = λ s id has.
        let one = number_of s id has in
        let number = shuffle_is one.0 one.1 in
        let P : ShuffleId → Type 0 = λ t.
        (is_shuffle nodes t ≡ true) × IsReached nodes node t.node in
        subst P one.2 (number.shuffle, number.reached);
    kept = λ n c reach.
        let are = cut.are_numbers in
        let kept = kept_in work.script sound carried node cut.numbers cut.next are known n c
        reach in
        let Q : List Numbered → Type 0 = λ ns. Contains ns n in
        stage_of n (subst Q (sym are.all) (Contains-append_left are.kept fresh n kept));
    parents = λ stage id c. parents_of_stage stage id c;
    rising = graph_rises;
    older =
        All-weaker (Contains graph) (λ stage. All (λ p. p < stage.id) stage.parents)
        (λ stage c. older_parents stage c) graph (All-contains_itself graph);
    carried_on = carries_on;
  }

pub cuts_are_lawful : CutsAreLawful
cuts_are_lawful work carried node graph sound known cut =
    is_lawful work sound carried known node graph cut
