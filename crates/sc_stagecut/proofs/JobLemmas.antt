-- The numbers of a job: each shuffle that is reached has one, they rise, and those that its tasks
-- read have smaller ones.
use Rattle.std.proofs.Common.{◌≡◌, ◌≢◌, ◌∙◌, ℕ, ◌+◌, ◌<◌, true, false, List, ◌++◌, filter, All, inl, inr, ◌⊎◌, ap, sym, subst, arith}
use Rattle.std.proofs.lemmas.Bool.{cases_Bool, false≢true}
use Rattle.std.proofs.lemmas.List.Elements.{All-append, All-contains, All-contains_itself, All-filter, All-same, All-weaker, Contains-append_cases, Contains-append_left, Contains-append_right, filter_passes}
use Rattle.std.proofs.lemmas.List.Kept.{AllPairs-filter}
use Rattle.std.specs.List.{AllPairs, Contains}
use Rattle.sc_ids.specs.declared.blocks.ShuffleId.{ShuffleId}
use Rattle.sc_lineage.specs.NodeData.{NodeData}
use Rattle.sc_lineage.specs.ScriptData.{ScriptData, IsSoundScript}
use Rattle.sc_stagecut.specs.Carrying.{AreStagesOf, CarriedData, HasOlder, IsCarriedFor}
use Rattle.sc_stagecut.specs.Cuts.{AreNumbers, NeedsStage}
use Rattle.sc_stagecut.specs.Numbering.{has_number, is_shuffle, mapped_node, numbered_from, sides_below}
use Rattle.sc_stagecut.specs.Reaching.{IsReached, IsWithin, followed_from}
use Rattle.sc_stagecut.specs.declared.carried.Numbered.{Numbered}
use Rattle.sc_stagecut.specs.declared.reads.Follow.TheVariants as follows
use Rattle.sc_stagecut.proofs.DependencyLemmas.{followed_before}
use Rattle.sc_stagecut.proofs.MarkLemmas.{reaches-below}
use Rattle.sc_stagecut.proofs.OrderLemmas.{AllPairs-append, AllPairs-weaker, Contains-filter, pair_cases}
use Rattle.sc_stagecut.proofs.PathLemmas.{reaches-further, within-reached}
use Rattle.sc_stagecut.proofs.SideLemmas.{Before, IsBetween, Rises, before_node, before_other, number_found, number_there, numbered_between, numbered_rises, numbered_there, shuffle_side, sides_ordered, sides_there}
use Rattle.sc_stagecut.proofs.StageLemmas.{mapped_before, reaches_mapped}

module _ (script : ScriptData) (sound : IsSoundScript script) (carried : CarriedData) (node : ℕ)
    (numbers : List Numbered) (next : ℕ) (are : AreNumbers script.nodes carried node numbers next)
    (known : IsCarriedFor script.nodes carried) where
  abbrev nodes : List NodeData
  nodes = script.nodes

  abbrev pub Needs : ShuffleId → Type 0
  Needs = NeedsStage nodes carried.stages node

  -- the numbers that are given out now
  abbrev fresh : List Numbered
  fresh = numbered_from carried.next are.fresh

  fresh_need : All Needs are.fresh
  fresh_need =
      let test = are.are_fresh.0 in
      let all = sides_below (node + 1) in
      All-same Needs are.fresh (filter test all) are.are_fresh.2
      (All-weaker (λ s. test s ≡ true) Needs (λ s is. (are.are_fresh.1 s).0 is) (filter test all)
      (filter_passes test all))

  pub fresh_between : All (IsBetween Needs carried.next next) fresh
  fresh_between = numbered_between Needs carried.next next are.fresh fresh_need are.behind

  pub fresh_rises : AllPairs Rises fresh
  fresh_rises =
      let Q : List ShuffleId → Type 0 = λ ss. AllPairs Before ss in
      numbered_rises carried.next are.fresh
      (subst Q (sym are.are_fresh.2)
      (AllPairs-filter Before are.are_fresh.0 (sides_below (node + 1)) (sides_ordered (node + 1))))

  pub kept_there : All (Contains carried.stages) are.kept
  kept_there =
      All-same (Contains carried.stages) are.kept (filter are.are_kept.0 carried.stages)
      are.are_kept.2
      (All-filter are.are_kept.0 (Contains carried.stages) carried.stages
      (All-contains_itself carried.stages))

  -- a number of before comes before one that is given out now, and is of another shuffle
  across : (R : Numbered → Numbered → Type 0)
      → ((m n : Numbered) → m.stage < carried.next → Contains carried.stages m
      → IsBetween Needs carried.next next n → R m n)
      → (old : List Numbered) → All (Contains carried.stages) old → All (λ m. All (R m) fresh) old
  across R relate old there =
      All-weaker (Contains carried.stages) (λ m. All (R m) fresh)
      (λ m c. All-weaker (IsBetween Needs carried.next next) (R m)
      (λ n between. relate m n
      (All-contains (λ x. x.stage < carried.next) carried.stages m known.given c) c between)
      fresh fresh_between)
      old there

  differ : (m n : Numbered) → Contains carried.stages m → IsBetween Needs carried.next next n
      → m.shuffle ≢ n.shuffle
  differ m n c between same =
      let has = number_there carried.stages m c in
      false≢true
      (sym between.holds.new ∙ sym (ap (has_number carried.stages) same) ∙ has)

  -- old numbers with those that are given out now behind them
  pub rising_with : (old : List Numbered) → All (Contains carried.stages) old
      → AllPairs (λ m n. m.stage < n.stage) old → AllPairs (λ m n. m.stage < n.stage) (old ++ fresh)
  rising_with old there rising =
      let R : Numbered → Numbered → Type 0 = λ m n. m.stage < n.stage in
      AllPairs-append R old fresh rising
      (AllPairs-weaker Rises R (λ m n rises. rises.stages) fresh fresh_rises)
      (across R (λ m n below c between. let from = between.from in omega (arith, from)) old there)

  pub once_with : (old : List Numbered) → All (Contains carried.stages) old
      → AllPairs (λ m n. m.shuffle ≢ n.shuffle) old
      → AllPairs (λ m n. m.shuffle ≢ n.shuffle) (old ++ fresh)
  once_with old there once =
      let R : Numbered → Numbered → Type 0 = λ m n. m.shuffle ≢ n.shuffle in
      AllPairs-append R old fresh once
      (AllPairs-weaker Rises R
      (λ m n rises same. before_other m.shuffle n.shuffle rises.sides same) fresh fresh_rises)
      (across R (λ m n below c between. differ m n c between) old there)

  pub given_with : (old : List Numbered) → All (Contains carried.stages) old
      → All (λ n. n.stage < next) (old ++ fresh)
  given_with old there =
      let P : Numbered → Type 0 = λ n. n.stage < next in
      All-append P old fresh
      (All-weaker (Contains carried.stages) P
      (λ n c.
      let below = All-contains (λ x. x.stage < carried.next) carried.stages n known.given c in
      omega (arith, below, are.behind)) old there)
      (All-weaker (IsBetween Needs carried.next next) P (λ n between. between.to) fresh
      fresh_between)

  -- each shuffle that is reached and has no number gets one now
  pub fresh_there : (s : ShuffleId) → Needs s
      → (n : Numbered) × Contains fresh n × (n.shuffle ≡ s)
  fresh_there s needs =
      let low = reaches-below (followed_from follows.Every nodes) node
      (followed_before script sound follows.Every) s.node needs.reached in
      let Q : List ShuffleId → Type 0 = λ ss. Contains ss s in
      numbered_there carried.next are.fresh s
      (subst Q (sym are.are_fresh.2)
      (Contains-filter are.are_fresh.0 (sides_below (node + 1)) s
      (sides_there (node + 1) s (omega (arith, low)) (shuffle_side nodes s needs.shuffle))
      ((are.are_fresh.1 s).1 needs)))

  pub kept_in : (n : Numbered) → Contains carried.stages n → IsReached nodes node n.shuffle.node
      → Contains are.kept n
  kept_in n c reach =
      let Q : List Numbered → Type 0 = λ ns. Contains ns n in
      subst Q (sym are.are_kept.2)
      (Contains-filter are.are_kept.0 carried.stages n c ((are.are_kept.1 n).1 reach))

  -- each shuffle that is reached has a number
  pub numbers_there : (s : ShuffleId) → is_shuffle nodes s ≡ true → IsReached nodes node s.node
      → (n : Numbered) × Contains numbers n × (n.shuffle ≡ s)
  numbers_there s is reach = by (cases_Bool (has_number carried.stages s))
    where
      in_numbers : (n : Numbered) → Contains (are.kept ++ fresh) n → Contains numbers n
      in_numbers n c =
          let Q : List Numbered → Type 0 = λ ns. Contains ns n in subst Q (sym are.all) c

      by : (has_number carried.stages s ≡ true) ⊎ (has_number carried.stages s ≡ false)
          → (n : Numbered) × Contains numbers n × (n.shuffle ≡ s)
      by (inl has) =
          let one = number_found carried.stages s has in
          let P : ShuffleId → Type 0 = λ t. IsReached nodes node t.node in
          let kept = kept_in one.0 one.1 (subst P (sym one.2) reach) in
          (one.0, in_numbers one.0 (Contains-append_left are.kept fresh one.0 kept), one.2)
      by (inr none) =
          let one = fresh_there s (record { shuffle = is; reached = reach; new = none }) in
          (one.0, in_numbers one.0 (Contains-append_right are.kept fresh one.0 one.1), one.2)

  -- The shuffles that the tasks of a stage read have older stages.
  pub older_with : (n : Numbered) (s : ShuffleId) → Contains (carried.stages ++ fresh) n
      → is_shuffle nodes s ≡ true → IsWithin nodes (mapped_node nodes n.shuffle) s.node
      → HasOlder (carried.stages ++ fresh) s n.stage
  older_with n s c is within = by (Contains-append_cases carried.stages fresh n c)
    where
      was : HasOlder carried.stages s n.stage → HasOlder (carried.stages ++ fresh) s n.stage
      was old = (old.0, Contains-append_left carried.stages fresh old.0 old.1, old.2, old.3)

      no_later : IsBetween Needs carried.next next n → s.node < n.shuffle.node
      no_later between =
          let before = mapped_before script sound n.shuffle between.holds.shuffle in
          let down = reaches-below (followed_from follows.Narrow nodes)
          (mapped_node nodes n.shuffle) (followed_before script sound follows.Narrow) s.node
          within in
          omega (arith, before, down)

      reached : IsBetween Needs carried.next next n → IsReached nodes node s.node
      reached between =
          reaches-further (followed_from follows.Every nodes) node (mapped_node nodes n.shuffle)
          s.node (reaches_mapped script sound node n.shuffle between.holds.shuffle
          between.holds.reached)
          (within-reached nodes (mapped_node nodes n.shuffle) s.node within)

      ordered : (m : Numbered) → m.shuffle ≡ s → s.node < n.shuffle.node
          → (m ≡ n) ⊎ (Rises m n ⊎ Rises n m) → m.stage < n.stage
      ordered m same less (inr (inl rises)) = rises.stages
      ordered m same less (inl one) =
          let at : s.node ≡ n.shuffle.node =
          ap (λ (t : ShuffleId). t.node) (sym same)
          ∙ ap (λ (x : Numbered). x.shuffle.node) one in
          absurd (omega (arith, at))
      ordered m same less (inr (inr rises)) =
          let at : m.shuffle.node ≡ s.node = ap (λ (t : ShuffleId). t.node) same in
          let up = before_node n.shuffle m.shuffle rises.sides in absurd (omega (arith, at, up))

      new : Contains fresh n → IsBetween Needs carried.next next n
          → (has_number carried.stages s ≡ true) ⊎ (has_number carried.stages s ≡ false)
          → HasOlder (carried.stages ++ fresh) s n.stage
      new at between (inl has) =
          let one = number_found carried.stages s has in
          let below = All-contains (λ x. x.stage < carried.next) carried.stages one.0 known.given
          one.1 in
          let from = between.from in
          was (one.0, one.1, one.2, omega (arith, below, from))
      new at between (inr none) =
          let one = fresh_there s
          (record { shuffle = is; reached = reached between; new = none }) in (
            one.0,
            Contains-append_right carried.stages fresh one.0 one.1,
            one.2,
            ordered one.0 one.2 (no_later between)
                (pair_cases Rises fresh one.0 n fresh_rises one.1 at),
          )

      by : Contains carried.stages n ⊎ Contains fresh n
          → HasOlder (carried.stages ++ fresh) s n.stage
      by (inl old) = was (known.parents n s old is within)
      by (inr at) =
          new at (All-contains (IsBetween Needs carried.next next) fresh n fresh_between at)
          (cases_Bool (has_number carried.stages s))

  -- what is carried on is of the script's jobs
  pub carried_on : AreStagesOf nodes (carried.stages ++ fresh) (next + 1)
  carried_on =
      let itself = All-contains_itself carried.stages in
      let Shuffle : Numbered → Type 0 = λ n. is_shuffle nodes n.shuffle ≡ true in
      record {
        shuffles =
            All-append Shuffle carried.stages fresh known.shuffles
            (All-weaker (IsBetween Needs carried.next next) Shuffle
            (λ n between. between.holds.shuffle) fresh fresh_between);
        given =
            All-weaker (λ n. n.stage < next) (λ n. n.stage < next + 1) (λ n below. omega arith)
            (carried.stages ++ fresh) (given_with carried.stages itself);
        rising = rising_with carried.stages itself known.rising;
        once = once_with carried.stages itself known.once;
        parents = older_with;
      }

  pub numbers_given : All (λ n. n.stage < next) numbers
  numbers_given =
      All-same (λ n. n.stage < next) numbers (are.kept ++ fresh) are.all
      (given_with are.kept kept_there)

  pub numbers_rising : AllPairs (λ m n. m.stage < n.stage) numbers
  numbers_rising =
      let R : Numbered → Numbered → Type 0 = λ m n. m.stage < n.stage in
      let Q : List Numbered → Type 0 = λ ns. AllPairs R ns in
      subst Q (sym are.all)
      (rising_with are.kept kept_there
      (subst Q (sym are.are_kept.2)
      (AllPairs-filter R are.are_kept.0 carried.stages known.rising)))

  -- each number is carried on
  pub numbers_carried : (n : Numbered) → Contains numbers n → Contains (carried.stages ++ fresh) n
  numbers_carried n c =
      let Q : List Numbered → Type 0 = λ ns. Contains ns n in
      by (Contains-append_cases are.kept fresh n (subst Q are.all c))
    where
      by : Contains are.kept n ⊎ Contains fresh n → Contains (carried.stages ++ fresh) n
      by (inl kept) =
          Contains-append_left carried.stages fresh n
          (All-contains (Contains carried.stages) are.kept n kept_there kept)
      by (inr at) = Contains-append_right carried.stages fresh n at

  -- those that the tasks of a stage read have smaller ones
  pub numbers_older : (m n : Numbered) → Contains numbers m → Contains numbers n
      → is_shuffle nodes m.shuffle ≡ true
      → IsWithin nodes (mapped_node nodes n.shuffle) m.shuffle.node → m.stage < n.stage
  numbers_older m n a b is within =
      let older = older_with n m.shuffle (numbers_carried n b) is within in
      same older
      (pair_cases (λ x y. x.shuffle ≢ y.shuffle) (carried.stages ++ fresh) older.0 m
      (once_with carried.stages (All-contains_itself carried.stages) known.once) older.1
      (numbers_carried m a))
    where
      same : (older : HasOlder (carried.stages ++ fresh) m.shuffle n.stage)
          → (older.0 ≡ m) ⊎ ((older.0.shuffle ≢ m.shuffle) ⊎ (m.shuffle ≢ older.0.shuffle))
          → m.stage < n.stage
      same older (inl one) =
          let at : older.0.stage ≡ m.stage = ap (λ (x : Numbered). x.stage) one in
          let less = older.3 in omega (arith, at, less)
      same older (inr (inl other)) = absurd (other older.2)
      same older (inr (inr other)) = absurd (other (sym older.2))
