-- The stages of a job that begins.
use Rattle.std.proofs.Common.{◌≡◌, ◌≢◌, ◌⊎◌, inl, inr, ℕ, ◌+◌, ◌<◌, ◌≤◌, true, List, [], ◌∷◌, ◌++◌, All, AllPairs, Contains, get_or, length, refl, ap, sym, subst, ◌∙◌, arith}
use Rattle.std.proofs.lemmas.Bool.{cases_eq, cases_lt}
use Rattle.std.proofs.lemmas.List.{get_or_append_left, get_or_push, length-append}
use Rattle.std.proofs.lemmas.List.Elements.{All-contains, All-nil, All-weaker, Contains-push_cases, at_from_Contains}
use Rattle.sc_base.specs.Lists.{at_or}
use Rattle.sc_ids.specs.Graphs.{StageData}
use Rattle.sc_ids.specs.declared.blocks.ShuffleId.{ShuffleId}
use Rattle.sc_ids.specs.declared.blocks.Target.TheVariants as targets
use Rattle.sc_tracker.specs.TrackerData.{TrackerData, outputs_of}
use Rattle.sc_dag.specs.DagData.{no_stage}
use Rattle.sc_dag.specs.Openings.{AreNumbered, AreOfTwo, FitsJob, IsJob, sized_for_all}
use Rattle.sc_dag.specs.Sound.{AreSoundStages}
use Rattle.sc_dag.specs.Submission.{is_map}
use Rattle.sc_dag.proofs.Sizing.{HasRoomIn, all_sized_enough}
use Rattle.sc_dag.proofs.Tests.{clash}

-- two of a list, apart both ways round
pair_apart :
    {A : Type 0} (R : A → A → Type 0) (xs : List A) (a b : A)
    → ((x y : A) → R x y → R y x) → (a ≢ b) → AllPairs R xs → Contains xs a → Contains xs b
    → R a b
pair_apart {A = A} R xs a b turn ne pairs one other =
    by (cases_eq k m) (cases_lt k m)
  where
    x : (k : ℕ) × (k < length xs) × ((d : A) → get_or xs k d ≡ a)
    x = at_from_Contains xs a one

    y : (k : ℕ) × (k < length xs) × ((d : A) → get_or xs k d ≡ b)
    y = at_from_Contains xs b other

    k : ℕ
    k = x.0

    m : ℕ
    m = y.0

    by : (k ≡ m) ⊎ (k ≡ m → ⊥) → (k < m) ⊎ (m ≤ k) → R a b
    by (inl same) lt = absurd (ne (sym (x.2 a) ∙ ap (λ n. get_or xs n a) same ∙ y.2 a))
    by (inr apart) (inl lt) =
        subst (λ z. R z b) (x.2 a) (subst (λ z. R (get_or xs k a) z) (y.2 a)
        (pairs k m a lt y.1))
    by (inr apart) (inr le) =
        let lt : m < k = pick (cases_lt m k) in
        turn b a (subst (λ z. R z a) (y.2 a) (subst (λ z. R (get_or xs m a) z) (x.2 a)
        (pairs m k a lt x.1)))
      where
        pick : (m < k) ⊎ (k ≤ m) → m < k
        pick (inl lt) = lt
        pick (inr back) = absurd (apart (omega (arith, le, back)))

module _ (graph : List StageData) (job : IsJob graph) (stages : List StageData)
    (numbered : AreNumbered graph stages) where
  abbrev at : ℕ → StageData
  at s = at_or stages s no_stage

  older : (s : ℕ) → All (λ parent. parent < s) (at s).parents
  older s = by (numbered.only s)
    where
      by : (at s ≡ no_stage) ⊎ (Contains graph (at s) × ((at s).id ≡ s))
          → All (λ parent. parent < s) (at s).parents
      by (inl none) =
          subst (λ stage. All (λ parent. parent < s) stage.parents) (sym none)
          (All-nil (λ parent. parent < s))
      by (inr (is, id)) =
          subst (λ n. All (λ parent. parent < n) (at s).parents) id
          (All-contains (λ stage. All (λ parent. parent < stage.id) stage.parents) graph (at s)
          job.older is)

  -- a number without a stage makes no map output
  no_map : (s : ℕ) (shuffle : ShuffleId) → at s ≡ no_stage
      → (at s).target ≡ targets.Map shuffle → ⊥
  no_map s shuffle none e =
      clash (ap is_map e) (ap (λ (stage : StageData). is_map stage.target) none)

  apart : (r s : ℕ) → r ≢ s → AreOfTwo (at r).target (at s).target
  apart r s ne = by (numbered.only r) (numbered.only s)
    where
      by : (at r ≡ no_stage) ⊎ (Contains graph (at r) × ((at r).id ≡ r))
          → (at s ≡ no_stage) ⊎ (Contains graph (at s) × ((at s).id ≡ s))
          → AreOfTwo (at r).target (at s).target
      by (inl none) other = λ shuffle e f. no_map r shuffle none e
      by (inr is) (inl none) = λ shuffle e f. no_map s shuffle none f
      by (inr (is, id)) (inr (is', id')) =
          pair_apart (λ a b. AreOfTwo a.target b.target) graph (at r) (at s)
          (λ a b two shuffle e f. two shuffle f e)
          (λ e. ne (sym id ∙ ap (λ (stage : StageData). stage.id) e ∙ id')) job.apart is is'

  -- the result stage is the last one
  below_result : (x : StageData) → Contains graph x → x.id ≤ job.result.id
  below_result x is =
      by (Contains-push_cases job.maps job.result x (subst (λ g. Contains g x) job.all is))
    where
      before : (h : Contains job.maps x) → x.id < job.result.id
      before h =
          let i = at_from_Contains job.maps x h in
          let long : length (job.maps ++ job.result ∷ []) ≡ length job.maps + 1 =
          length-append job.maps (job.result ∷ []) in
          let rising : AllPairs (λ a b. a.id < b.id) (job.maps ++ job.result ∷ []) =
          subst (AllPairs (λ a b. a.id < b.id)) job.all job.rising in
          let lt = rising i.0 (length job.maps) x i.1 (omega (arith, long)) in
          rw (
            get_or_append_left job.maps (job.result ∷ []) x i.0 i.1,
            i.2 x,
            get_or_push job.maps job.result x (length job.maps) refl,
          ) at lt

      by : Contains job.maps x ⊎ (job.result ≡ x) → x.id ≤ job.result.id
      by (inl h) = let lt = before h in omega (arith, lt)
      by (inr e) = let same = ap (λ (stage : StageData). stage.id) e in omega (arith, same)

  read : (s : ℕ)
      → All (λ parent. (is_map (at parent).target ≡ true) ⊎ ((at parent).tasks ≡ 0))
      (at s).parents
  read s = by (numbered.only s)
    where
      parent : Contains graph (at s) → (at s).id ≡ s → (p : ℕ) → p < s
          → (at p ≡ no_stage) ⊎ (Contains graph (at p) × ((at p).id ≡ p))
          → (is_map (at p).target ≡ true) ⊎ ((at p).tasks ≡ 0)
      parent is id p lt (inl none) = inr (ap (λ (stage : StageData). stage.tasks) none)
      parent is id p lt (inr (has, at_p)) =
          one (Contains-push_cases job.maps job.result (at p)
          (subst (λ g. Contains g (at p)) job.all has))
        where
          one : Contains job.maps (at p) ⊎ (job.result ≡ at p)
              → (is_map (at p).target ≡ true) ⊎ ((at p).tasks ≡ 0)
          one (inl h) =
              inl (All-contains (λ stage. is_map stage.target ≡ true) job.maps (at p)
              job.are_maps h)
          one (inr e) =
              let last : (at s).id ≤ job.result.id = below_result (at s) is in
              let same = ap (λ (stage : StageData). stage.id) e in
              absurd (omega (arith, last, same, id, at_p, lt))

      by : (at s ≡ no_stage) ⊎ (Contains graph (at s) × ((at s).id ≡ s))
          → All (λ parent. (is_map (at parent).target ≡ true) ⊎ ((at parent).tasks ≡ 0))
          (at s).parents
      by (inl none) =
          subst (λ stage. All (λ parent. (is_map (at parent).target ≡ true)
          ⊎ ((at parent).tasks ≡ 0)) stage.parents) (sym none)
          (All-nil (λ parent. (is_map (at parent).target ≡ true) ⊎ ((at parent).tasks ≡ 0)))
      by (inr (is, id)) =
          All-weaker (λ p. p < s) (λ p. (is_map (at p).target ≡ true) ⊎ ((at p).tasks ≡ 0))
          (λ p lt. parent is id p lt (numbered.only p)) (at s).parents (older s)

  pub stages_sound : (t : TrackerData) → FitsJob t graph
      → AreSoundStages stages (sized_for_all t graph)
  stages_sound t fits =
      record {
        older = older;
        apart = apart;
        read = read;
        room = λ s shuffle target. room s shuffle target (numbered.only s);
      }
    where
      room : (s : ℕ) (shuffle : ShuffleId) → (at s).target ≡ targets.Map shuffle
          → (at s ≡ no_stage) ⊎ (Contains graph (at s) × ((at s).id ≡ s))
          → (at s).tasks ≤ length (outputs_of (sized_for_all t graph) shuffle)
      room s shuffle target (inl none) = absurd (no_map s shuffle none target)
      room s shuffle target (inr (is, id)) =
          All-contains (HasRoomIn (sized_for_all t graph)) graph (at s)
          (all_sized_enough t graph job.apart fits) is shuffle target
