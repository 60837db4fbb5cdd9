-- What is cut for a goal is a job of the work.
use Rattle.std.proofs.Common.{◌≡◌, ◌≢◌, ◌∙◌, ℕ, ◌+◌, ◌<◌, true, List, [], ◌∷◌, ◌++◌, refl, ap, sym, subst, arith}
use Rattle.std.proofs.lemmas.List.Elements.{All-append, All-cons, All-contains, All-contains_itself, All-nil, All-weaker}
use Rattle.std.proofs.lemmas.List.Kept.{AllPairs-cons, AllPairs-filter}
use Rattle.std.specs.List.{All, AllPairs, AllZip, Contains}
use Rattle.sc_ids.specs.Graphs.{StageData}
use Rattle.sc_ids.specs.declared.blocks.ShuffleId.{ShuffleId}
use Rattle.sc_ids.specs.declared.blocks.Target.{Target}
use Rattle.sc_ids.specs.declared.blocks.Target.TheVariants as targets
use Rattle.sc_lineage.specs.Meaning.{known_of}
use Rattle.sc_lineage.specs.NodeData.{NodeData}
use Rattle.sc_lineage.specs.ScriptData.{WorkData, IsSoundScript}
use Rattle.sc_lineage.proofs.CountLemmas.{counts_are_within}
use Rattle.sc_stagecut.specs.Carrying.{CarriedData, IsCarriedFor}
use Rattle.sc_stagecut.specs.Cuts.{IsCut, IsMapStage}
use Rattle.sc_stagecut.specs.CutLaws.{IsLawfulCut}
use Rattle.sc_stagecut.specs.Numbering.{in_side_order, is_shuffle}
use Rattle.sc_stagecut.specs.declared.carried.Numbered.{Numbered}
use Rattle.sc_stagecut.proofs.JobLemmas.{kept_there, once_with}
use Rattle.sc_stagecut.proofs.LawLemmas.{cuts_are_lawful}
use Rattle.sc_stagecut.proofs.OrderLemmas.{AllPairs-append, AllPairs-head, AllPairs-tail, zip_from}
use Rattle.sc_stagecut.proofs.StageLemmas.{IsNumber, numbers_are}
use Rattle.sc_dag.specs.Openings.{AreOfTwo, IsJob}
use Rattle.sc_dag.specs.Submission.{is_map}
use Rattle.sc_compute.specs.Stages.{local_count}
use Rattle.sc_jobs.specs.JobData.{IsGoal, goal_node, job_data}
use Rattle.sc_jobs.specs.Plans.{AreTasksFor, IsJobFor, IsStageFor}
use Rattle.sc_jobs.specs.declared.goals.Goal.{Goal}
use Rattle.sc_jobs.proofs.InputLemmas.{read_inputs}
use Rattle.sc_jobs.proofs.NodeLemmas.{goal_known, is_shuffle_of, mapped_same}

-- what holds of each two items of a list holds of each two beside them
beside_pairs : {A B : Type 0} (R : A → A → Type 0) (S : A → B → Type 0) (T : B → B → Type 0)
    → ((m n : A) (a b : B) → R m n → S m a → S n b → T a b)
    → (xs : List A) (ys : List B) → AllZip S xs ys → AllPairs R xs → AllPairs T ys
beside_pairs R S T with [] [] zip pairs = λ i j d before at. absurd (omega arith)
beside_pairs R S T with [] (y ∷ ys) zip pairs = absurd zip
beside_pairs R S T with (x ∷ xs) [] zip pairs = absurd zip
beside_pairs {A} {B} R S T with (x ∷ xs) (y ∷ ys) zip pairs =
    AllPairs-cons T y ys (others xs ys zip.1 (AllPairs-head R x xs pairs))
    (beside_pairs R S T with xs ys zip.1 (AllPairs-tail R x xs pairs))
  where
    others : (vs : List A) (ws : List B) → AllZip S vs ws → All (R x) vs → All (T y) ws
    others vs ws zipped all =
        All-weaker (Contains ws) (T y)
        (λ w c.
        let one = zip_from S vs ws w zipped c in
        with x one.0 y w (All-contains (R x) vs one.0 all one.1) zip.0 one.2)
        ws (All-contains_itself ws)

-- Targets of map stages.
of_map : {a b : ShuffleId} → targets.Map a ≡ targets.Map b → a ≡ b
of_map same = cc

makes_map : (t : Target) (s : ShuffleId) → t ≡ targets.Map s → is_map t ≡ true
makes_map t s is = ap is_map is

-- A job that was cut.
module _ (work : WorkData) (sound : IsSoundScript work.script) (carried : CarriedData)
    (known : IsCarriedFor work.script.nodes carried) (goal : Goal) (is : IsGoal work goal)
    (graph : List StageData) (cut : IsCut work carried (goal_node work goal) graph) where
  abbrev nodes : List NodeData
  nodes = work.script.nodes

  abbrev node : ℕ
  node = goal_node work goal

  -- the numbered shuffles in the order of (node, side)
  abbrev ordered : List Numbered
  ordered = in_side_order (node + 1) cut.numbers

  pub lawful : IsLawfulCut nodes carried node graph
  lawful = cuts_are_lawful work carried node graph sound known cut

  in_stages : (P : StageData → Type 0) → All P (cut.maps ++ cut.result ∷ []) → All P graph
  in_stages P all = let Q : List StageData → Type 0 = λ ss. All P ss in subst Q (sym cut.all) all

  -- each map stage is that of a number
  of_number : (P : StageData → Type 0)
      → ((n : Numbered) (stage : StageData) → is_shuffle nodes n.shuffle ≡ true
      → IsMapStage work ordered n stage → P stage)
      → All P cut.maps
  of_number P holds =
      All-weaker (Contains cut.maps) P
      (λ stage c.
      let one = zip_from (IsMapStage work ordered) cut.numbers cut.maps stage cut.are_maps c in
      let number = All-contains
      (IsNumber work.script sound carried node cut.numbers cut.next cut.are_numbers known)
      cut.numbers one.0
      (numbers_are work.script sound carried node cut.numbers cut.next cut.are_numbers known)
      one.1 in
      holds one.0 stage number.shuffle one.2)
      cut.maps (All-contains_itself cut.maps)

  are_maps : All (λ stage. is_map stage.target ≡ true) cut.maps
  are_maps =
      of_number (λ stage. is_map stage.target ≡ true)
      (λ n stage shuffle made. makes_map stage.target n.shuffle made.makes)

  -- the tasks of a map stage are those of its shuffle
  tasks_of_map : (n : Numbered) (stage : StageData) → is_shuffle nodes n.shuffle ≡ true
      → IsMapStage work ordered n stage → IsStageFor work goal stage
  tasks_of_map n stage shuffle made =
      let P : Target → Type 0 = λ t. AreTasksFor work goal t stage.tasks in
      subst P (sym made.makes) (
        is_shuffle_of work n.shuffle shuffle,
        made.counted ∙ ap (local_count work) (mapped_same work n.shuffle),
      )

  tasks_of_result : IsStageFor work goal cut.result
  tasks_of_result =
      let P : Target → Type 0 = λ t. AreTasksFor work goal t cut.result.tasks in
      subst P (sym cut.is_result.makes) (refl, cut.is_result.counted)

  stages : All (IsStageFor work goal) graph
  stages =
      in_stages (IsStageFor work goal)
      (All-append (IsStageFor work goal) cut.maps (cut.result ∷ [])
      (of_number (IsStageFor work goal) tasks_of_map)
      (All-cons (IsStageFor work goal) cut.result [] tasks_of_result
      (All-nil (IsStageFor work goal))))

  has_tasks : 0 < cut.result.tasks
  has_tasks =
      let count = cut.is_result.counted in
      let some = (counts_are_within (known_of work) work node sound
      (goal_known work goal sound is)).some in
      omega (arith, count, some)

  -- no shuffle has two numbers
  numbers_once : AllPairs (λ m n. m.shuffle ≢ n.shuffle) cut.numbers
  numbers_once =
      let R : Numbered → Numbered → Type 0 = λ m n. m.shuffle ≢ n.shuffle in
      let Q : List Numbered → Type 0 = λ ns. AllPairs R ns in
      let are = cut.are_numbers in
      subst Q (sym are.all)
      (once_with work.script sound carried node cut.numbers cut.next are known are.kept
      (kept_there work.script sound carried node cut.numbers cut.next are known)
      (subst Q (sym are.are_kept.2)
      (AllPairs-filter R are.are_kept.0 carried.stages known.once)))

  abbrev Apart : StageData → StageData → Type 0
  Apart a b = AreOfTwo a.target b.target

  maps_apart : AllPairs Apart cut.maps
  maps_apart =
      beside_pairs (λ m n. m.shuffle ≢ n.shuffle) (IsMapStage work ordered) Apart
      (λ m n a b other first second s of_a of_b.
      other (of_map (sym first.makes ∙ of_a ∙ sym of_b ∙ second.makes)))
      cut.numbers cut.maps cut.are_maps numbers_once

  apart : AllPairs Apart graph
  apart =
      let Q : List StageData → Type 0 = λ ss. AllPairs Apart ss in
      let none : AllPairs Apart [] = λ i j d before at. absurd (omega arith) in
      subst Q (sym cut.all)
      (AllPairs-append Apart cut.maps (cut.result ∷ []) maps_apart
      (AllPairs-cons Apart cut.result [] (All-nil (Apart cut.result)) none)
      (All-weaker (Contains cut.maps) (λ a. All (Apart a) (cut.result ∷ []))
      (λ a c. All-cons (Apart a) cut.result [] (λ s of_a of_b. no_map s of_b) (All-nil (Apart a)))
      cut.maps (All-contains_itself cut.maps)))
    where
      no_map : (s : ShuffleId) → cut.result.target ≡ targets.Map s → ⊥
      no_map s same =
          let other : targets.Result node ≡ targets.Map s = sym cut.is_result.makes ∙ same in cc

  is_job : IsJob graph
  is_job = record {
    maps = cut.maps;
    result = cut.result;
    all = cut.all;
    are_maps = are_maps;
    is_result = ap is_map cut.is_result.makes;
    some = has_tasks;
    rising = lawful.rising;
    older = lawful.older;
    apart = apart;
  }

  pub planned : IsJobFor work (job_data goal graph)
  planned = record {
    goal = is;
    job = is_job;
    stages = stages;
    inputs = read_inputs work carried goal graph lawful stages;
  }
