-- What is handed out to an executor is a task of the job.
use Rattle.std.proofs.Common.{◌≡◌, ℕ, ◌+◌, ◌<◌, ◌==◌, ◌++◌, All, Contains, Bool, true, false, cond, List, [], ◌∷◌, length, Option, Some, None, slice_get, refl, ap, ap₂, sym, subst, ◌∙◌, inl, inr, ◌⊎◌, arith, rules, true≢false}
use Rattle.std.specs.List.{find, flat_map}
use Rattle.std.proofs.lemmas.Bool.Decides.{nat_tests}
use Rattle.std.proofs.lemmas.List.{length-append, length-map}
use Rattle.std.proofs.lemmas.List.Elements.{All-cons, All-contains, All-head, All-nil, All-tail}
use Rattle.std.proofs.lemmas.Option.{slice_get_within}
use Rattle.sc_base.specs.Lists.{at_or, numbers_below}
use Rattle.sc_ids.specs.Graphs.{StageData}
use Rattle.sc_ids.specs.declared.blocks.Target.{Target}
use Rattle.sc_ids.specs.declared.blocks.Target.TheVariants as targets
use Rattle.sc_ids.proofs.ChangeLemmas.{at_or_slice_get}
use Rattle.sc_taskset.proofs.FindLemmas.{found_is, found_passes}
use Rattle.sc_tracker.specs.TrackerData.{TrackerData, output_of}
use Rattle.sc_tracker.specs.Outputs.{location_in}
use Rattle.sc_lineage.specs.ScriptData.{WorkData}
use Rattle.sc_lineage.specs.Targets.{result_target}
use Rattle.sc_dag.specs.DagData.{no_stage, stage_at}
use Rattle.sc_dag.specs.Openings.{AreNumbered}
use Rattle.sc_dag.specs.Outputs.{block_of}
use Rattle.sc_dag.specs.Submission.{is_map}
use Rattle.sc_core.specs.CoreData.{CoreData}
use Rattle.sc_core.specs.HandOuts.{HandOutData, locations_by}
use Rattle.sc_core.specs.Sound.{IsSoundCore, RunsWell}
use Rattle.sc_core.specs.Takes.{Takes, running_on, with_task}
use Rattle.sc_core.specs.declared.answers.Answer.{Answer}
use Rattle.sc_core.specs.declared.answers.Answer.TheVariants as says
use Rattle.sc_jobs.specs.JobData.{HasPartition, JobData, blocks_left, goal_action, parents_in, stage_in, target_among, target_of}
use Rattle.sc_net.specs.Tasks.{IsTaskOf}
use Rattle.sc_desk.specs.Takes.{IsGivable}
use Rattle.sc_desk.proofs.DagLemmas.{within_stage}

-- ---- stages by their numbers

-- a stage that may be there, and one without tasks where it isn't
abbrev pub stage_or : Option StageData → StageData
stage_or None = no_stage
stage_or (Some stage) = stage

-- where none is found, none passes
none_passes : {A : Type 0} (q : A → Bool) (xs : List A) → find q xs ≡ None
    → All (λ x. q x ≡ false) xs
none_passes q [] e = All-nil (λ x. q x ≡ false)
none_passes {A = A} q (x ∷ xs) e = by (q x) refl e (λ f. none_passes q xs f)
  where
    by : (b : Bool) → q x ≡ b → cond b (Some x) (find q xs) ≡ None
        → (find q xs ≡ None → All (λ y. q y ≡ false) xs) → All (λ y. q y ≡ false) (x ∷ xs)
    by true is f rest = absurd (search (rules, f))
    by false is f rest = All-cons (λ y. q y ≡ false) x xs is (rest f)

there_is : {A : Type 0} (xs : List A) (i : ℕ) (x d : A) → slice_get xs i ≡ Some x
    → at_or xs i d ≡ x
there_is xs i x d e =
    let same : Some (at_or xs i d) ≡ Some x =
    sym (at_or_slice_get xs i d (slice_get_within xs i x e)) ∙ e in
    search (rules, same)

-- the stages of a core are those of its job, by their numbers
pub stage_found :
    (graph stages : List StageData) → AreNumbered graph stages → (s : ℕ)
    → at_or stages s no_stage ≡ stage_or (stage_in graph s)
stage_found graph stages numbered s = by (stage_in graph s) refl
  where
    found : (stage : StageData) → find (λ x. x.id == s) graph ≡ Some stage
        → at_or stages s no_stage ≡ stage
    found stage e =
        let passes : (stage.id == s) ≡ true = found_passes (λ x. x.id == s) graph stage e in
        let id : stage.id ≡ s = grind (arith, nat_tests, passes) in
        let there : slice_get stages stage.id ≡ Some stage =
        found_is (λ x. slice_get stages x.id ≡ Some x) (λ x. x.id == s) graph stage
        numbered.each e in
        there_is stages s stage no_stage
        (subst (λ (n : ℕ). slice_get stages n ≡ Some stage) id there)

    none : find (λ x. x.id == s) graph ≡ None
        → (at_or stages s no_stage ≡ no_stage)
        ⊎ (Contains graph (at_or stages s no_stage) × ((at_or stages s no_stage).id ≡ s))
        → at_or stages s no_stage ≡ no_stage
    none e (inl is) = is
    none e (inr (there, id)) =
        let other : ((at_or stages s no_stage).id == s) ≡ false =
        All-contains (λ (x : StageData). (x.id == s) ≡ false) graph (at_or stages s no_stage)
        (none_passes (λ x. x.id == s) graph e) there in
        absurd (grind (arith, nat_tests, other, id))

    by : (o : Option StageData) → stage_in graph s ≡ o
        → at_or stages s no_stage ≡ stage_or o
    by None e = none e (numbered.only s)
    by (Some stage) e = found stage e

-- ---- blocks

parents_of_stage : (o : Option StageData) → (stage_or o).parents ≡ parents_in o
parents_of_stage None = refl
parents_of_stage (Some stage) = refl

-- a stage has as many locations as blocks
as_many : (t : TrackerData) (o : Option StageData)
    → length (locations_by t (stage_or o).target (stage_or o).tasks) ≡ length (blocks_left o)
as_many t None = refl
as_many t (Some stage) = by stage.target
  where
    by : (target : Target)
        → length (locations_by t target stage.tasks)
        ≡ length (blocks_left (Some (record stage { target = target })))
    by (targets.Map shuffle) =
        length-map (numbers_below stage.tasks)
        (λ m. location_in (output_of t (block_of shuffle m)))
        ∙ sym (length-map (numbers_below stage.tasks) (block_of shuffle))
    by (targets.Result node) = refl

inputs_of_parents :
    (graph stages : List StageData) (t : TrackerData) → AreNumbered graph stages
    → (parents : List ℕ)
    → length (flat_map (λ parent. locations_by t (at_or stages parent no_stage).target
    (at_or stages parent no_stage).tasks) parents)
    ≡ length (flat_map (λ parent. blocks_left (stage_in graph parent)) parents)
inputs_of_parents graph stages t numbered [] = refl
inputs_of_parents graph stages t numbered (parent ∷ parents) =
    let here : length (locations_by t (at_or stages parent no_stage).target
    (at_or stages parent no_stage).tasks) ≡ length (blocks_left (stage_in graph parent)) =
    ap (λ (x : StageData). length (locations_by t x.target x.tasks))
    (stage_found graph stages numbered parent)
    ∙ as_many t (stage_in graph parent) in
    let rest = inputs_of_parents graph stages t numbered parents in
    rw (length-append, length-append) (ap₂ (λ (m n : ℕ). m + n) here rest)

-- ---- tasks

has_partition : (o : Option StageData) (p : ℕ) → p < (stage_or o).tasks → HasPartition o p
has_partition None p lt = absurd (omega (arith, lt))
has_partition (Some stage) p lt = lt

is_task :
    (job : JobData) (c : CoreData) (h : HandOutData) → AreNumbered job.graph c.dag.stages
    → h.attempt.partition < (stage_at c.dag h.attempt.stage).tasks
    → length h.inputs ≡ length (flat_map (λ parent. locations_by c.dag.tracker
    (stage_at c.dag parent).target (stage_at c.dag parent).tasks)
    (stage_at c.dag h.attempt.stage).parents)
    → IsTaskOf job h
is_task job c h numbered lt inputs =
    record {
      task = has_partition (stage_in job.graph h.attempt.stage) h.attempt.partition
          (subst (λ (x : StageData). h.attempt.partition < x.tasks) stage lt);
      inputs = inputs
          ∙ inputs_of_parents job.graph c.dag.stages c.dag.tracker numbered
          (stage_at c.dag h.attempt.stage).parents
          ∙ ap (λ ps. length (flat_map (λ parent. blocks_left (stage_in job.graph parent)) ps))
          (ap (λ (x : StageData). x.parents) stage
          ∙ parents_of_stage (stage_in job.graph h.attempt.stage));
    }
  where
    stage : at_or c.dag.stages h.attempt.stage no_stage
        ≡ stage_or (stage_in job.graph h.attempt.stage)
    stage = stage_found job.graph c.dag.stages numbered h.attempt.stage

last_of : {A : Type 0} (P : A → Type 0) (xs : List A) (x : A) → All P (xs ++ x ∷ []) → P x
last_of P [] x h = All-head P x [] h
last_of P (y ∷ ys) x h = last_of P ys x (All-tail P y (ys ++ x ∷ []) h)

-- what an executor is answered can be given to it
pub givable :
    (job : JobData) (c after : CoreData) (exec : ℕ) (answer : Answer)
    → AreNumbered job.graph c.dag.stages → IsSoundCore after → Takes c exec answer after
    → IsGivable job answer
givable job c after exec (says.Task h) numbered sound (asking, out, lt, is) =
    let left : IsSoundCore (with_task c exec h) = subst IsSoundCore is sound in
    let well : RunsWell (with_task c exec h) (running_on h exec) =
    last_of (RunsWell (with_task c exec h)) c.running (running_on h exec) left.job.running in
    is_task job c h numbered
    (within_stage (with_task c exec h).dag h.attempt exec left.job.dag well.in_set)
    (ap length out.inputs)
givable job c after exec (says.Wait out) numbered sound h = tt
givable job c after exec (says.Busy held) numbered sound h = tt
givable job c after exec says.Lost numbered sound h = tt
givable job c after exec (says.Stopped first) numbered sound h = tt
givable job c after exec says.Ended numbered sound h = tt
givable job c after exec (says.Aborted why) numbered sound h = tt
givable job c after exec says.Ignored numbered sound h = absurd h
givable job c after exec says.Repeated numbered sound h = absurd h
givable job c after exec says.Registered numbered sound h = absurd h
givable job c after exec says.Bogus numbered sound h = absurd h
givable job c after exec says.Finished numbered sound h = absurd h
givable job c after exec says.Again numbered sound h = absurd h
givable job c after exec says.Resubmitted numbered sound h = absurd h
givable job c after exec (says.Side said) numbered sound h = absurd h
givable job c after exec says.Shelved numbered sound h = absurd h
givable job c after exec says.Told numbered sound h = absurd h

-- what a task of the stage that gives the results is to compute
pub result_target_is :
    (work : WorkData) (job : JobData) (stages : List StageData) (s p : ℕ)
    → AreNumbered job.graph stages → is_map (at_or stages s no_stage).target ≡ false
    → target_of work job s p ≡ result_target (goal_action work job.goal) p
result_target_is work job stages s p numbered kind =
    by (stage_in job.graph s)
    (subst (λ (x : StageData). is_map x.target ≡ false)
    (stage_found job.graph stages numbered s) kind)
  where
    of : (stage : StageData) (target : Target) → stage.target ≡ target → is_map target ≡ false
        → target_among work job.goal (Some (record stage { target = target })) p
        ≡ result_target (goal_action work job.goal) p
    of stage (targets.Map shuffle) e k = absurd (true≢false k)
    of stage (targets.Result node) e k = refl

    by : (o : Option StageData) → is_map (stage_or o).target ≡ false
        → target_among work job.goal o p ≡ result_target (goal_action work job.goal) p
    by None k = refl
    by (Some stage) k = of stage stage.target refl k
