-- The reports of attempts fit them, and the inputs of tasks stand.
use Rattle.std.proofs.Common.{◌≡◌, ◌⊎◌, inl, inr, ℕ, zero, suc, ◌<◌, ◌==◌, ◌&&◌, ◌||◌, not, Bool, true, false, All, List, [], ◌∷◌, ◌++◌, Contains, Option, Some, None, map, nat_lt, slice_get, refl, ap, sym, subst, ◌∙◌, arith, rules, true≢false}
use Rattle.std.specs.List.{AllZip, filter, flat_map, list_any}
use Rattle.std.proofs.lemmas.Bool.Decides.{nat_tests}
use Rattle.std.proofs.lemmas.List.Elements.{All-cons, All-contains, All-head, All-nil, All-tail, All-weaker, Contains-append_left, Contains-append_right, Contains-push}
use Rattle.sc_base.specs.Lists.{at_or, numbers_below}
use Rattle.sc_ids.specs.Graphs.{StageData}
use Rattle.sc_ids.specs.declared.blocks.BlockId.{BlockId}
use Rattle.sc_ids.specs.declared.blocks.Loc.{Loc}
use Rattle.sc_ids.specs.declared.blocks.Target.{Target}
use Rattle.sc_ids.specs.declared.blocks.Target.TheVariants as targets
use Rattle.sc_ids.specs.declared.failures.Fault.{Fault}
use Rattle.sc_taskset.proofs.FindLemmas.{found_is, found_passes}
use Rattle.sc_tracker.specs.Outputs.{location_in}
use Rattle.sc_tracker.specs.TrackerData.{TrackerData, output_of}
use Rattle.sc_tracker.specs.declared.outputs.Location.{Location}
use Rattle.sc_tracker.specs.declared.outputs.Location.TheVariants as locations
use Rattle.sc_dag.specs.DagData.{DagData, no_stage, stage_at}
use Rattle.sc_dag.specs.Openings.{AreNumbered}
use Rattle.sc_dag.specs.Outputs.{block_of}
use Rattle.sc_dag.specs.Submission.{is_map}
use Rattle.sc_dag.proofs.NumberLemmas.{filter_below}
use Rattle.sc_core.specs.CoreData.{CoreData}
use Rattle.sc_core.specs.HandOuts.{locations_by}
use Rattle.sc_core.specs.Posts.{fits, has_moved, is_here, is_same_fault, is_same_loc, is_save, was_last}
use Rattle.sc_core.specs.declared.running.Phase.TheVariants as phases
use Rattle.sc_core.specs.declared.running.Running.{Running}
use Rattle.sc_core.proofs.RunningLemmas.{none_passes}
use Rattle.sc_lineage.specs.ScriptData.{WorkData}
use Rattle.sc_jobs.specs.JobData.{HasPartition, blocks_by, blocks_left, saves, stage_in}
use Rattle.sc_net.specs.Reports.{IsTrueReport, loc_at, outcome_of}
use Rattle.sc_net.specs.Tasks.{IsTaskOf, TaskData, is_map_stage, is_map_task, stage_of_task}
use Rattle.sc_net.specs.declared.findings.Finding.{Finding}
use Rattle.sc_net.specs.declared.findings.Finding.TheVariants as findings
use Rattle.sc_world.specs.Sound.{IsFrom, ReportsAt}

-- ---- stages by their numbers

at_there : {A : Type 0} (xs : List A) (i : ℕ) (x d : A) → slice_get xs i ≡ Some x → at_or xs i d ≡ x
at_there [] i x d e = absurd (search (rules, e))
at_there (y ∷ ys) zero x d e = search (rules, e)
at_there (y ∷ ys) (suc i) x d e = at_there ys i x d e

-- a stage of the job stands under its number in the core
pub stage_stands : (graph stages : List StageData) (id : ℕ) (stage : StageData)
    → AreNumbered graph stages → stage_in graph id ≡ Some stage → at_or stages id no_stage ≡ stage
stage_stands graph stages id stage numbered e =
    subst (λ (n : ℕ). at_or stages n no_stage ≡ stage) number
    (at_there stages stage.id stage no_stage
    (found_is (λ s. slice_get stages s.id ≡ Some s) (λ s. s.id == id) graph stage numbered.each e))
  where
    number : stage.id ≡ id
    number =
        let same : (stage.id == id) ≡ true = found_passes (λ s. s.id == id) graph stage e in
        grind (arith, nat_tests, same)

-- and under another number there is none
pub stage_lacks : (graph stages : List StageData) (id : ℕ)
    → AreNumbered graph stages → stage_in graph id ≡ None → at_or stages id no_stage ≡ no_stage
stage_lacks graph stages id numbered e = by (numbered.only id)
  where
    other : All (λ s. (s.id == id) ≡ false) graph
    other = none_passes (λ s. s.id == id) graph e

    by : (at_or stages id no_stage ≡ no_stage)
        ⊎ (Contains graph (at_or stages id no_stage) × ((at_or stages id no_stage).id ≡ id))
        → at_or stages id no_stage ≡ no_stage
    by (inl none) = none
    by (inr (there, is)) =
        let differ : ((at_or stages id no_stage).id == id) ≡ false =
        All-contains (λ s. (s.id == id) ≡ false) graph (at_or stages id no_stage) other there in
        absurd (grind (arith, nat_tests, differ, is))

-- ---- reports fit

none_any : {A : Type 0} (q : A → Bool) (xs : List A) → list_any q xs ≡ false
    → All (λ x. q x ≡ false) xs
none_any q [] e = All-nil (λ x. q x ≡ false)
none_any {A = A} q (x ∷ xs) e = by (q x) refl (none_any q xs) e
  where
    by : (b : Bool) → q x ≡ b
        → (list_any q xs ≡ false → All (λ y. q y ≡ false) xs)
        → (b || list_any q xs) ≡ false → All (λ y. q y ≡ false) (x ∷ xs)
    by true h more k = absurd (true≢false k)
    by false h more k = All-cons (λ y. q y ≡ false) x xs h (more k)

pub any_there : {A : Type 0} (q : A → Bool) (xs : List A) (x : A) → Contains xs x → q x ≡ true
    → list_any q xs ≡ true
any_there q xs x there passes = by (list_any q xs) refl
  where
    by : (b : Bool) → list_any q xs ≡ b → b ≡ true
    by true e = refl
    by false e =
        absurd (true≢false (sym passes
        ∙ All-contains (λ y. q y ≡ false) xs x (none_any q xs e) there))

same_loc : (a : Loc) → is_same_loc a a ≡ true
same_loc a = grind (arith, nat_tests)

-- what a task is of, in the core
pub task_stage : (c : CoreData) (t : TaskData) → AreNumbered t.job.graph c.dag.stages
    → IsTaskOf t.job t.hand_out
    → is_map (stage_at c.dag t.hand_out.attempt.stage).target ≡ is_map_task t
task_stage c t numbered task = by (stage_of_task t) refl
  where
    by : (o : Option StageData) → stage_of_task t ≡ o
        → is_map (stage_at c.dag t.hand_out.attempt.stage).target ≡ is_map_stage o
    by None e =
        absurd (subst (λ o. HasPartition o t.hand_out.attempt.partition) e task.task)
    by (Some stage) e =
        ap (λ (s : StageData). is_map s.target)
        (stage_stands t.job.graph c.dag.stages t.hand_out.attempt.stage stage numbered e)

both : (a b : Bool) → a ≡ true → b ≡ true → (a && b) ≡ true
both a b d e = rw (d, e) refl

same_fault : (fault : Fault) → is_same_fault fault fault ≡ true
same_fault fault = grind (arith, nat_tests)

-- a true report of a task fits the attempt that runs, which has come as far as that in a save
pub report_fits : (work : WorkData) (c : CoreData) (r : Running) (t : TaskData)
    (finding : Finding)
    → AreNumbered t.job.graph c.dag.stages → IsTaskOf t.job t.hand_out
    → r.hand_out ≡ t.hand_out → IsTrueReport work t finding → IsFrom r.exec finding
    → is_save c.committers ≡ saves work t.job.goal
    → (saves work t.job.goal ≡ true → ReportsAt finding r.phase)
    → fits c r (outcome_of finding) ≡ true
report_fits work c r t finding numbered task same true_of from saving come =
    rw same (by finding true_of from come)
  where
    mapped : (b : Bool) → is_map_task t ≡ b
        → is_map (stage_at c.dag t.hand_out.attempt.stage).target ≡ b
    mapped b e = task_stage c t numbered task ∙ e

    won : (b : Bool) → saves work t.job.goal ≡ b
        → (saves work t.job.goal ≡ true → r.phase ≡ phases.Moved)
        → (not (is_save c.committers) || has_moved r.phase) ≡ true
    won true e moved = rw (saving ∙ e, moved e) refl
    won false e moved = rw (saving ∙ e) refl

    by : (finding : Finding) → IsTrueReport work t finding → IsFrom r.exec finding
        → (saves work t.job.goal ≡ true → ReportsAt finding r.phase)
        → fits c (record r { hand_out = t.hand_out }) (outcome_of finding) ≡ true
    by (findings.Map loc) is here at =
        both (is_map (stage_at c.dag t.hand_out.attempt.stage).target) (loc.exec == r.exec)
        (mapped true is) (grind (arith, nat_tests, here))
    by (findings.Result given) is from at =
        both (not (is_map (stage_at c.dag t.hand_out.attempt.stage).target))
        (not (is_save c.committers) || has_moved r.phase) (rw (mapped false is.result) refl)
        (won (saves work t.job.goal) refl at)
    by findings.Planned is from at = refl
    by (findings.Raised raise) is from at = refl
    by (findings.Gone exec wanted found) (given, lt) from at =
        both (list_any (is_here (loc_at exec wanted)) t.hand_out.inputs) (nat_lt wanted found)
        (any_there (is_here (loc_at exec wanted)) t.hand_out.inputs
        (locations.Here (loc_at exec wanted)) given (same_loc (loc_at exec wanted)))
        (grind (arith, nat_tests, lt))
    by (findings.Metadata last) given from at =
        any_there (was_last last) t.hand_out.inputs (locations.Missing (Some last)) given
        (same_loc last)
    by (findings.Device fault) (risen, saved) from at = rw (at saved) (same_fault fault)
    by findings.Denied saved from at = rw (at saved) refl

-- ---- what is handed out stands

Contains-head : {A : Type 0} (x : A) (xs : List A) → Contains (x ∷ xs) x
Contains-head x xs = Contains-append_left (x ∷ []) xs x (Contains-push [] x)

Contains-tail : {A : Type 0} (x : A) (xs : List A) (y : A) → Contains xs y → Contains (x ∷ xs) y
Contains-tail x xs y is_in = Contains-append_right (x ∷ []) xs y is_in

-- numbers below a bound are below it
all_below : (n : ℕ) → All (λ m. m < n) (numbers_below n)
all_below n =
    subst (λ ms. All (λ m. m < n) ms) (all_kept (numbers_below n)) (filter_below (λ m. true) n)
  where
    all_kept : (ms : List ℕ) → filter (λ m. true) ms ≡ ms
    all_kept [] = refl
    all_kept (m ∷ ms) = ap (λ xs. m ∷ xs) (all_kept ms)

zip_append : {A B : Type 0} (R : A → B → Type 0) (xs xs' : List A) (ys ys' : List B)
    → AllZip R xs ys → AllZip R xs' ys' → AllZip R (xs ++ xs') (ys ++ ys')
zip_append R [] xs' [] ys' h k = k
zip_append R [] xs' (y ∷ ys) ys' h k = absurd h
zip_append R (x ∷ xs) xs' [] ys' h k = absurd h
zip_append R (x ∷ xs) xs' (y ∷ ys) ys' (r, h) k = (r, zip_append R xs xs' ys ys' h k)

zip_maps : {A B C : Type 0} (R : A → B → Type 0) (f : C → A) (g : C → B) (xs : List C)
    → All (λ x. R (f x) (g x)) xs → AllZip R (map f xs) (map g xs)
zip_maps R f g [] h = tt
zip_maps R f g (x ∷ xs) h =
    (All-head (λ x. R (f x) (g x)) x xs h, zip_maps R f g xs (All-tail (λ x. R (f x) (g x)) x xs h))

-- what a block of a target is in a relation to
abbrev pub Stood : (BlockId → Location → Type 0) → TrackerData → Target → ℕ → Type 0
Stood R t (targets.Map shuffle) m =
    R (block_of shuffle m) (location_in (output_of t (block_of shuffle m)))
Stood R t (targets.Result node) m = Unit {0}

-- blocks and their locations, over some parents
pub inputs_stand : (R : BlockId → Location → Type 0) (graph : List StageData) (d : DagData)
    → AreNumbered graph d.stages → (parents : List ℕ)
    → ((parent : ℕ) → Contains parents parent → (m : ℕ) → m < (stage_at d parent).tasks
    → Stood R d.tracker (stage_at d parent).target m)
    → AllZip R (flat_map (λ parent. blocks_left (stage_in graph parent)) parents)
    (flat_map (λ parent.
    locations_by d.tracker (stage_at d parent).target (stage_at d parent).tasks) parents)
inputs_stand R graph d numbered [] holds = tt
inputs_stand R graph d numbered (parent ∷ parents) holds =
    zip_append R (blocks_left (stage_in graph parent))
    (flat_map (λ parent. blocks_left (stage_in graph parent)) parents)
    (locations_by d.tracker (stage_at d parent).target (stage_at d parent).tasks)
    (flat_map (λ parent.
    locations_by d.tracker (stage_at d parent).target (stage_at d parent).tasks) parents)
    (one (stage_in graph parent) refl (holds parent (Contains-head parent parents)))
    (inputs_stand R graph d numbered parents
    (λ p is_in. holds p (Contains-tail parent parents p is_in)))
  where
    made : (target : Target) (tasks : ℕ)
        → ((m : ℕ) → m < tasks → Stood R d.tracker target m)
        → AllZip R (blocks_by target tasks) (locations_by d.tracker target tasks)
    made (targets.Map shuffle) tasks h =
        zip_maps R (block_of shuffle)
        (λ m. location_in (output_of d.tracker (block_of shuffle m))) (numbers_below tasks)
        (All-weaker (λ m. m < tasks)
        (λ m. R (block_of shuffle m) (location_in (output_of d.tracker (block_of shuffle m)))) h
        (numbers_below tasks) (all_below tasks))
    made (targets.Result node) tasks h = tt

    one : (o : Option StageData) → stage_in graph parent ≡ o
        → ((m : ℕ) → m < (stage_at d parent).tasks
        → Stood R d.tracker (stage_at d parent).target m)
        → AllZip R (blocks_left (stage_in graph parent))
        (locations_by d.tracker (stage_at d parent).target (stage_at d parent).tasks)
    one None e h = rw (e, stage_lacks graph d.stages parent numbered e) tt
    one (Some stage) e h =
        let is : stage_at d parent ≡ stage = stage_stands graph d.stages parent stage numbered e in
        rw (e, is) (made stage.target stage.tasks
        (subst (λ (s : StageData). (m : ℕ) → m < s.tasks → Stood R d.tracker s.target m) is h))
