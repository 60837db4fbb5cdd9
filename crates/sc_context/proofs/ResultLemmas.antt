-- The results of a job that is done.
use Rattle.std.proofs.Common.{◌≡◌, ◌≢◌, ◌∙◌, ℕ, ◌-◌, ◌<◌, List, [], ◌∷◌, ◌++◌, Option, Some, None, length, map, get_or, slice_get, Result, Ok, Err, IfOk, is_some, unwrap_or, true≢false, refl, ap, sym, subst, arith}
use Rattle.std.specs.List.{All}
use Rattle.std.specs.Option.{option_map}
use Rattle.std.proofs.lemmas.Option.{slice_get-map, slice_get_read}
use Rattle.std.proofs.lemmas.List.{ext_get_or, get_or-map, length-map}
use Rattle.std.proofs.lemmas.List.Elements.{All-from_get_or, All-get_or, All-head, All-tail}
use Rattle.sc_base.specs.Lists.{at_or}
use Rattle.sc_ids.specs.Graphs.{StageData}
use Rattle.sc_value.specs.Datum.{Datum}
use Rattle.sc_lineage.specs.Actions.{action_outcome, local_results, outcome_of_results, outcome_of_rows, result_of}
use Rattle.sc_lineage.specs.ScriptData.{ActionData, WorkData, IsSoundScript, collect_action, node_of_action}
use Rattle.sc_lineage.specs.Streams.{whole_stream}
use Rattle.sc_lineage.specs.Targets.{result_target}
use Rattle.sc_lineage.specs.declared.streams.Stream.{Stream}
use Rattle.sc_lineage.proofs.PlaceLemmas.{at_or-found, at_or-get_or}
use Rattle.sc_lineage.specs.Meaning.{local_streams}
use Rattle.sc_lineage.specs.NodeData.{shuffle_node, sort_by_key}
use Rattle.sc_compute.specs.Stages.{local_count, mapped_in, node_at}
use Rattle.sc_jobs.specs.declared.goals.Goal.{Goal}
use Rattle.sc_jobs.specs.declared.goals.Goal.TheVariants as goals
use Rattle.sc_compute.specs.Evaluations.{Gives, Settles}
use Rattle.sc_compute.specs.Results.{HandsOver, result_by, rows_told}
use Rattle.sc_compute.specs.declared.results.TaskResult.{TaskResult}
use Rattle.sc_compute.specs.declared.results.TaskResult.TheVariants as given
use Rattle.sc_compute.proofs.ResultLemmas.{collected_rows}
use Rattle.sc_compute.specs.declared.evaluation.Evaluated.{Evaluated}
use Rattle.sc_compute.specs.declared.evaluation.Evaluated.TheVariants as evaluated
use Rattle.sc_lineage.specs.Views.{action_data_of}
use Rattle.sc_lineage.specs.declared.nodes.Action.{Action}
use Rattle.sc_compute.proofs.OutcomeLemmas.{length-results, result_at as result_of_partition}
use Rattle.sc_dag.specs.DagData.{no_stage}
use Rattle.sc_jobs.specs.JobData.{JobData, goal_action, goal_node}
use Rattle.sc_jobs.specs.JobLaws.{JobsGiveResults}
use Rattle.sc_jobs.specs.Plans.{IsJobFor}
use Rattle.sc_desk.specs.DeskData.{DeskData, core_of}
use Rattle.sc_desk.specs.Sound.{AreAllResults, IsSoundDesk, result_at}
use Rattle.sc_context.specs.Contexts.{Evaluates}
use Rattle.sc_context.specs.Jobs.{AreResultsFor}
use Rattle.sc_context.specs.Results.{AreThere}

-- where all results are there none is wanting
pub all_are_there : (work : WorkData) (job : JobData) (results : List (Option TaskResult))
    → AreAllResults work job results → AreThere results
all_are_there work job results all =
    All-from_get_or (λ found. found ≢ None) results None there
  where
    there : (p : ℕ) → p < length results → get_or results p None ≢ None
    there p lt e =
        let has = all p lt in
        absurd (true≢false (ap is_some (sym has.1 ∙ at_or-get_or results p None ∙ e)))

-- ---- how many there are

last_contains : (maps : List StageData) (stage : StageData) (P : StageData → Type 0)
    → All P (maps ++ stage ∷ []) → P stage
last_contains [] stage P all = All-head P stage [] all
last_contains (m ∷ maps) stage P all =
    last_contains maps stage P (All-tail P m (maps ++ stage ∷ []) all)

-- a desk has a place for the result of each partition of the node that its job is for
pub places_are : JobsGiveResults → (work : WorkData) (d : DeskData) → IsSoundDesk work d
    → IsJobFor work d.job → length d.results ≡ local_count work (goal_node work d.job.goal)
places_are law work d sound job =
    let gives = law work d.job job in
    let stage = gives.0 in
    let stages = (core_of d).dag.stages in
    let found : slice_get stages stage.id ≡ Some stage =
    last_contains gives.1.maps stage (λ s. slice_get stages s.id ≡ Some s)
    (subst (All (λ (s : StageData). slice_get stages s.id ≡ Some s)) gives.1.last
    sound.stages.each) in
    let many = sound.stages.many ∙ gives.1.number in
    let place : length stages - 1 ≡ stage.id = omega (arith, many) in
    sound.places
    ∙ ap (λ i. (at_or stages i no_stage).tasks) place
    ∙ ap (λ (s : StageData). s.tasks) (at_or-found stages stage.id stage no_stage found)
    ∙ gives.1.tasks

-- ---- what they are

pub some_inside : {A : Type 0} (x y : A) → Some x ≡ Some y → x ≡ y
some_inside x y e = ap (λ o. unwrap_or o x) e

-- The results of all partitions of a job.
module _ (work : WorkData) (job : JobData) (places : List (Option TaskResult))
    (results : List TaskResult) (all : AreAllResults work job places)
    (many : length places ≡ local_count work (goal_node work job.goal))
    (are : places ≡ map Some results) where
  abbrev own_action : ActionData
  own_action = goal_action work job.goal

  abbrev locals : List Stream
  locals = local_results work own_action

  abbrev own_rows : List (List Datum)
  own_rows = map (λ (s : Stream). s.rows) locals

  abbrev none : TaskResult
  none = given.Count 0

  long : length results ≡ local_count work (goal_node work job.goal)
  long = sym (ap length are ∙ length-map results Some) ∙ many

  count : length locals ≡ length results
  count = length-results work own_action ∙ sym long

  found : (p : ℕ) → p < length results → result_at places p ≡ Some (get_or results p none)
  found p lt =
      at_or-get_or places p None
      ∙ ap (λ rs. get_or rs p None) are
      ∙ get_or-map Some results p none None lt

  -- each is handed over for its partition
  handed : (p : ℕ) → p < length results
      → HandsOver work (result_target own_action p) (get_or results p none)
  handed p lt =
      let has = all p (omega (arith, lt, long, many)) in
      subst (HandsOver work (result_target own_action p))
      (some_inside has.0 (get_or results p none) (sym has.1 ∙ found p lt)) has.2

  local : (p : ℕ) (lt : p < length results)
      → get_or locals p (whole_stream []) ≡ whole_stream (handed p lt).rows
  local p lt =
      result_of_partition work own_action p (whole_stream []) (omega (arith, lt, long))
      ∙ (handed p lt).own

  row : (p : ℕ) (lt : p < length results) → get_or own_rows p [] ≡ (handed p lt).rows
  row p lt =
      get_or-map (λ (s : Stream). s.rows) locals p (whole_stream []) [] (omega (arith, lt, count))
      ∙ ap (λ (s : Stream). s.rows) (local p lt)

  wide : length own_rows ≡ length results
  wide = length-map locals (λ (s : Stream). s.rows) ∙ count

  each : (p : ℕ) → p < length locals
      → get_or locals p (whole_stream []) ≡ get_or (map whole_stream own_rows) p (whole_stream [])
  each p within =
      let lt : p < length results = omega (arith, within, count) in
      local p lt
      ∙ ap whole_stream (sym (row p lt))
      ∙ sym (get_or-map whole_stream own_rows p [] (whole_stream []) (omega (arith, lt, wide)))

  tells : (p : ℕ) → p < length results
      → get_or results p none ≡ get_or (map (result_by own_action) own_rows) p none
  tells p lt =
      (handed p lt).told
      ∙ ap (result_by own_action) (sym (row p lt))
      ∙ sym (get_or-map (result_by own_action) own_rows p [] none (omega (arith, lt, wide)))

  -- they are those that its action has by the local meaning
  pub results_are : AreResultsFor work job.goal results
  results_are =
      record {
        rows = own_rows;
        whole = ext_get_or (whole_stream []) locals (map whole_stream own_rows)
            (count ∙ sym wide ∙ sym (length-map own_rows whole_stream)) each;
        told = ext_get_or none results (map (result_by own_action) own_rows)
            (sym wide ∙ sym (length-map own_rows (result_by own_action))) tells;
      }

-- the results of a job whose desk has them all
pub results_of_job : JobsGiveResults → (work : WorkData) (d : DeskData) (goal : Goal)
    (job : JobData) (places : List (Option TaskResult)) (results : List TaskResult)
    → IsSoundDesk work d → IsJobFor work d.job → places ≡ d.results → job ≡ d.job
    → d.job.goal ≡ goal → AreAllResults work job places → places ≡ map Some results
    → AreResultsFor work goal results
results_of_job law work d goal job places results sound is_job is same goal_is all are =
    subst (λ g. AreResultsFor work g results) goal_is
    (results_are work d.job places results
    (subst (λ (j : JobData). AreAllResults work j places) same all)
    (ap length is ∙ places_are law work d sound is_job) are)

-- ---- what they give

-- an action gives what its rows settle, by the sequential meaning
pub evaluates : (work : WorkData) (action : ActionData) (rows : List (List Datum))
    (value : Evaluated)
    → outcome_of_results action (local_results work action) ≡ action_outcome work action
    → Settles (outcome_of_rows action rows) value → Gives work action value
    → Evaluates work action value
evaluates work action rows (evaluated.Prints text) same settles gives = sym same ∙ gives
evaluates work action rows evaluated.Saves same settles gives =
    (gives.0, gives.1, sym same ∙ gives.2)
evaluates work action rows (evaluated.Faults fault) same settles gives = sym same ∙ gives
evaluates work action rows (evaluated.Never p) same settles gives = settles

-- ---- what was read

-- an item of a list that was read, as data
pub item_at : {A B : Type 0} (view : A → B) (read : List A) (xs : List B) (i : ℕ) (x : A)
    → map view read ≡ xs → i < length read → x ≡ get_or read i x
    → slice_get xs i ≡ Some (view x)
item_at view read xs i x are within is =
    ap (λ ys. slice_get ys i) (sym are) ∙ slice_get-map view read i
    ∙ ap (option_map view) (slice_get_read read (length read) i x refl within is)

-- it is within what was read
pub within_read : {A B : Type 0} (view : A → B) (read : List A) (xs : List B) (i : ℕ)
    → map view read ≡ xs → i < length xs → i < length read
within_read view read xs i are within =
    let same = ap length are in
    let many = length-map read view in
    omega (arith, same, many, within)

-- an action that was read
pub action_at : (read : List Action) (actions : List ActionData) (i : ℕ) (action : Action)
    → map action_data_of read ≡ actions → i < length read → action ≡ get_or read i action
    → at_or actions i (collect_action 0) ≡ action_data_of action
action_at read actions i action are within is =
    at_or-found actions i (action_data_of action) (collect_action 0)
    (item_at action_data_of read actions i action are within is)

-- the node of an action is there
pub node_within : (work : WorkData) (read : List Action) (i : ℕ) (action : Action)
    → IsSoundScript work.script → map action_data_of read ≡ work.script.actions
    → i < length work.script.actions → action ≡ get_or read i action
    → node_of_action (action_data_of action) < length work.script.nodes
node_within work read i action sound are within is =
    let actions = work.script.actions in
    let inside = within_read action_data_of read actions i are within in
    subst (λ a. node_of_action a < length work.script.nodes)
    (sym (at_or-get_or actions i (collect_action 0))
    ∙ action_at read actions i action are inside is)
    (All-get_or (λ a. node_of_action a < length work.script.nodes) actions i (collect_action 0)
    within sound.actions)

-- ---- both of two facts

pub both_ok : {A E : Type 0} (r : Result A E) (P Q R : A → Type 0)
    → ((a : A) → P a → Q a → R a) → IfOk r P → IfOk r Q → IfOk r R
both_ok (Ok a) P Q R f p q = f a p q
both_ok (Err e) P Q R f p q = tt

-- ---- the parent of a sort

collected : (k : ℕ) (streams : List Stream) → map (result_of (collect_action k)) streams ≡ streams
collected k [] = refl
collected k (s ∷ streams) = ap (λ xs. s ∷ xs) (collected k streams)

-- results for the bounds of a sort tell the rows of its parent
pub parent_rows : (work : WorkData) (sort parent n : ℕ) (results : List TaskResult)
    → node_at work sort ≡ shuffle_node sort_by_key parent n
    → AreResultsFor work (goals.Bounds sort) results
    → local_streams work parent ≡ map whole_stream (map rows_told results)
parent_rows work sort parent n results node are =
    let k = mapped_in (node_at work sort) 0 in
    subst (λ i. local_streams work i ≡ map whole_stream (map rows_told results))
    (ap (λ x. mapped_in x 0) node)
    (sym (collected k (local_streams work k))
    ∙ are.whole
    ∙ ap (map whole_stream)
    (sym (ap (map rows_told) are.told ∙ collected_rows k are.rows)))
