-- Which trackers fit the jobs of a work.
use Rattle.std.proofs.Common.{◌≡◌, ◌∙◌, ℕ, zero, suc, ◌+◌, Bool, true, false, ◌||◌, List, [], ◌∷◌, ◌++◌, length, map, replicate, if◌then◌else◌, inl, inr, ◌⊎◌, ap, sym, subst}
use Rattle.std.proofs.lemmas.Bool.{cases_Bool, false≢true}
use Rattle.std.proofs.lemmas.List.{length-map, length-replicate}
use Rattle.std.proofs.lemmas.List.Elements.{All-append, All-cons, All-contains, All-contains_itself, All-head, All-nil, All-tail, All-weaker}
use Rattle.std.specs.List.{All, Contains, list_any, slice_get}
use Rattle.sc_ids.specs.Graphs.{StageData, stage_data}
use Rattle.sc_ids.specs.declared.blocks.ShuffleId.{ShuffleId}
use Rattle.sc_ids.specs.declared.blocks.Target.{Target}
use Rattle.sc_ids.specs.declared.blocks.Target.TheVariants as targets
use Rattle.sc_lineage.specs.ScriptData.{WorkData}
use Rattle.sc_ids.specs.Changes.{change_at}
use Rattle.sc_ids.proofs.ChangeLemmas.{length_change_at}
use Rattle.sc_tracker.specs.Outputs.{forgotten_on, never, placed}
use Rattle.sc_tracker.specs.Trust.{is_live, is_newer, lost_at, seen_at}
use Rattle.sc_tracker.specs.Tracking.{has_room, sized, with_forgotten_on, with_placed}
use Rattle.sc_tracker.specs.TrackerData.{ShuffleData, TrackerData, is_of, outputs_of, outputs_under, place_of, shuffle_data, tracker_data}
use Rattle.sc_tracker.proofs.BlockLemmas.{is_of_itself, one_shuffle, under_behind, under_here}
use Rattle.sc_dag.specs.Openings.{FitsIn, sized_by, sized_for_all}
use Rattle.sc_jobs.specs.Fitting.{ChangedTrackersFit, ChangesFit, FitsWork, HasItsMaps, NewTrackersFit, SizedTrackersFit, TrackersFit}
use Rattle.sc_jobs.specs.Plans.{AreTasksFor, IsStageFor, maps_of}
use Rattle.sc_jobs.specs.declared.goals.Goal.{Goal}

module _ (work : WorkData) where
  -- the outputs of a shuffle that there is room for
  room_fits : (xs : List ShuffleData) (s : ShuffleId) → All (HasItsMaps work) xs
      → list_any (is_of s) xs ≡ true → length (outputs_under xs s) ≡ maps_of work s
  room_fits [] s all h = absurd (false≢true h)
  room_fits (x ∷ xs) s all h =
      by (room_fits xs s (All-tail (HasItsMaps work) x xs all)) (cases_Bool (is_of s x))
    where
      by : (list_any (is_of s) xs ≡ true → length (outputs_under xs s) ≡ maps_of work s)
          → (is_of s x ≡ true) ⊎ (is_of s x ≡ false)
          → length (outputs_under (x ∷ xs) s) ≡ maps_of work s
      by others (inl here) =
          let same : x.shuffle ≡ s =
          one_shuffle x.shuffle s x (is_of_itself x.shuffle x.outputs) here in
          ap length (under_here x xs s here) ∙ All-head (HasItsMaps work) x xs all
          ∙ ap (maps_of work) same
      by others (inr not) =
          ap length (under_behind x xs s not)
          ∙ others (sym (ap (λ b. b || list_any (is_of s) xs) not) ∙ h)

  fits_in : (goal : Goal) (t : TrackerData) → FitsWork work t
      → (stage : StageData) → IsStageFor work goal stage → FitsIn t stage
  fits_in goal t fits stage is s makes = at (cases_Bool (has_room t s))
    where
      are : AreTasksFor work goal (targets.Map s) stage.tasks
      are =
          let P : Target → Type 0 = λ x. AreTasksFor work goal x stage.tasks in subst P makes is

      at : (has_room t s ≡ true) ⊎ (has_room t s ≡ false)
          → (has_room t s ≡ false) ⊎ (length (outputs_of t s) ≡ stage.tasks)
      at (inr none) = inl none
      at (inl room) = inr (room_fits t.shuffles s fits room ∙ sym are.1)

  -- room for one shuffle more
  fits_sized : (t : TrackerData) (s : ShuffleId) (maps : ℕ) → FitsWork work t
      → maps ≡ maps_of work s → FitsWork work (sized t s maps)
  fits_sized t s maps fits is = either (has_room t s)
    where
      either : (b : Bool) → FitsWork work
          (if b then t else
          tracker_data (t.shuffles ++ shuffle_data s (replicate maps never) ∷ []) t.trust t.epoch)
      either true = fits
      either false =
          let one = shuffle_data s (replicate maps never) in
          All-append (HasItsMaps work) t.shuffles (one ∷ []) fits
          (All-cons (HasItsMaps work) one [] (length-replicate maps never ∙ is)
          (All-nil (HasItsMaps work)))

  fits_by : (goal : Goal) (t : TrackerData) (id tasks : ℕ) (target : Target) (parents : List ℕ)
      → FitsWork work t → AreTasksFor work goal target tasks
      → FitsWork work (sized_by t (stage_data id target tasks parents))
  fits_by goal t id tasks (targets.Map s) parents fits are = fits_sized t s tasks fits are.1
  fits_by goal t id tasks (targets.Result node) parents fits are = fits

  fits_all : (goal : Goal) (graph : List StageData) (t : TrackerData)
      → All (IsStageFor work goal) graph → FitsWork work t → FitsWork work (sized_for_all t graph)
  fits_all goal [] t all fits = fits
  fits_all goal (stage ∷ graph) t all fits =
      fits_all goal graph (sized_by t stage) (All-tail (IsStageFor work goal) stage graph all)
      (fits_by goal t stage.id stage.tasks stage.target stage.parents fits
      (All-head (IsStageFor work goal) stage graph all))

  -- outputs that change at their places
  fits_each : (f : ShuffleData → ShuffleData)
      → ((s : ShuffleData) → HasItsMaps work s → HasItsMaps work (f s))
      → (xs : List ShuffleData) → All (HasItsMaps work) xs → All (HasItsMaps work) (map f xs)
  fits_each f keeps [] all = All-nil (HasItsMaps work)
  fits_each f keeps (x ∷ xs) all =
      All-cons (HasItsMaps work) (f x) (map f xs) (keeps x (All-head (HasItsMaps work) x xs all))
      (fits_each f keeps xs (All-tail (HasItsMaps work) x xs all))

  fits_at : (f : ShuffleData → ShuffleData)
      → ((s : ShuffleData) → HasItsMaps work s → HasItsMaps work (f s))
      → (xs : List ShuffleData) (i : ℕ) → All (HasItsMaps work) xs
      → All (HasItsMaps work) (change_at xs i f)
  fits_at f keeps [] i all = All-nil (HasItsMaps work)
  fits_at f keeps (x ∷ xs) zero all =
      All-cons (HasItsMaps work) (f x) xs (keeps x (All-head (HasItsMaps work) x xs all))
      (All-tail (HasItsMaps work) x xs all)
  fits_at f keeps (x ∷ xs) (suc i) all =
      All-cons (HasItsMaps work) x (change_at xs i f) (All-head (HasItsMaps work) x xs all)
      (fits_at f keeps xs i (All-tail (HasItsMaps work) x xs all))

  -- forgotten outputs are still as many
  fits_forgotten : (exec : ℕ) (xs : List ShuffleData) → All (HasItsMaps work) xs
      → All (HasItsMaps work) (map (with_forgotten_on exec) xs)
  fits_forgotten exec =
      fits_each (with_forgotten_on exec)
      (λ s its. length-map s.outputs (forgotten_on exec) ∙ its)

  fits_changed : (t : TrackerData) → FitsWork work t → ChangesFit work t
  fits_changed t fits = record {
    output = λ block loc.
        fits_at (with_placed block.map loc t.epoch)
        (λ s its. length_change_at s.outputs block.map (placed loc t.epoch) ∙ its) t.shuffles
        (place_of t.shuffles block.shuffle) fits;
    gone = λ exec found. either (is_newer (slice_get t.trust exec) found)
        (tracker_data (map (with_forgotten_on exec) t.shuffles)
        (change_at t.trust exec (seen_at found t.epoch)) (t.epoch + 1))
        (fits_forgotten exec t.shuffles fits);
    lost = λ exec. either (is_live (slice_get t.trust exec))
        (tracker_data (map (with_forgotten_on exec) t.shuffles)
        (change_at t.trust exec (lost_at t.epoch)) (t.epoch + 1))
        (fits_forgotten exec t.shuffles fits);
    none = All-nil (HasItsMaps work);
  }
    where
      either : (b : Bool) (other : TrackerData) → FitsWork work other
          → FitsWork work (if b then other else t)
      either true other is = is
      either false other is = fits

pub trackers_fit : TrackersFit
trackers_fit work job t is fits =
    All-weaker (Contains job.graph) (FitsIn t)
    (λ stage c. fits_in work job.goal t fits stage
    (All-contains (IsStageFor work job.goal) job.graph stage is.stages c))
    job.graph (All-contains_itself job.graph)

pub new_trackers_fit : NewTrackersFit
new_trackers_fit work trust epoch = All-nil (HasItsMaps work)

pub sized_trackers_fit : SizedTrackersFit
sized_trackers_fit work job t is fits = fits_all work job.goal job.graph t is.stages fits

pub changed_trackers_fit : ChangedTrackersFit
changed_trackers_fit work t fits = fits_changed work t fits
