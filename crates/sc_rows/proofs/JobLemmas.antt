-- The jobs that tests begin are jobs, and fit what their trackers know.
use Rattle.std.proofs.Common.{Bool, List, ◌≡◌, ◌⊎◌, inl, inr, ℕ, ◌<◌, All, true, false, [], ◌∷◌, length, Some, None, refl, ap, sym, subst, ◌∙◌, arith, true≢false}
use Rattle.std.specs.List.{AllPairs}
use Rattle.std.proofs.lemmas.List.Elements.{All-cons, All-nil}
use Rattle.std.proofs.lemmas.List.Kept.{AllPairs-cons}
use Rattle.sc_ids.specs.Graphs.{StageData, stage_data}
use Rattle.sc_ids.specs.declared.limits.Limits.{Limits}
use Rattle.sc_ids.specs.declared.blocks.ShuffleId.{ShuffleId}
use Rattle.sc_ids.specs.declared.blocks.Target.{Target}
use Rattle.sc_ids.specs.declared.blocks.Target.TheVariants as targets
use Rattle.sc_tracker.specs.TrackerData.{TrackerData, outputs_of}
use Rattle.sc_tracker.specs.Tracking.{has_room}
use Rattle.sc_dag.specs.DagData.{DagData}
use Rattle.sc_dag.specs.Openings.{AreOfTwo, FitsIn, FitsJob, IsJob}
use Rattle.sc_dag.specs.Submission.{IsSubmitted, is_map, this_stage}
use Rattle.sc_plan.specs.declared.lines.PlanLine.{PlanLine}
use Rattle.sc_core.specs.CoreData.{CoreData, result_stage}
use Rattle.sc_core.specs.Openings.{IsOpening, tracker_behind}
use Rattle.sc_rows.specs.Jobs.{results_alone, room_of, word_count, words_shuffle}

no_pairs : {A : Type 0} (R : A → A → Type 0) → AllPairs R []
no_pairs R i j d lt within = absurd (omega (arith, within))

pair : {A : Type 0} (R : A → A → Type 0) (x y : A) → R x y → AllPairs R (x ∷ y ∷ [])
pair R x y r =
    AllPairs-cons R x (y ∷ []) (All-cons (R x) y [] r (All-nil (R x)))
    (AllPairs-cons R y [] (All-nil (R y)) (no_pairs R))

both : {A : Type 0} (P : A → Type 0) (x y : A) → P x → P y → All P (x ∷ y ∷ [])
both P x y p q = All-cons P x (y ∷ []) p (All-cons P y [] q (All-nil P))

one : {A : Type 0} (P : A → Type 0) (x : A) → P x → All P (x ∷ [])
one P x p = All-cons P x [] p (All-nil P)

-- a result stage makes no shuffle
no_shuffle : (t : TrackerData) (stage : StageData) → is_map stage.target ≡ false → FitsIn t stage
no_shuffle t stage e shuffle is = absurd (true≢false (sym (ap is_map is) ∙ e))

-- ---- a word count

pub word_count_job : (last : ℕ) → 0 < last → IsJob (word_count last)
word_count_job last lt =
    record {
      maps = map ∷ [];
      result = result;
      all = refl;
      are_maps = one (λ stage. is_map stage.target ≡ true) map refl;
      is_result = refl;
      some = omega arith;
      rising = pair (λ a b. a.id < b.id) map result lt;
      older = both (λ stage. All (λ parent. parent < stage.id) stage.parents) map result
          (All-nil (λ parent. parent < 0)) (one (λ parent. parent < last) 0 lt);
      apart = pair (λ a b. AreOfTwo a.target b.target) map result
          (λ shuffle e f. true≢false (sym (ap is_map f)));
    }
  where
    map : StageData
    map = stage_data 0 (targets.Map words_shuffle) 2 []

    result : StageData
    result = stage_data last (targets.Result 3) 2 (0 ∷ [])

-- it fits a tracker that knows as much of the shuffle
word_count_fits_if : (t : TrackerData) (last : ℕ)
    → (has_room t words_shuffle ≡ false) ⊎ (length (outputs_of t words_shuffle) ≡ 2)
    → FitsJob t (word_count last)
word_count_fits_if t last h =
    both (FitsIn t) (stage_data 0 (targets.Map words_shuffle) 2 [])
    (stage_data last (targets.Result 3) 2 (0 ∷ []))
    (λ shuffle is.
    subst (λ s. (has_room t s ≡ false) ⊎ (length (outputs_of t s) ≡ 2)) (ap made is) h)
    (no_shuffle t (stage_data last (targets.Result 3) 2 (0 ∷ [])) refl)
  where
    made : Target → ShuffleId
    made (targets.Map shuffle) = shuffle
    made (targets.Result node) = words_shuffle

pub word_count_fits : (limits : Limits) (last : ℕ)
    → FitsJob (tracker_behind None limits) (word_count last)
word_count_fits limits last =
    word_count_fits_if (tracker_behind None limits) last (inl refl)

pub word_count_fits_behind : (c : CoreData) (limits : Limits) (last : ℕ) → room_of c ≡ 2
    → FitsJob (tracker_behind (Some c) limits) (word_count last)
word_count_fits_behind c limits last room =
    word_count_fits_if (tracker_behind (Some c) limits) last (inr room)

-- once it has begun there is room for both outputs
pub word_count_room : (limits : Limits) (last : ℕ) (saves : Bool) (plan : List PlanLine)
    (c : CoreData) → IsOpening (word_count last) limits saves plan None c → room_of c ≡ 2
word_count_room limits last saves plan c o =
    ap (λ t. length (outputs_of t words_shuffle)) (sent o.submits ∙ o.opens.tracker)
  where
    sent : IsSubmitted o.dag (this_stage (result_stage o.dag)) c.dag
        → c.dag.tracker ≡ o.dag.tracker
    sent (looked, are, is) = ap (λ (d : DagData). d.tracker) is

-- ---- results alone

pub results_alone_job : (tasks : ℕ) → 0 < tasks → IsJob (results_alone tasks)
results_alone_job tasks some =
    record {
      maps = [];
      result = stage_data 0 (targets.Result 0) tasks [];
      all = refl;
      are_maps = All-nil (λ stage. is_map stage.target ≡ true);
      is_result = refl;
      some = some;
      rising = alone (λ a b. a.id < b.id);
      older = one (λ stage. All (λ parent. parent < stage.id) stage.parents)
          (stage_data 0 (targets.Result 0) tasks []) (All-nil (λ parent. parent < 0));
      apart = alone (λ a b. AreOfTwo a.target b.target);
    }
  where
    alone : (R : StageData → StageData → Type 0) → AllPairs R (results_alone tasks)
    alone R =
        AllPairs-cons R (stage_data 0 (targets.Result 0) tasks []) []
        (All-nil (R (stage_data 0 (targets.Result 0) tasks []))) (no_pairs R)

pub results_alone_fits : (limits : Limits) (tasks : ℕ)
    → FitsJob (tracker_behind None limits) (results_alone tasks)
results_alone_fits limits tasks =
    one (FitsIn (tracker_behind None limits)) (stage_data 0 (targets.Result 0) tasks [])
    (no_shuffle (tracker_behind None limits) (stage_data 0 (targets.Result 0) tasks []) refl)
