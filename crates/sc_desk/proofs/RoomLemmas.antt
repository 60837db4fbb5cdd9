-- For how many outputs of each shuffle there is room, whatever happens to the stages of a job.
use Rattle.std.proofs.Common.{◌≡◌, ℕ, zero, suc, ◌+◌, All, Bool, true, false, if◌then◌else◌, List, [], ◌∷◌, length, map, Option, Some, None, slice_get, refl, ap, ap₂, sym, subst, ◌∙◌, arith}
use Rattle.std.proofs.lemmas.List.{length-map}
use Rattle.std.proofs.lemmas.List.Elements.{All-cons, All-head, All-map, All-tail}
use Rattle.sc_ids.specs.Changes.{change_at}
use Rattle.sc_ids.specs.declared.attempts.AttemptId.{AttemptId}
use Rattle.sc_ids.specs.declared.blocks.BlockId.{BlockId}
use Rattle.sc_ids.specs.declared.blocks.Loc.{Loc}
use Rattle.sc_ids.specs.declared.blocks.ShuffleId.{ShuffleId}
use Rattle.sc_ids.proofs.ChangeLemmas.{length_change_at}
use Rattle.sc_taskset.specs.declared.tasks.Verdict.{Verdict}
use Rattle.sc_taskset.specs.declared.tasks.Verdict.TheVariants as verdicts
use Rattle.sc_tracker.specs.Outputs.{forgotten_on, placed}
use Rattle.sc_tracker.specs.TrackerData.{ShuffleData, TrackerData, place_of, tracker_data}
use Rattle.sc_tracker.specs.Tracking.{is_bogus, with_forgotten_on, with_placed}
use Rattle.sc_tracker.specs.Trust.{is_live, is_newer, lost_at, seen_at}
use Rattle.sc_dag.specs.DagData.{DagData, changed_newest, stage_at, with_state}
use Rattle.sc_dag.specs.Losses.{after_lost, after_seen}
use Rattle.sc_dag.specs.Reports.{CompletesMap, FailsStage, after_map_success, block_by, completed, ended_in_own, is_of_newest, is_repeat, registered_by, succeeded_in_both, succeeded_in_own, with_failed, with_output}
use Rattle.sc_dag.specs.Submission.{IsSubmitted, this_stage, waiting_stages}
use Rattle.sc_taskset.specs.Reports.{after_success}

-- a shuffle with its number of outputs
abbrev pub room : ShuffleData → ShuffleId × ℕ
room s = (s.shuffle, length s.outputs)

-- the shuffles of a tracker with their numbers of outputs
abbrev pub rooms : TrackerData → List (ShuffleId × ℕ)
rooms t = map room t.shuffles

abbrev pub SameRooms : DagData → DagData → Type 0
SameRooms d after = rooms after.tracker ≡ rooms d.tracker

-- what is seen of each item stays, where no change changes it
kept_at : {A B : Type 0} (v : A → B) (xs : List A) (i : ℕ) (f : A → A) → ((x : A) → v (f x) ≡ v x)
    → map v (change_at xs i f) ≡ map v xs
kept_at v [] i f h = refl
kept_at v (x ∷ xs) zero f h = ap (λ y. y ∷ map v xs) (h x)
kept_at v (x ∷ xs) (suc i) f h = ap (λ ys. v x ∷ ys) (kept_at v xs i f h)

kept_all : {A B : Type 0} (v : A → B) (xs : List A) (f : A → A) → ((x : A) → v (f x) ≡ v x)
    → map v (map f xs) ≡ map v xs
kept_all v [] f h = refl
kept_all v (x ∷ xs) f h = ap₂ (λ y ys. y ∷ ys) (h x) (kept_all v xs f h)

-- what holds of each room holds where the rooms are the same
pub rooms_hold : (P : ShuffleId × ℕ → Type 0) (t u : TrackerData) → rooms u ≡ rooms t
    → All (λ s. P (room s)) t.shuffles → All (λ s. P (room s)) u.shuffles
rooms_hold P t u same all =
    back u.shuffles (subst (λ rs. All P rs) (sym same) (All-map P room t.shuffles all))
  where
    back : (shuffles : List ShuffleData) → All P (map room shuffles)
        → All (λ s. P (room s)) shuffles
    back [] h = λ i x l. absurd (omega (arith, l))
    back (s ∷ shuffles) h =
        All-cons (λ s. P (room s)) s shuffles (All-head P (room s) (map room shuffles) h)
        (back shuffles (All-tail P (room s) (map room shuffles) h))

-- ---- stages

pub submitted_rooms : (d after : DagData) (submitted : ℕ → Bool) → IsSubmitted d submitted after
    → SameRooms d after
submitted_rooms d after submitted (looked, are, is) = ap (λ (x : DagData). rooms x.tracker) is

pub completes_rooms : (d after : DagData) (s : ℕ) → CompletesMap d s after → SameRooms d after
completes_rooms d after s is =
    submitted_rooms (with_state d s completed) after (waiting_stages (with_state d s completed)) is

pub fails_rooms : (d after : DagData) (s number : ℕ) (verdict : Verdict)
    → FailsStage d s number verdict after → SameRooms d after
fails_rooms d after s number verdicts.Limit (often, is) =
    ap (λ (x : DagData). rooms x.tracker) is
fails_rooms d after s number verdicts.Again (often, h) =
    submitted_rooms (with_state d s (with_failed number)) after (this_stage s) h

-- ---- outputs

output_rooms : (t : TrackerData) (block : Option BlockId) (loc : Loc)
    → rooms (registered_by t block loc) ≡ rooms t
output_rooms t None loc = refl
output_rooms t (Some block) loc =
    kept_at room t.shuffles (place_of t.shuffles block.shuffle)
    (with_placed block.map loc t.epoch)
    (λ s. ap (λ (n : ℕ). (s.shuffle, n))
    (length_change_at s.outputs block.map (placed loc t.epoch)))

pub map_rooms : (d : DagData) (a : AttemptId) (loc : Loc) (epoch now : ℕ)
    → SameRooms d (after_map_success d a loc epoch now)
map_rooms d a loc epoch now = by (is_repeat d a) (is_bogus d.tracker loc epoch)
  where
    both : (b : Bool)
        → rooms (if b then succeeded_in_own (with_output d a loc) a now
        else with_state (succeeded_in_own (with_output d a loc) a now) a.stage
        (changed_newest (λ set. after_success set a.partition None now))).tracker
        ≡ rooms (with_output d a loc).tracker
    both true = refl
    both false = refl

    by : (x y : Bool) → SameRooms d (if x then ended_in_own d a
        else if y then succeeded_in_own d a now
        else succeeded_in_both (with_output d a loc) a now)
    by true y = refl
    by false true = refl
    by false false =
        both (is_of_newest (with_output d a loc) a)
        ∙ output_rooms d.tracker (block_by (stage_at d a.stage).target a.partition) loc

pub seen_rooms : (d : DagData) (exec found : ℕ) → SameRooms d (after_seen d exec found)
seen_rooms d exec found = by (is_newer (slice_get d.tracker.trust exec) found)
  where
    by : (b : Bool)
        → rooms (if b then tracker_data (map (with_forgotten_on exec) d.tracker.shuffles)
        (change_at d.tracker.trust exec (seen_at found d.tracker.epoch)) (d.tracker.epoch + 1)
        else d.tracker) ≡ rooms d.tracker
    by true =
        kept_all room d.tracker.shuffles (with_forgotten_on exec)
        (λ s. ap (λ (n : ℕ). (s.shuffle, n)) (length-map s.outputs (forgotten_on exec)))
    by false = refl

pub lost_rooms : (d : DagData) (exec : ℕ) → SameRooms d (after_lost d exec)
lost_rooms d exec = by (is_live (slice_get d.tracker.trust exec))
  where
    by : (b : Bool)
        → rooms (if b then tracker_data (map (with_forgotten_on exec) d.tracker.shuffles)
        (change_at d.tracker.trust exec (lost_at d.tracker.epoch)) (d.tracker.epoch + 1)
        else d.tracker) ≡ rooms d.tracker
    by true =
        kept_all room d.tracker.shuffles (with_forgotten_on exec)
        (λ s. ap (λ (n : ℕ). (s.shuffle, n)) (length-map s.outputs (forgotten_on exec)))
    by false = refl
