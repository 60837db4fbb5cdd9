-- No change of the stages of a job changes for how many outputs of a shuffle there is room.
use Rattle.std.proofs.Common.{◌≡◌, ℕ, zero, suc, ◌+◌, ◌||◌, Bool, true, false, if◌then◌else◌, List, [], ◌∷◌, length, map, Option, Some, None, slice_get, refl, ap, ◌∙◌}
use Rattle.std.specs.List.{list_any}
use Rattle.std.proofs.lemmas.List.{length-map}
use Rattle.sc_ids.specs.Changes.{change_at}
use Rattle.sc_ids.specs.declared.attempts.AttemptId.{AttemptId}
use Rattle.sc_ids.specs.declared.blocks.BlockId.{BlockId}
use Rattle.sc_ids.specs.declared.blocks.Loc.{Loc}
use Rattle.sc_ids.specs.declared.blocks.ShuffleId.{ShuffleId}
use Rattle.sc_taskset.specs.Reports.{after_success}
use Rattle.sc_taskset.specs.declared.tasks.Verdict.{Verdict}
use Rattle.sc_taskset.specs.declared.tasks.Verdict.TheVariants as verdicts
use Rattle.sc_tracker.specs.Outputs.{forgotten_on}
use Rattle.sc_tracker.specs.TrackerData.{TrackerData, is_of, outputs_of, place_of, tracker_data}
use Rattle.sc_tracker.specs.Tracking.{has_room, is_bogus, with_forgotten_on, with_placed}
use Rattle.sc_tracker.specs.Trust.{is_live, is_newer, lost_at, seen_at}
use Rattle.sc_tracker.proofs.BlockLemmas.{under_mapped}
use Rattle.sc_dag.specs.DagData.{DagData, changed_newest, stage_at, with_state}
use Rattle.sc_dag.specs.Losses.{after_lost, after_seen}
use Rattle.sc_dag.specs.Outputs.{is_complete}
use Rattle.sc_dag.specs.Reports.{FailsStage, after_map_success, after_result_success, block_by, completed, completed_if, ended_in_own, is_finished_short, is_of_newest, is_repeat, registered_by, succeeded_in_both, succeeded_in_own, with_failed, with_output, with_result}
use Rattle.sc_dag.specs.Submission.{IsSubmitted, this_stage}
use Rattle.sc_dag.specs.declared.reports.Success.{Success}
use Rattle.sc_dag.specs.declared.reports.Success.TheVariants as successes
use Rattle.sc_dag.proofs.Trackers.{registered_room}
use Rattle.sc_core.specs.Tells.{FollowsUp, LooksAgain}
use Rattle.sc_history.specs.Rooms.{SameRoom}

abbrev pub LeavesRoom : DagData → DagData → Type 0
LeavesRoom d after = SameRoom d.tracker after.tracker

pub same_room : (t u : TrackerData) → u ≡ t → SameRoom t u
same_room t u e shuffle =
    record {
      has = ap (λ x. has_room x shuffle) e;
      outputs = ap (λ x. length (outputs_of x shuffle)) e;
    }

pub room_then : (t u v : TrackerData) → SameRoom t u → SameRoom u v → SameRoom t v
room_then t u v h k shuffle =
    record {
      has = (k shuffle).has ∙ (h shuffle).has;
      outputs = (k shuffle).outputs ∙ (h shuffle).outputs;
    }

pub room_itself : (t : TrackerData) → SameRoom t t
room_itself t shuffle = record { has = refl; outputs = refl }

-- a test passes on as many items of a list where none changes in what it looks at
any_changed :
    {A : Type 0} (p : A → Bool) (xs : List A) (i : ℕ) (f : A → A) → ((x : A) → p (f x) ≡ p x)
    → list_any p (change_at xs i f) ≡ list_any p xs
any_changed p [] i f h = refl
any_changed p (x ∷ xs) zero f h = ap (λ b. b || list_any p xs) (h x)
any_changed p (x ∷ xs) (suc i) f h = ap (λ b. p x || b) (any_changed p xs i f h)

any_mapped :
    {A : Type 0} (p : A → Bool) (xs : List A) (f : A → A) → ((x : A) → p (f x) ≡ p x)
    → list_any p (map f xs) ≡ list_any p xs
any_mapped p [] f h = refl
any_mapped p (x ∷ xs) f h =
    ap (λ b. b || list_any p (map f xs)) (h x) ∙ ap (λ b. p x || b) (any_mapped p xs f h)

-- ---- stages

pub submitted_room : (d after : DagData) (submitted : ℕ → Bool) → IsSubmitted d submitted after
    → LeavesRoom d after
submitted_room d after submitted (looked, are, is) =
    same_room d.tracker after.tracker (ap (λ (x : DagData). x.tracker) is)

pub fails_room : (d after : DagData) (s number : ℕ) (verdict : Verdict)
    → FailsStage d s number verdict after → LeavesRoom d after
fails_room d after s number verdicts.Limit (often, is) =
    same_room d.tracker after.tracker (ap (λ (x : DagData). x.tracker) is)
fails_room d after s number verdicts.Again (often, h) =
    submitted_room (with_state d s (with_failed number)) after (this_stage s) h

pub looks_room : (x y : Bool) (d after : DagData) (s : ℕ) → LooksAgain x y d s after
    → LeavesRoom d after
looks_room true y d after s (looked, are, is) =
    same_room d.tracker after.tracker (ap (λ (x : DagData). x.tracker) is)
looks_room false true d after s (looked, are, is) =
    same_room d.tracker after.tracker (ap (λ (x : DagData). x.tracker) is)
looks_room false false d after s is =
    same_room d.tracker after.tracker (ap (λ (x : DagData). x.tracker) is)

pub follows_room : (success : Success) (d after : DagData) (s : ℕ) → FollowsUp success d s after
    → LeavesRoom d after
follows_room successes.Repeated d after s is =
    same_room d.tracker after.tracker (ap (λ (x : DagData). x.tracker) is)
follows_room successes.Registered d after s h =
    looks_room (is_complete d s) (is_finished_short d s) d after s h
follows_room successes.Bogus d after s h =
    looks_room (is_complete d s) (is_finished_short d s) d after s h
follows_room successes.Finished d after s h =
    looks_room (is_complete d s) (is_finished_short d s) d after s h

pub both_tracker : (d : DagData) (a : AttemptId) (now : ℕ)
    → (succeeded_in_both d a now).tracker ≡ d.tracker
both_tracker d a now = by (is_of_newest d a)
  where
    by : (b : Bool) → (if b then succeeded_in_own d a now
        else with_state (succeeded_in_own d a now) a.stage
        (changed_newest (λ set. after_success set a.partition None now))).tracker ≡ d.tracker
    by true = refl
    by false = refl

output_room : (t : TrackerData) (block : Option BlockId) (loc : Loc)
    → SameRoom t (registered_by t block loc)
output_room t None loc shuffle = room_itself t shuffle
output_room t (Some block) loc shuffle =
    record {
      has = any_changed (is_of shuffle) t.shuffles (place_of t.shuffles block.shuffle)
          (with_placed block.map loc t.epoch) (λ s. refl);
      outputs = registered_room t block loc shuffle;
    }

pub map_room : (d : DagData) (a : AttemptId) (loc : Loc) (epoch now : ℕ)
    → LeavesRoom d (after_map_success d a loc epoch now)
map_room d a loc epoch now = by (is_repeat d a) (is_bogus d.tracker loc epoch)
  where
    by : (x y : Bool) → LeavesRoom d (if x then ended_in_own d a
        else if y then succeeded_in_own d a now
        else succeeded_in_both (with_output d a loc) a now)
    by true y = room_itself d.tracker
    by false true = room_itself d.tracker
    by false false =
        room_then d.tracker (with_output d a loc).tracker
        (succeeded_in_both (with_output d a loc) a now).tracker
        (output_room d.tracker (block_by (stage_at d a.stage).target a.partition) loc)
        (same_room (with_output d a loc).tracker
        (succeeded_in_both (with_output d a loc) a now).tracker
        (both_tracker (with_output d a loc) a now))

pub result_tracker : (d : DagData) (a : AttemptId) (now : ℕ)
    → (after_result_success d a now).tracker ≡ d.tracker
result_tracker d a now = by (is_repeat d a)
  where
    won : DagData
    won = with_state (succeeded_in_both d a now) a.stage (with_result a.partition)

    done : (b : Bool) → (if b then with_state won a.stage completed else won).tracker ≡ d.tracker
    done true = both_tracker d a now
    done false = both_tracker d a now

    by : (b : Bool) → (if b then ended_in_own d a else completed_if won a.stage).tracker
        ≡ d.tracker
    by true = refl
    by false = done (is_complete won a.stage)

pub seen_room : (d : DagData) (exec found : ℕ) → LeavesRoom d (after_seen d exec found)
seen_room d exec found = by (is_newer (slice_get d.tracker.trust exec) found) refl
  where
    mapped : (shuffle : ShuffleId)
        → has_room (tracker_data (map (with_forgotten_on exec) d.tracker.shuffles)
        (change_at d.tracker.trust exec (seen_at found d.tracker.epoch)) (d.tracker.epoch + 1))
        shuffle ≡ has_room d.tracker shuffle
    mapped shuffle =
        any_mapped (is_of shuffle) d.tracker.shuffles (with_forgotten_on exec) (λ s. refl)

    by : (b : Bool) → is_newer (slice_get d.tracker.trust exec) found ≡ b
        → LeavesRoom d (after_seen d exec found)
    by true e shuffle =
        rw e (record {
          has = mapped shuffle;
          outputs =
              rw (
                under_mapped d.tracker.shuffles shuffle (forgotten_on exec),
                length-map (outputs_of d.tracker shuffle) (forgotten_on exec),
              ) refl;
        })
    by false e shuffle = rw e (room_itself d.tracker shuffle)

pub lost_room : (d : DagData) (exec : ℕ) → LeavesRoom d (after_lost d exec)
lost_room d exec = by (is_live (slice_get d.tracker.trust exec)) refl
  where
    mapped : (shuffle : ShuffleId)
        → has_room (tracker_data (map (with_forgotten_on exec) d.tracker.shuffles)
        (change_at d.tracker.trust exec (lost_at d.tracker.epoch)) (d.tracker.epoch + 1))
        shuffle ≡ has_room d.tracker shuffle
    mapped shuffle =
        any_mapped (is_of shuffle) d.tracker.shuffles (with_forgotten_on exec) (λ s. refl)

    by : (b : Bool) → is_live (slice_get d.tracker.trust exec) ≡ b
        → LeavesRoom d (after_lost d exec)
    by true e shuffle =
        rw e (record {
          has = mapped shuffle;
          outputs =
              rw (
                under_mapped d.tracker.shuffles shuffle (forgotten_on exec),
                length-map (outputs_of d.tracker shuffle) (forgotten_on exec),
              ) refl;
        })
    by false e shuffle = rw e (room_itself d.tracker shuffle)
