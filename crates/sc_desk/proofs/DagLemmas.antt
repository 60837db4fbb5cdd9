-- What becomes of the stages and the results of a job, by what happens to its stages.
use Rattle.std.proofs.Common.{◌≡◌, All, ℕ, ◌-◌, ◌<◌, ◌==◌, Bool, true, false, if◌then◌else◌, List, length, Option, Some, None, option_map, slice_get, refl, ap, ◌∙◌, arith, rules}
use Rattle.std.proofs.lemmas.Bool.Decides.{nat_tests}
use Rattle.sc_ids.specs.Changes.{change_at}
use Rattle.sc_ids.specs.declared.attempts.AttemptId.{AttemptId}
use Rattle.sc_ids.proofs.ChangeLemmas.{slice_get_change_same}
use Rattle.sc_taskset.specs.Lookups.{is_task_of, task_at}
use Rattle.sc_taskset.specs.Reports.{after_held, after_success}
use Rattle.sc_taskset.specs.TaskSetData.{TaskData, TaskSetData}
use Rattle.sc_taskset.proofs.FindLemmas.{found_is, found_passes}
use Rattle.sc_dag.specs.DagData.{DagData, StageState, changed_newest, changed_set, newest_at, set_in, stage_at, with_set, with_state}
use Rattle.sc_dag.specs.Outputs.{is_complete, results_in}
use Rattle.sc_dag.specs.Reports.{after_hold, after_result_success, completed, ended_in_own, is_of_newest, is_repeat, set_of, succeeded_in_both, succeeded_in_own, told_held, wants_in, with_result}
use Rattle.sc_dag.specs.Sound.{IsSoundDag, runner_among, runner_in, runner_of}
use Rattle.sc_dag.specs.declared.attempts.StageAttempt.{StageAttempt}
use Rattle.sc_dag.proofs.Moving.{newest_among}
use Rattle.sc_dag.proofs.Sets.{same_hold}
use Rattle.sc_dag.proofs.SoundAttempts.{newest_changed}
use Rattle.sc_core.proofs.LookupLemmas.{set_holds}
use Rattle.sc_desk.proofs.RoomLemmas.{SameRooms, rooms}
use Rattle.sc_core.proofs.MoveLemmas.{Moves, SameResults, results_then, state_results}

-- the stages of a job and their limits stay as they are, and so does the room for outputs
pub record SameJob (d after : DagData) : Type 0 where
  pub stages : after.stages ≡ d.stages
  pub limits : after.limits ≡ d.limits
  pub rooms : rooms after.tracker ≡ rooms d.tracker

-- and so do the results
pub record Leaves (d after : DagData) : Type 0 where
  pub job : SameJob d after
  pub results : SameResults d after

pub leaves_itself : (d : DagData) → Leaves d d
leaves_itself d =
    record { job = record { stages = refl; limits = refl; rooms = refl }; results = λ s. refl }

pub same_then : (c d e : DagData) → SameJob c d → SameJob d e → SameJob c e
same_then c d e h k =
    record {
      stages = k.stages ∙ h.stages;
      limits = k.limits ∙ h.limits;
      rooms = k.rooms ∙ h.rooms;
    }

pub leaves_then : (c d e : DagData) → Leaves c d → Leaves d e → Leaves c e
leaves_then c d e h k =
    record {
      job = same_then c d e h.job k.job;
      results = results_then c d e h.results k.results;
    }

pub same_of :
    (test : AttemptId → Bool) (new : Option ℕ) (d after : DagData) → Moves test new d after
    → SameRooms d after → SameJob d after
same_of test new d after moves same =
    record { stages = moves.stages; limits = moves.limits; rooms = same }

pub leaves_of :
    (test : AttemptId → Bool) (new : Option ℕ) (d after : DagData) → Moves test new d after
    → SameRooms d after → SameResults d after → Leaves d after
leaves_of test new d after moves same results =
    record { job = same_of test new d after moves same; results = results }

-- ---- what a set wants

-- a grant that is told of changes nothing that is wanted
pub hold_wants :
    (d : DagData) (s p q : ℕ) (denied : Bool)
    → wants_in (newest_at (after_hold d s p denied) s) q ≡ wants_in (newest_at d s) q
hold_wants d s p q denied =
    ap (λ o. wants_in (newest_among o) q)
    (slice_get_change_same d.states s (told_held p denied))
    ∙ by (slice_get d.states s)
  where
    hold : TaskSetData → TaskSetData
    hold set = after_held set p denied

    one : (o : Option StageAttempt)
        → wants_in (set_in (option_map (with_set hold) o)) q ≡ wants_in (set_in o) q
    one None = refl
    one (Some a) = (same_hold a.set p denied).wants q

    by : (o : Option StageState)
        → wants_in (newest_among (option_map (told_held p denied) o)) q
        ≡ wants_in (newest_among o) q
    by None = refl
    by (Some state) =
        ap (λ o. wants_in (set_in o) q)
        (newest_changed state.attempts (length state.attempts - 1) (with_set hold) refl)
        ∙ one (slice_get state.attempts (length state.attempts - 1))

-- ---- successes of results

-- a repeated one ends its attempt alone
pub repeated_result :
    (d : DagData) (a : AttemptId) (now : ℕ) → is_repeat d a ≡ true
    → after_result_success d a now ≡ ended_in_own d a
repeated_result d a now e = rw e refl

both_results :
    (d : DagData) (a : AttemptId) (now : ℕ) → SameResults d (succeeded_in_both d a now)
both_results d a now = by (is_of_newest d a)
  where
    own : SameResults d (succeeded_in_own d a now)
    own =
        state_results d a.stage
        (changed_set a.stage_attempt (λ set. after_success set a.partition (Some a.nth) now))
        (λ state. refl)

    by : (b : Bool) → SameResults d
        (if b then succeeded_in_own d a now
        else with_state (succeeded_in_own d a now) a.stage
        (changed_newest (λ set. after_success set a.partition None now)))
    by true = own
    by false =
        results_then d (succeeded_in_own d a now)
        (with_state (succeeded_in_own d a now) a.stage
        (changed_newest (λ set. after_success set a.partition None now))) own
        (state_results (succeeded_in_own d a now) a.stage
        (changed_newest (λ set. after_success set a.partition None now)) (λ state. refl))

-- the results of a stage, one of which is there now
abbrev pub with_one : DagData → AttemptId → List Bool
with_one d a = change_at (results_in (slice_get d.states a.stage)) a.partition (λ _. true)

-- and any other one brings a result
pub new_result :
    (d : DagData) (a : AttemptId) (now : ℕ) → is_repeat d a ≡ false
    → results_in (slice_get (after_result_success d a now).states a.stage) ≡ with_one d a
new_result d a now e = rw e (done (is_complete won a.stage) ∙ here)
  where
    both : DagData
    both = succeeded_in_both d a now

    won : DagData
    won = with_state both a.stage (with_result a.partition)

    done : (b : Bool)
        → results_in
        (slice_get (if b then with_state won a.stage completed else won).states a.stage)
        ≡ results_in (slice_get won.states a.stage)
    done true = state_results won a.stage completed (λ state. refl) a.stage
    done false = refl

    by : (o : Option StageState)
        → results_in (option_map (with_result a.partition) o)
        ≡ change_at (results_in o) a.partition (λ _. true)
    by None = refl
    by (Some state) = refl

    here : results_in (slice_get won.states a.stage) ≡ with_one d a
    here =
        ap results_in (slice_get_change_same both.states a.stage (with_result a.partition))
        ∙ by (slice_get both.states a.stage)
        ∙ ap (λ rs. change_at rs a.partition (λ _. true)) (both_results d a now a.stage)

-- ---- attempts that run

-- the partition of one is among those of its stage
pub within_stage :
    (d : DagData) (a : AttemptId) (exec : ℕ) → IsSoundDag d → runner_of d a ≡ Some exec
    → a.partition < (stage_at d a.stage).tasks
within_stage d a exec sound runs = by (set_of d a) refl runs
  where
    task : (set : TaskSetData) → set_of d a ≡ Some set → (o : Option TaskData)
        → task_at a.partition set.tasks ≡ o → runner_among o a.nth ≡ Some exec
        → a.partition < (stage_at d a.stage).tasks
    task set e None f h = absurd (search (rules, h))
    task set e (Some t) f h =
        let lt : t.partition < (stage_at d a.stage).tasks =
        found_is (λ u. u.partition < (stage_at d a.stage).tasks) (is_task_of a.partition)
        set.tasks t
        (set_holds (λ s. All (λ u. u.partition < (stage_at d a.stage).tasks) s.tasks)
        (slice_get d.states a.stage) a.stage_attempt set
        (λ i x l. (sound.attempts a.stage i x l).set.within) e) f in
        let passes : (t.partition == a.partition) ≡ true =
        found_passes (is_task_of a.partition) set.tasks t f in
        let is : t.partition ≡ a.partition = grind (arith, nat_tests, passes) in
        omega (arith, lt, is)

    by : (o : Option TaskSetData) → set_of d a ≡ o → runner_in o a ≡ Some exec
        → a.partition < (stage_at d a.stage).tasks
    by None e h = absurd (search (rules, h))
    by (Some set) e h = task set e (task_at a.partition set.tasks) refl h
