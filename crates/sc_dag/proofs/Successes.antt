-- What the success of an attempt leaves of its stage.
use Rattle.std.proofs.Common.{◌≡◌, ◌⊎◌, inl, inr, ℕ, ◌-◌, ◌<◌, Bool, true, false, List, length, Option, Some, None, IfSome, option_map, slice_get, refl, ap, sym, subst, ◌∙◌, rules, true≢false}
use Rattle.std.proofs.lemmas.Bool.{cases_eq}
use Rattle.sc_ids.specs.Changes.{change_at}
use Rattle.sc_ids.specs.Graphs.{StageData}
use Rattle.sc_ids.specs.declared.attempts.AttemptId.{AttemptId}
use Rattle.sc_ids.specs.declared.blocks.ShuffleId.{ShuffleId}
use Rattle.sc_ids.specs.declared.blocks.Target.TheVariants as targets
use Rattle.sc_taskset.specs.Lookups.{is_finish}
use Rattle.sc_taskset.specs.Reports.{after_success}
use Rattle.sc_taskset.specs.TaskSetData.{TaskSetData}
use Rattle.sc_taskset.specs.declared.tasks.Finish.TheVariants.{InOlderSet, OnExecutor}
use Rattle.sc_tracker.specs.TrackerData.{TrackerData, output_of}
use Rattle.sc_dag.specs.DagData.{StageState, changed_newest, changed_set, newest_set, place_of_attempt, set_in, with_attempts, with_set}
use Rattle.sc_dag.specs.Outputs.{block_of, is_done_by}
use Rattle.sc_dag.specs.Reports.{wants_in}
use Rattle.sc_dag.specs.Sound.{finish_in}
use Rattle.sc_dag.specs.Submission.{is_map}
use Rattle.sc_dag.specs.declared.attempts.StageAttempt.{StageAttempt}
use Rattle.sc_dag.proofs.Finishes.{finished_unwanted, success_older, success_other, success_own}
use Rattle.sc_dag.proofs.Holding.{holds_success}
use Rattle.sc_dag.proofs.Runners.{RunsIn}
use Rattle.sc_dag.proofs.Sets.{keeps_success}
use Rattle.sc_dag.proofs.SoundAttempts.{attempts_changed, flags_quiet, keeps_with, newest_changed, newest_kept}
use Rattle.sc_dag.proofs.SoundStages.{HasPlaces, IsNewest, IsSoundState}
use Rattle.sc_dag.proofs.Tests.{clash}

-- what a success on an executor does to the outputs of its stage
pub record SucceedsTo
    (t u : TrackerData) (stage : StageData) (results after : List Bool) (q exec : ℕ)
    : Type 0 where
  pub others : (p : ℕ) → (q ≡ p → ⊥)
      → is_done_by u stage.target after p ≡ is_done_by t stage.target results p
  pub outputs : (p : ℕ) (shuffle : ShuffleId) → (q ≡ p → ⊥)
      → stage.target ≡ targets.Map shuffle
      → output_of u (block_of shuffle p) ≡ output_of t (block_of shuffle p)
  pub made : (shuffle : ShuffleId) → stage.target ≡ targets.Map shuffle
      → IfSome (output_of u (block_of shuffle q)).here (λ loc. loc.exec ≡ exec)
  pub done : is_map stage.target ≡ false → q < stage.tasks
      → is_done_by u stage.target after q ≡ true

-- the newest set after it
pub success_newest :
    (t u : TrackerData) (stage : StageData) (results results' : List Bool) (q exec now : ℕ)
    (nth : Option ℕ) (set : TaskSetData)
    → SucceedsTo t u stage results results' q exec
    → (finish_in (Some (after_success set q nth now)) q ≡ OnExecutor exec)
    ⊎ (finish_in (Some (after_success set q nth now)) q ≡ InOlderSet)
    → IsNewest t stage results (Some set)
    → IsNewest u stage results' (Some (after_success set q nth now))
success_newest t u stage results results' q exec now nth set to finish is =
    record {
      made = λ p on shuffle target h. made p on shuffle target h (cases_eq q p);
      wanted = λ p h. wanted p h (cases_eq q p);
      covered = λ p kind lt ne h. covered p kind lt h (cases_eq q p);
    }
  where
    after : TaskSetData
    after = after_success set q nth now

    finished : is_finish (finish_in (Some after) q) ≡ true
    finished = by finish
      where
        by : (finish_in (Some after) q ≡ OnExecutor exec)
            ⊎ (finish_in (Some after) q ≡ InOlderSet)
            → is_finish (finish_in (Some after) q) ≡ true
        by (inl e) = ap is_finish e
        by (inr e) = ap is_finish e

    own : (on : ℕ) (shuffle : ShuffleId) → stage.target ≡ targets.Map shuffle
        → finish_in (Some after) q ≡ OnExecutor on
        → (finish_in (Some after) q ≡ OnExecutor exec)
        ⊎ (finish_in (Some after) q ≡ InOlderSet)
        → IfSome (output_of u (block_of shuffle q)).here (λ loc. loc.exec ≡ on)
    own on shuffle target h (inl e) =
        let same : exec ≡ on = search (rules, sym e ∙ h) in
        subst (λ x. IfSome (output_of u (block_of shuffle q)).here (λ loc. loc.exec ≡ x)) same
        (to.made shuffle target)
    own on shuffle target h (inr e) = absurd (search (rules, sym e ∙ h))

    made : (p on : ℕ) (shuffle : ShuffleId) → stage.target ≡ targets.Map shuffle
        → finish_in (Some after) p ≡ OnExecutor on → (q ≡ p) ⊎ (q ≡ p → ⊥)
        → IfSome (output_of u (block_of shuffle p)).here (λ loc. loc.exec ≡ on)
    made p on shuffle target h (inl e) =
        subst (λ n. IfSome (output_of u (block_of shuffle n)).here (λ loc. loc.exec ≡ on)) e
        (own on shuffle target
        (subst (λ n. finish_in (Some after) n ≡ OnExecutor on) (sym e) h) finish)
    made p on shuffle target h (inr ne) =
        rw (to.outputs p shuffle ne target)
        (is.made p on shuffle target (sym (success_other set q p nth now ne).0 ∙ h))

    wanted : (p : ℕ) → wants_in (Some after) p ≡ true → (q ≡ p) ⊎ (q ≡ p → ⊥)
        → is_done_by u stage.target results' p ≡ false
    wanted p h (inl e) =
        absurd (clash (subst (λ n. wants_in (Some after) n ≡ true) (sym e) h)
        (finished_unwanted after q finished))
    wanted p h (inr ne) =
        to.others p ne ∙ is.wanted p (sym (success_other set q p nth now ne).1 ∙ h)

    covered : (p : ℕ) → is_map stage.target ≡ false → p < stage.tasks
        → wants_in (Some after) p ≡ false → (q ≡ p) ⊎ (q ≡ p → ⊥)
        → is_done_by u stage.target results' p ≡ true
    covered p kind lt h (inl e) =
        subst (λ n. is_done_by u stage.target results' n ≡ true) e
        (to.done kind (subst (λ n. n < stage.tasks) (sym e) lt))
    covered p kind lt h (inr ne) =
        to.others p ne ∙ is.covered p kind lt (λ e. absurd (search (rules, e)))
        (sym (success_other set q p nth now ne).1 ∙ h)

-- ---- a stage after a success

-- of an attempt of its newest set
pub success_in_newest :
    (t u : TrackerData) (stage : StageData) (state : StageState) (results : List Bool)
    (a : AttemptId) (exec now : ℕ) → IsSoundState t stage state → RunsIn state a exec
    → wants_in (newest_set state) a.partition ≡ true
    → place_of_attempt state a.stage_attempt ≡ length state.attempts - 1
    → HasPlaces stage results
    → SucceedsTo t u stage state.results results a.partition exec
    → IsSoundState u stage
    (record (changed_set a.stage_attempt
    (λ set. after_success set a.partition (Some a.nth) now) state) { results = results })
success_in_newest t u stage state results a exec now is runs wants newest places to =
    record {
      results = places;
      flags = flags_quiet stage state i (with_set g)
          (λ x. holds_success x.set a.partition (Some a.nth) now) is.flags;
      attempts = attempts_changed stage state.attempts i (with_set g)
          (λ x there. keeps_with stage x g (keeps_success x.set a.partition (Some a.nth) now))
          is.attempts;
      newest = rw (newest_changed state.attempts i (with_set g) newest, here)
          (success_newest t u stage state.results results a.partition exec now (Some a.nth)
          runs.attempt.set to
          (inl (success_own runs.attempt.set a exec now
          (sym (ap (λ o. wants_in (set_in o) a.partition) here) ∙ wants) runs.runs))
          (subst (λ o. IsNewest t stage state.results (set_in o)) here is.newest));
    }
  where
    i : ℕ
    i = place_of_attempt state a.stage_attempt

    g : TaskSetData → TaskSetData
    g set = after_success set a.partition (Some a.nth) now

    here : slice_get state.attempts (length state.attempts - 1) ≡ Some runs.attempt
    here = subst (λ n. slice_get state.attempts n ≡ Some runs.attempt) newest runs.there

-- of an attempt of an older one, told to that alone
pub success_in_older :
    (t : TrackerData) (stage : StageData) (state : StageState) (a : AttemptId) (now : ℕ)
    → IsSoundState t stage state
    → (place_of_attempt state a.stage_attempt ≡ length state.attempts - 1 → ⊥)
    → IsSoundState t stage
    (changed_set a.stage_attempt (λ set. after_success set a.partition (Some a.nth) now) state)
success_in_older t stage state a now is older =
    record {
      results = is.results;
      flags = flags_quiet stage state i (with_set g)
          (λ x. holds_success x.set a.partition (Some a.nth) now) is.flags;
      attempts = attempts_changed stage state.attempts i (with_set g)
          (λ x there. keeps_with stage x g (keeps_success x.set a.partition (Some a.nth) now))
          is.attempts;
      newest = rw (newest_kept state.attempts i (with_set g) older) is.newest;
    }
  where
    i : ℕ
    i = place_of_attempt state a.stage_attempt

    g : TaskSetData → TaskSetData
    g set = after_success set a.partition (Some a.nth) now

-- or to both
pub success_in_both :
    (t u : TrackerData) (stage : StageData) (state : StageState) (results : List Bool)
    (a : AttemptId) (exec now : ℕ) → IsSoundState t stage state
    → wants_in (newest_set state) a.partition ≡ true
    → (place_of_attempt state a.stage_attempt ≡ length state.attempts - 1 → ⊥)
    → HasPlaces stage results
    → SucceedsTo t u stage state.results results a.partition exec
    → IsSoundState u stage
    (record (changed_newest (λ set. after_success set a.partition None now)
    (changed_set a.stage_attempt (λ set. after_success set a.partition (Some a.nth) now) state))
    { results = results })
success_in_both t u stage state results a exec now is wants older places to =
    record {
      results = places;
      flags = flags_quiet stage (with_attempts state before) (length before - 1) (with_set h)
          (λ x. holds_success x.set a.partition None now)
          (success_in_older t stage state a now is older).flags;
      attempts = attempts_changed stage before (length before - 1) (with_set h)
          (λ x there. keeps_with stage x h (keeps_success x.set a.partition None now))
          (success_in_older t stage state a now is older).attempts;
      newest = rw (
        newest_changed before (length before - 1) (with_set h) refl,
        newest_kept state.attempts i (with_set g) older,
      )
          (by (slice_get state.attempts (length state.attempts - 1)) wants is.newest);
    }
  where
    i : ℕ
    i = place_of_attempt state a.stage_attempt

    g : TaskSetData → TaskSetData
    g set = after_success set a.partition (Some a.nth) now

    h : TaskSetData → TaskSetData
    h set = after_success set a.partition None now

    before : List StageAttempt
    before = change_at state.attempts i (with_set g)

    by : (o : Option StageAttempt) → wants_in (set_in o) a.partition ≡ true
        → IsNewest t stage state.results (set_in o)
        → IsNewest u stage results (set_in (option_map (with_set h) o))
    by None w n = absurd (true≢false (sym w))
    by (Some x) w n =
        success_newest t u stage state.results results a.partition exec now None x.set to
        (inr (success_older x.set a.partition now w)) n
