-- What changes of a stage do to the attempts that run in its task sets.
use Rattle.std.proofs.Common.{◌≡◌, ℕ, zero, suc, ◌-◌, Bool, true, false, if◌then◌else◌, List, [], ◌∷◌, ◌++◌, length, map, Option, Some, None, option_map, slice_get, nat_lt, refl, ap, sym, ◌∙◌, arith, true≢false}
use Rattle.std.proofs.lemmas.List.{length-map}
use Rattle.std.proofs.lemmas.Option.{slice_get-map, slice_get_past}
use Rattle.sc_ids.specs.Graphs.{StageData}
use Rattle.sc_ids.specs.declared.attempts.AttemptId.{AttemptId}
use Rattle.sc_ids.specs.declared.limits.Limits.{Limits}
use Rattle.sc_taskset.specs.Reports.{as_zombie}
use Rattle.sc_taskset.specs.TaskSetData.{TaskSetData}
use Rattle.sc_tracker.specs.TrackerData.{TrackerData}
use Rattle.sc_dag.specs.DagData.{StageState, attempt_in, changed_newest, place_of_attempt, set_in, stage_attempt, with_set}
use Rattle.sc_dag.specs.Outputs.{missing_by}
use Rattle.sc_dag.specs.Reports.{completed, failed_attempt, forgiven, with_failed, with_result}
use Rattle.sc_dag.specs.Sound.{runner_in}
use Rattle.sc_dag.specs.Submission.{as_waiting, is_map, new_set, started}
use Rattle.sc_dag.specs.declared.attempts.StageAttempt.{StageAttempt}
use Rattle.sc_core.specs.Sound.{given_in}
use Rattle.sc_core.proofs.SetLemmas.{MovesIn, nothing}
use Rattle.sc_core.proofs.SetCallLemmas.{fresh_runs, zombie_calm}
use Rattle.sc_core.proofs.StateLemmas.{MovesOf, attempt_calm, place_kept, then_calm}

-- ---- the changes of a stage

pub newest_calm :
    (change : TaskSetData → TaskSetData) (state : StageState)
    → ((set : TaskSetData) → MovesIn nothing None set (change set))
    → MovesOf nothing None (Some state) (Some (changed_newest change state))
newest_calm change state moves =
    attempt_calm (with_set change) state (length state.attempts - 1) (λ x. moves x.set)

pub failed_calm :
    (number : ℕ) (state : StageState)
    → MovesOf nothing None (Some state) (Some (with_failed number state))
failed_calm number state =
    attempt_calm failed_attempt state (place_of_attempt state number) (λ x. zombie_calm x.set)

pub result_calm :
    (p : ℕ) (state : StageState) → MovesOf nothing None (Some state) (Some (with_result p state))
result_calm p state = record { runners = λ b. refl; given = λ b h. h }

pub waiting_calm :
    (state : StageState) → MovesOf nothing None (Some state) (Some (as_waiting state))
waiting_calm state = record { runners = λ b. refl; given = λ b h. h }

pub completed_calm :
    (state : StageState) → MovesOf nothing None (Some state) (Some (completed state))
completed_calm state =
    record {
      runners = λ b.
          ap (λ (j : ℕ). runner_in (set_in (slice_get (map forgiven state.attempts) j)) b)
          (place_kept state (completed state) b.stage_attempt refl
          (length-map state.attempts forgiven))
          ∙ ap (λ o. runner_in (set_in o) b)
          (slice_get-map forgiven state.attempts (place_of_attempt state b.stage_attempt))
          ∙ one b (attempt_in state b.stage_attempt);
      given = λ b g.
          ap (λ (j : ℕ). given_in (set_in (slice_get (map forgiven state.attempts) j)) b)
          (place_kept state (completed state) b.stage_attempt refl
          (length-map state.attempts forgiven))
          ∙ ap (λ o. given_in (set_in o) b)
          (slice_get-map forgiven state.attempts (place_of_attempt state b.stage_attempt))
          ∙ given b (attempt_in state b.stage_attempt) ∙ g;
    }
  where
    given : (b : AttemptId) (o : Option StageAttempt)
        → given_in (set_in (option_map forgiven o)) b ≡ given_in (set_in o) b
    given b None = refl
    given b (Some x) = refl

    one : (b : AttemptId) (o : Option StageAttempt)
        → runner_in (set_in (option_map forgiven o)) b ≡ runner_in (set_in o) b
    one b None = refl
    one b (Some x) = refl

-- one attempt more in which nothing runs
added_runs :
    (b : AttemptId) (x : StageAttempt) → runner_in (Some x.set) b ≡ None
    → (attempts : List StageAttempt) (j : ℕ)
    → runner_in (set_in (slice_get (attempts ++ x ∷ []) j)) b
    ≡ runner_in (set_in (slice_get attempts j)) b
added_runs b x none [] zero = none
added_runs b x none [] (suc j) = refl
added_runs b x none (y ∷ ys) zero = refl
added_runs b x none (y ∷ ys) (suc j) = added_runs b x none ys j

-- what was handed out in one of some sets stays so with one set more
added_given :
    (b : AttemptId) (x : StageAttempt) (attempts : List StageAttempt) (j : ℕ)
    → given_in (set_in (slice_get attempts j)) b ≡ true
    → given_in (set_in (slice_get (attempts ++ x ∷ []) j)) b ≡ true
added_given b x [] zero h = absurd (true≢false (sym h))
added_given b x [] (suc j) h = h
added_given b x (y ∷ ys) zero h = h
added_given b x (y ∷ ys) (suc j) h = added_given b x ys j h

pub started_calm :
    (t : TrackerData) (limits : Limits) (stage : StageData) (state : StageState)
    → MovesOf nothing None (Some state) (Some (started t limits stage state))
started_calm t limits stage state =
    then_calm nothing None (Some state) (Some mid) (Some (started t limits stage state))
    (newest_calm as_zombie state zombie_calm)
    (record {
      runners = λ b. by b (nat_lt b.stage_attempt state.before);
      given = λ b. given b (nat_lt b.stage_attempt state.before);
    })
  where
    mid : StageState
    mid = changed_newest as_zombie state

    fresh : StageAttempt
    fresh = stage_attempt (new_set t limits stage state.results state.held) false

    given : (b : AttemptId) (x : Bool)
        → given_in (set_in (slice_get mid.attempts
        (if x then length mid.attempts else b.stage_attempt - state.before))) b ≡ true
        → given_in (set_in (slice_get (mid.attempts ++ fresh ∷ [])
        (if x then length (mid.attempts ++ fresh ∷ []) else b.stage_attempt - state.before))) b
        ≡ true
    given b true h =
        absurd (true≢false (sym h
        ∙ ap (λ o. given_in (set_in o) b)
        (slice_get_past mid.attempts (length mid.attempts) (omega arith))))
    given b false h = added_given b fresh mid.attempts (b.stage_attempt - state.before) h

    by : (b : AttemptId) (x : Bool)
        → runner_in (set_in (slice_get (mid.attempts ++ fresh ∷ [])
        (if x then length (mid.attempts ++ fresh ∷ []) else b.stage_attempt - state.before))) b
        ≡ runner_in (set_in (slice_get mid.attempts
        (if x then length mid.attempts else b.stage_attempt - state.before))) b
    by b true =
        ap (λ o. runner_in (set_in o) b)
        (slice_get_past (mid.attempts ++ fresh ∷ []) (length (mid.attempts ++ fresh ∷ []))
        (omega arith)
        ∙ sym (slice_get_past mid.attempts (length mid.attempts) (omega arith)))
    by b false =
        added_runs b fresh
        (fresh_runs state.held (missing_by t stage state.results) (is_map stage.target) limits
        t.epoch b)
        mid.attempts (b.stage_attempt - state.before)
