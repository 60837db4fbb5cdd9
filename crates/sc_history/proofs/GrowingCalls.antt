-- What reports do to each attempt of each stage, for any relation that calls keep.
use Rattle.std.proofs.Common.{◌≡◌, inl, inr, ℕ, ◌-◌, ◌&&◌, not, Bool, true, false, if◌then◌else◌, List, [], ◌∷◌, length, Option, Some, None, option_map, slice_get, refl, ap, subst, sym, ◌∙◌}
use Rattle.std.proofs.lemmas.Option.{slice_get-map}
use Rattle.sc_ids.specs.declared.attempts.AttemptId.{AttemptId}
use Rattle.sc_ids.specs.declared.blocks.Loc.{Loc}
use Rattle.sc_ids.specs.declared.failures.FailureCause.{FailureCause}
use Rattle.sc_ids.specs.declared.failures.FailureCause.TheVariants as causes
use Rattle.sc_ids.specs.declared.limits.Limits.{Limits}
use Rattle.sc_commit.specs.Committers.{committer_at}
use Rattle.sc_commit.specs.Committing.{holds}
use Rattle.sc_commit.specs.declared.committers.Ending.{Ending}
use Rattle.sc_commit.specs.declared.committers.Ending.TheVariants as endings
use Rattle.sc_taskset.specs.Reports.{after_end, after_failure as set_after_failure, after_held, after_loss, after_success}
use Rattle.sc_taskset.specs.Offers.{handed}
use Rattle.sc_taskset.specs.declared.tasks.Verdict.{Verdict}
use Rattle.sc_taskset.specs.declared.tasks.Verdict.TheVariants as verdicts
use Rattle.sc_tracker.specs.Tracking.{is_bogus}
use Rattle.sc_tracker.specs.Trust.{is_newer}
use Rattle.sc_dag.specs.DagData.{DagData, StageState, changed_newest, place_of_attempt, with_set, with_state}
use Rattle.sc_dag.specs.Losses.{after_lost, after_seen}
use Rattle.sc_dag.specs.Losses as losses
use Rattle.sc_dag.specs.Offers.{handed_out}
use Rattle.sc_dag.specs.Outputs.{is_complete}
use Rattle.sc_dag.specs.Reports.{FailsStage, after_failed, after_hold, after_map_success, after_result_success, completed, completed_if, ended_in_own, failed_attempt, forgiven, is_finished_short, is_of_newest, is_repeat, map_success_of, reaches_limit_in, result_success_of, set_of, succeeded_in_both, succeeded_in_own, told_held, with_failed, with_output, with_result}
use Rattle.sc_dag.specs.Submission.{this_stage, waiting_stages}
use Rattle.sc_dag.specs.declared.attempts.StageAttempt.{StageAttempt}
use Rattle.sc_dag.specs.declared.reports.Success.{Success}
use Rattle.sc_dag.specs.declared.reports.Success.TheVariants as successes
use Rattle.sc_core.specs.CoreData.{CoreData, with_dag}
use Rattle.sc_core.specs.Losses.{Loses, all_released, attempts_on, without_executor}
use Rattle.sc_core.specs.Steps.{Steps}
use Rattle.sc_core.specs.Takes.{Takes}
use Rattle.sc_core.specs.Tells.{FailsBy, FailsOrAborts, FollowsUp, IsGone, LooksAgain, Misses, MissesIf, Tells, TellsFailureIf, TellsMap, TellsResult, after_failure, after_result, done_if, is_zombie_in, released, with_result_of}
use Rattle.sc_core.specs.declared.answers.Answer.{Answer}
use Rattle.sc_core.specs.declared.events.Event.{Event}
use Rattle.sc_core.specs.declared.events.Event.TheVariants.{Post, Release, Side, Take, TellLost}
use Rattle.sc_core.specs.declared.events.Outcome.{Outcome}
use Rattle.sc_core.specs.declared.events.Outcome.TheVariants as outcomes
use Rattle.sc_core.specs.declared.running.Running.{Running}
use Rattle.sc_core.proofs.TaskCallLemmas.{map_moves}
use Rattle.sc_history.proofs.Events.{Comes, losses_come, posts_come, releases_come, sides_come}
use Rattle.sc_history.proofs.Growing.{GrownDag, GrownIn, IsCalm, dag_is, dag_same, dag_submitted, dag_then, dag_with, grown_map, grown_same, state_with}
use Rattle.sc_core.proofs.TakeCases.{TakesSo, takes_so}
use Rattle.sc_core.specs.Sides.{MayHold}

-- the attempts of all stages of a job
abbrev pub Grows : (StageAttempt → StageAttempt → Type 0) → (StageAttempt → Type 0) → DagData
    → DagData → Type 0
Grows A New d after = GrownDag A New d.states after.states

pub grows_then : (A : StageAttempt → StageAttempt → Type 0) (New : StageAttempt → Type 0)
    (L : Limits) → IsCalm A New L → (a b c : DagData) → Grows A New a b
    → Grows A New b c → Grows A New a c
grows_then A New L calm a b c h k = dag_then A New L calm a.states b.states c.states h k

-- ---- tasks

pub handed_grows : (A : StageAttempt → StageAttempt → Type 0) (New : StageAttempt → Type 0)
    (L : Limits) → IsCalm A New L → (d : DagData) (a : AttemptId) (exec now : ℕ)
    → Grows A New d (handed_out d a exec now)
handed_grows A New L calm d a exec now =
    dag_with A New L calm d.states a.stage (changed_newest (λ s. handed s a.partition exec now))
    (λ state. state_with A New L calm state (length state.attempts - 1)
    (with_set (λ s. handed s a.partition exec now)) (λ x. calm.hands x a.partition exec now))

ended_grows : (A : StageAttempt → StageAttempt → Type 0) (New : StageAttempt → Type 0)
    (L : Limits) → IsCalm A New L → (d : DagData) (a : AttemptId) → Grows A New d (ended_in_own d a)
ended_grows A New L calm d a =
    dag_with A New L calm d.states a.stage _
    (λ state. state_with A New L calm state (place_of_attempt state a.stage_attempt)
    (with_set (λ s. after_end s a.partition a.nth)) (λ x. calm.ends x a.partition a.nth))

own_grows : (A : StageAttempt → StageAttempt → Type 0) (New : StageAttempt → Type 0)
    (L : Limits) → IsCalm A New L → (d : DagData) (a : AttemptId) (now : ℕ)
    → Grows A New d (succeeded_in_own d a now)
own_grows A New L calm d a now =
    dag_with A New L calm d.states a.stage _
    (λ state. state_with A New L calm state (place_of_attempt state a.stage_attempt)
    (with_set (λ s. after_success s a.partition (Some a.nth) now))
    (λ x. calm.succeeds x a.partition (Some a.nth) now))

both_grows : (A : StageAttempt → StageAttempt → Type 0) (New : StageAttempt → Type 0)
    (L : Limits) → IsCalm A New L → (d : DagData) (a : AttemptId) (now : ℕ)
    → Grows A New d (succeeded_in_both d a now)
both_grows A New L calm d a now = by (is_of_newest d a)
  where
    newest : StageState → StageState
    newest = changed_newest (λ s. after_success s a.partition None now)

    by : (b : Bool) → Grows A New d
        (if b then succeeded_in_own d a now
        else with_state (succeeded_in_own d a now) a.stage newest)
    by true = own_grows A New L calm d a now
    by false =
        grows_then A New L calm d (succeeded_in_own d a now)
        (with_state (succeeded_in_own d a now) a.stage newest) (own_grows A New L calm d a now)
        (dag_with A New L calm (succeeded_in_own d a now).states a.stage newest
        (λ state. state_with A New L calm state (length state.attempts - 1)
        (with_set (λ s. after_success s a.partition None now))
        (λ x. calm.succeeds x a.partition None now)))

pub hold_grows : (A : StageAttempt → StageAttempt → Type 0) (New : StageAttempt → Type 0)
    (L : Limits) → IsCalm A New L → (d : DagData) (s p : ℕ) (denied : Bool)
    → Grows A New d (after_hold d s p denied)
hold_grows A New L calm d s p denied =
    dag_with A New L calm d.states s (told_held p denied)
    (λ state. (let grown = state_with A New L calm state (length state.attempts - 1)
    (with_set (λ set. after_held set p denied)) (λ x. calm.holds x p denied) in
    record { before = grown.before; attempts = grown.attempts }))

-- where a partition may be held back
pub may_hold_grows : (A : StageAttempt → StageAttempt → Type 0) (New : StageAttempt → Type 0)
    (L : Limits) → IsCalm A New L → (d after : DagData) → MayHold d after → Grows A New d after
may_hold_grows A New L calm d after (inl is) = dag_is A New L calm d after is
may_hold_grows A New L calm d after (inr (s, p, denied, is)) =
    subst (λ x. Grows A New d x) (sym is) (hold_grows A New L calm d s p denied)

-- ---- stages

completed_grows : (A : StageAttempt → StageAttempt → Type 0) (New : StageAttempt → Type 0)
    (L : Limits) → IsCalm A New L → (d : DagData) (s : ℕ) → Grows A New d (with_state d s completed)
completed_grows A New L calm d s =
    dag_with A New L calm d.states s completed
    (λ state. record {
      before = refl;
      attempts = grown_map A New state.attempts forgiven calm.forgives;
    })

-- ---- reports of map tasks

map_grows : (A : StageAttempt → StageAttempt → Type 0) (New : StageAttempt → Type 0)
    (L : Limits) → IsCalm A New L → (d : DagData) (a : AttemptId) (loc : Loc) (epoch now : ℕ)
    → Grows A New d (after_map_success d a loc epoch now)
map_grows A New L calm d a loc epoch now = by (is_repeat d a) (is_bogus d.tracker loc epoch)
  where
    by : (x y : Bool) → Grows A New d (if x then ended_in_own d a
        else if y then succeeded_in_own d a now
        else succeeded_in_both (with_output d a loc) a now)
    by true y = ended_grows A New L calm d a
    by false true = own_grows A New L calm d a now
    by false false = both_grows A New L calm (with_output d a loc) a now

looks_grows : (A : StageAttempt → StageAttempt → Type 0) (New : StageAttempt → Type 0)
    (L : Limits) → IsCalm A New L → (x y : Bool) (d after : DagData) (s : ℕ) → d.limits ≡ L
    → LooksAgain x y d s after → Grows A New d after
looks_grows A New L calm true y d after s same h =
    grows_then A New L calm d (with_state d s completed) after (completed_grows A New L calm d s)
    (dag_submitted A New L calm (with_state d s completed) after
    (waiting_stages (with_state d s completed)) same h)
looks_grows A New L calm false true d after s same h =
    dag_submitted A New L calm d after (this_stage s) same h
looks_grows A New L calm false false d after s same h = dag_is A New L calm d after h

follows_grows : (A : StageAttempt → StageAttempt → Type 0) (New : StageAttempt → Type 0)
    (L : Limits) → IsCalm A New L → (success : Success) (d after : DagData) (s : ℕ)
    → d.limits ≡ L → FollowsUp success d s after → Grows A New d after
follows_grows A New L calm successes.Repeated d after s same h = dag_is A New L calm d after h
follows_grows A New L calm successes.Registered d after s same h =
    looks_grows A New L calm (is_complete d s) (is_finished_short d s) d after s same h
follows_grows A New L calm successes.Bogus d after s same h =
    looks_grows A New L calm (is_complete d s) (is_finished_short d s) d after s same h
follows_grows A New L calm successes.Finished d after s same h =
    looks_grows A New L calm (is_complete d s) (is_finished_short d s) d after s same h

pub maps_grow : (A : StageAttempt → StageAttempt → Type 0) (New : StageAttempt → Type 0)
    (L : Limits) → IsCalm A New L → (c after : CoreData) (r : Running) (loc : Loc) (answer : Answer)
    → c.dag.limits ≡ L → TellsMap c r loc answer after → Grows A New c.dag after.dag
maps_grow A New L calm c after r loc answer same (next, up, told, is) =
    subst (λ (x : CoreData). Grows A New c.dag x.dag) (sym is)
    (grows_then A New L calm c.dag mid next
    (map_grows A New L calm c.dag a loc r.hand_out.epoch c.now)
    (follows_grows A New L calm (map_success_of c.dag a loc r.hand_out.epoch) mid next a.stage
    ((map_moves c.dag a loc r.hand_out.epoch c.now).limits ∙ same) up))
  where
    a : AttemptId
    a = r.hand_out.attempt

    mid : DagData
    mid = after_map_success c.dag r.hand_out.attempt loc r.hand_out.epoch c.now

-- ---- reports of result tasks

released_grows : (A : StageAttempt → StageAttempt → Type 0) (New : StageAttempt → Type 0)
    (L : Limits) → IsCalm A New L → (c : CoreData) (a : AttemptId) (how : Ending)
    → Grows A New c.dag (released c a how).dag
released_grows A New L calm c a how = by (holds a (committer_at c.committers a.partition))
  where
    by : (b : Bool) → Grows A New c.dag
        (if b then after_hold c.dag a.stage a.partition false else c.dag)
    by true = hold_grows A New L calm c.dag a.stage a.partition false
    by false = dag_same A New L calm c.dag.states

result_grows : (A : StageAttempt → StageAttempt → Type 0) (New : StageAttempt → Type 0)
    (L : Limits) → IsCalm A New L → (d : DagData) (a : AttemptId) (now : ℕ)
    → Grows A New d (after_result_success d a now)
result_grows A New L calm d a now = by (is_repeat d a)
  where
    won : DagData
    won = with_state (succeeded_in_both d a now) a.stage (with_result a.partition)

    wins : Grows A New d won
    wins =
        grows_then A New L calm d (succeeded_in_both d a now) won (both_grows A New L calm d a now)
        (dag_with A New L calm (succeeded_in_both d a now).states a.stage (with_result a.partition)
        (λ state. record { before = refl; attempts = grown_same A New L calm state.attempts }))

    done : (b : Bool) → Grows A New d (if b then with_state won a.stage completed else won)
    done true =
        grows_then A New L calm d won (with_state won a.stage completed) wins
        (completed_grows A New L calm won a.stage)
    done false = wins

    by : (b : Bool) → Grows A New d (if b then ended_in_own d a else completed_if won a.stage)
    by true = ended_grows A New L calm d a
    by false = done (is_complete won a.stage)

pub results_grow : (A : StageAttempt → StageAttempt → Type 0) (New : StageAttempt → Type 0)
    (L : Limits) → IsCalm A New L → (c after : CoreData) (r : Running) (answer : Answer)
    → TellsResult c r answer after → Grows A New c.dag after.dag
results_grow A New L calm c after r answer (told, is) =
    subst (λ (x : CoreData). Grows A New c.dag x.dag) (sym is) (by (result_success_of c.dag a))
  where
    a : AttemptId
    a = r.hand_out.attempt

    freed : CoreData
    freed = released c r.hand_out.attempt endings.Succeeded

    done : (b : Bool) (m : CoreData) → Grows A New c.dag m.dag → Grows A New c.dag (done_if b m).dag
    done true m h = h
    done false m h = h

    won : Grows A New c.dag (done_if (is_complete (with_result_of freed a).dag a.stage)
        (with_result_of freed a)).dag
    won =
        done (is_complete (with_result_of freed a).dag a.stage) (with_result_of freed a)
        (grows_then A New L calm c.dag freed.dag (with_result_of freed a).dag
        (released_grows A New L calm c a endings.Succeeded)
        (result_grows A New L calm freed.dag a freed.now))

    by : (s : Success) → Grows A New c.dag (after_result s c a).dag
    by successes.Repeated = result_grows A New L calm c.dag a c.now
    by successes.Registered = won
    by successes.Bogus = won
    by successes.Finished = won

-- ---- reports of failures, where a stage attempt that failed is no exception

failing_grows : (A : StageAttempt → StageAttempt → Type 0) (New : StageAttempt → Type 0)
    (L : Limits) → IsCalm A New L → ((x : StageAttempt) → A x (failed_attempt x))
    → (d after : DagData) (s number : ℕ) (verdict : Verdict) → d.limits ≡ L
    → FailsStage d s number verdict after → Grows A New d after
failing_grows A New L calm marks d after s number verdict same h = by verdict h
  where
    marked : Grows A New d (with_state d s (with_failed number))
    marked =
        dag_with A New L calm d.states s (with_failed number)
        (λ state. state_with A New L calm state (place_of_attempt state number) failed_attempt
        marks)

    by : (verdict : Verdict) → FailsStage d s number verdict after → Grows A New d after
    by verdicts.Limit (often, is) =
        subst (λ (x : DagData). Grows A New d x) (sym is) marked
    by verdicts.Again (often, sent) =
        grows_then A New L calm d (with_state d s (with_failed number)) after marked
        (dag_submitted A New L calm (with_state d s (with_failed number)) after (this_stage s) same
        sent)

misses_grow : (A : StageAttempt → StageAttempt → Type 0) (New : StageAttempt → Type 0)
    (L : Limits) → IsCalm A New L → ((x : StageAttempt) → A x (failed_attempt x))
    → (c after : CoreData) (a : AttemptId) (answer : Answer) → c.dag.limits ≡ L
    → Misses c a answer after → Grows A New c.dag after.dag
misses_grow A New L calm marks c after a answer same miss =
    by (is_of_newest c.dag a && not (is_complete c.dag a.stage)) miss
  where
    verdict_grows : (verdict : Verdict) (d : DagData) → Grows A New c.dag d
        → FailsOrAborts c a verdict d answer after → Grows A New c.dag after.dag
    verdict_grows verdicts.Again d h (told, is) =
        subst (λ (x : CoreData). Grows A New c.dag x.dag) (sym is) h
    verdict_grows verdicts.Limit d h (told, is) =
        subst (λ (x : CoreData). Grows A New c.dag x.dag) (sym is) h

    by : (b : Bool) → MissesIf b c a answer after → Grows A New c.dag after.dag
    by true (verdict, d, f, or) =
        verdict_grows verdict d
        (failing_grows A New L calm marks c.dag d a.stage a.stage_attempt verdict same
        f) or
    by false (told, is) =
        subst (λ (x : CoreData). Grows A New c.dag x.dag) (sym is)
        (dag_same A New L calm c.dag.states)

causes_grow : (A : StageAttempt → StageAttempt → Type 0) (New : StageAttempt → Type 0)
    (L : Limits) → IsCalm A New L → ((x : StageAttempt) → A x (failed_attempt x))
    → (c after : CoreData) (a : AttemptId) (cause : FailureCause) (zombie : Bool) (answer : Answer)
    → c.dag.limits ≡ L → FailsBy cause zombie c a answer after → Grows A New c.dag after.dag
causes_grow A New L calm marks c after a cause zombie answer limits h = by cause h
  where
    same : after ≡ c → Grows A New c.dag after.dag
    same is =
        subst (λ (x : CoreData). Grows A New c.dag x.dag) (sym is)
        (dag_same A New L calm c.dag.states)

    gone : (exec found : ℕ) (x y : Bool) → IsGone x y c a exec found answer after
        → Grows A New c.dag after.dag
    gone exec found true y k =
        misses_grow A New L calm marks (with_dag c (after_seen c.dag exec found)) after a answer
        limits
        k
    gone exec found false true (told, is) = same is
    gone exec found false false k = misses_grow A New L calm marks c after a answer limits k

    by : (cause : FailureCause) → FailsBy cause zombie c a answer after
        → Grows A New c.dag after.dag
    by (causes.Gone exec wanted found) k =
        gone exec found (is_newer (slice_get c.dag.tracker.trust exec) found) zombie k
    by (causes.Metadata last) k = misses_grow A New L calm marks c after a answer limits k
    by causes.Planned (told, is) = same is
    by (causes.Raised raise) (told, is) = same is
    by (causes.Device fault) (told, is) = same is
    by causes.Denied (told, is) = same is

-- once the failure is told to its own set
pub failures_grow : (A : StageAttempt → StageAttempt → Type 0) (New : StageAttempt → Type 0)
    (L : Limits) → IsCalm A New L → ((x : StageAttempt) → A x (failed_attempt x))
    → (b : Bool) (c after : CoreData) (a : AttemptId) (cause : FailureCause) (answer : Answer)
    → c.dag.limits ≡ L → TellsFailureIf b c a cause answer after
    → Grows A New (after_failed c.dag a cause) after.dag
failures_grow A New L calm marks b c after a cause answer same h = by b h
  where
    failed : CoreData
    failed = after_failure c a cause

    freed : Grows A New (after_failed c.dag a cause) (after_failure c a cause).dag
    freed = released_grows A New L calm (with_dag c (after_failed c.dag a cause)) a endings.Failed

    left : (after_failure c a cause).dag.limits ≡ c.dag.limits
    left = one (holds a (committer_at c.committers a.partition))
      where
        one : (x : Bool) → (if x then after_hold (after_failed c.dag a cause) a.stage a.partition
            false else after_failed c.dag a cause).limits ≡ c.dag.limits
        one true = refl
        one false = refl

    by : (b : Bool) → TellsFailureIf b c a cause answer after
        → Grows A New (after_failed c.dag a cause) after.dag
    by true (told, is) =
        subst (λ (x : CoreData). Grows A New (after_failed c.dag a cause) x.dag) (sym is) freed
    by false k =
        grows_then A New L calm (after_failed c.dag a cause) failed.dag after.dag freed
        (causes_grow A New L calm marks failed after a cause (is_zombie_in (set_of c.dag a)) answer
        (left ∙ same) k)

-- ---- reports and events, where no failure is an exception either

own_failure_grows : (A : StageAttempt → StageAttempt → Type 0) (New : StageAttempt → Type 0)
    (L : Limits) → IsCalm A New L
    → ((x : StageAttempt) (p nth : ℕ) (cause : FailureCause)
    → A x (with_set (λ s. set_after_failure s p nth cause) x))
    → (d : DagData) (a : AttemptId) (cause : FailureCause) → Grows A New d (after_failed d a cause)
own_failure_grows A New L calm fails d a cause =
    dag_with A New L calm d.states a.stage _
    (λ state. state_with A New L calm state (place_of_attempt state a.stage_attempt)
    (with_set (λ s. set_after_failure s a.partition a.nth cause))
    (λ x. fails x a.partition a.nth cause))

-- what every failure leaves
pub failed_grows : (A : StageAttempt → StageAttempt → Type 0) (New : StageAttempt → Type 0)
    (L : Limits) → IsCalm A New L
    → ((x : StageAttempt) (p nth : ℕ) (cause : FailureCause)
    → A x (with_set (λ s. set_after_failure s p nth cause) x))
    → (c : CoreData) (a : AttemptId) (cause : FailureCause)
    → Grows A New c.dag (after_failure c a cause).dag
failed_grows A New L calm fails c a cause =
    grows_then A New L calm c.dag (after_failed c.dag a cause) (after_failure c a cause).dag
    (own_failure_grows A New L calm fails c.dag a cause)
    (released_grows A New L calm (with_dag c (after_failed c.dag a cause)) a endings.Failed)

tells_grow : (A : StageAttempt → StageAttempt → Type 0) (New : StageAttempt → Type 0)
    (L : Limits) → IsCalm A New L → ((x : StageAttempt) → A x (failed_attempt x))
    → ((x : StageAttempt) (p nth : ℕ) (cause : FailureCause)
    → A x (with_set (λ s. set_after_failure s p nth cause) x))
    → (c after : CoreData) (r : Running) (outcome : Outcome) (answer : Answer) → c.dag.limits ≡ L
    → Tells c r outcome answer after → Grows A New c.dag after.dag
tells_grow A New L calm marks fails c after r (outcomes.Map loc) answer same h =
    maps_grow A New L calm c after r loc answer same h
tells_grow A New L calm marks fails c after r outcomes.Result answer same h =
    results_grow A New L calm c after r answer h
tells_grow A New L calm marks fails c after r (outcomes.Failed cause) answer same h =
    let a : AttemptId = r.hand_out.attempt in
    grows_then A New L calm c.dag (after_failed c.dag a cause) after.dag
    (own_failure_grows A New L calm fails c.dag a cause)
    (failures_grow A New L calm marks (reaches_limit_in (set_of c.dag a) a cause) c after a cause
    answer same h)

pub takes_grow : (A : StageAttempt → StageAttempt → Type 0) (New : StageAttempt → Type 0)
    (L : Limits) → IsCalm A New L
    → (c after : CoreData) (exec : ℕ) (answer : Answer) → Takes c exec answer after
    → Grows A New c.dag after.dag
takes_grow A New L calm c after exec answer h = by (takes_so c after exec answer h)
  where
    by : TakesSo c after exec answer → Grows A New c.dag after.dag
    by (inl t) =
        subst (λ (x : CoreData). Grows A New c.dag x.dag) (sym t.is)
        (handed_grows A New L calm c.dag t.task.attempt exec c.now)
    by (inr (inl b)) =
        subst (λ (x : CoreData). Grows A New c.dag x.dag) (sym b.is)
        (dag_same A New L calm c.dag.states)
    by (inr (inr same)) =
        subst (λ (x : CoreData). Grows A New c.dag x.dag) (sym same.is)
        (dag_same A New L calm c.dag.states)

-- ---- losses

all_grow : (A : StageAttempt → StageAttempt → Type 0) (New : StageAttempt → Type 0)
    (L : Limits) → IsCalm A New L → (these : List AttemptId) (c : CoreData)
    → Grows A New c.dag (all_released these c).dag
all_grow A New L calm [] c = dag_same A New L calm c.dag.states
all_grow A New L calm (a ∷ these) c =
    let next = released c a endings.Failed in
    grows_then A New L calm c.dag next.dag (all_released these next).dag
    (released_grows A New L calm c a endings.Failed) (all_grow A New L calm these next)

lost_grows : (A : StageAttempt → StageAttempt → Type 0) (New : StageAttempt → Type 0)
    (L : Limits) → IsCalm A New L → (d : DagData) (exec : ℕ) → Grows A New d (after_lost d exec)
lost_grows A New L calm d exec s =
    rw (slice_get-map (losses.without_executor exec) d.states s) (by (slice_get d.states s))
  where
    by : (o : Option StageState)
        → GrownIn A New o (option_map (losses.without_executor exec) o)
    by None = tt
    by (Some state) =
        record {
          before = refl;
          attempts = grown_map A New state.attempts (with_set (λ set. after_loss set exec))
              (λ x. calm.loses x exec);
        }

pub losses_grow : (A : StageAttempt → StageAttempt → Type 0) (New : StageAttempt → Type 0)
    (L : Limits) → IsCalm A New L → (c after : CoreData) (exec : ℕ) (answer : Answer)
    → Loses c exec answer after → Grows A New c.dag after.dag
losses_grow A New L calm c after exec answer step =
    subst (λ x. Grows A New c.dag x) (sym (losses_come c after exec answer step).dag)
    (grows_then A New L calm c.dag from.dag (without_executor c exec).dag
    (lost_grows A New L calm c.dag exec)
    (all_grow A New L calm (attempts_on exec c.running) from))
  where
    from : CoreData
    from = with_dag c (after_lost c.dag exec)

-- ---- events

comes_grow : (A : StageAttempt → StageAttempt → Type 0) (New : StageAttempt → Type 0)
    (L : Limits) → IsCalm A New L → ((x : StageAttempt) → A x (failed_attempt x))
    → ((x : StageAttempt) (p nth : ℕ) (cause : FailureCause)
    → A x (with_set (λ s. set_after_failure s p nth cause) x))
    → (c after : CoreData) (event : Event) (answer : Answer) → c.dag.limits ≡ L
    → Comes c after event answer → Grows A New c.dag after.dag
comes_grow A New L calm marks fails c after event answer same (inl q) =
    may_hold_grows A New L calm c.dag after.dag q.dag
comes_grow A New L calm marks fails c after event answer same (inr h) =
    subst (λ d. Grows A New d after.dag) h.dag
    (tells_grow A New L calm marks fails h.mid after h.one h.outcome answer
    (ap (λ (d : DagData). d.limits) h.dag ∙ same) h.tells)

pub steps_grow : (A : StageAttempt → StageAttempt → Type 0) (New : StageAttempt → Type 0)
    (L : Limits) → IsCalm A New L → ((x : StageAttempt) → A x (failed_attempt x))
    → ((x : StageAttempt) (p nth : ℕ) (cause : FailureCause)
    → A x (with_set (λ s. set_after_failure s p nth cause) x))
    → (c after : CoreData) (event : Event) (answer : Answer) → c.dag.limits ≡ L
    → Steps c event answer after → Grows A New c.dag after.dag
steps_grow A New L calm marks fails c after (Take exec) answer same step =
    takes_grow A New L calm c after exec answer step
steps_grow A New L calm marks fails c after (Post a outcome) answer same step =
    comes_grow A New L calm marks fails c after (Post a outcome) answer same
    (posts_come c after a outcome answer step)
steps_grow A New L calm marks fails c after (Release key) answer same step =
    comes_grow A New L calm marks fails c after (Release key) answer same
    (releases_come c after key answer step)
steps_grow A New L calm marks fails c after (Side event) answer same step =
    comes_grow A New L calm marks fails c after (Side event) answer same
    (sides_come c after event answer step)
steps_grow A New L calm marks fails c after (TellLost exec) answer same step =
    losses_grow A New L calm c after exec answer step
