-- The task sets that events begin are born no earlier than the events.
use Rattle.std.proofs.Common.{inl, inr, ℕ, ◌&&◌, not, Bool, true, false, if◌then◌else◌, List, [], ◌∷◌, slice_get, sym, subst}
use Rattle.sc_ids.specs.declared.attempts.AttemptId.{AttemptId}
use Rattle.sc_ids.specs.declared.blocks.Loc.{Loc}
use Rattle.sc_ids.specs.declared.failures.FailureCause.{FailureCause}
use Rattle.sc_commit.specs.Committers.{committer_at}
use Rattle.sc_commit.specs.Committing.{holds}
use Rattle.sc_commit.specs.declared.committers.Ending.{Ending}
use Rattle.sc_commit.specs.declared.committers.Ending.TheVariants as endings
use Rattle.sc_taskset.specs.declared.tasks.Verdict.{Verdict}
use Rattle.sc_taskset.specs.declared.tasks.Verdict.TheVariants as verdicts
use Rattle.sc_tracker.specs.Trust.{is_newer}
use Rattle.sc_dag.specs.DagData.{DagData}
use Rattle.sc_dag.specs.Losses.{after_lost, after_seen}
use Rattle.sc_dag.specs.Outputs.{is_complete}
use Rattle.sc_dag.specs.Reports.{after_failed, after_hold, after_map_success, is_finished_short, is_of_newest, map_success_of, reaches_limit_in, result_success_of, set_of}
use Rattle.sc_dag.specs.Submission.{this_stage}
use Rattle.sc_dag.specs.declared.reports.Success.{Success}
use Rattle.sc_dag.specs.declared.reports.Success.TheVariants as successes
use Rattle.sc_core.specs.CoreData.{CoreData, with_dag}
use Rattle.sc_core.specs.Losses.{Loses, all_released, attempts_on, without_executor}
use Rattle.sc_core.specs.Steps.{Steps}
use Rattle.sc_core.specs.Takes.{Takes}
use Rattle.sc_core.specs.Tells.{FailsBy, FailsOrAborts, FollowsUp, IsGone, LooksAgain, Misses, MissesIf, Tells, TellsFailure, TellsFailureIf, TellsMap, TellsResult, after_failure, after_result, done_if, is_zombie_in, released, with_result_of}
use Rattle.sc_core.specs.declared.answers.Answer.{Answer}
use Rattle.sc_core.specs.declared.events.Event.{Event}
use Rattle.sc_core.specs.declared.events.Event.TheVariants.{Post, Release, Side, Take, TellLost}
use Rattle.sc_core.specs.declared.events.Outcome.{Outcome}
use Rattle.sc_core.specs.declared.events.Outcome.TheVariants as outcomes
use Rattle.sc_core.specs.declared.running.Running.{Running}
use Rattle.sc_core.proofs.TakeCases.{TakesSo, takes_so}
use Rattle.sc_history.proofs.BirthLemmas.{Later, completes_later, failed_later, fails_later, handed_later, hold_later, later_is, later_same, later_then, lost_later, may_hold_later, map_later, result_later, seen_later, submitted_later}
use Rattle.sc_history.proofs.CauseCases.{CauseIs, cause_is}
use Rattle.sc_history.proofs.Events.{Comes, losses_come, posts_come, releases_come, sides_come}

-- ---- reports

released_later : (c : CoreData) (a : AttemptId) (how : Ending) → Later c.dag (released c a how).dag
released_later c a how = by (holds a (committer_at c.committers a.partition))
  where
    by : (b : Bool) → Later c.dag (if b then after_hold c.dag a.stage a.partition false else c.dag)
    by true = hold_later c.dag a.stage a.partition false
    by false = later_same c.dag

follows_later : (success : Success) (mid after : DagData) (s : ℕ) → FollowsUp success mid s after
    → Later mid after
follows_later success mid after s h = by success h
  where
    looks : (x y : Bool) → LooksAgain x y mid s after → Later mid after
    looks true y k = completes_later mid after s k
    looks false true k = submitted_later mid after (this_stage s) k
    looks false false is = later_is mid after is

    by : (success : Success) → FollowsUp success mid s after → Later mid after
    by successes.Repeated is = later_is mid after is
    by successes.Registered k = looks (is_complete mid s) (is_finished_short mid s) k
    by successes.Bogus k = looks (is_complete mid s) (is_finished_short mid s) k
    by successes.Finished k = looks (is_complete mid s) (is_finished_short mid s) k

maps_later : (c after : CoreData) (r : Running) (loc : Loc) (answer : Answer)
    → TellsMap c r loc answer after → Later c.dag after.dag
maps_later c after r loc answer (next, up, told, is) =
    subst (λ (x : CoreData). Later c.dag x.dag) (sym is)
    (later_then c.dag mid next (map_later c.dag a loc r.hand_out.epoch c.now)
    (follows_later (map_success_of c.dag a loc r.hand_out.epoch) mid next a.stage up))
  where
    a : AttemptId
    a = r.hand_out.attempt

    mid : DagData
    mid = after_map_success c.dag r.hand_out.attempt loc r.hand_out.epoch c.now

results_later : (c after : CoreData) (r : Running) (answer : Answer)
    → TellsResult c r answer after → Later c.dag after.dag
results_later c after r answer (told, is) =
    subst (λ (x : CoreData). Later c.dag x.dag) (sym is) (by (result_success_of c.dag a))
  where
    a : AttemptId
    a = r.hand_out.attempt

    freed : CoreData
    freed = released c r.hand_out.attempt endings.Succeeded

    done : (b : Bool) (m : CoreData) → Later c.dag m.dag → Later c.dag (done_if b m).dag
    done true m h = h
    done false m h = h

    won : Later c.dag (done_if (is_complete (with_result_of freed a).dag a.stage)
        (with_result_of freed a)).dag
    won =
        done (is_complete (with_result_of freed a).dag a.stage) (with_result_of freed a)
        (later_then c.dag freed.dag (with_result_of freed a).dag
        (released_later c a endings.Succeeded) (result_later freed.dag a freed.now))

    by : (s : Success) → Later c.dag (after_result s c a).dag
    by successes.Repeated = result_later c.dag a c.now
    by successes.Registered = won
    by successes.Bogus = won
    by successes.Finished = won

pub misses_later : (c after : CoreData) (a : AttemptId) (answer : Answer) → Misses c a answer after
    → Later c.dag after.dag
misses_later c after a answer miss =
    by (is_of_newest c.dag a && not (is_complete c.dag a.stage)) miss
  where
    verdict_later : (verdict : Verdict) (d : DagData) → Later c.dag d
        → FailsOrAborts c a verdict d answer after → Later c.dag after.dag
    verdict_later verdicts.Again d h (told, is) =
        subst (λ (x : CoreData). Later c.dag x.dag) (sym is) h
    verdict_later verdicts.Limit d h (told, is) =
        subst (λ (x : CoreData). Later c.dag x.dag) (sym is) h

    by : (b : Bool) → MissesIf b c a answer after → Later c.dag after.dag
    by true (verdict, d, f, or) =
        verdict_later verdict d (fails_later c.dag d a.stage a.stage_attempt verdict f) or
    by false (told, is) = subst (λ (x : CoreData). Later c.dag x.dag) (sym is) (later_same c.dag)

causes_later : (c after : CoreData) (a : AttemptId) (cause : FailureCause) (zombie : Bool)
    (answer : Answer) → FailsBy cause zombie c a answer after → Later c.dag after.dag
causes_later c after a cause zombie answer h = by (cause_is cause)
  where
    gone : (exec found : ℕ) (x y : Bool) → IsGone x y c a exec found answer after
        → Later c.dag after.dag
    gone exec found true y k =
        later_then c.dag (after_seen c.dag exec found) after.dag (seen_later c.dag exec found)
        (misses_later (with_dag c (after_seen c.dag exec found)) after a answer k)
    gone exec found false true (told, is) =
        subst (λ (x : CoreData). Later c.dag x.dag) (sym is) (later_same c.dag)
    gone exec found false false k = misses_later c after a answer k

    by : CauseIs cause → Later c.dag after.dag
    by (inl g) =
        gone g.exec g.found (is_newer (slice_get c.dag.tracker.trust g.exec) g.found) zombie
        (subst (λ x. FailsBy x zombie c a answer after) g.is h)
    by (inr (inl m)) =
        misses_later c after a answer (subst (λ x. FailsBy x zombie c a answer after) m.is h)
    by (inr (inr p)) =
        subst (λ (x : CoreData). Later c.dag x.dag) (sym (p.stays zombie c after a answer h).1)
        (later_same c.dag)

-- what every failure leaves
pub failure_later : (c : CoreData) (a : AttemptId) (cause : FailureCause)
    → Later c.dag (after_failure c a cause).dag
failure_later c a cause =
    later_then c.dag (after_failed c.dag a cause) (after_failure c a cause).dag
    (failed_later c.dag a cause)
    (released_later (with_dag c (after_failed c.dag a cause)) a endings.Failed)

failures_later : (c after : CoreData) (r : Running) (cause : FailureCause) (answer : Answer)
    → TellsFailure c r cause answer after → Later c.dag after.dag
failures_later c after r cause answer tells =
    by (reaches_limit_in (set_of c.dag a) a cause) tells
  where
    a : AttemptId
    a = r.hand_out.attempt

    by : (b : Bool) → TellsFailureIf b c a cause answer after → Later c.dag after.dag
    by true (told, is) =
        subst (λ (x : CoreData). Later c.dag x.dag) (sym is) (failure_later c a cause)
    by false h =
        later_then c.dag (after_failure c a cause).dag after.dag (failure_later c a cause)
        (causes_later (after_failure c a cause) after a cause (is_zombie_in (set_of c.dag a)) answer
        h)

tells_later : (c after : CoreData) (r : Running) (outcome : Outcome) (answer : Answer)
    → Tells c r outcome answer after → Later c.dag after.dag
tells_later c after r (outcomes.Map loc) answer h = maps_later c after r loc answer h
tells_later c after r outcomes.Result answer h = results_later c after r answer h
tells_later c after r (outcomes.Failed cause) answer h = failures_later c after r cause answer h

-- ---- events

comes_later : (c after : CoreData) (event : Event) (answer : Answer) → Comes c after event answer
    → Later c.dag after.dag
comes_later c after event answer (inl q) = may_hold_later c.dag after.dag q.dag
comes_later c after event answer (inr h) =
    subst (λ d. Later d after.dag) h.dag
    (tells_later h.mid after h.one h.outcome answer h.tells)

takes_later : (c after : CoreData) (exec : ℕ) (answer : Answer) → Takes c exec answer after
    → Later c.dag after.dag
takes_later c after exec answer h = by (takes_so c after exec answer h)
  where
    by : TakesSo c after exec answer → Later c.dag after.dag
    by (inl t) =
        subst (λ (x : CoreData). Later c.dag x.dag) (sym t.is)
        (handed_later c.dag t.task.attempt exec c.now)
    by (inr (inl b)) =
        subst (λ (x : CoreData). Later c.dag x.dag) (sym b.is) (later_same c.dag)
    by (inr (inr same)) =
        subst (λ (x : CoreData). Later c.dag x.dag) (sym same.is) (later_same c.dag)

all_later : (these : List AttemptId) (c : CoreData) → Later c.dag (all_released these c).dag
all_later [] c = later_same c.dag
all_later (a ∷ these) c =
    later_then c.dag (released c a endings.Failed).dag
    (all_released these (released c a endings.Failed)).dag (released_later c a endings.Failed)
    (all_later these (released c a endings.Failed))

losses_later : (c after : CoreData) (exec : ℕ) (answer : Answer) → Loses c exec answer after
    → Later c.dag after.dag
losses_later c after exec answer step =
    subst (λ x. Later c.dag x) (sym (losses_come c after exec answer step).dag)
    (later_then c.dag from.dag (without_executor c exec).dag (lost_later c.dag exec)
    (all_later (attempts_on exec c.running) from))
  where
    from : CoreData
    from = with_dag c (after_lost c.dag exec)

pub steps_later : (c after : CoreData) (event : Event) (answer : Answer)
    → Steps c event answer after → Later c.dag after.dag
steps_later c after (Take exec) answer step = takes_later c after exec answer step
steps_later c after (Post a outcome) answer step =
    comes_later c after (Post a outcome) answer (posts_come c after a outcome answer step)
steps_later c after (Release key) answer step =
    comes_later c after (Release key) answer (releases_come c after key answer step)
steps_later c after (Side event) answer step =
    comes_later c after (Side event) answer (sides_come c after event answer step)
steps_later c after (TellLost exec) answer step = losses_later c after exec answer step
