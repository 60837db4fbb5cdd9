-- What becomes of the stages and the results of a job, by what happens to its core.
use Rattle.std.proofs.Common.{◌≡◌, ◌≢◌, ℕ, ◌<◌, ◌&&◌, not, Bool, true, false, if◌then◌else◌, List, [], ◌∷◌, inl, inr, true≢false, Option, Some, None, slice_get, refl, ap, sym, subst, ◌∙◌, rules}
use Rattle.sc_ids.specs.Changes.{change_at}
use Rattle.sc_ids.specs.declared.attempts.AttemptId.{AttemptId}
use Rattle.sc_ids.specs.declared.blocks.Loc.{Loc}
use Rattle.sc_ids.specs.declared.failures.FailureCause.{FailureCause}
use Rattle.sc_ids.specs.declared.failures.FailureCause.TheVariants as causes
use Rattle.sc_commit.specs.Committers.{committer_at}
use Rattle.sc_commit.specs.Committing.{holds, is_same}
use Rattle.sc_commit.specs.declared.committers.Ending.{Ending}
use Rattle.sc_commit.specs.declared.committers.Ending.TheVariants as endings
use Rattle.sc_taskset.specs.Offers.{handed}
use Rattle.sc_taskset.specs.declared.tasks.Verdict.{Verdict}
use Rattle.sc_taskset.specs.declared.tasks.Verdict.TheVariants as verdicts
use Rattle.sc_tracker.specs.Tracking.{is_bogus}
use Rattle.sc_tracker.specs.Trust.{is_newer}
use Rattle.sc_dag.specs.DagData.{DagData, changed_newest, stage_at}
use Rattle.sc_dag.specs.Losses.{after_lost, after_seen}
use Rattle.sc_dag.specs.Offers.{handed_out}
use Rattle.sc_dag.specs.Outputs.{is_complete, results_in}
use Rattle.sc_dag.specs.Reports.{after_failed, after_hold, after_map_success, ended_in_own, is_finished_short, is_of_newest, is_repeat, map_success_of, reaches_limit_in, set_of}
use Rattle.sc_dag.specs.Sound.{runner_of}
use Rattle.sc_dag.specs.Submission.{is_map, this_stage}
use Rattle.sc_dag.specs.declared.reports.Success.{Success}
use Rattle.sc_dag.specs.declared.reports.Success.TheVariants as successes
use Rattle.sc_dag.proofs.Tests.{both_left, not_true}
use Rattle.sc_core.specs.CoreData.{CoreData, job_runs, result_stage, running_of, shelved_of, with_dag}
use Rattle.sc_core.specs.Losses.{Loses, all_released, attempts_on, without_executor}
use Rattle.sc_core.specs.Releases.{Releases}
use Rattle.sc_core.specs.Posts.{Posts, PostsIf, PostsOf, fits}
use Rattle.sc_core.specs.Sound.{IsSoundCore, IsSoundJob}
use Rattle.sc_core.specs.Takes.{Takes}
use Rattle.sc_core.specs.Tells.{FailsBy, FailsOrAborts, FollowsUp, IsGone, LooksAgain, Misses, MissesIf, Tells, TellsFailure, TellsFailureIf, TellsMap, TellsResult, after_failure, after_result, done_if, is_zombie_in, released, success_answer, with_result_of}
use Rattle.sc_core.specs.declared.answers.Answer.{Answer}
use Rattle.sc_core.specs.declared.answers.Answer.TheVariants as says
use Rattle.sc_core.specs.declared.events.Event.{Event}
use Rattle.sc_core.specs.declared.events.Event.TheVariants.{Post, Release}
use Rattle.sc_core.specs.declared.events.Outcome.{Outcome}
use Rattle.sc_core.specs.declared.events.Outcome.TheVariants as outcomes
use Rattle.sc_core.specs.declared.running.Running.{Running}
use Rattle.sc_core.specs.declared.running.Shelved.{Shelved}
use Rattle.sc_core.proofs.LossLemmas.{lost_results}
use Rattle.sc_core.specs.Sides.{IsAside, MayHold}
use Rattle.sc_core.proofs.MoveLemmas.{state_results}
use Rattle.sc_core.proofs.ResultLemmas.{runs_results}
use Rattle.sc_core.proofs.SetLemmas.{nothing}
use Rattle.sc_core.proofs.StageCallLemmas.{completes_calm, completes_results, fails_calm, fails_results, submitted_calm, submitted_results}
use Rattle.sc_core.proofs.StepLemmas.{posted}
use Rattle.sc_core.proofs.TaskCallLemmas.{ended_moves, ended_results, failed_moves, failed_results, hold_calms, hold_results, map_moves, map_results, result_moves, seen_calm}
use Rattle.sc_history.specs.Tellings.{Telling, telling, tellings_in, told_late}
use Rattle.sc_history.proofs.Events.{Comes, losses_come, posts_come, releases_come}
use Rattle.sc_history.proofs.StageRoomLemmas.{result_tracker}
use Rattle.sc_desk.proofs.RoomLemmas.{completes_rooms, fails_rooms, lost_rooms, map_rooms, rooms, seen_rooms, submitted_rooms}
use Rattle.sc_desk.proofs.DagLemmas.{Leaves, SameJob, hold_wants, leaves_itself, leaves_of, leaves_then, new_result, repeated_result, same_of, same_then, with_one, within_stage}
use Rattle.sc_core.proofs.TakeCases.{TakesSo, takes_so}

-- a core whose stages are those of another one, or leave what they leave
left_with : (c after : CoreData) (d : DagData) → Leaves c.dag d → after.dag ≡ d
    → Leaves c.dag after.dag
left_with c after d h is = subst (λ x. Leaves c.dag x) (sym is) h

left_as : (c after x : CoreData) → x.dag ≡ c.dag → after ≡ x → Leaves c.dag after.dag
left_as c after x same is =
    left_with c after c.dag (leaves_itself c.dag) (ap (λ (y : CoreData). y.dag) is ∙ same)

-- ---- partitions that are held back

-- whether a partition is held back is no result
may_leave : (c after : CoreData) → MayHold c.dag after.dag → Leaves c.dag after.dag
may_leave c after (inl same) = left_with c after c.dag (leaves_itself c.dag) same
may_leave c after (inr (s, p, denied, same)) =
    left_with c after (after_hold c.dag s p denied)
    (leaves_of nothing None c.dag (after_hold c.dag s p denied) (hold_calms c.dag s p denied)
    refl (hold_results c.dag s p denied)) same

-- what happens beside the reports
pub aside_leaves : (c after : CoreData) → IsAside c after → Leaves c.dag after.dag
aside_leaves c after is = may_leave c after is.dag

-- ---- successes

looks_leave : (x y : Bool) (d after : DagData) (s : ℕ) → LooksAgain x y d s after
    → Leaves d after
looks_leave true y d after s is =
    leaves_of nothing None d after (completes_calm d s after is) (completes_rooms d after s is)
    (completes_results d s after is)
looks_leave false true d after s is =
    leaves_of nothing None d after (submitted_calm d after (this_stage s) is)
    (submitted_rooms d after (this_stage s) is) (submitted_results d after (this_stage s) is)
looks_leave false false d after s is = subst (λ x. Leaves d x) (sym is) (leaves_itself d)

follows_leave : (success : Success) (d after : DagData) (s : ℕ) → FollowsUp success d s after
    → Leaves d after
follows_leave successes.Repeated d after s is =
    subst (λ x. Leaves d x) (sym is) (leaves_itself d)
follows_leave successes.Registered d after s h =
    looks_leave (is_complete d s) (is_finished_short d s) d after s h
follows_leave successes.Bogus d after s h =
    looks_leave (is_complete d s) (is_finished_short d s) d after s h
follows_leave successes.Finished d after s h =
    looks_leave (is_complete d s) (is_finished_short d s) d after s h

map_leaves : (c after : CoreData) (r : Running) (loc : Loc) (answer : Answer)
    → TellsMap c r loc answer after → Leaves c.dag after.dag
map_leaves c after r loc answer (next, up, says, is) =
    left_with c after next
    (leaves_then c.dag mid next
    (leaves_of (is_same a) None c.dag mid (map_moves c.dag a loc r.hand_out.epoch c.now)
    (map_rooms c.dag a loc r.hand_out.epoch c.now) (map_results c.dag a loc r.hand_out.epoch c.now))
    (follows_leave (map_success_of c.dag a loc r.hand_out.epoch) mid next a.stage up))
    (ap (λ (x : CoreData). x.dag) is)
  where
    a : AttemptId
    a = r.hand_out.attempt

    mid : DagData
    mid = after_map_success c.dag r.hand_out.attempt loc r.hand_out.epoch c.now

-- it isn't answered that a result is there
map_says : (c after : CoreData) (r : Running) (loc : Loc)
    → TellsMap c r loc says.Finished after → ⊥
map_says c after r loc (next, up, told, is) =
    by (is_repeat c.dag r.hand_out.attempt)
    (is_bogus c.dag.tracker loc r.hand_out.epoch) told
  where
    by : (x y : Bool)
        → says.Finished ≡ success_answer (if x then successes.Repeated
        else if y then successes.Bogus else successes.Registered) → ⊥
    by true y e = search (rules, e)
    by false true e = search (rules, e)
    by false false e = search (rules, e)

-- a grant is freed
freed_leaves : (c : CoreData) (a : AttemptId) (how : Ending)
    → Leaves c.dag (released c a how).dag
freed_leaves c a how = by (holds a (committer_at c.committers a.partition))
  where
    by : (b : Bool)
        → Leaves c.dag (if b then after_hold c.dag a.stage a.partition false else c.dag)
    by true =
        leaves_of nothing None c.dag (after_hold c.dag a.stage a.partition false)
        (hold_calms c.dag a.stage a.partition false) refl
        (hold_results c.dag a.stage a.partition false)
    by false = leaves_itself c.dag

freed_repeat : (c : CoreData) (a : AttemptId) (how : Ending)
    → is_repeat (released c a how).dag a ≡ is_repeat c.dag a
freed_repeat c a how = by (holds a (committer_at c.committers a.partition))
  where
    by : (b : Bool)
        → is_repeat (if b then after_hold c.dag a.stage a.partition false else c.dag) a
        ≡ is_repeat c.dag a
    by true = ap (λ b. not b) (hold_wants c.dag a.stage a.partition a.partition false)
    by false = refl

done_dag : (b : Bool) (c : CoreData) → (done_if b c).dag ≡ c.dag
done_dag true c = refl
done_dag false c = refl

-- one result more is there
pub record Wins (d : DagData) (a : AttemptId) (after : DagData) : Type 0 where
  pub job : SameJob d after
  pub results : results_in (slice_get after.states a.stage) ≡ with_one d a

-- what the success of a result task leaves, by whether it is a repeated one
abbrev LeavesOrWins : Bool → CoreData → AttemptId → Answer → CoreData → Type 0
LeavesOrWins true c a answer after = (answer ≡ says.Repeated) × Leaves c.dag after.dag
LeavesOrWins false c a answer after = (answer ≡ says.Finished) × Wins c.dag a after.dag

result_leaves : (c after : CoreData) (r : Running) (answer : Answer)
    → TellsResult c r answer after
    → LeavesOrWins (is_repeat c.dag r.hand_out.attempt) c r.hand_out.attempt answer after
result_leaves c after r answer (is, left) = by (is_repeat c.dag a) refl is left
  where
    a : AttemptId
    a = r.hand_out.attempt

    freed : CoreData
    freed = released c r.hand_out.attempt endings.Succeeded

    next : CoreData
    next = with_result_of (released c r.hand_out.attempt endings.Succeeded) r.hand_out.attempt

    won : is_repeat c.dag a ≡ false → Wins c.dag a next.dag
    won e =
        record {
          job = same_then c.dag freed.dag next.dag
              (freed_leaves c a endings.Succeeded).job
              (same_of (is_same a) None freed.dag next.dag
              (result_moves freed.dag a freed.now)
              (ap rooms (result_tracker freed.dag a freed.now)));
          results = new_result freed.dag a freed.now
              (freed_repeat c a endings.Succeeded ∙ e)
              ∙ ap (λ rs. change_at rs a.partition (λ _. true))
              ((freed_leaves c a endings.Succeeded).results a.stage);
        }

    by : (b : Bool) → is_repeat c.dag a ≡ b
        → answer ≡ success_answer (if b then successes.Repeated else successes.Finished)
        → after ≡ after_result (if b then successes.Repeated else successes.Finished) c a
        → LeavesOrWins b c a answer after
    by true e told is = (
      told,
      left_with c after (ended_in_own c.dag a)
          (leaves_of (is_same a) None c.dag (ended_in_own c.dag a) (ended_moves c.dag a)
          refl (ended_results c.dag a))
          (ap (λ (x : CoreData). x.dag) is ∙ repeated_result c.dag a c.now e),
    )
    by false e told is = (
      told,
      let same : after.dag ≡ next.dag =
          ap (λ (x : CoreData). x.dag) is ∙ done_dag (is_complete next.dag a.stage) next in
          record {
            job = subst (λ x. SameJob c.dag x) (sym same) (won e).job;
            results = ap (λ (x : DagData). results_in (slice_get x.states a.stage)) same
                ∙ (won e).results;
          },
    )

-- ---- failures

misses_leave : (c after : CoreData) (a : AttemptId) (answer : Answer) → Misses c a answer after
    → Leaves c.dag after.dag
misses_leave c after a answer miss =
    by (is_of_newest c.dag a && not (is_complete c.dag a.stage)) miss
  where
    verdict_leaves : (verdict : Verdict) (d : DagData) → Leaves c.dag d
        → FailsOrAborts c a verdict d answer after → Leaves c.dag after.dag
    verdict_leaves verdicts.Limit d h (says, is) =
        left_with c after d h (ap (λ (x : CoreData). x.dag) is)
    verdict_leaves verdicts.Again d h (says, is) =
        left_with c after d h (ap (λ (x : CoreData). x.dag) is)

    by : (b : Bool) → MissesIf b c a answer after → Leaves c.dag after.dag
    by true (verdict, d, f, or) =
        verdict_leaves verdict d
        (leaves_of nothing None c.dag d (fails_calm c.dag a.stage a.stage_attempt verdict d f)
        (fails_rooms c.dag d a.stage a.stage_attempt verdict f)
        (fails_results c.dag a.stage a.stage_attempt verdict d f)) or
    by false (says, is) = left_as c after c refl is

cause_leaves :
    (c after : CoreData) (a : AttemptId) (cause : FailureCause) (zombie : Bool) (answer : Answer)
    → FailsBy cause zombie c a answer after → Leaves c.dag after.dag
cause_leaves c after a (causes.Gone exec wanted found) zombie answer h =
    by (is_newer (slice_get c.dag.tracker.trust exec) found) zombie h
  where
    seen : DagData
    seen = after_seen c.dag exec found

    by : (x y : Bool) → IsGone x y c a exec found answer after → Leaves c.dag after.dag
    by true y k =
        leaves_then c.dag seen after.dag
        (leaves_of nothing None c.dag seen (seen_calm c.dag exec found)
        (seen_rooms c.dag exec found) (λ s. refl))
        (misses_leave (with_dag c seen) after a answer k)
    by false true (says, is) = left_as c after c refl is
    by false false k = misses_leave c after a answer k
cause_leaves c after a (causes.Metadata last) zombie answer h = misses_leave c after a answer h
cause_leaves c after a causes.Planned zombie answer (says, is) = left_as c after c refl is
cause_leaves c after a (causes.Raised raise) zombie answer (says, is) = left_as c after c refl is
cause_leaves c after a (causes.Device fault) zombie answer (says, is) = left_as c after c refl is
cause_leaves c after a causes.Denied zombie answer (says, is) = left_as c after c refl is

failure_leaves :
    (c after : CoreData) (r : Running) (cause : FailureCause) (answer : Answer)
    → TellsFailure c r cause answer after → Leaves c.dag after.dag
failure_leaves c after r cause answer tells =
    by (reaches_limit_in (set_of c.dag a) a cause) tells
  where
    a : AttemptId
    a = r.hand_out.attempt

    failed : CoreData
    failed = after_failure c r.hand_out.attempt cause

    fails : Leaves c.dag failed.dag
    fails =
        leaves_then c.dag (after_failed c.dag a cause) failed.dag
        (leaves_of (is_same a) None c.dag (after_failed c.dag a cause)
        (failed_moves c.dag a cause) refl (failed_results c.dag a cause))
        (freed_leaves (with_dag c (after_failed c.dag a cause)) a endings.Failed)

    by : (b : Bool) → TellsFailureIf b c a cause answer after → Leaves c.dag after.dag
    by true (says, is) = left_with c after failed.dag fails (ap (λ (x : CoreData). x.dag) is)
    by false h =
        leaves_then c.dag failed.dag after.dag fails
        (cause_leaves failed after a cause (is_zombie_in (set_of c.dag a)) answer h)

-- a failure isn't answered so either
misses_say : (c after : CoreData) (a : AttemptId) → Misses c a says.Finished after → ⊥
misses_say c after a miss =
    by (is_of_newest c.dag a && not (is_complete c.dag a.stage)) miss
  where
    verdict_says : (verdict : Verdict) (d : DagData)
        → FailsOrAborts c a verdict d says.Finished after → ⊥
    verdict_says verdicts.Limit d (e, is) = search (rules, e)
    verdict_says verdicts.Again d (e, is) = search (rules, e)

    by : (b : Bool) → MissesIf b c a says.Finished after → ⊥
    by true (verdict, d, f, or) = verdict_says verdict d or
    by false (e, is) = search (rules, e)

cause_says :
    (c after : CoreData) (a : AttemptId) (cause : FailureCause) (zombie : Bool)
    → FailsBy cause zombie c a says.Finished after → ⊥
cause_says c after a (causes.Gone exec wanted found) zombie h =
    by (is_newer (slice_get c.dag.tracker.trust exec) found) zombie h
  where
    by : (x y : Bool) → IsGone x y c a exec found says.Finished after → ⊥
    by true y k = misses_say (with_dag c (after_seen c.dag exec found)) after a k
    by false true (e, is) = search (rules, e)
    by false false k = misses_say c after a k
cause_says c after a (causes.Metadata last) zombie h = misses_say c after a h
cause_says c after a causes.Planned zombie (e, is) = search (rules, e)
cause_says c after a (causes.Raised raise) zombie (e, is) = search (rules, e)
cause_says c after a (causes.Device fault) zombie (e, is) = search (rules, e)
cause_says c after a causes.Denied zombie (e, is) = search (rules, e)

failure_says :
    (c after : CoreData) (r : Running) (cause : FailureCause)
    → TellsFailure c r cause says.Finished after → ⊥
failure_says c after r cause tells =
    by (reaches_limit_in (set_of c.dag r.hand_out.attempt) r.hand_out.attempt cause) tells
  where
    by : (b : Bool) → TellsFailureIf b c r.hand_out.attempt cause says.Finished after → ⊥
    by true (e, is) = search (rules, e)
    by false h =
        cause_says (after_failure c r.hand_out.attempt cause) after r.hand_out.attempt cause
        (is_zombie_in (set_of c.dag r.hand_out.attempt)) h

-- what is told first of some tellings
abbrev attempt_told : List Telling → AttemptId
attempt_told [] = record { stage = 0; stage_attempt = 0; partition = 0; nth = 0 }
attempt_told (t ∷ ts) = t.attempt

abbrev outcome_told : List Telling → Outcome
outcome_told [] = outcomes.Result
outcome_told (t ∷ ts) = t.outcome

-- ---- events

pub takes_leave : (c after : CoreData) (exec : ℕ) (answer : Answer) → Takes c exec answer after
    → Leaves c.dag after.dag
takes_leave c after exec answer h = by (takes_so c after exec answer h)
  where
    by : TakesSo c after exec answer → Leaves c.dag after.dag
    by (inl t) =
        left_with c after (handed_out c.dag t.task.attempt exec c.now)
        (record {
          job = record { stages = refl; limits = refl; rooms = refl };
          results = state_results c.dag t.task.attempt.stage
              (changed_newest (λ set. handed set t.task.attempt.partition exec c.now))
              (λ state. refl);
        })
        (ap (λ (x : CoreData). x.dag) t.is)
    by (inr (inl b)) = left_as c after _ refl b.is
    by (inr (inr same)) = left_as c after c refl same.is

-- no report that isn't answered so wins a result
tells_leave :
    (c after : CoreData) (r : Running) (outcome : Outcome) (answer : Answer)
    → Tells c r outcome answer after → answer ≢ says.Finished → Leaves c.dag after.dag
tells_leave c after r outcome answer tells other = of outcome tells
  where
    result : (b : Bool) → LeavesOrWins b c r.hand_out.attempt answer after
        → Leaves c.dag after.dag
    result true h = h.1
    result false h = absurd (other h.0)

    of : (outcome : Outcome) → Tells c r outcome answer after → Leaves c.dag after.dag
    of (outcomes.Map loc) h = map_leaves c after r loc answer h
    of outcomes.Result h =
        result (is_repeat c.dag r.hand_out.attempt) (result_leaves c after r answer h)
    of (outcomes.Failed cause) h = failure_leaves c after r cause answer h

-- a result is won by the report of an attempt of the result stage that runs
pub record IsWon (c : CoreData) (a : AttemptId) (outcome : Outcome) (after : CoreData)
    : Type 0 where
  pub outcome_is : outcome ≡ outcomes.Result
  pub stage : a.stage ≡ result_stage c.dag
  pub within : a.partition < (stage_at c.dag a.stage).tasks
  pub wins : Wins c.dag a after.dag

-- what runs and isn't of a map stage is of the result stage
runs_last :
    (c : CoreData) (a : AttemptId) (exec : ℕ) → IsSoundJob c → runner_of c.dag a ≡ Some exec
    → is_map (stage_at c.dag a.stage).target ≡ false → a.stage ≡ result_stage c.dag
runs_last c a exec sound runs kind = by (running_of c a) refl
  where
    by : (o : Option Running) → running_of c a ≡ o → a.stage ≡ result_stage c.dag
    by None e = absurd (sound.known a exec runs e)
    by (Some r) e =
        let p = posted c a r sound e in
        subst (λ (b : AttemptId). b.stage ≡ result_stage c.dag) p.attempt
        (runs_results c r sound p.well
        (subst (λ (b : AttemptId). is_map (stage_at c.dag b.stage).target ≡ false)
        (sym p.attempt) kind))

tells_win :
    (c mid after : CoreData) (r : Running) (outcome : Outcome) → IsSoundJob c → mid.dag ≡ c.dag
    → runner_of c.dag r.hand_out.attempt ≡ Some r.exec → fits c r outcome ≡ true
    → Tells mid r outcome says.Finished after → IsWon c r.hand_out.attempt outcome after
tells_win c mid after r outcome sound same runs fit tells = of outcome fit tells
  where
    result : (b : Bool) → LeavesOrWins b mid r.hand_out.attempt says.Finished after
        → Wins c.dag r.hand_out.attempt after.dag
    result true (e, h) = absurd (search (rules, e))
    result false (e, h) = subst (λ d. Wins d r.hand_out.attempt after.dag) same h

    of : (outcome : Outcome) → fits c r outcome ≡ true → Tells mid r outcome says.Finished after
        → IsWon c r.hand_out.attempt outcome after
    of (outcomes.Map loc) fit h = absurd (map_says mid after r loc h)
    of (outcomes.Failed cause) fit h = absurd (failure_says mid after r cause h)
    of outcomes.Result fit h =
        let kind : is_map (stage_at c.dag r.hand_out.attempt.stage).target ≡ false =
        not_true (is_map (stage_at c.dag r.hand_out.attempt.stage).target)
        (both_left _ _ fit) in
        record {
          outcome_is = refl;
          stage = runs_last c r.hand_out.attempt r.exec sound runs kind;
          within = within_stage c.dag r.hand_out.attempt r.exec sound.dag runs;
          wins = result (is_repeat mid.dag r.hand_out.attempt)
              (result_leaves mid after r says.Finished h);
        }

-- ---- any report

-- a report that is told, or to be told later, leaves the results where it isn't answered that one
-- is there
comes_leave :
    (c after : CoreData) (event : Event) (answer : Answer) → Comes c after event answer
    → answer ≢ says.Finished → Leaves c.dag after.dag
comes_leave c after event answer (inl quiet) other = may_leave c after quiet.dag
comes_leave c after event answer (inr heard) other =
    subst (λ d. Leaves d after.dag) heard.dag
    (tells_leave heard.mid after heard.one heard.outcome answer heard.tells other)

-- and wins one where it is
record Won (c after : CoreData) (event : Event) : Type 0 where
  attempt : AttemptId
  outcome : Outcome
  told : tellings_in c event says.Finished ≡ telling attempt outcome says.Finished ∷ []
  is_won : IsWon c attempt outcome after

comes_win :
    (c after : CoreData) (event : Event) → IsSoundCore c → Comes c after event says.Finished
    → Won c after event
comes_win c after event sound (inl quiet) = absurd (true≢false quiet.unfinished)
comes_win c after event sound (inr heard) =
    let known = heard.known sound in
    record {
      attempt = heard.one.hand_out.attempt;
      outcome = heard.outcome;
      told = known.told;
      is_won = tells_win c heard.mid after heard.one heard.outcome sound.job heard.dag
          known.in_set known.fit heard.tells;
    }

-- ---- reports that are posted

pub posts_leave :
    (c after : CoreData) (a : AttemptId) (outcome : Outcome) (answer : Answer)
    → Posts c a outcome answer after → answer ≢ says.Finished → Leaves c.dag after.dag
posts_leave c after a outcome answer step other =
    comes_leave c after (Post a outcome) answer (posts_come c after a outcome answer step) other

pub posts_win :
    (c after : CoreData) (a : AttemptId) (outcome : Outcome) → IsSoundCore c
    → Posts c a outcome says.Finished after → IsWon c a outcome after
posts_win c after a outcome sound step =
    let w = comes_win c after (Post a outcome) sound
    (posts_come c after a outcome says.Finished step) in
    subst (λ t. IsWon c (attempt_told t) (outcome_told t) after) (sym w.told) w.is_won

-- a report that isn't ignored is of an attempt that runs
pub record IsTold (c : CoreData) (a : AttemptId) : Type 0 where
  pub one : Running
  pub runs : job_runs c ≡ true
  pub running : running_of c a ≡ Some one

pub posts_told :
    (c after : CoreData) (a : AttemptId) (outcome : Outcome) (answer : Answer)
    → Posts c a outcome answer after → answer ≢ says.Ignored → IsTold c a
posts_told c after a outcome answer step other = by (job_runs c) refl step
  where
    of : (o : Option Running) → running_of c a ≡ o → job_runs c ≡ true
        → PostsOf o c a outcome answer after → IsTold c a
    of None e runs (is, left) = absurd (other is)
    of (Some r) e runs h = record { one = r; runs = runs; running = e }

    by : (b : Bool) → job_runs c ≡ b → PostsIf b c a outcome answer after → IsTold c a
    by false e (is, left) = absurd (other is)
    by true e h = of (running_of c a) refl e h

-- ---- reports that are taken off the shelf

pub releases_leave :
    (c after : CoreData) (key : ℕ) (answer : Answer) → Releases c key answer after
    → answer ≢ says.Finished → Leaves c.dag after.dag
releases_leave c after key answer step other =
    comes_leave c after (Release key) answer (releases_come c after key answer step) other

-- a result is won by the report under the key
pub record IsWonLate (c : CoreData) (key : ℕ) (after : CoreData) : Type 0 where
  pub report : Shelved
  pub found : shelved_of c key ≡ Some report
  pub is_won : IsWon c report.attempt report.outcome after

pub releases_win :
    (c after : CoreData) (key : ℕ) → IsSoundCore c → Releases c key says.Finished after
    → IsWonLate c key after
releases_win c after key sound step = by (shelved_of c key) refl w.told
  where
    w : Won c after (Release key)
    w = comes_win c after (Release key) sound (releases_come c after key says.Finished step)

    by : (o : Option Shelved) → shelved_of c key ≡ o
        → told_late o says.Finished ≡ telling w.attempt w.outcome says.Finished ∷ []
        → IsWonLate c key after
    by None e told = absurd (search (rules, told))
    by (Some s) e told =
        record {
          report = s;
          found = e;
          is_won = subst (λ t. IsWon c (attempt_told t) (outcome_told t) after) (sym told) w.is_won;
        }

-- ---- losses

freed_all :
    (these : List AttemptId) (c : CoreData) → Leaves c.dag (all_released these c).dag
freed_all [] c = leaves_itself c.dag
freed_all (a ∷ these) c =
    leaves_then c.dag (released c a endings.Failed).dag
    (all_released these (released c a endings.Failed)).dag (freed_leaves c a endings.Failed)
    (freed_all these (released c a endings.Failed))

pub losses_leave :
    (c after : CoreData) (exec : ℕ) (answer : Answer) → Loses c exec answer after
    → Leaves c.dag after.dag
losses_leave c after exec answer step =
    left_with c after (without_executor c exec).dag
    (leaves_then c.dag (after_lost c.dag exec) (without_executor c exec).dag
    (record {
      job = record { stages = refl; limits = refl; rooms = lost_rooms c.dag exec };
      results = lost_results c.dag exec;
    })
    (freed_all (attempts_on exec c.running) (with_dag c (after_lost c.dag exec))))
    (losses_come c after exec answer step).dag
