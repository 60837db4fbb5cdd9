-- What a told report leaves, as far as it tells how much may still happen.
use Rattle.std.proofs.Common.{◌≡◌, ℕ, zero, suc, ◌&&◌, not, Bool, true, false, if◌then◌else◌, List, [], ◌∷◌, length, Option, None, slice_get, refl, sym, subst, ◌∙◌}
use Rattle.sc_ids.specs.declared.attempts.AttemptId.{AttemptId}
use Rattle.sc_ids.specs.declared.blocks.Loc.{Loc}
use Rattle.sc_ids.specs.declared.failures.FailureCause.{FailureCause}
use Rattle.sc_ids.specs.declared.failures.FailureCause.TheVariants as causes
use Rattle.sc_commit.specs.Committers.{committer_at}
use Rattle.sc_commit.specs.Committing.{holds, is_same}
use Rattle.sc_commit.specs.Committing as commit
use Rattle.sc_commit.specs.declared.committers.Committer.{Committer}
use Rattle.sc_ids.specs.Changes.{change_at}
use Rattle.sc_commit.specs.declared.committers.Ending.{Ending}
use Rattle.sc_commit.specs.declared.committers.Ending.TheVariants as endings
use Rattle.sc_taskset.specs.declared.tasks.Verdict.{Verdict}
use Rattle.sc_taskset.specs.declared.tasks.Verdict.TheVariants as verdicts
use Rattle.sc_tracker.specs.Trust.{is_newer}
use Rattle.sc_tracker.specs.TrackerData.{trust_of}
use Rattle.sc_dag.specs.DagData.{DagData}
use Rattle.sc_dag.specs.Losses.{after_seen}
use Rattle.sc_dag.specs.Outputs.{is_complete}
use Rattle.sc_dag.specs.Reports.{FailsStage, after_failed, after_hold, after_map_success, after_result_success, is_finished_short, is_of_newest, map_success_of, reaches_limit_in, result_success_of, set_of}
use Rattle.sc_dag.specs.Submission.{this_stage}
use Rattle.sc_dag.specs.declared.reports.Success.{Success}
use Rattle.sc_dag.specs.declared.reports.Success.TheVariants as successes
use Rattle.sc_core.specs.CoreData.{CoreData, ended, is_running_job, job_runs, with_dag}
use Rattle.sc_core.specs.Posts.{is_save}
use Rattle.sc_core.specs.Sound.{was_given}
use Rattle.sc_core.specs.Tells.{FailsBy, FailsOrAborts, FollowsUp, IsGone, LooksAgain, Misses, MissesIf, Tells, TellsFailure, TellsFailureIf, TellsMap, TellsResult, after_failure, after_result, done_if, is_zombie_in, limit_of, released, with_result_of}
use Rattle.sc_core.specs.declared.answers.Abort.TheVariants.{StageLimit}
use Rattle.sc_core.specs.declared.answers.Answer.{Answer}
use Rattle.sc_core.specs.declared.answers.JobState.{JobState}
use Rattle.sc_core.specs.declared.answers.JobState.TheVariants as jobs
use Rattle.sc_core.specs.declared.events.Outcome.{Outcome}
use Rattle.sc_core.specs.declared.events.Outcome.TheVariants as outcomes
use Rattle.sc_core.specs.declared.running.Running.{Running}
use Rattle.sc_core.proofs.StageCallLemmas.{completes_calm, fails_calm, submitted_calm}
use Rattle.sc_core.proofs.TaskCallLemmas.{failed_moves, hold_calms, map_moves, result_moves, seen_calm}
use Rattle.sc_core.proofs.MoveLemmas.{Calm, Moves, moves_then, still}
use Rattle.sc_core.proofs.SetLemmas.{nothing}
use Rattle.sc_dag.proofs.Tests.{clash}

-- What a told report leaves, as far as it may run: the limits, what was handed out, and what runs.
pub record Left (c after : CoreData) : Type 0 where
  pub limits : after.dag.limits ≡ c.dag.limits
  pub handed : after.handed ≡ c.handed
  pub running : after.running ≡ c.running
  -- what is to be told later is dropped with the job's end alone
  pub shelf : job_runs after ≡ true → after.shelf ≡ c.shelf
  pub next_key : after.next_key ≡ c.next_key
  pub stages : after.dag.stages ≡ c.dag.stages
  pub saves : is_save after.committers ≡ is_save c.committers
  -- what was handed out stays so
  pub given : (b : AttemptId) → was_given c.dag b ≡ true → was_given after.dag b ≡ true
  pub plan : after.plan ≡ c.plan
  pub told : after.told ≡ c.told
  -- nobody is told lost
  pub many : length after.dag.tracker.trust ≡ length c.dag.tracker.trust
  pub lost : (e : ℕ) → (trust_of after.dag.tracker e).lost ≡ (trust_of c.dag.tracker e).lost
  -- a job that has ended doesn't run again
  pub runs : job_runs after ≡ true → job_runs c ≡ true

pub left_then : (a b c : CoreData) → Left a b → Left b c → Left a c
left_then a b c h k =
    record {
      limits = k.limits ∙ h.limits;
      handed = k.handed ∙ h.handed;
      running = k.running ∙ h.running;
      shelf = λ r. k.shelf r ∙ h.shelf (k.runs r);
      next_key = k.next_key ∙ h.next_key;
      stages = k.stages ∙ h.stages;
      saves = k.saves ∙ h.saves;
      given = λ d g. k.given d (h.given d g);
      plan = k.plan ∙ h.plan;
      told = k.told ∙ h.told;
      many = k.many ∙ h.many;
      lost = λ e. k.lost e ∙ h.lost e;
      runs = λ r. h.runs (k.runs r);
    }

-- other stages, in which other attempts run
left_dag :
    (test : AttemptId → Bool) (new : Option ℕ) (c : CoreData) (d : DagData)
    → Moves test new c.dag d → Left c (with_dag c d)
left_dag test new c d moves =
    record {
      limits = moves.limits;
      handed = refl;
      running = refl;
      shelf = λ r. refl;
      next_key = refl;
      stages = moves.stages;
      saves = refl;
      given = moves.given;
      plan = refl;
      told = refl;
      many = moves.many;
      lost = moves.lost;
      runs = λ r. r;
    }

-- the same core
pub left_same : (c : CoreData) → Left c c
left_same c =
    record {
      limits = refl;
      handed = refl;
      running = refl;
      shelf = λ r. refl;
      next_key = refl;
      stages = refl;
      saves = refl;
      given = λ b g. g;
      plan = refl;
      told = refl;
      many = refl;
      lost = λ e. refl;
      runs = λ r. r;
    }

-- a job that ends
left_ended : (c : CoreData) (job : JobState) → is_running_job job ≡ false → Left c (ended c job)
left_ended c job over =
    record {
      limits = refl;
      handed = refl;
      running = refl;
      shelf = λ r. absurd (clash r over);
      next_key = refl;
      stages = refl;
      saves = refl;
      given = λ b g. g;
      plan = refl;
      told = refl;
      many = refl;
      lost = λ e. refl;
      runs = λ r. absurd (clash r over);
    }

-- committers are as many as before
pub same_saves : (xs : List Committer) (i : ℕ) (f : Committer → Committer)
    → is_save (change_at xs i f) ≡ is_save xs
same_saves [] i f = refl
same_saves (x ∷ xs) zero f = refl
same_saves (x ∷ xs) (suc i) f = refl

pub released_left : (c : CoreData) (a : AttemptId) (how : Ending) → Left c (released c a how)
released_left c a how =
    record {
      limits = (by (holds a (committer_at c.committers a.partition))).limits;
      handed = refl;
      running = refl;
      shelf = λ r. refl;
      next_key = refl;
      stages = (by (holds a (committer_at c.committers a.partition))).stages;
      saves = same_saves c.committers a.partition (commit.ended a how);
      given = (by (holds a (committer_at c.committers a.partition))).given;
      plan = refl;
      told = refl;
      many = (by (holds a (committer_at c.committers a.partition))).many;
      lost = (by (holds a (committer_at c.committers a.partition))).lost;
      runs = λ r. r;
    }
  where
    by : (b : Bool) → Calm c.dag (if b then after_hold c.dag a.stage a.partition false else c.dag)
    by true = hold_calms c.dag a.stage a.partition false
    by false = still c.dag

map_left : (c after : CoreData) (r : Running) (loc : Loc) (answer : Answer)
    → TellsMap c r loc answer after → Left c after
map_left c after r loc answer (next, up, says, is) =
    subst (λ x. Left c x) (sym is)
    (left_dag (is_same a) None c next
    (moves_then (is_same a) None c.dag mid next (map_moves c.dag a loc r.hand_out.epoch c.now)
    (by (map_success_of c.dag a loc r.hand_out.epoch) up)))
  where
    a : AttemptId
    a = r.hand_out.attempt

    mid : DagData
    mid = after_map_success c.dag r.hand_out.attempt loc r.hand_out.epoch c.now

    looks : (x y : Bool) → LooksAgain x y mid a.stage next → Calm mid next
    looks true y h = completes_calm mid a.stage next h
    looks false true h = submitted_calm mid next (this_stage a.stage) h
    looks false false h = subst (λ x. Calm mid x) (sym h) (still mid)

    by : (s : Success) → FollowsUp s mid a.stage next → Calm mid next
    by successes.Repeated h = subst (λ x. Calm mid x) (sym h) (still mid)
    by successes.Registered h = looks (is_complete mid a.stage) (is_finished_short mid a.stage) h
    by successes.Bogus h = looks (is_complete mid a.stage) (is_finished_short mid a.stage) h
    by successes.Finished h = looks (is_complete mid a.stage) (is_finished_short mid a.stage) h

result_left : (c after : CoreData) (r : Running) (answer : Answer)
    → TellsResult c r answer after → Left c after
result_left c after r answer (says, is) =
    subst (λ x. Left c x) (sym is) (by (result_success_of c.dag a))
  where
    a : AttemptId
    a = r.hand_out.attempt

    freed : CoreData
    freed = released c r.hand_out.attempt endings.Succeeded

    one : (m : CoreData) → Left m (with_result_of m a)
    one m =
        left_dag (is_same a) None m (after_result_success m.dag a m.now)
        (result_moves m.dag a m.now)

    done : (b : Bool) (m : CoreData) → Left m (done_if b m)
    done true m = left_ended m jobs.Done refl
    done false m = left_same m

    won : Left c (done_if (is_complete (with_result_of freed a).dag a.stage)
        (with_result_of freed a))
    won =
        left_then c freed (done_if (is_complete (with_result_of freed a).dag a.stage)
        (with_result_of freed a))
        (released_left c a endings.Succeeded)
        (left_then freed (with_result_of freed a)
        (done_if (is_complete (with_result_of freed a).dag a.stage) (with_result_of freed a))
        (one freed)
        (done (is_complete (with_result_of freed a).dag a.stage) (with_result_of freed a)))

    by : (s : Success) → Left c (after_result s c a)
    by successes.Repeated = one c
    by successes.Registered = won
    by successes.Bogus = won
    by successes.Finished = won

misses_left : (c after : CoreData) (a : AttemptId) (answer : Answer)
    → Misses c a answer after → Left c after
misses_left c after a answer miss =
    by (is_of_newest c.dag a && not (is_complete c.dag a.stage)) miss
  where
    verdict_left : (verdict : Verdict) (d : DagData)
        → FailsStage c.dag a.stage a.stage_attempt verdict d
        → FailsOrAborts c a verdict d answer after → Left c after
    verdict_left verdicts.Limit d f (says, is) =
        subst (λ x. Left c x) (sym is)
        (left_then c (with_dag c d) (ended (with_dag c d) (jobs.Aborted (StageLimit a.stage)))
        (left_dag nothing None c d (fails_calm c.dag a.stage a.stage_attempt verdicts.Limit d f))
        (left_ended (with_dag c d) (jobs.Aborted (StageLimit a.stage)) refl))
    verdict_left verdicts.Again d f (says, is) =
        subst (λ x. Left c x) (sym is)
        (left_dag nothing None c d (fails_calm c.dag a.stage a.stage_attempt verdicts.Again d f))

    by : (b : Bool) → MissesIf b c a answer after → Left c after
    by true (verdict, d, f, or) = verdict_left verdict d f or
    by false (says, is) =
        subst (λ x. Left c x) (sym is) (left_same c)

pub cause_left :
    (c after : CoreData) (a : AttemptId) (cause : FailureCause) (zombie : Bool) (answer : Answer)
    → FailsBy cause zombie c a answer after → Left c after
cause_left c after a (causes.Gone exec wanted found) zombie answer h =
    by (is_newer (slice_get c.dag.tracker.trust exec) found) zombie h
  where
    by : (x y : Bool) → IsGone x y c a exec found answer after → Left c after
    by true y k =
        left_then c (with_dag c (after_seen c.dag exec found)) after
        (left_dag nothing None c (after_seen c.dag exec found) (seen_calm c.dag exec found))
        (misses_left (with_dag c (after_seen c.dag exec found)) after a answer k)
    by false true (says, is) =
        subst (λ x. Left c x) (sym is) (left_same c)
    by false false k = misses_left c after a answer k
cause_left c after a (causes.Metadata last) zombie answer h = misses_left c after a answer h
cause_left c after a causes.Planned zombie answer (says, is) =
    subst (λ x. Left c x) (sym is) (left_same c)
cause_left c after a (causes.Raised raise) zombie answer (says, is) =
    subst (λ x. Left c x) (sym is) (left_same c)
cause_left c after a (causes.Device fault) zombie answer (says, is) =
    subst (λ x. Left c x) (sym is) (left_same c)
cause_left c after a causes.Denied zombie answer (says, is) =
    subst (λ x. Left c x) (sym is) (left_same c)

failure_left :
    (c after : CoreData) (r : Running) (cause : FailureCause) (answer : Answer)
    → TellsFailure c r cause answer after → Left c after
failure_left c after r cause answer tells =
    by (reaches_limit_in (set_of c.dag a) a cause) tells
  where
    a : AttemptId
    a = r.hand_out.attempt

    left : Left c (after_failure c r.hand_out.attempt cause)
    left =
        left_then c (with_dag c (after_failed c.dag a cause))
        (after_failure c r.hand_out.attempt cause)
        (left_dag (is_same a) None c (after_failed c.dag a cause) (failed_moves c.dag a cause))
        (released_left (with_dag c (after_failed c.dag a cause)) a endings.Failed)

    by : (b : Bool) → TellsFailureIf b c a cause answer after → Left c after
    by true (says, is) =
        subst (λ x. Left c x) (sym is)
        (left_then c (after_failure c a cause)
        (ended (after_failure c a cause) (jobs.Aborted (limit_of a))) left
        (left_ended (after_failure c a cause) (jobs.Aborted (limit_of a)) refl))
    by false h =
        left_then c (after_failure c a cause) after left
        (cause_left (after_failure c a cause) after a cause (is_zombie_in (set_of c.dag a))
        answer h)

pub tells_left :
    (c after : CoreData) (r : Running) (outcome : Outcome) (answer : Answer)
    → Tells c r outcome answer after → Left c after
tells_left c after r (outcomes.Map loc) answer h = map_left c after r loc answer h
tells_left c after r outcomes.Result answer h = result_left c after r answer h
tells_left c after r (outcomes.Failed cause) answer h = failure_left c after r cause answer h
