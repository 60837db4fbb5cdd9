-- What a told report does to what the core knows of places.
use Rattle.std.proofs.Common.{◌≡◌, ◌⊎◌, inl, inr, ◌&&◌, not, ℕ, Bool, true, false, Option, Some, None, slice_get, refl, ap, sym, subst, ◌∙◌}
use Rattle.sc_ids.specs.declared.attempts.AttemptId.{AttemptId}
use Rattle.sc_ids.specs.declared.blocks.BlockId.{BlockId}
use Rattle.sc_ids.specs.declared.blocks.Loc.{Loc}
use Rattle.sc_ids.specs.declared.failures.FailureCause.{FailureCause}
use Rattle.sc_ids.specs.declared.failures.FailureCause.TheVariants as causes
use Rattle.sc_commit.specs.Committers.{committer_at}
use Rattle.sc_commit.specs.Committing.{ended, holds}
use Rattle.sc_commit.specs.declared.committers.Ending.{Ending}
use Rattle.sc_commit.specs.declared.committers.Ending.TheVariants as endings
use Rattle.sc_taskset.specs.declared.tasks.Verdict.{Verdict}
use Rattle.sc_taskset.specs.declared.tasks.Verdict.TheVariants as verdicts
use Rattle.sc_tracker.specs.Tracking.{is_bogus}
use Rattle.sc_tracker.specs.Trust.{is_newer}
use Rattle.sc_base.specs.Lists.{at_or}
use Rattle.sc_dag.specs.DagData.{DagData, StageState, changed_newest, changed_set, no_stage, stage_at, with_state}
use Rattle.sc_dag.specs.Losses.{after_seen}
use Rattle.sc_dag.specs.Outputs.{is_complete}
use Rattle.sc_dag.specs.Reports.{CompletesMap, FailsStage, after_failed, after_map_success, after_result_success, block_by, completed, completed_if, ended_in_own, in_own_set, is_finished_short, is_of_newest, is_repeat, map_success_of, reaches_limit_in, result_success_of, set_of, succeeded_in_both, succeeded_in_own, told_held, with_failed, with_output, with_result}
use Rattle.sc_dag.specs.Submission.{IsSubmitted, this_stage, waiting_stages}
use Rattle.sc_dag.specs.declared.reports.Success.{Success}
use Rattle.sc_dag.specs.declared.reports.Success.TheVariants as successes
use Rattle.sc_core.specs.CoreData.{CoreData, with_dag}
use Rattle.sc_core.specs.Posts.{is_save}
use Rattle.sc_core.specs.Tells.{FailsBy, FailsOrAborts, FollowsUp, IsGone, LooksAgain, Misses, MissesIf, TellsFailure, TellsFailureIf, TellsMap, TellsResult, after_failure, after_result, done_if, is_zombie_in, released, with_result_of}
use Rattle.sc_core.specs.declared.answers.Answer.{Answer}
use Rattle.sc_core.specs.declared.events.Outcome.{Outcome}
use Rattle.sc_core.specs.declared.events.Outcome.TheVariants as outcomes
use Rattle.sc_core.specs.declared.running.Running.{Running}
use Rattle.sc_core.proofs.LeftLemmas.{same_saves}
use Rattle.sc_taskset.specs.Reports.{after_end, after_success}
use Rattle.sc_taskset.specs.Reports.{after_failure as after_failure_of}
use Rattle.sc_taskset.specs.TaskSetData.{TaskSetData}
use Rattle.sc_world.specs.Tracks.{Learns, ReportsMoveTrackers, Tracks, own_block}

-- ---- stages

-- the stages and the tracker stay
pub record Same (d after : DagData) : Type 0 where
  pub stages : after.stages ≡ d.stages
  pub tracker : after.tracker ≡ d.tracker

same_then : (c d e : DagData) → Same c d → Same d e → Same c e
same_then c d e h k =
    record { stages = k.stages ∙ h.stages; tracker = k.tracker ∙ h.tracker }

itself : (d : DagData) → Same d d
itself d = record { stages = refl; tracker = refl }

-- one stage changed
one_same : (d : DagData) (s : ℕ) (f : StageState → StageState) → Same d (with_state d s f)
one_same d s f = record { stages = refl; tracker = refl }

of_equal : (d after : DagData) → after ≡ d → Same d after
of_equal d after is = subst (λ x. Same d x) (sym is) (itself d)

submitted_same : (d after : DagData) (submitted : ℕ → Bool)
    → IsSubmitted d submitted after → Same d after
submitted_same d after submitted (looked, are, is) =
    record {
      stages = ap (λ (x : DagData). x.stages) is;
      tracker = ap (λ (x : DagData). x.tracker) is;
    }

completes_same : (d after : DagData) (s : ℕ) → CompletesMap d s after → Same d after
completes_same d after s is =
    same_then d (with_state d s completed) after (one_same d s completed)
    (submitted_same (with_state d s completed) after
    (waiting_stages (with_state d s completed)) is)

fails_same : (d after : DagData) (s number : ℕ) (verdict : Verdict)
    → FailsStage d s number verdict after → Same d after
fails_same d after s number verdicts.Limit (often, is) =
    subst (λ x. Same d x) (sym is) (one_same d s (with_failed number))
fails_same d after s number verdicts.Again (often, is) =
    same_then d (with_state d s (with_failed number)) after
    (one_same d s (with_failed number))
    (submitted_same (with_state d s (with_failed number)) after (this_stage s) is)

-- a call of the attempt's own set
own_same : (d : DagData) (a : AttemptId) (change : TaskSetData → TaskSetData)
    → Same d (in_own_set d a change)
own_same d a change =
    one_same d a.stage (changed_set a.stage_attempt change)

both_same : (d : DagData) (a : AttemptId) (now : ℕ) → Same d (succeeded_in_both d a now)
both_same d a now = by (is_of_newest d a) refl
  where
    by : (b : Bool) → is_of_newest d a ≡ b → Same d (succeeded_in_both d a now)
    by true e = rw e (own_same d a (λ set. after_success set a.partition (Some a.nth) now))
    by false e =
        rw e (same_then d (succeeded_in_own d a now) _
        (own_same d a (λ set. after_success set a.partition (Some a.nth) now))
        (one_same (succeeded_in_own d a now) a.stage
        (changed_newest (λ set. after_success set a.partition None now))))

result_same : (d : DagData) (a : AttemptId) (now : ℕ) → Same d (after_result_success d a now)
result_same d a now = by (is_repeat d a) refl
  where
    mid : DagData
    mid = with_state (succeeded_in_both d a now) a.stage (with_result a.partition)

    won : Same d mid
    won =
        same_then d (succeeded_in_both d a now) mid (both_same d a now)
        (one_same (succeeded_in_both d a now) a.stage (with_result a.partition))

    done : (b : Bool) → is_complete mid a.stage ≡ b → Same mid (completed_if mid a.stage)
    done true e = rw e (one_same mid a.stage completed)
    done false e = rw e (itself mid)

    by : (b : Bool) → is_repeat d a ≡ b → Same d (after_result_success d a now)
    by true e = rw e (own_same d a (λ set. after_end set a.partition a.nth))
    by false e =
        rw e (same_then d mid (completed_if mid a.stage) won
        (done (is_complete mid a.stage) refl))

-- ---- what the tracker may learn

-- the stages stay, and the tracker learns at most what is told
pub record Heard (d : DagData) (block : Option BlockId) (outcome : Outcome) (after : DagData)
    : Type 0 where
  pub stages : after.stages ≡ d.stages
  pub tracker : (after.tracker ≡ d.tracker) ⊎ Learns d.tracker block outcome after.tracker

nothing_heard : (d : DagData) (block : Option BlockId) (outcome : Outcome) (after : DagData)
    → Same d after → Heard d block outcome after
nothing_heard d block outcome after h =
    record { stages = h.stages; tracker = inl h.tracker }

heard_then : (d : DagData) (block : Option BlockId) (outcome : Outcome) (mid after : DagData)
    → Heard d block outcome mid → Same mid after → Heard d block outcome after
heard_then d block outcome mid after h k =
    record {
      stages = k.stages ∙ h.stages;
      tracker = by h.tracker;
    }
  where
    by : (mid.tracker ≡ d.tracker) ⊎ Learns d.tracker block outcome mid.tracker
        → (after.tracker ≡ d.tracker) ⊎ Learns d.tracker block outcome after.tracker
    by (inl e) = inl (k.tracker ∙ e)
    by (inr l) = inr (subst (λ t. Learns d.tracker block outcome t) (sym k.tracker) l)

map_heard : (d : DagData) (a : AttemptId) (loc : Loc) (epoch now : ℕ)
    → Heard d (block_by (stage_at d a.stage).target a.partition) (outcomes.Map loc)
    (after_map_success d a loc epoch now)
map_heard d a loc epoch now = by (is_repeat d a) (is_bogus d.tracker loc epoch) refl refl
  where
    block : Option BlockId
    block = block_by (stage_at d a.stage).target a.partition

    placed : (o : Option BlockId) → block ≡ o
        → Heard d block (outcomes.Map loc) (with_output d a loc)
    placed None e = rw e (record { stages = refl; tracker = inl refl })
    placed (Some b) e = rw e (record { stages = refl; tracker = inr refl })

    by : (x y : Bool) → is_repeat d a ≡ x → is_bogus d.tracker loc epoch ≡ y
        → Heard d block (outcomes.Map loc) (after_map_success d a loc epoch now)
    by true y e f =
        rw e (nothing_heard d block (outcomes.Map loc) (ended_in_own d a)
        (own_same d a (λ set. after_end set a.partition a.nth)))
    by false true e f =
        rw (e, f) (nothing_heard d block (outcomes.Map loc) (succeeded_in_own d a now)
        (own_same d a (λ set. after_success set a.partition (Some a.nth) now)))
    by false false e f =
        rw (e, f) (heard_then d block (outcomes.Map loc) (with_output d a loc)
        (succeeded_in_both (with_output d a loc) a now) (placed block refl)
        (both_same (with_output d a loc) a now))

follows_same : (success : Success) (mid : DagData) (s : ℕ) (after : DagData)
    → FollowsUp success mid s after → Same mid after
follows_same success mid s after h = by success h
  where
    looks : (x y : Bool) → LooksAgain x y mid s after → Same mid after
    looks true y k = completes_same mid after s k
    looks false true k = submitted_same mid after (this_stage s) k
    looks false false k = of_equal mid after k

    by : (success : Success) → FollowsUp success mid s after → Same mid after
    by successes.Repeated k = of_equal mid after k
    by successes.Registered k = looks (is_complete mid s) (is_finished_short mid s) k
    by successes.Bogus k = looks (is_complete mid s) (is_finished_short mid s) k
    by successes.Finished k = looks (is_complete mid s) (is_finished_short mid s) k

-- ---- cores

tracks_dag : (c : CoreData) (a : AttemptId) (outcome : Outcome) (d : DagData)
    → Heard c.dag (own_block c a) outcome d → Tracks c a outcome (with_dag c d)
tracks_dag c a outcome d h =
    record {
      stages = h.stages;
      tracker = h.tracker;
      stays = refl;
      saves = refl;
    }

tracks_same : (c : CoreData) (a : AttemptId) (outcome : Outcome) (mid after : CoreData)
    → Tracks c a outcome mid → after.dag ≡ mid.dag → after.left_first ≡ mid.left_first
    → after.committers ≡ mid.committers → Tracks c a outcome after
tracks_same c a outcome mid after h dag stays saves =
    record {
      stages = ap (λ (d : DagData). d.stages) dag ∙ h.stages;
      tracker = subst (λ (d : DagData). (d.tracker ≡ c.dag.tracker)
          ⊎ Learns c.dag.tracker (own_block c a) outcome d.tracker) (sym dag) h.tracker;
      stays = stays ∙ h.stays;
      saves = ap is_save saves ∙ h.saves;
    }

map_tracks : (c after : CoreData) (r : Running) (loc : Loc) (answer : Answer)
    → TellsMap c r loc answer after → Tracks c r.hand_out.attempt (outcomes.Map loc) after
map_tracks c after r loc answer (next, up, says, is) =
    subst (λ x. Tracks c a (outcomes.Map loc) x) (sym is)
    (tracks_dag c a (outcomes.Map loc) next
    (heard_then c.dag (own_block c a) (outcomes.Map loc) mid next
    (map_heard c.dag a loc r.hand_out.epoch c.now)
    (follows_same (map_success_of c.dag a loc r.hand_out.epoch) mid a.stage next up)))
  where
    a : AttemptId
    a = r.hand_out.attempt

    mid : DagData
    mid = after_map_success c.dag r.hand_out.attempt loc r.hand_out.epoch c.now

-- grants are freed
pub record Frees (c after : CoreData) : Type 0 where
  pub dag : Same c.dag after.dag
  pub stays : after.left_first ≡ c.left_first
  pub saves : is_save after.committers ≡ is_save c.committers

pub released_frees : (c : CoreData) (a : AttemptId) (how : Ending) → Frees c (released c a how)
released_frees c a how =
    record {
      dag = by (holds a (committer_at c.committers a.partition)) refl;
      stays = refl;
      saves = same_saves c.committers a.partition (ended a how);
    }
  where
    by : (b : Bool) → holds a (committer_at c.committers a.partition) ≡ b
        → Same c.dag (released c a how).dag
    by true e =
        rw e (one_same c.dag a.stage (told_held a.partition false))
    by false e = rw e (itself c.dag)

pub frees_itself : (c : CoreData) → Frees c c
frees_itself c = record { dag = itself c.dag; stays = refl; saves = refl }

pub frees_then : (a b c : CoreData) → Frees a b → Frees b c → Frees a c
frees_then a b c h k =
    record {
      dag = same_then a.dag b.dag c.dag h.dag k.dag;
      stays = k.stays ∙ h.stays;
      saves = k.saves ∙ h.saves;
    }

result_tracks : (c after : CoreData) (r : Running) (answer : Answer)
    → TellsResult c r answer after → Tracks c r.hand_out.attempt outcomes.Result after
result_tracks c after r answer (says, is) =
    subst (λ x. Tracks c a outcomes.Result x) (sym is) (by (result_success_of c.dag a))
  where
    a : AttemptId
    a = r.hand_out.attempt

    freed : CoreData
    freed = released c r.hand_out.attempt endings.Succeeded

    one : Tracks c r.hand_out.attempt outcomes.Result (with_result_of c r.hand_out.attempt)
    one =
        tracks_dag c a outcomes.Result (after_result_success c.dag a c.now)
        (nothing_heard c.dag (own_block c a) outcomes.Result
        (after_result_success c.dag a c.now) (result_same c.dag a c.now))

    won : Tracks c r.hand_out.attempt outcomes.Result
        (with_result_of freed r.hand_out.attempt)
    won =
        let f : Frees c freed = released_frees c a endings.Succeeded in
        let s : Same freed.dag (with_result_of freed a).dag =
        result_same freed.dag a freed.now in
        record {
          stages = s.stages ∙ f.dag.stages;
          tracker = inl (s.tracker ∙ f.dag.tracker);
          stays = f.stays;
          saves = f.saves;
        }

    done : (b : Bool) → Tracks c r.hand_out.attempt outcomes.Result
        (done_if b (with_result_of freed r.hand_out.attempt))
    done true =
        tracks_same c a outcomes.Result (with_result_of freed a)
        (done_if true (with_result_of freed a)) won refl refl refl
    done false = won

    by : (s : Success) → Tracks c r.hand_out.attempt outcomes.Result
        (after_result s c r.hand_out.attempt)
    by successes.Repeated = one
    by successes.Registered = done (is_complete (with_result_of freed a).dag a.stage)
    by successes.Bogus = done (is_complete (with_result_of freed a).dag a.stage)
    by successes.Finished = done (is_complete (with_result_of freed a).dag a.stage)

-- what a miss leaves of the state that it is told to
misses_same : (c after : CoreData) (a : AttemptId) (answer : Answer)
    → Misses c a answer after → Frees c after
misses_same c after a answer miss =
    by (is_of_newest c.dag a && not (is_complete c.dag a.stage)) miss
  where
    judged : (verdict : Verdict) (d : DagData)
        → FailsStage c.dag a.stage a.stage_attempt verdict d
        → FailsOrAborts c a verdict d answer after → Frees c after
    judged verdicts.Limit d f (says, is) =
        subst (λ x. Frees c x) (sym is)
        (record {
          dag = fails_same c.dag d a.stage a.stage_attempt verdicts.Limit f;
          stays = refl;
          saves = refl;
        })
    judged verdicts.Again d f (says, is) =
        subst (λ x. Frees c x) (sym is)
        (record {
          dag = fails_same c.dag d a.stage a.stage_attempt verdicts.Again f;
          stays = refl;
          saves = refl;
        })

    by : (b : Bool) → MissesIf b c a answer after → Frees c after
    by true (verdict, d, f, or) = judged verdict d f or
    by false (says, is) =
        subst (λ x. Frees c x) (sym is)
        (frees_itself c)

quiet_tracks : (c after : CoreData) (a : AttemptId) (outcome : Outcome) → Frees c after
    → Tracks c a outcome after
quiet_tracks c after a outcome f =
    record {
      stages = f.dag.stages;
      tracker = inl f.dag.tracker;
      stays = f.stays;
      saves = f.saves;
    }

frees_same : (c after : CoreData) → after ≡ c → Frees c after
frees_same c after is =
    subst (λ x. Frees c x) (sym is) (frees_itself c)

cause_tracks :
    (c after : CoreData) (a : AttemptId) (cause : FailureCause) (zombie : Bool) (answer : Answer)
    → FailsBy cause zombie c a answer after → Tracks c a (outcomes.Failed cause) after
cause_tracks c after a (causes.Gone exec wanted found) zombie answer h =
    by (is_newer (slice_get c.dag.tracker.trust exec) found) zombie h
  where
    by : (x y : Bool) → IsGone x y c a exec found answer after
        → Tracks c a (outcomes.Failed (causes.Gone exec wanted found)) after
    by true y k =
        let f : Frees (with_dag c (after_seen c.dag exec found)) after =
        misses_same (with_dag c (after_seen c.dag exec found)) after a answer k in
        record {
          stages = f.dag.stages;
          tracker = inr f.dag.tracker;
          stays = f.stays;
          saves = f.saves;
        }
    by false true (says, is) = quiet_tracks c after a _ (frees_same c after is)
    by false false k = quiet_tracks c after a _ (misses_same c after a answer k)
cause_tracks c after a (causes.Metadata last) zombie answer h =
    quiet_tracks c after a _ (misses_same c after a answer h)
cause_tracks c after a causes.Planned zombie answer (says, is) =
    quiet_tracks c after a _ (frees_same c after is)
cause_tracks c after a (causes.Raised raise) zombie answer (says, is) =
    quiet_tracks c after a _ (frees_same c after is)
cause_tracks c after a (causes.Device fault) zombie answer (says, is) =
    quiet_tracks c after a _ (frees_same c after is)
cause_tracks c after a causes.Denied zombie answer (says, is) =
    quiet_tracks c after a _ (frees_same c after is)

-- the state behind a failure is like the one before
failed_frees : (c : CoreData) (a : AttemptId) (cause : FailureCause)
    → Frees c (after_failure c a cause)
failed_frees c a cause =
    let f : Frees (with_dag c (after_failed c.dag a cause)) (after_failure c a cause) =
    released_frees (with_dag c (after_failed c.dag a cause)) a endings.Failed in
    record {
      dag = same_then c.dag (after_failed c.dag a cause) (after_failure c a cause).dag
          (own_same c.dag a (λ set. after_failure_of set a.partition a.nth cause)) f.dag;
      stays = f.stays;
      saves = f.saves;
    }

behind : (c mid after : CoreData) (a : AttemptId) (outcome : Outcome) → Frees c mid
    → Tracks mid a outcome after → Tracks c a outcome after
behind c mid after a outcome f h =
    record {
      stages = h.stages ∙ f.dag.stages;
      tracker = by h.tracker;
      stays = h.stays ∙ f.stays;
      saves = h.saves ∙ f.saves;
    }
  where
    block : own_block mid a ≡ own_block c a
    block = ap (λ stages. block_by (at_or stages a.stage no_stage).target a.partition) f.dag.stages

    by : (after.dag.tracker ≡ mid.dag.tracker)
        ⊎ Learns mid.dag.tracker (own_block mid a) outcome after.dag.tracker
        → (after.dag.tracker ≡ c.dag.tracker)
        ⊎ Learns c.dag.tracker (own_block c a) outcome after.dag.tracker
    by (inl e) = inl (e ∙ f.dag.tracker)
    by (inr l) =
        inr (subst (λ t. Learns t (own_block c a) outcome after.dag.tracker) f.dag.tracker
        (subst (λ b. Learns mid.dag.tracker b outcome after.dag.tracker) block l))

failure_tracks :
    (c after : CoreData) (r : Running) (cause : FailureCause) (answer : Answer)
    → TellsFailure c r cause answer after
    → Tracks c r.hand_out.attempt (outcomes.Failed cause) after
failure_tracks c after r cause answer tells =
    by (reaches_limit_in (set_of c.dag a) a cause) tells
  where
    a : AttemptId
    a = r.hand_out.attempt

    f : Frees c (after_failure c r.hand_out.attempt cause)
    f = failed_frees c r.hand_out.attempt cause

    by : (b : Bool) → TellsFailureIf b c a cause answer after
        → Tracks c r.hand_out.attempt (outcomes.Failed cause) after
    by true (says, is) =
        subst (λ x. Tracks c a (outcomes.Failed cause) x) (sym is)
        (record {
          stages = f.dag.stages;
          tracker = inl f.dag.tracker;
          stays = f.stays;
          saves = f.saves;
        })
    by false h =
        behind c (after_failure c a cause) after a (outcomes.Failed cause) f
        (cause_tracks (after_failure c a cause) after a cause (is_zombie_in (set_of c.dag a))
        answer h)

pub reports_move_trackers : ReportsMoveTrackers
reports_move_trackers c after r (outcomes.Map loc) answer h = map_tracks c after r loc answer h
reports_move_trackers c after r outcomes.Result answer h = result_tracks c after r answer h
reports_move_trackers c after r (outcomes.Failed cause) answer h =
    failure_tracks c after r cause answer h
