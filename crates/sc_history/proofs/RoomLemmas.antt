-- No event changes for how many outputs of a shuffle there is room.
use Rattle.std.proofs.Common.{◌≡◌, inl, inr, ℕ, List, ◌&&◌, not, Bool, true, false, if◌then◌else◌, [], ◌∷◌, slice_get, refl, ap, sym, subst, ◌∙◌}
use Rattle.sc_ids.specs.declared.attempts.AttemptId.{AttemptId}
use Rattle.sc_ids.specs.declared.blocks.Loc.{Loc}
use Rattle.sc_ids.specs.declared.failures.FailureCause.{FailureCause}
use Rattle.sc_ids.specs.declared.failures.FailureCause.TheVariants as causes
use Rattle.sc_commit.specs.Committers.{committer_at}
use Rattle.sc_commit.specs.Committing.{holds}
use Rattle.sc_commit.specs.declared.committers.Ending.{Ending}
use Rattle.sc_commit.specs.declared.committers.Ending.TheVariants as endings
use Rattle.sc_taskset.specs.declared.tasks.Verdict.{Verdict}
use Rattle.sc_taskset.specs.declared.tasks.Verdict.TheVariants as verdicts
use Rattle.sc_tracker.specs.Trust.{is_newer}
use Rattle.sc_dag.specs.DagData.{DagData}
use Rattle.sc_dag.specs.Losses.{after_lost, after_seen}
use Rattle.sc_dag.specs.Outputs.{is_complete}
use Rattle.sc_dag.specs.Reports.{after_failed, after_hold, after_map_success, is_of_newest, map_success_of, reaches_limit_in, result_success_of, set_of}
use Rattle.sc_dag.specs.declared.reports.Success.{Success}
use Rattle.sc_dag.specs.declared.reports.Success.TheVariants as successes
use Rattle.sc_core.proofs.SideLemmas.{held_tracker}
use Rattle.sc_core.specs.CoreData.{CoreData, with_dag}
use Rattle.sc_core.specs.Losses.{all_released, attempts_on}
use Rattle.sc_core.specs.Takes.{Takes}
use Rattle.sc_core.specs.Tells.{FailsBy, FailsOrAborts, IsGone, Misses, MissesIf, Tells, TellsFailure, TellsFailureIf, TellsMap, TellsResult, after_failure, after_result, done_if, is_zombie_in, released, with_result_of}
use Rattle.sc_core.specs.declared.answers.Answer.{Answer}
use Rattle.sc_core.specs.declared.events.Event.{Event}
use Rattle.sc_core.specs.declared.events.Event.TheVariants.{Post, Release, Side, Take, TellLost}
use Rattle.sc_core.specs.declared.events.Outcome.{Outcome}
use Rattle.sc_core.specs.declared.events.Outcome.TheVariants as outcomes
use Rattle.sc_core.specs.declared.running.Running.{Running}
use Rattle.sc_history.specs.Rooms.{KeepsRoom, ReplaysKeepRoom, SameRoom, StepsKeepRoom}
use Rattle.sc_history.proofs.Events.{Comes, losses_come, posts_come, releases_come, sides_come}
use Rattle.sc_history.proofs.StageRoomLemmas.{LeavesRoom, fails_room, follows_room, lost_room, map_room, result_tracker, room_itself, room_then, same_room, seen_room}
use Rattle.sc_core.proofs.TakeCases.{TakesSo, takes_so}

-- ---- reports

left_room : (c after : CoreData) (d : DagData) → LeavesRoom c.dag d → after.dag ≡ d
    → KeepsRoom c after
left_room c after d h e = subst (λ x. LeavesRoom c.dag x) (sym e) h

dag_is : (x y : CoreData) → x ≡ y → x.dag ≡ y.dag
dag_is x y e = ap (λ (z : CoreData). z.dag) e

pub released_tracker : (c : CoreData) (a : AttemptId) (how : Ending)
    → (released c a how).dag.tracker ≡ c.dag.tracker
released_tracker c a how = by (holds a (committer_at c.committers a.partition))
  where
    by : (b : Bool) → (if b then after_hold c.dag a.stage a.partition false else c.dag).tracker
        ≡ c.dag.tracker
    by true = refl
    by false = refl

maps_room : (c after : CoreData) (r : Running) (loc : Loc) (answer : Answer)
    → TellsMap c r loc answer after → KeepsRoom c after
maps_room c after r loc answer (next, up, says, is) =
    left_room c after next
    (room_then c.dag.tracker mid.tracker next.tracker
    (map_room c.dag r.hand_out.attempt loc r.hand_out.epoch c.now)
    (follows_room (map_success_of c.dag r.hand_out.attempt loc r.hand_out.epoch) mid next
    r.hand_out.attempt.stage up))
    (dag_is after (with_dag c next) is)
  where
    mid : DagData
    mid = after_map_success c.dag r.hand_out.attempt loc r.hand_out.epoch c.now

-- a result changes nothing of what is known of map outputs
pub results_same : (c after : CoreData) (r : Running) (answer : Answer)
    → TellsResult c r answer after → after.dag.tracker ≡ c.dag.tracker
results_same c after r answer (told, is) =
    ap (λ (z : CoreData). z.dag.tracker) is ∙ by (result_success_of c.dag a)
  where
    a : AttemptId
    a = r.hand_out.attempt

    freed : CoreData
    freed = released c r.hand_out.attempt endings.Succeeded

    done : (b : Bool) (m : CoreData) → (done_if b m).dag.tracker ≡ m.dag.tracker
    done true m = refl
    done false m = refl

    won : (done_if (is_complete (with_result_of freed a).dag a.stage)
        (with_result_of freed a)).dag.tracker ≡ c.dag.tracker
    won =
        done (is_complete (with_result_of freed a).dag a.stage) (with_result_of freed a)
        ∙ result_tracker freed.dag a freed.now ∙ released_tracker c a endings.Succeeded

    by : (s : Success) → (after_result s c a).dag.tracker ≡ c.dag.tracker
    by successes.Repeated = result_tracker c.dag a c.now
    by successes.Registered = won
    by successes.Bogus = won
    by successes.Finished = won

results_room : (c after : CoreData) (r : Running) (answer : Answer)
    → TellsResult c r answer after → KeepsRoom c after
results_room c after r answer told =
    same_room c.dag.tracker after.dag.tracker (results_same c after r answer told)

misses_room : (c after : CoreData) (a : AttemptId) (answer : Answer)
    → Misses c a answer after → KeepsRoom c after
misses_room c after a answer miss =
    by (is_of_newest c.dag a && not (is_complete c.dag a.stage)) miss
  where
    verdict_room : (verdict : Verdict) (d : DagData) → LeavesRoom c.dag d
        → FailsOrAborts c a verdict d answer after → KeepsRoom c after
    verdict_room verdicts.Limit d h (says, is) =
        left_room c after d h (ap (λ (z : CoreData). z.dag) is)
    verdict_room verdicts.Again d h (says, is) =
        left_room c after d h (ap (λ (z : CoreData). z.dag) is)

    by : (b : Bool) → MissesIf b c a answer after → KeepsRoom c after
    by true (verdict, d, f, or) =
        verdict_room verdict d (fails_room c.dag d a.stage a.stage_attempt verdict f) or
    by false (says, is) =
        left_room c after c.dag (room_itself c.dag.tracker) (ap (λ (z : CoreData). z.dag) is)

cause_room :
    (c after : CoreData) (a : AttemptId) (cause : FailureCause) (zombie : Bool) (answer : Answer)
    → FailsBy cause zombie c a answer after → KeepsRoom c after
cause_room c after a (causes.Gone exec wanted found) zombie answer h =
    by (is_newer (slice_get c.dag.tracker.trust exec) found) zombie h
  where
    by : (x y : Bool) → IsGone x y c a exec found answer after → KeepsRoom c after
    by true y k =
        room_then c.dag.tracker (after_seen c.dag exec found).tracker after.dag.tracker
        (seen_room c.dag exec found)
        (misses_room (with_dag c (after_seen c.dag exec found)) after a answer k)
    by false true (says, is) =
        left_room c after c.dag (room_itself c.dag.tracker) (ap (λ (z : CoreData). z.dag) is)
    by false false k = misses_room c after a answer k
cause_room c after a (causes.Metadata last) zombie answer h = misses_room c after a answer h
cause_room c after a causes.Planned zombie answer (says, is) =
    left_room c after c.dag (room_itself c.dag.tracker) (ap (λ (z : CoreData). z.dag) is)
cause_room c after a (causes.Raised raise) zombie answer (says, is) =
    left_room c after c.dag (room_itself c.dag.tracker) (ap (λ (z : CoreData). z.dag) is)
cause_room c after a (causes.Device fault) zombie answer (says, is) =
    left_room c after c.dag (room_itself c.dag.tracker) (ap (λ (z : CoreData). z.dag) is)
cause_room c after a causes.Denied zombie answer (says, is) =
    left_room c after c.dag (room_itself c.dag.tracker) (ap (λ (z : CoreData). z.dag) is)

failures_room :
    (c after : CoreData) (r : Running) (cause : FailureCause) (answer : Answer)
    → TellsFailure c r cause answer after → KeepsRoom c after
failures_room c after r cause answer tells =
    by (reaches_limit_in (set_of c.dag a) a cause) tells
  where
    a : AttemptId
    a = r.hand_out.attempt

    failed : CoreData
    failed = after_failure c r.hand_out.attempt cause

    same : failed.dag.tracker ≡ c.dag.tracker
    same = released_tracker (with_dag c (after_failed c.dag a cause)) a endings.Failed

    by : (b : Bool) → TellsFailureIf b c a cause answer after → KeepsRoom c after
    by true (says, is) =
        same_room c.dag.tracker after.dag.tracker
        (ap (λ (z : CoreData). z.dag.tracker) is ∙ same)
    by false h =
        room_then c.dag.tracker failed.dag.tracker after.dag.tracker
        (same_room c.dag.tracker failed.dag.tracker same)
        (cause_room failed after a cause (is_zombie_in (set_of c.dag a)) answer h)

tells_room :
    (c after : CoreData) (r : Running) (outcome : Outcome) (answer : Answer)
    → Tells c r outcome answer after → KeepsRoom c after
tells_room c after r (outcomes.Map loc) answer h = maps_room c after r loc answer h
tells_room c after r outcomes.Result answer h = results_room c after r answer h
tells_room c after r (outcomes.Failed cause) answer h = failures_room c after r cause answer h

-- ---- events

at_once : (c after : CoreData) (d : CoreData) → d.dag.tracker ≡ c.dag.tracker
    → after.dag ≡ d.dag → KeepsRoom c after
at_once c after d same is =
    same_room c.dag.tracker after.dag.tracker
    (ap (λ (z : DagData). z.tracker) is ∙ same)

at_state : (c after : CoreData) (d : CoreData) → d.dag.tracker ≡ c.dag.tracker → after ≡ d
    → KeepsRoom c after
at_state c after d same is = at_once c after d same (dag_is after d is)

takes_room : (c after : CoreData) (exec : ℕ) (answer : Answer) → Takes c exec answer after
    → KeepsRoom c after
takes_room c after exec answer h = by (takes_so c after exec answer h)
  where
    by : TakesSo c after exec answer → KeepsRoom c after
    by (inl t) = at_state c after _ refl t.is
    by (inr (inl b)) = at_state c after _ refl b.is
    by (inr (inr same)) = at_state c after c refl same.is

comes_room : (c after : CoreData) (event : Event) (answer : Answer) → Comes c after event answer
    → KeepsRoom c after
comes_room c after event answer (inl q) =
    same_room c.dag.tracker after.dag.tracker (held_tracker c.dag after.dag q.dag)
comes_room c after event answer (inr h) =
    subst (λ (d : DagData). SameRoom d.tracker after.dag.tracker) h.dag
    (tells_room h.mid after h.one h.outcome answer h.tells)

pub all_tracker : (these : List AttemptId) (c : CoreData)
    → (all_released these c).dag.tracker ≡ c.dag.tracker
all_tracker [] c = refl
all_tracker (a ∷ these) c =
    all_tracker these (released c a endings.Failed) ∙ released_tracker c a endings.Failed

pub steps_keep_room : StepsKeepRoom
steps_keep_room c after (Take exec) answer step = takes_room c after exec answer step
steps_keep_room c after (Post a outcome) answer step =
    comes_room c after (Post a outcome) answer (posts_come c after a outcome answer step)
steps_keep_room c after (Release key) answer step =
    comes_room c after (Release key) answer (releases_come c after key answer step)
steps_keep_room c after (Side event) answer step =
    comes_room c after (Side event) answer (sides_come c after event answer step)
steps_keep_room c after (TellLost exec) answer step =
    room_then c.dag.tracker from.dag.tracker after.dag.tracker (lost_room c.dag exec)
    (at_once from after (all_released these from) (all_tracker these from)
    (losses_come c after exec answer step).dag)
  where
    these : List AttemptId
    these = attempts_on exec c.running

    from : CoreData
    from = with_dag c (after_lost c.dag exec)

-- nor does a journal
pub replays_keep_room : ReplaysKeepRoom
replays_keep_room opening end [] is =
    same_room opening.dag.tracker end.dag.tracker (ap (λ (x : CoreData). x.dag.tracker) is)
replays_keep_room opening end (entry ∷ entries) (mid, step, rest) =
    room_then opening.dag.tracker mid.dag.tracker end.dag.tracker
    (steps_keep_room opening mid entry.event entry.answer step)
    (replays_keep_room mid end entries rest)
