-- What a report that is told is answered.
use Rattle.std.proofs.Common.{◌≡◌, ◌≢◌, ◌&&◌, not, Bool, true, false, inl, inr, slice_get, refl, ap, ◌∙◌}
use Rattle.sc_ids.specs.declared.attempts.AttemptId.{AttemptId}
use Rattle.sc_ids.specs.declared.failures.FailureCause.{FailureCause}
use Rattle.sc_ids.specs.declared.failures.FailureCause.TheVariants as causes
use Rattle.sc_taskset.specs.declared.tasks.Verdict.{Verdict}
use Rattle.sc_taskset.specs.declared.tasks.Verdict.TheVariants as verdicts
use Rattle.sc_tracker.specs.Trust.{is_newer}
use Rattle.sc_dag.specs.DagData.{DagData}
use Rattle.sc_dag.specs.Losses.{after_seen}
use Rattle.sc_dag.specs.Outputs.{is_complete}
use Rattle.sc_dag.specs.Reports.{is_of_newest, map_success_of, reaches_limit_in, result_success_of, set_of}
use Rattle.sc_dag.specs.declared.reports.Success.{Success}
use Rattle.sc_dag.specs.declared.reports.Success.TheVariants as successes
use Rattle.sc_dag.proofs.Tests.{clash}
use Rattle.sc_core.specs.CoreData.{CoreData, with_dag}
use Rattle.sc_core.specs.Posts.{Posts}
use Rattle.sc_core.specs.Tells.{FailsBy, FailsOrAborts, IsGone, Misses, MissesIf, Tells, TellsFailure, TellsFailureIf, after_failure, is_zombie_in, success_answer}
use Rattle.sc_core.specs.declared.answers.Answer.{Answer}
use Rattle.sc_core.specs.declared.answers.Answer.TheVariants as says
use Rattle.sc_core.specs.declared.events.Event.TheVariants.{Post}
use Rattle.sc_core.specs.declared.events.Outcome.{Outcome}
use Rattle.sc_core.specs.declared.events.Outcome.TheVariants as outcomes
use Rattle.sc_core.specs.declared.running.Running.{Running}
use Rattle.sc_history.specs.Tellings.{is_heard}
use Rattle.sc_history.proofs.Events.{Comes, posts_come}

-- an answer is to a report that is told to its attempt
abbrev pub is_now : Answer → Bool
is_now says.Ignored = false
is_now says.Shelved = false
is_now says.Told = false
is_now answer = true

success_now : (s : Success) → is_now (success_answer s) ≡ true
success_now successes.Repeated = refl
success_now successes.Registered = refl
success_now successes.Bogus = refl
success_now successes.Finished = refl

misses_now : (c after : CoreData) (a : AttemptId) (answer : Answer) → Misses c a answer after
    → is_now answer ≡ true
misses_now c after a answer miss =
    by (is_of_newest c.dag a && not (is_complete c.dag a.stage)) miss
  where
    verdict_now : (verdict : Verdict) (d : DagData)
        → FailsOrAborts c a verdict d answer after → is_now answer ≡ true
    verdict_now verdicts.Limit d (e, is) = ap is_now e
    verdict_now verdicts.Again d (e, is) = ap is_now e

    by : (b : Bool) → MissesIf b c a answer after → is_now answer ≡ true
    by true (verdict, d, f, or) = verdict_now verdict d or
    by false (e, is) = ap is_now e

cause_now :
    (c after : CoreData) (a : AttemptId) (cause : FailureCause) (zombie : Bool) (answer : Answer)
    → FailsBy cause zombie c a answer after → is_now answer ≡ true
cause_now c after a (causes.Gone exec wanted found) zombie answer h =
    by (is_newer (slice_get c.dag.tracker.trust exec) found) zombie h
  where
    by : (x y : Bool) → IsGone x y c a exec found answer after → is_now answer ≡ true
    by true y k = misses_now (with_dag c (after_seen c.dag exec found)) after a answer k
    by false true (e, is) = ap is_now e
    by false false k = misses_now c after a answer k
cause_now c after a (causes.Metadata last) zombie answer h = misses_now c after a answer h
cause_now c after a causes.Planned zombie answer (e, is) = ap is_now e
cause_now c after a (causes.Raised raise) zombie answer (e, is) = ap is_now e
cause_now c after a (causes.Device fault) zombie answer (e, is) = ap is_now e
cause_now c after a causes.Denied zombie answer (e, is) = ap is_now e

failure_now :
    (c after : CoreData) (r : Running) (cause : FailureCause) (answer : Answer)
    → TellsFailure c r cause answer after → is_now answer ≡ true
failure_now c after r cause answer tells =
    by (reaches_limit_in (set_of c.dag r.hand_out.attempt) r.hand_out.attempt cause) tells
  where
    by : (b : Bool) → TellsFailureIf b c r.hand_out.attempt cause answer after
        → is_now answer ≡ true
    by true (e, is) = ap is_now e
    by false h =
        cause_now (after_failure c r.hand_out.attempt cause) after r.hand_out.attempt cause
        (is_zombie_in (set_of c.dag r.hand_out.attempt)) answer h

pub tells_now :
    (c after : CoreData) (r : Running) (outcome : Outcome) (answer : Answer)
    → Tells c r outcome answer after → is_now answer ≡ true
tells_now c after r (outcomes.Map loc) answer (next, up, e, is) =
    ap is_now e ∙ success_now (map_success_of c.dag r.hand_out.attempt loc r.hand_out.epoch)
tells_now c after r outcomes.Result answer (e, is) =
    ap is_now e ∙ success_now (result_success_of c.dag r.hand_out.attempt)
tells_now c after r (outcomes.Failed cause) answer h = failure_now c after r cause answer h

-- a report that is posted isn't answered as a loss is
pub posts_no_loss :
    (c after : CoreData) (a : AttemptId) (outcome : Outcome) (answer : Answer)
    → Posts c a outcome answer after → answer ≢ says.Told
posts_no_loss c after a outcome answer step e =
    by (posts_come c after a outcome answer step)
  where
    by : Comes c after (Post a outcome) answer → ⊥
    by (inl quiet) = clash (ap is_heard e) quiet.unheard
    by (inr heard) =
        clash (tells_now heard.mid after heard.one heard.outcome answer heard.tells) (ap is_now e)
