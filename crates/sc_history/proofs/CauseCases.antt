-- What a failure comes to by its cause, and that a report which is told is heard.
use Rattle.std.proofs.Common.{◌≡◌, ◌⊎◌, inl, inr, ℕ, ◌&&◌, Bool, true, false, not, Option, Some, None, refl, ap, slice_get}
use Rattle.sc_ids.specs.declared.attempts.AttemptId.{AttemptId}
use Rattle.sc_ids.specs.declared.blocks.Loc.{Loc}
use Rattle.sc_ids.specs.declared.failures.FailureCause.{FailureCause}
use Rattle.sc_ids.specs.declared.failures.FailureCause.TheVariants as causes
use Rattle.sc_taskset.specs.Lookups.{task_at}
use Rattle.sc_taskset.specs.TaskSetData.{TaskData, TaskSetData}
use Rattle.sc_taskset.specs.declared.tasks.Verdict.{Verdict}
use Rattle.sc_taskset.specs.declared.tasks.Verdict.TheVariants as verdicts
use Rattle.sc_tracker.specs.TrackerData.{TrackerData}
use Rattle.sc_tracker.specs.Trust.{is_newer}
use Rattle.sc_dag.specs.DagData.{DagData}
use Rattle.sc_dag.specs.Losses.{after_seen}
use Rattle.sc_dag.specs.Outputs.{is_complete}
use Rattle.sc_dag.specs.Reports.{is_of_newest, map_success_of, reaches_limit_in, result_success_of, set_of}
use Rattle.sc_dag.specs.declared.reports.Success.{Success}
use Rattle.sc_dag.specs.declared.reports.Success.TheVariants as successes
use Rattle.sc_core.specs.CoreData.{CoreData, with_dag}
use Rattle.sc_core.specs.Rooms.{may_resubmit}
use Rattle.sc_core.specs.Tells.{FailsBy, FailsOrAborts, IsGone, Misses, MissesIf, Tells, TellsFailureIf, after_failure, is_zombie_in, success_answer}
use Rattle.sc_core.specs.declared.answers.Answer.{Answer}
use Rattle.sc_core.specs.declared.answers.Answer.TheVariants as says
use Rattle.sc_core.specs.declared.events.Outcome.{Outcome}
use Rattle.sc_core.specs.declared.events.Outcome.TheVariants as outcomes
use Rattle.sc_core.specs.declared.running.Running.{Running}
use Rattle.sc_history.specs.Tellings.{is_heard}
use Rattle.sc_history.specs.Trackers.{finds_newer}

-- a cause that touches no stage
pub record IsPlain (cause : FailureCause) : Type 0 where
  pub stays : (zombie : Bool) (m after : CoreData) (a : AttemptId) (answer : Answer)
      → FailsBy cause zombie m a answer after → (answer ≡ says.Again) × (after ≡ m)
  pub kept : may_resubmit cause ≡ false
  pub old : (t : TrackerData) → finds_newer t cause ≡ false

-- an input was gone
pub record IsGoneCause (cause : FailureCause) : Type 0 where
  pub exec : ℕ
  pub wanted : ℕ
  pub found : ℕ
  pub is : cause ≡ causes.Gone exec wanted found

-- an input had no location
pub record IsMetadata (cause : FailureCause) : Type 0 where
  pub last : Loc
  pub is : cause ≡ causes.Metadata last

abbrev pub CauseIs : FailureCause → Type 0
CauseIs cause = IsGoneCause cause ⊎ (IsMetadata cause ⊎ IsPlain cause)

pub cause_is : (cause : FailureCause) → CauseIs cause
cause_is (causes.Gone exec wanted found) =
    inl (record { exec = exec; wanted = wanted; found = found; is = refl })
cause_is (causes.Metadata last) = inr (inl (record { last = last; is = refl }))
cause_is causes.Planned =
    inr (inr (record { stays = λ z m after a w h. h; kept = refl; old = λ t. refl }))
cause_is (causes.Raised raise) =
    inr (inr (record { stays = λ z m after a w h. h; kept = refl; old = λ t. refl }))
cause_is (causes.Device fault) =
    inr (inr (record { stays = λ z m after a w h. h; kept = refl; old = λ t. refl }))
cause_is causes.Denied =
    inr (inr (record { stays = λ z m after a w h. h; kept = refl; old = λ t. refl }))

-- no input that is gone brings a partition to its limit
pub gone_reaches_none : (o : Option TaskSetData) (a : AttemptId) (exec wanted found : ℕ)
    → reaches_limit_in o a (causes.Gone exec wanted found) ≡ false
gone_reaches_none None a exec wanted found = refl
gone_reaches_none (Some set) a exec wanted found = by (task_at a.partition set.tasks) refl
  where
    by : (o : Option TaskData) → task_at a.partition set.tasks ≡ o
        → reaches_limit_in (Some set) a (causes.Gone exec wanted found) ≡ false
    by None e = rw e refl
    by (Some t) e = rw e refl

-- ---- what is told is heard

success_heard : (s : Success) → is_heard (success_answer s) ≡ true
success_heard successes.Repeated = refl
success_heard successes.Registered = refl
success_heard successes.Bogus = refl
success_heard successes.Finished = refl

misses_heard : (m after : CoreData) (a : AttemptId) (answer : Answer) → Misses m a answer after
    → is_heard answer ≡ true
misses_heard m after a answer miss =
    by (is_of_newest m.dag a && not (is_complete m.dag a.stage)) miss
  where
    verdict_heard : (verdict : Verdict) (d : DagData) → FailsOrAborts m a verdict d answer after
        → is_heard answer ≡ true
    verdict_heard verdicts.Again d (told, is) = ap is_heard told
    verdict_heard verdicts.Limit d (told, is) = ap is_heard told

    by : (b : Bool) → MissesIf b m a answer after → is_heard answer ≡ true
    by true (verdict, d, f, or) = verdict_heard verdict d or
    by false (told, is) = ap is_heard told

causes_heard : (m after : CoreData) (a : AttemptId) (cause : FailureCause) (zombie : Bool)
    (answer : Answer) → FailsBy cause zombie m a answer after → is_heard answer ≡ true
causes_heard m after a cause zombie answer h = by (cause_is cause)
  where
    gone : (exec wanted found : ℕ) (x y : Bool) → IsGone x y m a exec found answer after
        → is_heard answer ≡ true
    gone exec wanted found true y k =
        misses_heard (with_dag m (after_seen m.dag exec found)) after a answer k
    gone exec wanted found false true (told, is) = ap is_heard told
    gone exec wanted found false false k = misses_heard m after a answer k

    by : CauseIs cause → is_heard answer ≡ true
    by (inl g) =
        gone g.exec g.wanted g.found (is_newer (slice_get m.dag.tracker.trust g.exec) g.found)
        zombie (rw g.is at h)
    by (inr (inl e)) = misses_heard m after a answer (rw e.is at h)
    by (inr (inr p)) = ap is_heard (p.stays zombie m after a answer h).0

pub tells_heard : (m after : CoreData) (r : Running) (outcome : Outcome) (answer : Answer)
    → Tells m r outcome answer after → is_heard answer ≡ true
tells_heard m after r (outcomes.Map loc) answer (next, up, told, is) =
    rw told (success_heard (map_success_of m.dag r.hand_out.attempt loc r.hand_out.epoch))
tells_heard m after r outcomes.Result answer (told, is) =
    rw told (success_heard (result_success_of m.dag r.hand_out.attempt))
tells_heard m after r (outcomes.Failed cause) answer h =
    by (reaches_limit_in (set_of m.dag a) a cause) h
  where
    a : AttemptId
    a = r.hand_out.attempt

    by : (b : Bool) → TellsFailureIf b m a cause answer after → is_heard answer ≡ true
    by true (told, is) = ap is_heard told
    by false k =
        causes_heard (after_failure m a cause) after a cause (is_zombie_in (set_of m.dag a)) answer
        k
