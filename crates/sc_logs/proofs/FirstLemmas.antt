-- Who left first stays so while reports are told and attempts save.
use Rattle.std.proofs.Common.{◌≡◌, ◌&&◌, not, ap, slice_get, ◌∙◌, Bool, true, false, List, [], ◌∷◌, refl, true≢false}
use Rattle.sc_ids.specs.declared.attempts.AttemptId.{AttemptId}
use Rattle.sc_ids.specs.declared.failures.FailureCause.{FailureCause}
use Rattle.sc_ids.specs.declared.failures.FailureCause.TheVariants as causes
use Rattle.sc_commit.specs.Committing.{answer_to}
use Rattle.sc_commit.specs.declared.committers.Ending.TheVariants as endings
use Rattle.sc_commit.specs.declared.committers.Permission.{Permission}
use Rattle.sc_commit.specs.declared.committers.Permission.TheVariants as permissions
use Rattle.sc_taskset.specs.declared.tasks.Verdict.{Verdict}
use Rattle.sc_taskset.specs.declared.tasks.Verdict.TheVariants as verdicts
use Rattle.sc_tracker.specs.Trust.{is_newer}
use Rattle.sc_dag.specs.DagData.{DagData}
use Rattle.sc_dag.specs.Losses.{after_seen}
use Rattle.sc_dag.specs.Outputs.{is_complete}
use Rattle.sc_dag.specs.Reports.{is_of_newest, reaches_limit_in, result_success_of, set_of}
use Rattle.sc_dag.specs.declared.reports.Success.{Success}
use Rattle.sc_dag.specs.declared.reports.Success.TheVariants as successes
use Rattle.sc_core.specs.CoreData.{CoreData, job_runs, with_dag}
use Rattle.sc_core.specs.Losses.{all_released}
use Rattle.sc_core.specs.Saving.{AsksBy, AsksIf, MovesIf, StagesIf, is_given, is_granted, is_staged, saver_phase}
use Rattle.sc_core.specs.Sides.{StepsAside, TicksIf}
use Rattle.sc_core.specs.Tells.{FailsBy, FailsOrAborts, IsGone, Misses, MissesIf, Tells, TellsFailure, TellsFailureIf, TellsResult, after_failure, after_result, done_if, is_zombie_in, released, with_result_of}
use Rattle.sc_core.specs.declared.answers.Answer.{Answer}
use Rattle.sc_core.specs.declared.answers.SideAnswer.{SideAnswer}
use Rattle.sc_core.specs.declared.events.Event.TheVariants.{Side}
use Rattle.sc_core.specs.declared.events.Outcome.{Outcome}
use Rattle.sc_core.specs.declared.events.Outcome.TheVariants as outcomes
use Rattle.sc_core.specs.declared.events.SideEvent.{SideEvent}
use Rattle.sc_core.specs.declared.events.SideEvent.TheVariants.{Ask, Leave, Move, Stage, Tick}
use Rattle.sc_core.specs.declared.running.Running.{Running}
use Rattle.sc_logs.specs.Folds.{is_leave}

-- the same executor left first, or still none
abbrev pub SameFirst : CoreData → CoreData → Type 0
SameFirst c after = after.left_first ≡ c.left_first

is_first : (c d after : CoreData) → SameFirst c d → after ≡ d → SameFirst c after
is_first c d after same is = ap (λ (x : CoreData). x.left_first) is ∙ same

-- ---- reports

result_first : (c after : CoreData) (r : Running) (answer : Answer) → TellsResult c r answer after
    → SameFirst c after
result_first c after r answer (told, is) =
    is_first c (after_result (result_success_of c.dag a) c a) after
    (by (result_success_of c.dag a)) is
  where
    a : AttemptId
    a = r.hand_out.attempt

    next : CoreData
    next = with_result_of (released c r.hand_out.attempt endings.Succeeded) r.hand_out.attempt

    won : (b : Bool) → SameFirst c (done_if b next)
    won true = refl
    won false = refl

    by : (s : Success) → SameFirst c (after_result s c a)
    by successes.Repeated = refl
    by successes.Registered = won (is_complete next.dag a.stage)
    by successes.Bogus = won (is_complete next.dag a.stage)
    by successes.Finished = won (is_complete next.dag a.stage)

misses_first : (c after : CoreData) (a : AttemptId) (answer : Answer) → Misses c a answer after
    → SameFirst c after
misses_first c after a answer miss =
    by (is_of_newest c.dag a && not (is_complete c.dag a.stage)) miss
  where
    verdict_first : (verdict : Verdict) (d : DagData) → FailsOrAborts c a verdict d answer after
        → SameFirst c after
    verdict_first verdicts.Again d (told, is) = is_first c _ after refl is
    verdict_first verdicts.Limit d (told, is) = is_first c _ after refl is

    by : (b : Bool) → MissesIf b c a answer after → SameFirst c after
    by true (verdict, d, f, or) = verdict_first verdict d or
    by false (told, is) = is_first c c after refl is

cause_first :
    (c after : CoreData) (a : AttemptId) (cause : FailureCause) (zombie : Bool) (answer : Answer)
    → FailsBy cause zombie c a answer after → SameFirst c after
cause_first c after a (causes.Gone exec wanted found) zombie answer h =
    by (is_newer (slice_get c.dag.tracker.trust exec) found) zombie h
  where
    by : (x y : Bool) → IsGone x y c a exec found answer after → SameFirst c after
    by true y k = misses_first (with_dag c (after_seen c.dag exec found)) after a answer k
    by false true (told, is) = is_first c c after refl is
    by false false k = misses_first c after a answer k
cause_first c after a (causes.Metadata last) zombie answer h = misses_first c after a answer h
cause_first c after a causes.Planned zombie answer (told, is) = is_first c c after refl is
cause_first c after a (causes.Raised raise) zombie answer (told, is) = is_first c c after refl is
cause_first c after a (causes.Device fault) zombie answer (told, is) = is_first c c after refl is
cause_first c after a causes.Denied zombie answer (told, is) = is_first c c after refl is

failure_first : (c after : CoreData) (r : Running) (cause : FailureCause) (answer : Answer)
    → TellsFailure c r cause answer after → SameFirst c after
failure_first c after r cause answer tells = by (reaches_limit_in (set_of c.dag a) a cause) tells
  where
    a : AttemptId
    a = r.hand_out.attempt

    by : (b : Bool) → TellsFailureIf b c a cause answer after → SameFirst c after
    by true (told, is) = is_first c _ after refl is
    by false h =
        cause_first (after_failure c a cause) after a cause (is_zombie_in (set_of c.dag a)) answer h

-- a report that is told
pub tells_first :
    (c after : CoreData) (r : Running) (outcome : Outcome) (answer : Answer)
    → Tells c r outcome answer after → SameFirst c after
tells_first c after r (outcomes.Map loc) answer (next, up, told, is) = is_first c _ after refl is
tells_first c after r outcomes.Result answer h = result_first c after r answer h
tells_first c after r (outcomes.Failed cause) answer h = failure_first c after r cause answer h

-- ---- losses

-- attempts end with their executor
pub all_first : (these : List AttemptId) (c : CoreData) → SameFirst c (all_released these c)
all_first [] c = refl
all_first (a ∷ these) c = all_first these (released c a endings.Failed)

-- ---- beside the reports

asks_first : (c after : CoreData) (a : AttemptId) (permission : Permission) (said : SideAnswer)
    → AsksBy permission c a said after → SameFirst c after
asks_first c after a permissions.Granted said (says, is) = is_first c _ after refl is
asks_first c after a (permissions.Denied other) said (says, is) = is_first c _ after refl is
asks_first c after a permissions.Over said (says, is) = is_first c c after refl is

-- what happens beside the reports, but for a Leave
pub sides_first : (c after : CoreData) (event : SideEvent) (answer : Answer)
    → StepsAside c event answer after → is_leave (Side event) ≡ false → SameFirst c after
sides_first c after (Leave exec) answer step stays = absurd (true≢false stays)
sides_first c after (Tick now) answer (said, told, step) stays = by (job_runs c) step
  where
    by : (b : Bool) → TicksIf b c now said after → SameFirst c after
    by false (says, is) = is_first c c after refl is
    by true (says, is) = is_first c _ after refl is
sides_first c after (Stage a wrote) answer (said, told, step) stays =
    by (is_given (saver_phase c a)) step
  where
    by : (b : Bool) → StagesIf b c a wrote said after → SameFirst c after
    by false (says, is) = is_first c c after refl is
    by true (says, is) = is_first c _ after refl is
sides_first c after (Ask a) answer (said, told, step) stays = by (is_staged (saver_phase c a)) step
  where
    by : (b : Bool) → AsksIf b c a said after → SameFirst c after
    by false (says, is) = is_first c c after refl is
    by true asks = asks_first c after a (answer_to c.committers a true) said asks
sides_first c after (Move a renamed) answer (said, told, step) stays =
    by (is_granted (saver_phase c a)) step
  where
    by : (b : Bool) → MovesIf b c a renamed said after → SameFirst c after
    by false (says, is) = is_first c c after refl is
    by true (says, is) = is_first c _ after refl is
