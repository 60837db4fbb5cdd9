-- What holds of every core holds once a failure was told.
use Rattle.std.proofs.Common.{◌≡◌, ℕ, ◌==◌, ◌&&◌, not, Bool, true, false, List, None, slice_get, refl, ap, sym, subst, arith, rules, true≢false, ◌<◌}
use Rattle.std.proofs.lemmas.Bool.Decides.{nat_tests}
use Rattle.sc_base.specs.Lists.{at_or}
use Rattle.sc_ids.specs.Graphs.{StageData}
use Rattle.sc_ids.specs.declared.attempts.AttemptId.{AttemptId}
use Rattle.sc_ids.specs.declared.failures.FailureCause.{FailureCause}
use Rattle.sc_ids.specs.declared.failures.FailureCause.TheVariants as causes
use Rattle.sc_commit.specs.Committing.{is_same}
use Rattle.sc_commit.specs.declared.committers.Ending.TheVariants as endings
use Rattle.sc_taskset.specs.declared.tasks.Verdict.{Verdict}
use Rattle.sc_taskset.specs.declared.tasks.Verdict.TheVariants as verdicts
use Rattle.sc_tracker.specs.Trust.{is_newer}
use Rattle.sc_dag.specs.DagData.{DagData, no_stage}
use Rattle.sc_dag.specs.Laws.{CallsKeepSound, FailuresGoOn, OthersGoOn}
use Rattle.sc_dag.specs.Laws as dag
use Rattle.sc_dag.specs.Losses.{after_seen}
use Rattle.sc_dag.specs.Offers.{newest_number}
use Rattle.sc_dag.specs.Outputs.{is_complete}
use Rattle.sc_dag.specs.Reports.{FailsStage, after_failed, is_of_newest, reaches_limit_in, set_of}
use Rattle.sc_dag.specs.Settled.{IsSettled, IsUnderWay}
use Rattle.sc_dag.specs.Sound.{IsSoundDag}
use Rattle.sc_dag.specs.Submission.{is_map}
use Rattle.sc_dag.proofs.Tests.{both_left, both_right, clash, not_true}
use Rattle.sc_core.specs.CoreData.{CoreData, ended, is_running_job, job_runs, result_stage, taken_off, with_dag}
use Rattle.sc_core.specs.Sound.{IsSoundJob, RunsWell, WasHandedOut}
use Rattle.sc_core.specs.Tells.{FailsBy, FailsOrAborts, IsGone, Misses, MissesIf, TellsFailure, TellsFailureIf, after_failure, is_zombie_in, limit_of, released}
use Rattle.sc_core.specs.declared.answers.Abort.{Abort}
use Rattle.sc_core.specs.declared.answers.Abort.TheVariants as aborts
use Rattle.sc_core.specs.declared.answers.Answer.{Answer}
use Rattle.sc_core.specs.declared.answers.JobState.TheVariants as jobs
use Rattle.sc_core.specs.declared.running.Running.{Running}
use Rattle.sc_core.proofs.StageCallLemmas.{fails_calm, fails_results}
use Rattle.sc_core.proofs.TaskCallLemmas.{failed_moves, failed_results, seen_calm}
use Rattle.sc_core.proofs.MoveLemmas.{Calm, Moves, SameResults, moves_then, results_then, still}
use Rattle.sc_core.proofs.ResultLemmas.{Frees, frees}
use Rattle.sc_core.proofs.ToldLemmas.{goes_with, told_sound, under_kept}
use Rattle.sc_core.proofs.CarryLemmas.{Carries, carries_same, carries_then, handed_still}
use Rattle.sc_core.proofs.TrackerCarryLemmas.{seen_carries}
use Rattle.sc_core.proofs.CallCarryLemmas.{failed_carries, fails_carries}
use Rattle.sc_core.proofs.ChargeLemmas.{IsLate, gone_late, late_charges, missing_late, seen_late}
use Rattle.sc_core.specs.Posts.{fits_failure}
use Rattle.sc_tracker.specs.Tracking.{after_gone}

-- A core of which all is known that a failure leaves, whose job runs on.
record Fails (c : CoreData) (a : AttemptId) (m : CoreData) : Type 0 where
  moves : Moves (is_same a) None c.dag m.dag
  carries : Carries c.dag m.dag
  results : SameResults c.dag m.dag
  sound : IsSoundDag m.dag
  settled : IsSettled m.dag
  under : IsUnderWay m.dag (result_stage c.dag)
  running : m.running ≡ (taken_off c a).running
  handed : m.handed ≡ c.handed
  runs : job_runs m ≡ true

-- what it leaves is sound, also where the job is aborted
fails_sound : (c m : CoreData) (a : AttemptId) → IsSoundJob c → Fails c a m → IsSoundJob m
fails_sound c m a sound f =
    told_sound c m a sound f.moves f.carries f.running f.handed f.sound
    (λ h. goes_with c m f.moves.stages f.settled f.under)
    (λ h. absurd (clash f.runs (ap is_running_job h)))

aborts_sound :
    (c m : CoreData) (d : DagData) (a : AttemptId) (why : Abort) → IsSoundJob c → Fails c a m
    → Calm m.dag d → Carries m.dag d → IsSoundDag d
    → IsSoundJob (ended (with_dag m d) (jobs.Aborted why))
aborts_sound c m d a why sound f calm carries is =
    told_sound c (ended (with_dag m d) (jobs.Aborted why)) a sound
    (moves_then (is_same a) None c.dag m.dag d f.moves calm)
    (carries_then c.dag m.dag d f.carries carries) f.running f.handed is
    (λ h. absurd (true≢false (sym h))) (λ h. search (rules, h))

-- a calm change behind it
fails_then :
    (c m : CoreData) (d : DagData) (a : AttemptId) → IsSoundJob c → Fails c a m → Calm m.dag d
    → Carries m.dag d → SameResults m.dag d → IsSoundDag d → dag.GoesOn m.dag d
    → Fails c a (with_dag m d)
fails_then c m d a sound f calm carries results is on =
    record {
      moves = moves_then (is_same a) None c.dag m.dag d f.moves calm;
      carries = carries_then c.dag m.dag d f.carries carries;
      results = results_then c.dag m.dag d f.results results;
      sound = is;
      settled = on.0;
      under = under_kept m.dag d (result_stage c.dag) calm.stages results
          (subst (λ (stages : List StageData).
          is_map (at_or stages (result_stage c.dag) no_stage).target ≡ false)
          (sym f.moves.stages) sound.result) on f.under;
      running = f.running;
      handed = f.handed;
      runs = f.runs;
    }

-- what every failure leaves
failure_is :
    CallsKeepSound → OthersGoOn → (c : CoreData) (a : AttemptId) (cause : FailureCause)
    → IsSoundJob c → job_runs c ≡ true → Fails c a (after_failure (taken_off c a) a cause)
failure_is calls others c a cause sound job =
    record {
      moves = moves_then (is_same a) None c.dag failed (released mid a endings.Failed).dag
          (failed_moves c.dag a cause) free.calm;
      carries = carries_then c.dag failed (released mid a endings.Failed).dag
          (failed_carries c.dag a cause) free.carries;
      results = results_then c.dag failed (released mid a endings.Failed).dag
          (failed_results c.dag a cause) free.results;
      sound = free.sound failed_sound;
      settled = (free.goes failed_sound on.0).0;
      under = under_kept failed (released mid a endings.Failed).dag (result_stage c.dag)
          free.calm.stages free.results sound.result (free.goes failed_sound on.0) under;
      running = refl;
      handed = refl;
      runs = job;
    }
  where
    failed : DagData
    failed = after_failed c.dag a cause

    mid : CoreData
    mid = with_dag (taken_off c a) failed

    free : Frees failed (released mid a endings.Failed).dag
    free = frees calls others mid a endings.Failed

    failed_sound : IsSoundDag failed
    failed_sound = (calls c.dag sound.dag).4 a cause

    on : dag.GoesOn c.dag failed
    on = (others c.dag sound.dag (sound.goes_on job).settled).1 a cause

    under : IsUnderWay failed (result_stage c.dag)
    under =
        under_kept c.dag failed (result_stage c.dag) refl (failed_results c.dag a cause)
        sound.result on (sound.goes_on job).result

-- where an input is missing
misses_keep :
    CallsKeepSound → FailuresGoOn → (c m after : CoreData) (a : AttemptId) (answer : Answer)
    → IsSoundJob c → Fails c a m → IsLate m.dag a → Misses m a answer after → IsSoundJob after
misses_keep calls failures c m after a answer sound f late miss =
    by (is_of_newest m.dag a && not (is_complete m.dag a.stage)) refl miss
  where
    newest : (is_of_newest m.dag a && not (is_complete m.dag a.stage)) ≡ true
        → a.stage_attempt ≡ newest_number m.dag a.stage
    newest e =
        let is : (a.stage_attempt == newest_number m.dag a.stage) ≡ true =
        both_left (is_of_newest m.dag a) _ e in
        grind (arith, nat_tests, is)

    after_verdict : (verdict : Verdict) (d : DagData)
        → (is_of_newest m.dag a && not (is_complete m.dag a.stage)) ≡ true
        → FailsStage m.dag a.stage a.stage_attempt verdict d
        → FailsOrAborts m a verdict d answer after → IsSoundJob after
    after_verdict verdicts.Limit d e fails (says, is) =
        subst IsSoundJob (sym is)
        (aborts_sound c m d a (aborts.StageLimit a.stage) sound f
        (fails_calm m.dag a.stage a.stage_attempt verdicts.Limit d fails)
        (fails_carries m.dag a.stage a.stage_attempt verdicts.Limit d fails)
        ((calls m.dag f.sound).5 a.stage a.stage_attempt verdicts.Limit d
        (late_charges m.dag a (newest e) late) fails))
    after_verdict verdicts.Again d e fails (says, is) =
        let lacks : is_complete m.dag a.stage ≡ false =
        not_true (is_complete m.dag a.stage) (both_right (is_of_newest m.dag a) _ e) in
        subst IsSoundJob (sym is)
        (fails_sound c (with_dag m d) a sound
        (fails_then c m d a sound f
        (fails_calm m.dag a.stage a.stage_attempt verdicts.Again d fails)
        (fails_carries m.dag a.stage a.stage_attempt verdicts.Again d fails)
        (fails_results m.dag a.stage a.stage_attempt verdicts.Again d fails)
        ((calls m.dag f.sound).5 a.stage a.stage_attempt verdicts.Again d
        (late_charges m.dag a (newest e) late) fails)
        (failures m.dag a.stage d f.sound f.settled lacks
        (subst (λ (n : ℕ). FailsStage m.dag a.stage n verdicts.Again d) (newest e) fails))))

    by : (b : Bool) → (is_of_newest m.dag a && not (is_complete m.dag a.stage)) ≡ b
        → MissesIf b m a answer after → IsSoundJob after
    by true e (verdict, d, fails, or) = after_verdict verdict d e fails or
    by false e (says, is) = subst IsSoundJob (sym is) (fails_sound c m a sound f)

-- what the cause brings about
causes_keep :
    CallsKeepSound → FailuresGoOn → OthersGoOn → (c m after : CoreData) (r : Running)
    (cause : FailureCause) (zombie : Bool) (answer : Answer) → IsSoundJob c
    → Fails c r.hand_out.attempt m → WasHandedOut m.dag r.hand_out
    → fits_failure r cause ≡ true
    → FailsBy cause zombie m r.hand_out.attempt answer after → IsSoundJob after
causes_keep calls failures others c m after r (causes.Gone exec wanted found) zombie answer sound
    f given fit is =
    by (is_newer (slice_get m.dag.tracker.trust exec) found) zombie refl is
  where
    a : AttemptId
    a = r.hand_out.attempt

    seen : DagData
    seen = after_seen m.dag exec found

    one_more : is_newer (slice_get m.dag.tracker.trust exec) found ≡ true
        → m.dag.tracker.epoch < (after_gone m.dag.tracker exec found).epoch
    one_more e = rw e (omega arith)

    by : (x y : Bool) → is_newer (slice_get m.dag.tracker.trust exec) found ≡ x
        → IsGone x y m a exec found answer after → IsSoundJob after
    by true y e h =
        misses_keep calls failures c (with_dag m seen) after a answer sound
        (fails_then c m seen a sound f (seen_calm m.dag exec found)
        (seen_carries m.dag exec found) (λ s. refl)
        ((calls m.dag f.sound).8 exec found)
        ((others m.dag f.sound f.settled).3 exec found))
        (seen_late m.dag seen a f.sound (λ b born. born) (one_more e)) h
    by false true e (says, same) = subst IsSoundJob (sym same) (fails_sound c m a sound f)
    by false false e h =
        misses_keep calls failures c m after a answer sound f
        (gone_late m.dag r f.sound given exec wanted found fit e) h
causes_keep calls failures others c m after r (causes.Metadata last) zombie answer sound f given
    fit is =
    misses_keep calls failures c m after r.hand_out.attempt answer sound f
    (missing_late m.dag r f.sound given last fit) is
causes_keep calls failures others c m after r causes.Planned zombie answer sound f given fit
    (says, is) =
    subst IsSoundJob (sym is) (fails_sound c m r.hand_out.attempt sound f)
causes_keep calls failures others c m after r (causes.Raised raise) zombie answer sound f given fit
    (says, is) =
    subst IsSoundJob (sym is) (fails_sound c m r.hand_out.attempt sound f)
causes_keep calls failures others c m after r (causes.Device fault) zombie answer sound f given
    fit (says, is) =
    subst IsSoundJob (sym is) (fails_sound c m r.hand_out.attempt sound f)
causes_keep calls failures others c m after r causes.Denied zombie answer sound f given fit
    (says, is) =
    subst IsSoundJob (sym is) (fails_sound c m r.hand_out.attempt sound f)

pub failure_keeps :
    CallsKeepSound → FailuresGoOn → OthersGoOn → (c after : CoreData) (r : Running)
    (cause : FailureCause) (answer : Answer) → IsSoundJob c → job_runs c ≡ true → RunsWell c r
    → fits_failure r cause ≡ true
    → TellsFailure (taken_off c r.hand_out.attempt) r cause answer after → IsSoundJob after
failure_keeps calls failures others c after r cause answer sound job well fit tells =
    by (reaches_limit_in (set_of c.dag a) a cause) tells
  where
    a : AttemptId
    a = r.hand_out.attempt

    left : CoreData
    left = after_failure (taken_off c r.hand_out.attempt) r.hand_out.attempt cause

    is_left : Fails c a left
    is_left = failure_is calls others c a cause sound job

    by : (b : Bool) → TellsFailureIf b (taken_off c a) a cause answer after → IsSoundJob after
    by true (says, is) =
        subst IsSoundJob (sym is)
        (aborts_sound c left left.dag a (limit_of a) sound is_left (still left.dag)
        (carries_same left.dag) is_left.sound)
    by false h =
        causes_keep calls failures others c left after r cause
        (is_zombie_in (set_of c.dag a)) answer sound is_left
        (handed_still c.dag left.dag r.hand_out is_left.carries well.handed_out) fit h
