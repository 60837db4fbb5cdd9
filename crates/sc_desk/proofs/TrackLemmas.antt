-- Who was seen, and what stands on the shelf, once a report was told.
use Rattle.std.proofs.Common.{◌≡◌, ◌⊎◌, inl, inr, ℕ, zero, suc, ◌+◌, ◌≤◌, ◌&&◌, not, Bool, true, false, if◌then◌else◌, List, [], ◌∷◌, length, map, Option, Some, None, slice_get, refl, ap, sym, subst, ◌∙◌}
use Rattle.sc_base.specs.Lists.{at_or}
use Rattle.sc_ids.specs.Changes.{change_at}
use Rattle.sc_ids.specs.declared.attempts.AttemptId.{AttemptId}
use Rattle.sc_ids.specs.declared.blocks.BlockId.{BlockId}
use Rattle.sc_ids.specs.declared.blocks.Loc.{Loc}
use Rattle.sc_ids.specs.declared.failures.FailureCause.{FailureCause}
use Rattle.sc_ids.specs.declared.failures.FailureCause.TheVariants as causes
use Rattle.sc_ids.proofs.ChangeLemmas.{length_change_at}
use Rattle.sc_commit.specs.Committers.{committer_at}
use Rattle.sc_commit.specs.Committing.{holds}
use Rattle.sc_commit.specs.declared.committers.Ending.{Ending}
use Rattle.sc_commit.specs.declared.committers.Ending.TheVariants as endings
use Rattle.sc_taskset.specs.Reports.{after_success}
use Rattle.sc_taskset.specs.declared.tasks.Verdict.{Verdict}
use Rattle.sc_taskset.specs.declared.tasks.Verdict.TheVariants as verdicts
use Rattle.sc_tracker.specs.TrackerData.{TrackerData, tracker_data, trust_of}
use Rattle.sc_tracker.specs.Tracking.{is_bogus, with_forgotten_on}
use Rattle.sc_tracker.specs.Trust.{is_live, is_newer, lost_at, seen_at, untold}
use Rattle.sc_tracker.specs.declared.trust.Trust.{Trust}
use Rattle.sc_dag.specs.DagData.{DagData, changed_newest, stage_at, with_state}
use Rattle.sc_dag.specs.Losses.{after_lost, after_seen}
use Rattle.sc_dag.specs.Outputs.{is_complete}
use Rattle.sc_dag.specs.Reports.{FailsStage, after_failed, after_hold, after_map_success, block_by, ended_in_own, is_finished_short, is_of_newest, is_repeat, map_success_of, reaches_limit_in, registered_by, result_success_of, set_of, succeeded_in_both, succeeded_in_own, with_failed, with_output}
use Rattle.sc_dag.specs.Submission.{IsSubmitted, this_stage}
use Rattle.sc_dag.specs.declared.reports.Success.{Success}
use Rattle.sc_dag.specs.declared.reports.Success.TheVariants as successes
use Rattle.sc_core.specs.CoreData.{CoreData, ended, with_dag}
use Rattle.sc_core.specs.Losses.{all_released}
use Rattle.sc_core.specs.Tells.{FailsBy, FailsOrAborts, FollowsUp, IsGone, LooksAgain, Misses, MissesIf, Tells, TellsFailure, TellsFailureIf, TellsMap, TellsResult, after_failure, after_result, done_if, is_zombie_in, limit_of, released, with_result_of}
use Rattle.sc_core.specs.declared.answers.Abort.TheVariants.{StageLimit}
use Rattle.sc_core.specs.declared.answers.Answer.{Answer}
use Rattle.sc_core.specs.declared.answers.JobState.{JobState}
use Rattle.sc_core.specs.declared.answers.JobState.TheVariants as jobs
use Rattle.sc_core.specs.declared.events.Outcome.{Outcome}
use Rattle.sc_core.specs.declared.events.Outcome.TheVariants as outcomes
use Rattle.sc_core.specs.declared.running.Running.{Running}
use Rattle.sc_history.proofs.StageRoomLemmas.{result_tracker}

-- ---- who was seen

-- of no executor's store a generation above its bound was seen
abbrev pub SeenWithin : (ℕ → ℕ) → DagData → Type 0
SeenWithin bound d = (exec : ℕ) → (trust_of d.tracker exec).seen ≤ bound exec

-- a cause shows no generation above its bound
abbrev pub ShowsBy : (ℕ → ℕ) → FailureCause → Type 0
ShowsBy bound (causes.Gone exec wanted found) = found ≤ bound exec
ShowsBy bound cause = Unit {0}

abbrev pub ShowsWithin : (ℕ → ℕ) → Outcome → Type 0
ShowsWithin bound (outcomes.Map loc) = Unit {0}
ShowsWithin bound outcomes.Result = Unit {0}
ShowsWithin bound (outcomes.Failed cause) = ShowsBy bound cause

-- the executors are as many as before, and none was seen above its bound that wasn't
pub record Sees (bound : ℕ → ℕ) (d after : DagData) : Type 0 where
  pub execs : length after.tracker.trust ≡ length d.tracker.trust
  pub within : SeenWithin bound d → SeenWithin bound after

pub sees_same :
    (bound : ℕ → ℕ) (d after : DagData) → after.tracker.trust ≡ d.tracker.trust
    → Sees bound d after
sees_same bound d after same =
    record {
      execs = ap length same;
      within = λ h exec. subst (λ ts. (at_or ts exec untold).seen ≤ bound exec) (sym same) (h exec);
    }

pub sees_then :
    (bound : ℕ → ℕ) (c d e : DagData) → Sees bound c d → Sees bound d e → Sees bound c e
sees_then bound c d e h k =
    record { execs = k.execs ∙ h.execs; within = λ all. k.within (h.within all) }

-- where one of them is changed
seen_changed :
    (bound : ℕ → ℕ) (ts : List Trust) (i : ℕ) (f : Trust → Trust)
    → ((t : Trust) → (f t).seen ≤ bound i)
    → ((exec : ℕ) → (at_or ts exec untold).seen ≤ bound exec)
    → (exec : ℕ) → (at_or (change_at ts i f) exec untold).seen ≤ bound exec
seen_changed bound [] i f one all exec = all exec
seen_changed bound (t ∷ ts) zero f one all zero = one t
seen_changed bound (t ∷ ts) zero f one all (suc exec) = all (suc exec)
seen_changed bound (t ∷ ts) (suc i) f one all zero = all zero
seen_changed bound (t ∷ ts) (suc i) f one all (suc exec) =
    seen_changed (λ n. bound (suc n)) ts i f one (λ n. all (suc n)) exec

-- where one of them is changed but for what was seen
seen_kept :
    (ts : List Trust) (i : ℕ) (f : Trust → Trust) → ((t : Trust) → (f t).seen ≡ t.seen)
    → (exec : ℕ) → (at_or (change_at ts i f) exec untold).seen ≡ (at_or ts exec untold).seen
seen_kept [] i f one exec = refl
seen_kept (t ∷ ts) zero f one zero = one t
seen_kept (t ∷ ts) zero f one (suc exec) = refl
seen_kept (t ∷ ts) (suc i) f one zero = refl
seen_kept (t ∷ ts) (suc i) f one (suc exec) = seen_kept ts i f one exec

pub seen_sees :
    (bound : ℕ → ℕ) (d : DagData) (exec found : ℕ) → found ≤ bound exec
    → Sees bound d (after_seen d exec found)
seen_sees bound d exec found le = by (is_newer (slice_get d.tracker.trust exec) found) refl
  where
    changed : TrackerData
    changed =
        tracker_data (map (with_forgotten_on exec) d.tracker.shuffles)
        (change_at d.tracker.trust exec (seen_at found d.tracker.epoch)) (d.tracker.epoch + 1)

    by : (b : Bool) → is_newer (slice_get d.tracker.trust exec) found ≡ b
        → Sees bound d (after_seen d exec found)
    by true e =
        rw e (record {
          execs = length_change_at d.tracker.trust exec (seen_at found d.tracker.epoch);
          within = seen_changed bound d.tracker.trust exec (seen_at found d.tracker.epoch)
              (λ t. le);
        })
    by false e = rw e (record { execs = refl; within = λ all. all })

pub lost_sees : (bound : ℕ → ℕ) (d : DagData) (exec : ℕ) → Sees bound d (after_lost d exec)
lost_sees bound d exec = by (is_live (slice_get d.tracker.trust exec)) refl
  where
    by : (b : Bool) → is_live (slice_get d.tracker.trust exec) ≡ b
        → Sees bound d (after_lost d exec)
    by true e =
        rw e (record {
          execs = length_change_at d.tracker.trust exec (lost_at d.tracker.epoch);
          within = λ all n. subst (λ (m : ℕ). m ≤ bound n)
              (sym (seen_kept d.tracker.trust exec (lost_at d.tracker.epoch) (λ t. refl) n))
              (all n);
        })
    by false e = rw e (record { execs = refl; within = λ all. all })

-- ---- stages

pub submitted_trust :
    (d after : DagData) (submitted : ℕ → Bool) → IsSubmitted d submitted after
    → after.tracker.trust ≡ d.tracker.trust
submitted_trust d after submitted (looked, are, is) = ap (λ (x : DagData). x.tracker.trust) is

fails_trust :
    (d after : DagData) (s number : ℕ) (verdict : Verdict) → FailsStage d s number verdict after
    → after.tracker.trust ≡ d.tracker.trust
fails_trust d after s number verdicts.Limit (often, is) =
    ap (λ (x : DagData). x.tracker.trust) is
fails_trust d after s number verdicts.Again (often, h) =
    submitted_trust (with_state d s (with_failed number)) after (this_stage s) h

looks_trust : (x y : Bool) (d after : DagData) (s : ℕ) → LooksAgain x y d s after
    → after.tracker.trust ≡ d.tracker.trust
looks_trust true y d after s (looked, are, is) = ap (λ (x : DagData). x.tracker.trust) is
looks_trust false true d after s (looked, are, is) = ap (λ (x : DagData). x.tracker.trust) is
looks_trust false false d after s is = ap (λ (x : DagData). x.tracker.trust) is

follows_trust : (success : Success) (d after : DagData) (s : ℕ) → FollowsUp success d s after
    → after.tracker.trust ≡ d.tracker.trust
follows_trust successes.Repeated d after s is = ap (λ (x : DagData). x.tracker.trust) is
follows_trust successes.Registered d after s h =
    looks_trust (is_complete d s) (is_finished_short d s) d after s h
follows_trust successes.Bogus d after s h =
    looks_trust (is_complete d s) (is_finished_short d s) d after s h
follows_trust successes.Finished d after s h =
    looks_trust (is_complete d s) (is_finished_short d s) d after s h

output_trust : (t : TrackerData) (block : Option BlockId) (loc : Loc)
    → (registered_by t block loc).trust ≡ t.trust
output_trust t None loc = refl
output_trust t (Some block) loc = refl

map_trust : (d : DagData) (a : AttemptId) (loc : Loc) (epoch now : ℕ)
    → (after_map_success d a loc epoch now).tracker.trust ≡ d.tracker.trust
map_trust d a loc epoch now = by (is_repeat d a) (is_bogus d.tracker loc epoch)
  where
    both : (b : Bool)
        → (if b then succeeded_in_own (with_output d a loc) a now
        else with_state (succeeded_in_own (with_output d a loc) a now) a.stage
        (changed_newest (λ set. after_success set a.partition None now))).tracker.trust
        ≡ (with_output d a loc).tracker.trust
    both true = refl
    both false = refl

    by : (x y : Bool) → (if x then ended_in_own d a
        else if y then succeeded_in_own d a now
        else succeeded_in_both (with_output d a loc) a now).tracker.trust ≡ d.tracker.trust
    by true y = refl
    by false true = refl
    by false false =
        both (is_of_newest (with_output d a loc) a)
        ∙ output_trust d.tracker (block_by (stage_at d a.stage).target a.partition) loc

released_trust : (c : CoreData) (a : AttemptId) (how : Ending)
    → (released c a how).dag.tracker.trust ≡ c.dag.tracker.trust
released_trust c a how = by (holds a (committer_at c.committers a.partition))
  where
    by : (b : Bool)
        → (if b then after_hold c.dag a.stage a.partition false else c.dag).tracker.trust
        ≡ c.dag.tracker.trust
    by true = refl
    by false = refl

pub all_released_trust : (these : List AttemptId) (c : CoreData)
    → (all_released these c).dag.tracker.trust ≡ c.dag.tracker.trust
all_released_trust [] c = refl
all_released_trust (a ∷ these) c =
    all_released_trust these (released c a endings.Failed) ∙ released_trust c a endings.Failed

-- ---- reports

-- the job and the shelf stay as they are, or the shelf is dropped
abbrev pub StaysOrDrops : CoreData → CoreData → Type 0
StaysOrDrops c after =
    ((after.job ≡ c.job) × (after.shelf ≡ c.shelf)) ⊎ (after.shelf ≡ [])

-- what a report that is told leaves of them
pub record Tracks (bound : ℕ → ℕ) (c after : CoreData) : Type 0 where
  pub sees : Sees bound c.dag after.dag
  pub drops : StaysOrDrops c after

drops_then :
    (c d e : CoreData) → StaysOrDrops c d → StaysOrDrops d e → StaysOrDrops c e
drops_then c d e (inl (job, shelf)) (inl (job', shelf')) = inl (job' ∙ job, shelf' ∙ shelf)
drops_then c d e (inr none) (inl (job, shelf)) = inr (shelf ∙ none)
drops_then c d e h (inr none) = inr none

tracks_then :
    (bound : ℕ → ℕ) (c d e : CoreData) → Tracks bound c d → Tracks bound d e → Tracks bound c e
tracks_then bound c d e h k =
    record {
      sees = sees_then bound c.dag d.dag e.dag h.sees k.sees;
      drops = drops_then c d e h.drops k.drops;
    }

-- a core that differs in its stages
tracks_with :
    (bound : ℕ → ℕ) (c after x : CoreData) → Sees bound c.dag x.dag → x.job ≡ c.job
    → x.shelf ≡ c.shelf → after ≡ x → Tracks bound c after
tracks_with bound c after x sees job shelf is =
    subst (λ y. Tracks bound c y) (sym is) (record { sees = sees; drops = inl (job, shelf) })

-- and one whose job has ended
tracks_ended :
    (bound : ℕ → ℕ) (c after x : CoreData) (job : JobState) → Sees bound c.dag x.dag
    → after ≡ ended x job → Tracks bound c after
tracks_ended bound c after x job sees is =
    subst (λ y. Tracks bound c y) (sym is) (record { sees = sees; drops = inr refl })

map_tracks :
    (bound : ℕ → ℕ) (c after : CoreData) (r : Running) (loc : Loc) (answer : Answer)
    → TellsMap c r loc answer after → Tracks bound c after
map_tracks bound c after r loc answer (next, up, told, is) =
    tracks_with bound c after (with_dag c next)
    (sees_same bound c.dag next
    (follows_trust (map_success_of c.dag a loc r.hand_out.epoch) mid next a.stage up
    ∙ map_trust c.dag a loc r.hand_out.epoch c.now)) refl refl is
  where
    a : AttemptId
    a = r.hand_out.attempt

    mid : DagData
    mid = after_map_success c.dag r.hand_out.attempt loc r.hand_out.epoch c.now

result_tracks :
    (bound : ℕ → ℕ) (c after : CoreData) (r : Running) (answer : Answer)
    → TellsResult c r answer after → Tracks bound c after
result_tracks bound c after r answer (told, is) = by (result_success_of c.dag a) is
  where
    a : AttemptId
    a = r.hand_out.attempt

    freed : CoreData
    freed = released c r.hand_out.attempt endings.Succeeded

    next : CoreData
    next = with_result_of (released c r.hand_out.attempt endings.Succeeded) r.hand_out.attempt

    sees : Sees bound c.dag next.dag
    sees =
        sees_same bound c.dag next.dag
        (ap (λ (t : TrackerData). t.trust) (result_tracker freed.dag a freed.now)
        ∙ released_trust c a endings.Succeeded)

    won : (b : Bool) → after ≡ done_if b next → Tracks bound c after
    won true e = tracks_ended bound c after next jobs.Done sees e
    won false e = tracks_with bound c after next sees refl refl e

    by : (s : Success) → after ≡ after_result s c a → Tracks bound c after
    by successes.Repeated e =
        tracks_with bound c after (with_result_of c a)
        (sees_same bound c.dag (with_result_of c a).dag
        (ap (λ (t : TrackerData). t.trust) (result_tracker c.dag a c.now))) refl refl e
    by successes.Registered e = won (is_complete next.dag a.stage) e
    by successes.Bogus e = won (is_complete next.dag a.stage) e
    by successes.Finished e = won (is_complete next.dag a.stage) e

misses_tracks :
    (bound : ℕ → ℕ) (c after : CoreData) (a : AttemptId) (answer : Answer)
    → Misses c a answer after → Tracks bound c after
misses_tracks bound c after a answer miss =
    by (is_of_newest c.dag a && not (is_complete c.dag a.stage)) miss
  where
    verdict_tracks : (verdict : Verdict) (d : DagData) → Sees bound c.dag d
        → FailsOrAborts c a verdict d answer after → Tracks bound c after
    verdict_tracks verdicts.Limit d h (told, is) =
        tracks_ended bound c after (with_dag c d) (jobs.Aborted (StageLimit a.stage)) h is
    verdict_tracks verdicts.Again d h (told, is) =
        tracks_with bound c after (with_dag c d) h refl refl is

    by : (b : Bool) → MissesIf b c a answer after → Tracks bound c after
    by true (verdict, d, f, or) =
        verdict_tracks verdict d
        (sees_same bound c.dag d (fails_trust c.dag d a.stage a.stage_attempt verdict f)) or
    by false (told, is) =
        tracks_with bound c after c (sees_same bound c.dag c.dag refl) refl refl is

cause_tracks :
    (bound : ℕ → ℕ) (c after : CoreData) (a : AttemptId) (cause : FailureCause) (zombie : Bool)
    (answer : Answer) → ShowsBy bound cause → FailsBy cause zombie c a answer after
    → Tracks bound c after
cause_tracks bound c after a cause zombie answer shows h = of cause shows h
  where
    same : after ≡ c → Tracks bound c after
    same is = tracks_with bound c after c (sees_same bound c.dag c.dag refl) refl refl is

    gone : (exec found : ℕ) → found ≤ bound exec → (x y : Bool)
        → IsGone x y c a exec found answer after → Tracks bound c after
    gone exec found le true y k =
        let seen = with_dag c (after_seen c.dag exec found) in
        tracks_then bound c seen after
        (tracks_with bound c seen seen (seen_sees bound c.dag exec found le) refl refl refl)
        (misses_tracks bound seen after a answer k)
    gone exec found le false true (told, is) = same is
    gone exec found le false false k = misses_tracks bound c after a answer k

    of : (cause : FailureCause) → ShowsBy bound cause → FailsBy cause zombie c a answer after
        → Tracks bound c after
    of (causes.Gone exec wanted found) le k =
        gone exec found le (is_newer (slice_get c.dag.tracker.trust exec) found) zombie k
    of (causes.Metadata last) le k = misses_tracks bound c after a answer k
    of causes.Planned le (told, is) = same is
    of (causes.Raised raise) le (told, is) = same is
    of (causes.Device fault) le (told, is) = same is
    of causes.Denied le (told, is) = same is

failure_tracks :
    (bound : ℕ → ℕ) (c after : CoreData) (r : Running) (cause : FailureCause) (answer : Answer)
    → ShowsBy bound cause → TellsFailure c r cause answer after → Tracks bound c after
failure_tracks bound c after r cause answer shows tells =
    by (reaches_limit_in (set_of c.dag a) a cause) tells
  where
    a : AttemptId
    a = r.hand_out.attempt

    failed : CoreData
    failed = after_failure c r.hand_out.attempt cause

    sees : Sees bound c.dag failed.dag
    sees =
        sees_same bound c.dag failed.dag
        (released_trust (with_dag c (after_failed c.dag a cause)) a endings.Failed)

    by : (b : Bool) → TellsFailureIf b c a cause answer after → Tracks bound c after
    by true (told, is) =
        tracks_ended bound c after failed (jobs.Aborted (limit_of a)) sees is
    by false h =
        tracks_then bound c failed after
        (tracks_with bound c failed failed sees refl refl refl)
        (cause_tracks bound failed after a cause (is_zombie_in (set_of c.dag a)) answer shows h)

pub tells_track :
    (bound : ℕ → ℕ) (c after : CoreData) (r : Running) (outcome : Outcome) (answer : Answer)
    → ShowsWithin bound outcome → Tells c r outcome answer after → Tracks bound c after
tells_track bound c after r (outcomes.Map loc) answer shows h =
    map_tracks bound c after r loc answer h
tells_track bound c after r outcomes.Result answer shows h =
    result_tracks bound c after r answer h
tells_track bound c after r (outcomes.Failed cause) answer shows h =
    failure_tracks bound c after r cause answer shows h
