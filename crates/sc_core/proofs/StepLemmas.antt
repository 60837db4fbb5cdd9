-- Every event keeps what holds of every core, and so does every journal.
use Rattle.std.proofs.Common.{◌≡◌, ℕ, ◌^◌, ◌<◌, All, Bool, true, false, [], ◌∷◌, Option, Some, None, option_map, refl, ap, sym, subst, ◌∙◌}
use Rattle.std.specs.List.{AllPairs}
use Rattle.std.proofs.lemmas.List.Elements.{All-weaker}
use Rattle.sc_ids.specs.declared.attempts.AttemptId.{AttemptId}
use Rattle.sc_taskset.proofs.FindLemmas.{found_is, found_passes}
use Rattle.sc_dag.specs.Laws.{CallsKeepSound, FailuresGoOn, MapSuccessesGoOn, OthersGoOn, ResultSuccessesGoOn}
use Rattle.sc_core.specs.CoreData.{CoreData, as_in, has_key, is_of, is_running_job, job_runs, running_of, shelved, shelved_if, shelved_of, taken_off, told_once, without_shelved}
use Rattle.sc_core.specs.Laws.{ReplaysKeepSound, StepsKeepSound}
use Rattle.sc_core.specs.Posts.{PostsBy, PostsIf, PostsOf, TellsNow, comes_twice, delay_for, fits}
use Rattle.sc_tracker.specs.Trust.{are_lost}
use Rattle.sc_core.specs.declared.answers.Abort.TheVariants.{NoExecutor}
use Rattle.sc_core.specs.Losses.{LosesOrAborts, without_executor}
use Rattle.sc_core.specs.Releases.{ReleasesIf, ReleasesOf}
use Rattle.sc_core.specs.Sound.{AreLostAsPlanned, IsShelvedWell, IsSoundCore, IsSoundJob, IsSoundSave, IsStaffed, RunsWell, SavesWell, is_shelved}
use Rattle.sc_core.specs.Sides.{StepsAside}
use Rattle.sc_core.specs.Tells.{Tells, TellsTo}
use Rattle.sc_core.specs.declared.events.Event.TheVariants.{Post, Release, Side, Take, TellLost}
use Rattle.sc_core.specs.declared.events.Outcome.{Outcome}
use Rattle.sc_core.specs.declared.events.Outcome.TheVariants as outcomes
use Rattle.sc_core.specs.declared.answers.Answer.{Answer}
use Rattle.sc_core.specs.declared.running.Running.{Running}
use Rattle.sc_core.specs.declared.running.Shelved.{Shelved}
use Rattle.sc_core.proofs.LookupLemmas.{same_is}
use Rattle.sc_core.proofs.LeftLemmas.{tells_left}
use Rattle.sc_core.proofs.ShelfLemmas.{Unshelved, alike_shelf, awaits_it, find_in, fits_in, fits_still, shelved_job, shelved_shelf, told_shelf, unshelved, unshelved_told}
use Rattle.sc_core.proofs.LoseLemmas.{IsSoundBut, lose_sound}
use Rattle.sc_core.proofs.PlannedLemmas.{counted_fits, counted_more, planned_still}
use Rattle.sc_core.proofs.TakeLemmas.{aborted_sound, calm_sound, takes_keep}
use Rattle.sc_core.proofs.FailureLemmas.{failure_keeps}
use Rattle.sc_core.proofs.MapLemmas.{map_keeps}
use Rattle.sc_core.proofs.ResultLemmas.{result_keeps}
use Rattle.sc_core.proofs.StaffLemmas.{live_still, not_all_lost, runs_not_aborted}
use Rattle.sc_core.proofs.SaveAsideLemmas.{sides_save}
use Rattle.sc_core.proofs.SaveResultLemmas.{result_saves}
use Rattle.sc_core.proofs.SaveStepLemmas.{lose_saves, shelved_saves}
use Rattle.sc_core.proofs.SaveTellLemmas.{calm_saves, failure_saves, map_saves}
use Rattle.sc_core.proofs.SideLemmas.{aside_sound, may_hold, steps_aside}
use Rattle.sc_dag.proofs.Tests.{both_left}

-- what a report of a running attempt is told of
pub record IsPosted (c : CoreData) (a : AttemptId) (r : Running) : Type 0 where
  pub attempt : r.hand_out.attempt ≡ a
  pub well : RunsWell c r

pub posted : (c : CoreData) (a : AttemptId) (r : Running) → IsSoundJob c
    → running_of c a ≡ Some r → IsPosted c a r
posted c a r sound e =
    record {
      attempt = same_is r.hand_out.attempt a (found_passes (is_of a) c.running r e);
      well = found_is (RunsWell c) (is_of a) c.running r sound.running e;
    }

-- it is as far as its grant tells
posted_far : (c : CoreData) (a : AttemptId) (r : Running) → IsSoundSave c
    → running_of c a ≡ Some r → SavesWell c r
posted_far c a r save e = found_is (SavesWell c) (is_of a) c.running r save.phases e

-- what a report that fits leaves of who may commit
tells_save :
    CallsKeepSound → OthersGoOn → (c after : CoreData) (r : Running) (outcome : Outcome)
    (answer : Answer) → IsSoundJob c → RunsWell c r → SavesWell c r → IsSoundSave c
    → fits c r outcome ≡ true → Tells (taken_off c r.hand_out.attempt) r outcome answer after
    → job_runs after ≡ true → IsSoundSave after
tells_save calls others c after r (outcomes.Map loc) answer job well far save fit tells on =
    map_saves c after r loc answer job save fit tells
tells_save calls others c after r outcomes.Result answer job well far save fit tells on =
    result_saves calls others c after r answer job well far save fit tells on
tells_save calls others c after r (outcomes.Failed cause) answer job well far save fit tells on =
    failure_saves c after r cause answer job save tells

-- what a report that fits leaves of what runs
tells_keep :
    CallsKeepSound → MapSuccessesGoOn → ResultSuccessesGoOn → FailuresGoOn → OthersGoOn
    → (c after : CoreData) (r : Running) (outcome : Outcome) (answer : Answer) → IsSoundJob c
    → job_runs c ≡ true → RunsWell c r → fits c r outcome ≡ true
    → Tells (taken_off c r.hand_out.attempt) r outcome answer after → IsSoundJob after
tells_keep calls maps results failures others c after r (outcomes.Map loc) answer sound job well
    fit tells =
    map_keeps calls maps others c after r loc answer sound job well fit tells
tells_keep calls maps results failures others c after r outcomes.Result answer sound job well fit
    tells =
    result_keeps calls results others c after r answer sound job well fit tells
tells_keep calls maps results failures others c after r (outcomes.Failed cause) answer sound job
    well fit tells =
    failure_keeps calls failures others c after r cause answer sound job well fit tells

-- a report that is of no running attempt leaves what runs
counted_keeps : (c : CoreData) → IsSoundJob c → IsSoundJob (told_once c)
counted_keeps c sound =
    calm_sound c (told_once c) sound refl refl refl sound.goes_on sound.done

-- what is told of an attempt leaves every core sound that was, but for its shelf
tells_leave :
    CallsKeepSound → MapSuccessesGoOn → ResultSuccessesGoOn → FailuresGoOn → OthersGoOn
    → (c after : CoreData) (a : AttemptId) (r : Running) (outcome : Outcome) (answer : Answer)
    → IsSoundJob c → job_runs c ≡ true → IsPosted c a r → fits c r outcome ≡ true
    → All (λ q. is_of a q ≡ false → q.is_out ≡ false
    → is_shelved c.shelf q.hand_out.attempt ≡ true) c.running
    → All (IsShelvedWell c) c.shelf → AllPairs (λ s t. s.key < t.key) c.shelf
    → AreLostAsPlanned c → c.told < 2 ^ 64 → IsStaffed c → IsSoundSave c → SavesWell c r
    → Tells (taken_off c a) r outcome answer after → IsSoundCore after
tells_leave calls maps results failures others c after a r outcome answer sound job p fit out each
    rising lost count staffed save far tells =
    let left = tells_left (taken_off c a) after r outcome answer tells in
    record {
      job = tells_keep calls maps results failures others c after r outcome answer sound job p.well
          fit (subst (λ b. Tells (taken_off c b) r outcome answer after) (sym p.attempt) tells);
      shelf = told_shelf c after a out each rising left;
      save = tells_save calls others c after r outcome answer sound p.well far save fit
          (subst (λ b. Tells (taken_off c b) r outcome answer after) (sym p.attempt) tells);
      lost = planned_still c after lost left.lost left.plan
          (rw left.told (counted_more c.told count));
      told = rw left.told (counted_fits c.told);
      staffed = λ other. live_still c.dag.tracker after.dag.tracker left.many left.lost
          (staffed (runs_not_aborted c NoExecutor job));
    }

-- a report that is to be told later leaves a core sound
shelved_sound :
    (c : CoreData) (a : AttemptId) (r : Running) (outcome : Outcome) (delay : ℕ) → IsSoundCore c
    → job_runs c ≡ true → running_of c a ≡ Some r → fits c r outcome ≡ true
    → IsSoundCore (shelved c a outcome delay)
shelved_sound c a r outcome delay sound job e fit =
    record {
      job = shelved_job c a outcome delay sound.job;
      shelf = λ h. shelved_shelf c a r outcome delay sound.job e fit (sound.shelf job);
      save = λ h. shelved_saves c a outcome delay sound.job (sound.save job);
      lost = sound.lost;
      told = sound.told;
      staffed = sound.staffed;
    }

-- a running attempt, once a report of it is to be told later or not
pub record StillRuns (after : CoreData) (a : AttemptId) (outcome : Outcome) : Type 0 where
  pub one : Running
  pub found : running_of after a ≡ Some one
  pub fit : fits after one outcome ≡ true
  pub sound : IsSoundCore after

pub shelved_runs :
    (c : CoreData) (a : AttemptId) (r : Running) (outcome : Outcome) (delay : ℕ) → IsSoundCore c
    → job_runs c ≡ true → running_of c a ≡ Some r → fits c r outcome ≡ true
    → StillRuns (shelved c a outcome delay) a outcome
shelved_runs c a r outcome delay sound job e fit =
    record {
      one = as_in a r;
      found = find_in a a c.running ∙ ap (option_map (as_in a)) e;
      fit = fits_still c (shelved c a outcome delay) (as_in a r) outcome refl refl
          (fits_in c a r outcome ∙ fit);
      sound = shelved_sound c a r outcome delay sound job e fit;
    }

pub steps_keep_by :
    CallsKeepSound → MapSuccessesGoOn → ResultSuccessesGoOn → FailuresGoOn → OthersGoOn
    → StepsKeepSound
steps_keep_by calls maps results failures others c after (Take exec) answer sound step =
    takes_keep calls others c after exec answer sound step
steps_keep_by calls maps results failures others c after (Post a outcome) answer sound step =
    by (job_runs c) refl step
  where
    late : (r : Running) → running_of c a ≡ Some r → job_runs c ≡ true
        → fits c r outcome ≡ true → (delay : ℕ) (twice : Bool)
        → IsSoundCore (shelved_if twice (shelved c a outcome delay) a outcome delay)
    late r e job fit delay false = shelved_sound c a r outcome delay sound job e fit
    late r e job fit delay true =
        let s = shelved_runs c a r outcome delay sound job e fit in
        shelved_sound (shelved c a outcome delay) a s.one outcome delay s.sound job s.found s.fit

    at_once : (r : Running) → running_of c a ≡ Some r → job_runs c ≡ true
        → fits c r outcome ≡ true → (twice : Bool)
        → TellsNow (shelved_if twice c a outcome 0) a outcome answer after → IsSoundCore after
    at_once r e job fit false tells =
        tells_leave calls maps results failures others c after a r outcome answer sound.job job
        (posted c a r sound.job e) fit
        (All-weaker (λ q. q.is_out ≡ false → is_shelved c.shelf q.hand_out.attempt ≡ true)
        (λ q. is_of a q ≡ false → q.is_out ≡ false
        → is_shelved c.shelf q.hand_out.attempt ≡ true) (λ q h other. h) c.running
        (sound.shelf job).out)
        (sound.shelf job).each (sound.shelf job).rising sound.lost sound.told sound.staffed
        (sound.save job) (posted_far c a r (sound.save job) e) (rw e at tells)
    at_once r e job fit true tells =
        let next = shelved c a outcome 0 in
        let s = shelved_runs c a r outcome 0 sound job e fit in
        let shelf = s.sound.shelf job in
        tells_leave calls maps results failures others next after a s.one outcome answer
        s.sound.job job (posted next a s.one s.sound.job s.found) s.fit
        (All-weaker (λ q. q.is_out ≡ false → is_shelved next.shelf q.hand_out.attempt ≡ true)
        (λ q. is_of a q ≡ false → q.is_out ≡ false
        → is_shelved next.shelf q.hand_out.attempt ≡ true) (λ q h other. h) next.running shelf.out)
        shelf.each shelf.rising s.sound.lost s.sound.told s.sound.staffed (s.sound.save job)
        (posted_far next a s.one (s.sound.save job) s.found) (rw s.found at tells)

    posts : (r : Running) → running_of c a ≡ Some r → job_runs c ≡ true
        → fits c r outcome ≡ true → (delay : Option ℕ)
        → PostsBy delay c a outcome answer after → IsSoundCore after
    posts r e job fit None tells = at_once r e job fit (comes_twice c a) tells
    posts r e job fit (Some delay) (says, is) =
        subst IsSoundCore (sym is) (late r e job fit delay (comes_twice c a))

    of : (o : Option Running) → running_of c a ≡ o → job_runs c ≡ true
        → PostsOf o c a outcome answer after → IsSoundCore after
    of None e job (says, is) =
        subst IsSoundCore (sym is)
        (record {
          job = counted_keeps c sound.job;
          shelf = λ h. alike_shelf c (told_once c) refl refl refl refl refl (sound.shelf job);
          save = λ h. calm_saves c (told_once c) sound.job refl refl refl (sound.save job);
          lost = planned_still c (told_once c) sound.lost (λ x. refl) refl
              (counted_more c.told sound.told);
          told = counted_fits c.told;
          staffed = sound.staffed;
        })
    of (Some r) e job (fit, posted) = posts r e job fit (delay_for c a) posted

    by : (b : Bool) → job_runs c ≡ b → PostsIf b c a outcome answer after → IsSoundCore after
    by false e (says, is) = subst IsSoundCore (sym is) sound
    by true e h = of (running_of c a) refl e h
steps_keep_by calls maps results failures others c after (Release key) answer sound step =
    by (job_runs c) refl step
  where
    next : CoreData
    next = without_shelved c key

    kept : IsSoundJob next
    kept = calm_sound c next sound.job refl refl refl sound.job.goes_on sound.job.done

    saved : job_runs c ≡ true → IsSoundSave next
    saved job = calm_saves c next sound.job refl refl refl (sound.save job)

    told : (s : Shelved) → Unshelved c next s.attempt → job_runs c ≡ true → IsShelvedWell c s
        → (o : Option Running) → running_of c s.attempt ≡ o
        → TellsTo o next s.attempt s.outcome answer after → IsSoundCore after
    told s u job waits None e (says, is) =
        subst IsSoundCore (sym is)
        (record {
          job = counted_keeps next kept;
          shelf = λ h. unshelved_told c next s.attempt u e;
          save = λ h. calm_saves c (told_once next) sound.job refl refl refl (sound.save job);
          lost = planned_still c (told_once next) sound.lost (λ x. refl) refl
              (counted_more c.told sound.told);
          told = counted_fits c.told;
          staffed = sound.staffed;
        })
    told s u job waits (Some r) e tells =
        let await = awaits_it c s r waits e in
        tells_leave calls maps results failures others next after s.attempt r s.outcome answer
        kept job (posted next s.attempt r kept e)
        (fits_still c next r s.outcome refl refl await.fit) u.out u.each u.rising sound.lost
        sound.told sound.staffed (saved job)
        (posted_far next s.attempt r (saved job) e) tells

    of : (o : Option Shelved) → shelved_of c key ≡ o → job_runs c ≡ true
        → ReleasesOf o c key answer after → IsSoundCore after
    of None e job bad = absurd bad
    of (Some s) e job tells =
        told s (unshelved c key s (sound.shelf job) e) job
        (found_is (IsShelvedWell c) (has_key key) c.shelf s (sound.shelf job).each e)
        (running_of c s.attempt) refl tells

    by : (b : Bool) → job_runs c ≡ b → ReleasesIf b c key answer after → IsSoundCore after
    by false e (says, is) = subst IsSoundCore (sym is) sound
    by true e h = of (shelved_of c key) refl e h
steps_keep_by calls maps results failures others c after (Side event) answer sound step =
    let is = steps_aside c after event answer step in
    aside_sound c after is (may_hold calls others c.dag after.dag is.dag) sound
    (λ h. saved step (sym (ap is_running_job is.job) ∙ h))
  where
    saved : StepsAside c event answer after → job_runs c ≡ true → IsSoundSave after
    saved (said, told, sides) job = sides_save c after event said sound.job (sound.save job) sides
steps_keep_by calls maps results failures others c after (TellLost exec) answer sound (may, step) =
    by (are_lost (without_executor c exec).dag.tracker.trust) refl step
  where
    next : CoreData
    next = without_executor c exec

    left : IsSoundBut (without_executor c exec)
    left = lose_sound calls others c exec sound may

    by : (b : Bool) → are_lost next.dag.tracker.trust ≡ b → LosesOrAborts b next answer after
        → IsSoundCore after
    by true e (says, is) =
        subst IsSoundCore (sym is)
        (aborted_sound next NoExecutor left.job left.lost left.told (λ other. absurd (other refl)))
    by false e (says, is) =
        subst IsSoundCore (sym is)
        (record {
          job = left.job;
          shelf = λ r. left.shelf;
          save = λ r. lose_saves c exec sound.job
              (sound.save (both_left (job_runs c) _ may));
          lost = left.lost;
          told = left.told;
          staffed = λ other. not_all_lost next.dag.tracker e;
        })

pub replays_keep_by : StepsKeepSound → ReplaysKeepSound
replays_keep_by steps opening end [] sound is = subst IsSoundCore (sym is) sound
replays_keep_by steps opening end (entry ∷ entries) sound (mid, step, rest) =
    replays_keep_by steps mid end entries
    (steps opening mid entry.event entry.answer sound step) rest
