-- Who may commit, once a report of a running attempt was told that wins no result.
use Rattle.std.proofs.Common.{◌≡◌, ◌≢◌, ℕ, ◌&&◌, ◌||◌, not, All, Bool, true, false, cond, List, [], ◌∷◌, Some, None, find, get_or, length, ◌-◌, slice_get, refl, ap, sym, subst, ◌∙◌, rules}
use Rattle.std.specs.List.{filter}
use Rattle.std.proofs.lemmas.List.Elements.{All-filter}
use Rattle.sc_base.specs.Lists.{at_or}
use Rattle.sc_ids.specs.Graphs.{StageData}
use Rattle.sc_ids.specs.declared.attempts.AttemptId.{AttemptId}
use Rattle.sc_ids.specs.declared.blocks.Loc.{Loc}
use Rattle.sc_ids.specs.declared.failures.FailureCause.{FailureCause}
use Rattle.sc_ids.specs.declared.failures.FailureCause.TheVariants as causes
use Rattle.sc_commit.specs.Committers.{committer_at}
use Rattle.sc_commit.specs.Committing.{is_same}
use Rattle.sc_commit.specs.declared.committers.Ending.TheVariants as endings
use Rattle.sc_taskset.specs.declared.tasks.Verdict.{Verdict}
use Rattle.sc_taskset.specs.declared.tasks.Verdict.TheVariants as verdicts
use Rattle.sc_tracker.specs.Trust.{is_newer}
use Rattle.sc_dag.specs.DagData.{DagData, no_stage, stage_at}
use Rattle.sc_dag.specs.Losses.{after_seen}
use Rattle.sc_dag.specs.Outputs.{is_complete}
use Rattle.sc_dag.specs.Reports.{FailsStage, after_failed, after_map_success, is_finished_short, is_of_newest, map_success_of, reaches_limit_in, set_of}
use Rattle.sc_dag.specs.Submission.{is_map, this_stage}
use Rattle.sc_dag.specs.declared.reports.Success.{Success}
use Rattle.sc_dag.specs.declared.reports.Success.TheVariants as successes
use Rattle.sc_dag.proofs.Tests.{both_left, clash}
use Rattle.sc_core.specs.CoreData.{CoreData, ended, is_of, result_stage, taken_off, with_dag}
use Rattle.sc_core.specs.Posts.{fits, is_save}
use Rattle.sc_core.specs.Sound.{IsSoundJob, IsSoundSave, SavesWell, has_grant}
use Rattle.sc_core.specs.Tells.{FailsBy, FailsOrAborts, FollowsUp, IsGone, LooksAgain, Misses, MissesIf, TellsFailure, TellsFailureIf, TellsMap, after_failure, is_zombie_in}
use Rattle.sc_core.specs.declared.answers.Answer.{Answer}
use Rattle.sc_core.specs.declared.answers.JobState.{JobState}
use Rattle.sc_core.specs.declared.events.Outcome.TheVariants as outcomes
use Rattle.sc_core.specs.declared.running.Running.{Running}
use Rattle.sc_core.proofs.GrantLemmas.{holds_is}
use Rattle.sc_core.proofs.HeldLemmas.{SameHeld, completes_held, failed_held, fails_held, held_then, map_held, submitted_held}
use Rattle.sc_core.proofs.LeftLemmas.{tells_left}
use Rattle.sc_core.proofs.MoveLemmas.{Calm, SameResults, results_then}
use Rattle.sc_core.proofs.RunningLemmas.{found_beside, same_sym}
use Rattle.sc_core.proofs.SaveLemmas.{SavesBut, Stays, freed, save_now, saves_now, saves_others, saves_released, saves_stay, saves_without}
use Rattle.sc_core.proofs.ShelfLemmas.{all_left}
use Rattle.sc_core.proofs.StageCallLemmas.{completes_calm, completes_results, fails_calm, fails_results, submitted_calm, submitted_results}
use Rattle.sc_core.proofs.TaskCallLemmas.{failed_moves, failed_results, map_moves, map_results, seen_calm}

-- ---- what stays

pub stays_then : (a b c : CoreData) → Stays a b → Stays b c → Stays a c
stays_then a b c h k =
    record {
      stages = k.stages ∙ h.stages;
      results = λ s. results_then a.dag b.dag c.dag (h.results s)
          (k.results (ap is_save h.committers ∙ s));
      held = held_then a.dag b.dag c.dag h.held k.held;
      given = λ x g. k.given x (h.given x g);
      committers = k.committers ∙ h.committers;
    }

pub stays_same : (c after : CoreData) → after.dag ≡ c.dag → after.committers ≡ c.committers
    → Stays c after
stays_same c after dag committers =
    record {
      stages = ap (λ (d : DagData). d.stages) dag;
      results = λ s r. rw dag refl;
      held = λ s. rw dag refl;
      given = λ b g. rw dag g;
      committers = committers;
    }

pub stays_calm : (c : CoreData) (d : DagData) → Calm c.dag d → SameResults c.dag d
    → SameHeld c.dag d → Stays c (with_dag c d)
stays_calm c d calm results held =
    record {
      stages = calm.stages;
      results = λ s. results;
      held = held;
      given = calm.given;
      committers = refl;
    }

stays_ended : (c : CoreData) (job : JobState) → Stays c (ended c job)
stays_ended c job = stays_same c (ended c job) refl refl

-- a core in which as much holds of who may commit
pub calm_saves : (c after : CoreData) → IsSoundJob c → after.dag ≡ c.dag
    → after.committers ≡ c.committers → after.running ≡ c.running → IsSoundSave c
    → IsSoundSave after
calm_saves c after job dag committers running save =
    save_now after c.running
    (saves_stay [] c.running c after job.result (stays_same c after dag committers)
    (saves_now c save)) running

-- ---- an attempt that has ended

-- those that run without it
abbrev pub rest_of : AttemptId → CoreData → List Running
rest_of a c = filter (λ r. not (is_of a r)) c.running

-- what isn't found isn't found without others
pub none_left : {A : Type 0} (q w : A → Bool) (xs : List A) → find q xs ≡ None
    → find q (filter w xs) ≡ None
none_left q w [] e = refl
none_left {A = A} q w (x ∷ xs) e = by (q x) (w x) refl e (λ n. none_left q w xs n)
  where
    by : (u v : Bool) → q x ≡ u → cond u (Some x) (find q xs) ≡ None
        → (find q xs ≡ None → find q (filter w xs) ≡ None)
        → find q (cond v (x ∷ filter w xs) (filter w xs)) ≡ None
    by true v f n rest = absurd (search (rules, n))
    by false true f n rest = rw f (rest n)
    by false false f n rest = rest n

pub ended_saves : (a : AttemptId) (c : CoreData) → IsSoundSave c
    → SavesBut (a ∷ []) (rest_of a c) c
ended_saves a c save =
    saves_others [] (a ∷ []) c.running (rest_of a c) c
    (All-filter (λ r. not (is_of a r)) (SavesWell c) c.running save.phases)
    (λ p h e n runs. subst (λ o. o ≢ None)
    (sym (found_beside a h c.running (alone (is_same a h) n))) (runs refl))
    (λ w g e. none_left (is_of w) (λ r. not (is_of a r)) c.running e)
    (saves_now c save)
  where
    alone : (b : Bool) → (b || false) ≡ false → b ≡ false
    alone true n = n
    alone false n = refl

pub others_differ : (a : AttemptId) (c : CoreData)
    → All (λ r. is_same a r.hand_out.attempt ≡ false) (rest_of a c)
others_differ a c =
    all_left (λ r. is_same a r.hand_out.attempt ≡ false) (is_of a) c.running
    (λ i r l e. same_sym a (get_or c.running i r).hand_out.attempt ∙ e)

-- ---- a map output

-- only attempts of the result stage hold grants
map_holds : (c : CoreData) (a : AttemptId) → IsSoundJob c → IsSoundSave c
    → is_map (stage_at c.dag a.stage).target ≡ true → has_grant c a ≡ false
map_holds c a job save kind = by (has_grant c a) refl
  where
    by : (b : Bool) → has_grant c a ≡ b → b ≡ false
    by false e = refl
    by true e =
        let was = (saves_now c save).holders a.partition a
        (holds_is (committer_at c.committers a.partition) a e) in
        absurd (clash (subst (λ (s : ℕ). is_map (stage_at c.dag s).target ≡ true) was.stage kind)
        job.result)

map_stays : (c after : CoreData) (r : Running) (loc : Loc) (answer : Answer)
    → TellsMap c r loc answer after → Stays c after
map_stays c after r loc answer (next, up, says, is) =
    subst (λ x. Stays c x) (sym is)
    (stays_then c (with_dag c mid) (with_dag c next)
    (record {
      stages = (map_moves c.dag a loc r.hand_out.epoch c.now).stages;
      results = λ s. map_results c.dag a loc r.hand_out.epoch c.now;
      held = map_held c.dag a loc r.hand_out.epoch c.now;
      given = (map_moves c.dag a loc r.hand_out.epoch c.now).given;
      committers = refl;
    })
    (by (map_success_of c.dag a loc r.hand_out.epoch) up))
  where
    a : AttemptId
    a = r.hand_out.attempt

    mid : DagData
    mid = after_map_success c.dag r.hand_out.attempt loc r.hand_out.epoch c.now

    same : next ≡ mid → Stays (with_dag c mid) (with_dag c next)
    same h = stays_same (with_dag c mid) (with_dag c next) h refl

    looks : (x y : Bool) → LooksAgain x y mid a.stage next
        → Stays (with_dag c mid) (with_dag c next)
    looks true y h =
        stays_calm (with_dag c mid) next (completes_calm mid a.stage next h)
        (completes_results mid a.stage next h) (completes_held mid a.stage next h)
    looks false true h =
        stays_calm (with_dag c mid) next (submitted_calm mid next (this_stage a.stage) h)
        (submitted_results mid next (this_stage a.stage) h)
        (submitted_held mid next (this_stage a.stage) h)
    looks false false h = same h

    by : (s : Success) → FollowsUp s mid a.stage next → Stays (with_dag c mid) (with_dag c next)
    by successes.Repeated h = same h
    by successes.Registered h = looks (is_complete mid a.stage) (is_finished_short mid a.stage) h
    by successes.Bogus h = looks (is_complete mid a.stage) (is_finished_short mid a.stage) h
    by successes.Finished h = looks (is_complete mid a.stage) (is_finished_short mid a.stage) h

pub map_saves : (c after : CoreData) (r : Running) (loc : Loc) (answer : Answer)
    → IsSoundJob c → IsSoundSave c → fits c r (outcomes.Map loc) ≡ true
    → TellsMap (taken_off c r.hand_out.attempt) r loc answer after → IsSoundSave after
map_saves c after r loc answer job save fit tells =
    save_now after (rest_of a c)
    (saves_stay [] (rest_of a c) c after job.result
    (stays_then c (taken_off c a) after (stays_same c (taken_off c a) refl refl)
    (map_stays (taken_off c a) after r loc answer tells))
    (saves_without a [] (rest_of a c) c (map_holds c a job save (both_left _ _ fit))
    (ended_saves a c save)))
    (tells_left (taken_off c a) after r (outcomes.Map loc) answer tells).running
  where
    a : AttemptId
    a = r.hand_out.attempt

-- ---- a failure

misses_stay : (c after : CoreData) (a : AttemptId) (answer : Answer) → Misses c a answer after
    → Stays c after
misses_stay c after a answer miss =
    by (is_of_newest c.dag a && not (is_complete c.dag a.stage)) miss
  where
    stays : (verdict : Verdict) (d : DagData)
        → FailsStage c.dag a.stage a.stage_attempt verdict d → Stays c (with_dag c d)
    stays verdict d f =
        stays_calm c d (fails_calm c.dag a.stage a.stage_attempt verdict d f)
        (fails_results c.dag a.stage a.stage_attempt verdict d f)
        (fails_held c.dag a.stage a.stage_attempt verdict d f)

    of : (verdict : Verdict) (d : DagData)
        → FailsStage c.dag a.stage a.stage_attempt verdict d
        → FailsOrAborts c a verdict d answer after → Stays c after
    of verdicts.Again d f (says, is) =
        subst (λ x. Stays c x) (sym is) (stays verdicts.Again d f)
    of verdicts.Limit d f (says, is) =
        subst (λ x. Stays c x) (sym is)
        (stays_then c (with_dag c d) (ended (with_dag c d) _) (stays verdicts.Limit d f)
        (stays_ended (with_dag c d) _))

    by : (b : Bool) → MissesIf b c a answer after → Stays c after
    by true (verdict, d, f, or) = of verdict d f or
    by false (says, is) = subst (λ x. Stays c x) (sym is) (stays_same c c refl refl)

pub causes_stay :
    (c after : CoreData) (a : AttemptId) (cause : FailureCause) (zombie : Bool) (answer : Answer)
    → FailsBy cause zombie c a answer after → Stays c after
causes_stay c after a (causes.Gone exec wanted found) zombie answer h =
    by (is_newer (slice_get c.dag.tracker.trust exec) found) zombie h
  where
    by : (x y : Bool) → IsGone x y c a exec found answer after → Stays c after
    by true y k =
        stays_then c (with_dag c (after_seen c.dag exec found)) after
        (stays_calm c (after_seen c.dag exec found) (seen_calm c.dag exec found) (λ s. refl)
        (λ s. refl))
        (misses_stay (with_dag c (after_seen c.dag exec found)) after a answer k)
    by false true (says, is) = subst (λ x. Stays c x) (sym is) (stays_same c c refl refl)
    by false false k = misses_stay c after a answer k
causes_stay c after a (causes.Metadata last) zombie answer h = misses_stay c after a answer h
causes_stay c after a causes.Planned zombie answer (says, is) =
    subst (λ x. Stays c x) (sym is) (stays_same c c refl refl)
causes_stay c after a (causes.Raised raise) zombie answer (says, is) =
    subst (λ x. Stays c x) (sym is) (stays_same c c refl refl)
causes_stay c after a (causes.Device fault) zombie answer (says, is) =
    subst (λ x. Stays c x) (sym is) (stays_same c c refl refl)
causes_stay c after a causes.Denied zombie answer (says, is) =
    subst (λ x. Stays c x) (sym is) (stays_same c c refl refl)

pub failure_saves : (c after : CoreData) (r : Running) (cause : FailureCause) (answer : Answer)
    → IsSoundJob c → IsSoundSave c
    → TellsFailure (taken_off c r.hand_out.attempt) r cause answer after → IsSoundSave after
failure_saves c after r cause answer job save tells =
    save_now after (rest_of a c)
    (saves_stay [] (rest_of a c) left after left_kind
    (by (reaches_limit_in (set_of c.dag a) a cause) tells) is_free)
    (tells_left (taken_off c a) after r (outcomes.Failed cause) answer tells).running
  where
    a : AttemptId
    a = r.hand_out.attempt

    failed : CoreData
    failed = with_dag (taken_off c r.hand_out.attempt) (after_failed c.dag r.hand_out.attempt cause)

    left : CoreData
    left = after_failure (taken_off c r.hand_out.attempt) r.hand_out.attempt cause

    ends : Stays c failed
    ends =
        record {
          stages = (failed_moves c.dag a cause).stages;
          results = λ s. failed_results c.dag a cause;
          held = failed_held c.dag a cause;
          given = (failed_moves c.dag a cause).given;
          committers = refl;
        }

    is_free : SavesBut [] (rest_of a c) left
    is_free =
        saves_released a [] (rest_of a c) failed job.result (others_differ a c)
        (saves_stay (a ∷ []) (rest_of a c) c failed job.result ends (ended_saves a c save))

    by : (b : Bool) → TellsFailureIf b (taken_off c a) a cause answer after → Stays left after
    by true (says, is) = subst (λ x. Stays left x) (sym is) (stays_ended left _)
    by false h = causes_stay left after a cause (is_zombie_in (set_of c.dag a)) answer h

    left_kind : is_map (stage_at left.dag (result_stage left.dag)).target ≡ false
    left_kind =
        subst
        (λ (all : List StageData). is_map (at_or all (length all - 1) no_stage).target ≡ false)
        (sym (freed failed a endings.Failed).stages) job.result
