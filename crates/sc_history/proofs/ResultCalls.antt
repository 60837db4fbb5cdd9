-- Which calls change the results of a job, and how.
use Rattle.std.proofs.Common.{◌≡◌, ℕ, ◌-◌, ◌&&◌, not, Bool, true, false, if◌then◌else◌, List, length, Option, Some, None, option_map, slice_get, refl, ap, sym, subst, ◌∙◌}
use Rattle.sc_ids.specs.Changes.{change_at}
use Rattle.sc_ids.specs.declared.attempts.AttemptId.{AttemptId}
use Rattle.sc_ids.specs.declared.blocks.Loc.{Loc}
use Rattle.sc_ids.specs.declared.failures.FailureCause.{FailureCause}
use Rattle.sc_ids.specs.declared.failures.FailureCause.TheVariants as causes
use Rattle.sc_ids.proofs.ChangeLemmas.{slice_get_change_other, slice_get_change_same}
use Rattle.sc_commit.specs.Committers.{committer_at}
use Rattle.sc_commit.specs.Committing.{holds}
use Rattle.sc_commit.specs.declared.committers.Ending.{Ending}
use Rattle.sc_commit.specs.declared.committers.Ending.TheVariants as endings
use Rattle.sc_taskset.specs.Reports.{after_held, after_success}
use Rattle.sc_taskset.specs.TaskSetData.{TaskSetData}
use Rattle.sc_taskset.specs.declared.tasks.Verdict.{Verdict}
use Rattle.sc_taskset.specs.declared.tasks.Verdict.TheVariants as verdicts
use Rattle.sc_tracker.specs.Trust.{is_newer}
use Rattle.sc_dag.specs.DagData.{DagData, StageState, changed_newest, changed_set, newest_at, set_in, with_set, with_state}
use Rattle.sc_dag.specs.Losses.{after_seen}
use Rattle.sc_dag.specs.Outputs.{is_complete, results_in}
use Rattle.sc_dag.specs.Reports.{after_failed, after_hold, after_map_success, after_result_success, completed, completed_if, ended_in_own, is_finished_short, is_of_newest, is_repeat, map_success_of, set_of, succeeded_in_both, succeeded_in_own, told_held, wants_in, with_result}
use Rattle.sc_dag.specs.Submission.{this_stage}
use Rattle.sc_dag.specs.declared.attempts.StageAttempt.{StageAttempt}
use Rattle.sc_dag.specs.declared.reports.Success.{Success}
use Rattle.sc_dag.specs.declared.reports.Success.TheVariants as successes
use Rattle.sc_dag.proofs.Moving.{newest_among}
use Rattle.sc_dag.proofs.Sets.{same_hold}
use Rattle.sc_dag.proofs.SoundAttempts.{newest_changed}
use Rattle.sc_core.specs.CoreData.{CoreData, with_dag}
use Rattle.sc_core.specs.Tells.{FailsBy, FailsOrAborts, FollowsUp, IsGone, LooksAgain, Misses, MissesIf, TellsFailureIf, TellsMap, after_failure, is_zombie_in, released, success_answer}
use Rattle.sc_core.specs.declared.answers.Answer.{Answer}
use Rattle.sc_core.specs.declared.running.Running.{Running}
use Rattle.sc_core.proofs.MoveLemmas.{SameResults, results_then, state_results}
use Rattle.sc_core.proofs.StageCallLemmas.{completes_results, fails_results, submitted_results}
use Rattle.sc_core.proofs.TaskCallLemmas.{failed_results, hold_results, map_results}
use Rattle.sc_history.specs.Results.{is_finish}

-- an event that gives no result, and changes none
pub record GivesNone (d after : DagData) (answer : Answer) : Type 0 where
  pub results : SameResults d after
  pub quiet : is_finish answer ≡ false

still_none : (c after : CoreData) (answer said : Answer) → is_finish said ≡ false
    → answer ≡ said → after ≡ c → GivesNone c.dag after.dag answer
still_none c after answer said e told is =
    record {
      results = λ s. ap (λ (x : CoreData). results_in (slice_get x.dag.states s)) is;
      quiet = ap is_finish told ∙ e;
    }

-- ---- map tasks

pub maps_give_none : (c after : CoreData) (r : Running) (loc : Loc) (answer : Answer)
    → TellsMap c r loc answer after → GivesNone c.dag after.dag answer
maps_give_none c after r loc answer (next, up, told, is) =
    record {
      results = subst (λ (x : CoreData). SameResults c.dag x.dag) (sym is)
          (results_then c.dag mid next (map_results c.dag a loc r.hand_out.epoch c.now)
          (follows (map_success_of c.dag a loc r.hand_out.epoch) up));
      quiet = ap is_finish told ∙ quiet (is_repeat c.dag a) _;
    }
  where
    a : AttemptId
    a = r.hand_out.attempt

    mid : DagData
    mid = after_map_success c.dag r.hand_out.attempt loc r.hand_out.epoch c.now

    quiet : (x y : Bool) → is_finish (success_answer (if x then successes.Repeated
        else if y then successes.Bogus else successes.Registered)) ≡ false
    quiet true y = refl
    quiet false true = refl
    quiet false false = refl

    looks : (x y : Bool) → LooksAgain x y mid a.stage next → SameResults mid next
    looks true y h = completes_results mid a.stage next h
    looks false true h = submitted_results mid next (this_stage a.stage) h
    looks false false h = λ s. ap (λ (x : DagData). results_in (slice_get x.states s)) h

    follows : (s : Success) → FollowsUp s mid a.stage next → SameResults mid next
    follows successes.Repeated h =
        λ s. ap (λ (x : DagData). results_in (slice_get x.states s)) h
    follows successes.Registered h =
        looks (is_complete mid a.stage) (is_finished_short mid a.stage) h
    follows successes.Bogus h = looks (is_complete mid a.stage) (is_finished_short mid a.stage) h
    follows successes.Finished h =
        looks (is_complete mid a.stage) (is_finished_short mid a.stage) h

-- ---- failures

pub freed_results : (c : CoreData) (a : AttemptId) (how : Ending)
    → SameResults c.dag (released c a how).dag
freed_results c a how = by (holds a (committer_at c.committers a.partition))
  where
    by : (b : Bool) → SameResults c.dag
        (if b then after_hold c.dag a.stage a.partition false else c.dag)
    by true = hold_results c.dag a.stage a.partition false
    by false = λ s. refl

misses_none : (c after : CoreData) (a : AttemptId) (answer : Answer) → Misses c a answer after
    → GivesNone c.dag after.dag answer
misses_none c after a answer miss =
    by (is_of_newest c.dag a && not (is_complete c.dag a.stage)) miss
  where
    verdict_none : (verdict : Verdict) (d : DagData) → SameResults c.dag d
        → FailsOrAborts c a verdict d answer after → GivesNone c.dag after.dag answer
    verdict_none verdicts.Again d h (told, is) =
        record {
          results = subst (λ (x : CoreData). SameResults c.dag x.dag) (sym is) h;
          quiet = ap is_finish told;
        }
    verdict_none verdicts.Limit d h (told, is) =
        record {
          results = subst (λ (x : CoreData). SameResults c.dag x.dag) (sym is) h;
          quiet = ap is_finish told;
        }

    by : (b : Bool) → MissesIf b c a answer after → GivesNone c.dag after.dag answer
    by true (verdict, d, f, or) =
        verdict_none verdict d (fails_results c.dag a.stage a.stage_attempt verdict d f) or
    by false (told, is) = still_none c after answer _ refl told is

pub failures_give_none : (b : Bool) (c after : CoreData) (a : AttemptId) (cause : FailureCause)
    (answer : Answer) → TellsFailureIf b c a cause answer after
    → GivesNone c.dag after.dag answer
failures_give_none b c after a cause answer h = by b h
  where
    failed : CoreData
    failed = after_failure c a cause

    same : SameResults c.dag (after_failure c a cause).dag
    same =
        results_then c.dag (after_failed c.dag a cause) (after_failure c a cause).dag
        (failed_results c.dag a cause)
        (freed_results (with_dag c (after_failed c.dag a cause)) a endings.Failed)

    behind : GivesNone failed.dag after.dag answer → GivesNone c.dag after.dag answer
    behind k =
        record {
          results = results_then c.dag failed.dag after.dag same k.results;
          quiet = k.quiet;
        }

    gone : (exec found : ℕ) (x y : Bool) → IsGone x y failed a exec found answer after
        → GivesNone failed.dag after.dag answer
    gone exec found true y k =
        let more = misses_none (with_dag failed (after_seen failed.dag exec found)) after a answer
        k in
        record { results = more.results; quiet = more.quiet }
    gone exec found false true (told, is) = still_none failed after answer _ refl told is
    gone exec found false false k = misses_none failed after a answer k

    caused : (cause : FailureCause) (zombie : Bool) → FailsBy cause zombie failed a answer after
        → GivesNone failed.dag after.dag answer
    caused (causes.Gone exec wanted found) zombie k =
        gone exec found (is_newer (slice_get failed.dag.tracker.trust exec) found) zombie k
    caused (causes.Metadata last) zombie k = misses_none failed after a answer k
    caused causes.Planned zombie (told, is) = still_none failed after answer _ refl told is
    caused (causes.Raised raise) zombie (told, is) = still_none failed after answer _ refl told is
    caused (causes.Device fault) zombie (told, is) =
        still_none failed after answer _ refl told is
    caused causes.Denied zombie (told, is) = still_none failed after answer _ refl told is

    by : (b : Bool) → TellsFailureIf b c a cause answer after → GivesNone c.dag after.dag answer
    by true (told, is) =
        record {
          results = subst (λ (x : CoreData). SameResults c.dag x.dag) (sym is) same;
          quiet = ap is_finish told;
        }
    by false k = behind (caused cause (is_zombie_in (set_of c.dag a)) k)

-- ---- result tasks

abbrev pub results_of : DagData → ℕ → List Bool
results_of d s = results_in (slice_get d.states s)

both_keep : (d : DagData) (a : AttemptId) (now : ℕ) → SameResults d (succeeded_in_both d a now)
both_keep d a now = by (is_of_newest d a)
  where
    newest : StageState → StageState
    newest = changed_newest (λ set. after_success set a.partition None now)

    own : SameResults d (succeeded_in_own d a now)
    own =
        state_results d a.stage
        (changed_set a.stage_attempt (λ set. after_success set a.partition (Some a.nth) now))
        (λ state. refl)

    by : (b : Bool) → SameResults d
        (if b then succeeded_in_own d a now
        else with_state (succeeded_in_own d a now) a.stage newest)
    by true = own
    by false =
        results_then d (succeeded_in_own d a now)
        (with_state (succeeded_in_own d a now) a.stage newest) own
        (state_results (succeeded_in_own d a now) a.stage newest (λ state. refl))

-- the first success of a result task gives its partition's result, and no other
pub won_results : (d : DagData) (a : AttemptId) (now : ℕ) → is_repeat d a ≡ false
    → results_of (after_result_success d a now) a.stage
    ≡ change_at (results_of d a.stage) a.partition (λ _. true)
won_results d a now e =
    ap (λ x. results_of (if x then ended_in_own d a else completed_if won a.stage) a.stage) e
    ∙ done (is_complete won a.stage) ∙ here
    ∙ ap (λ rs. change_at rs a.partition (λ _. true)) (both_keep d a now a.stage)
  where
    both : DagData
    both = succeeded_in_both d a now

    won : DagData
    won = with_state (succeeded_in_both d a now) a.stage (with_result a.partition)

    done : (b : Bool)
        → results_of (if b then with_state won a.stage completed else won) a.stage
        ≡ results_of won a.stage
    done true = state_results won a.stage completed (λ state. refl) a.stage
    done false = refl

    mapped : (o : Option StageState) → results_in (option_map (with_result a.partition) o)
        ≡ change_at (results_in o) a.partition (λ _. true)
    mapped None = refl
    mapped (Some state) = refl

    here : results_of won a.stage
        ≡ change_at (results_of both a.stage) a.partition (λ _. true)
    here =
        ap results_in (slice_get_change_same both.states a.stage (with_result a.partition))
        ∙ mapped (slice_get both.states a.stage)

-- nor one of another stage
pub won_others : (d : DagData) (a : AttemptId) (now : ℕ) → is_repeat d a ≡ false → (s : ℕ)
    → (s ≡ a.stage → ⊥) → results_of (after_result_success d a now) s ≡ results_of d s
won_others d a now e s ne =
    ap (λ x. results_of (if x then ended_in_own d a else completed_if won a.stage) s) e
    ∙ done (is_complete won a.stage)
    ∙ ap results_in (slice_get_change_other (succeeded_in_both d a now).states a.stage s
    (with_result a.partition) ne)
    ∙ both_keep d a now s
  where
    won : DagData
    won = with_state (succeeded_in_both d a now) a.stage (with_result a.partition)

    done : (b : Bool)
        → results_of (if b then with_state won a.stage completed else won) s ≡ results_of won s
    done true = state_results won a.stage completed (λ state. refl) s
    done false = refl

-- a grant that is freed changes nothing that is wanted
newest_after : (d : DagData) (s : ℕ) (g : TaskSetData → TaskSetData)
    → newest_at (with_state d s (changed_newest g)) s ≡ option_map g (newest_at d s)
newest_after d s g =
    ap newest_among (slice_get_change_same d.states s (changed_newest g))
    ∙ by (slice_get d.states s)
  where
    one : (o : Option StageAttempt) → set_in (option_map (with_set g) o) ≡ option_map g (set_in o)
    one None = refl
    one (Some x) = refl

    by : (o : Option StageState)
        → newest_among (option_map (changed_newest g) o) ≡ option_map g (newest_among o)
    by None = refl
    by (Some state) =
        ap set_in (newest_changed state.attempts (length state.attempts - 1) (with_set g) refl)
        ∙ one (slice_get state.attempts (length state.attempts - 1))

-- the newest set, once a partition is held back or not
held_newest : (d : DagData) (s p : ℕ) (denied : Bool)
    → newest_at (after_hold d s p denied) s
    ≡ option_map (λ set. after_held set p denied) (newest_at d s)
held_newest d s p denied =
    ap newest_among (slice_get_change_same d.states s (told_held p denied))
    ∙ same (slice_get d.states s)
    ∙ ap newest_among
    (sym (slice_get_change_same d.states s (changed_newest (λ set. after_held set p denied))))
    ∙ newest_after d s (λ set. after_held set p denied)
  where
    same : (o : Option StageState)
        → newest_among (option_map (told_held p denied) o)
        ≡ newest_among (option_map (changed_newest (λ set. after_held set p denied)) o)
    same None = refl
    same (Some state) = refl

pub freed_repeat : (c : CoreData) (a : AttemptId) (how : Ending)
    → is_repeat (released c a how).dag a ≡ is_repeat c.dag a
freed_repeat c a how = by (holds a (committer_at c.committers a.partition))
  where
    wants : (o : Option TaskSetData)
        → wants_in (option_map (λ set. after_held set a.partition false) o) a.partition
        ≡ wants_in o a.partition
    wants None = refl
    wants (Some set) = (same_hold set a.partition false).wants a.partition

    by : (b : Bool)
        → is_repeat (if b then after_hold c.dag a.stage a.partition false else c.dag) a
        ≡ is_repeat c.dag a
    by true =
        ap (λ o. not (wants_in o a.partition))
        (held_newest c.dag a.stage a.partition false)
        ∙ ap not (wants (newest_at c.dag a.stage))
    by false = refl
