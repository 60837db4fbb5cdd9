-- What reports leave.
use Rattle.std.proofs.Common.{◌≡◌, ℕ, zero, suc, Bool, true, false, cond, not, List, [], ◌∷◌, map, remove, filter, Option, Some, None, option_map, ◌⊎◌, inl, inr, refl, ap, sym, ◌∙◌}
use Rattle.std.proofs.lemmas.Option.{slice_get-map}
use Rattle.sc_ids.specs.declared.attempts.AttemptId.{AttemptId}
use Rattle.sc_ids.specs.declared.blocks.Loc.{Loc}
use Rattle.sc_ids.specs.declared.failures.FailureCause.{FailureCause}
use Rattle.sc_commit.specs.declared.committers.Ending.TheVariants as endings
use Rattle.sc_taskset.specs.TaskSetData.{TaskSetData}
use Rattle.sc_taskset.specs.declared.tasks.Verdict.TheVariants as verdicts
use Rattle.sc_dag.specs.DagData.{DagData, is_live_set}
use Rattle.sc_dag.specs.Outputs.{is_complete}
use Rattle.sc_dag.specs.Reports.{CompletesMap, after_map_success, is_finished_short, is_repeat, map_success_of, set_of}
use Rattle.sc_dag.specs.Submission.{IsSubmitted, this_stage}
use Rattle.sc_dag.specs.declared.reports.Success.{Success}
use Rattle.sc_dag.specs.declared.reports.Success.TheVariants as successes
use Rattle.sc_core.specs.CoreData.{CoreData, as_in, is_of, job_runs, running_of, shelved_if, told_once, with_dag}
use Rattle.sc_core.specs.Posts.{Posts, TellsNow}
use Rattle.sc_core.specs.Rooms.{IsRunningAt}
use Rattle.sc_core.specs.Tells.{FailsBy, FollowsUp, LooksAgain, TellsFailureIf, TellsMap, TellsResult, after_failure, done_if, is_zombie_in, released, success_answer, with_result_of}
use Rattle.sc_core.specs.declared.answers.Answer.{Answer}
use Rattle.sc_core.specs.declared.answers.Answer.TheVariants as says
use Rattle.sc_core.specs.declared.events.Outcome.{Outcome}
use Rattle.sc_core.specs.declared.running.Running.{Running}
use Rattle.sc_core.proofs.ShelfLemmas.{find_in, in_same}

-- a stage that is looked at is complete, or finished short of outputs
pub looks_complete : (complete short : Bool) (mid : DagData) (s : ℕ) (after : DagData)
    → complete ≡ true → CompletesMap mid s after → LooksAgain complete short mid s after
looks_complete complete short mid s after e h = rw e h

pub looks_short : (complete short : Bool) (mid : DagData) (s : ℕ) (after : DagData)
    → complete ≡ false → short ≡ true → IsSubmitted mid (this_stage s) after
    → LooksAgain complete short mid s after
looks_short complete short mid s after e k h = rw (e, k) h

-- after any success but a repeated one the stage is looked at
pub follows_up : (success : Success) (mid : DagData) (s : ℕ) (after : DagData)
    → (success ≡ successes.Registered) ⊎ ((success ≡ successes.Bogus)
    ⊎ (success ≡ successes.Finished))
    → LooksAgain (is_complete mid s) (is_finished_short mid s) mid s after
    → FollowsUp success mid s after
follows_up success mid s after (inl e) h = rw e h
follows_up success mid s after (inr (inl e)) h = rw e h
follows_up success mid s after (inr (inr e)) h = rw e h

-- a map success told
pub map_told : (c : CoreData) (r : Running) (loc : Loc) (a : AttemptId) (epoch : ℕ)
    (success : Success) (dag : DagData) (answer : Answer) (after : CoreData)
    → a ≡ r.hand_out.attempt → epoch ≡ r.hand_out.epoch
    → success ≡ map_success_of c.dag a loc epoch
    → FollowsUp success (after_map_success c.dag a loc epoch c.now) a.stage dag
    → answer ≡ success_answer success → after ≡ with_dag c dag
    → TellsMap c r loc answer after
map_told c r loc a epoch success dag answer after of_a of_epoch is follows said left =
    rw (← of_a, ← of_epoch, ← is) (dag, follows, said, left)

-- the first result of a partition told
pub result_told : (c : CoreData) (r : Running) (a : AttemptId) (freed put after : CoreData)
    → a ≡ r.hand_out.attempt → is_repeat c.dag a ≡ false
    → freed ≡ released c a endings.Succeeded → put ≡ with_result_of freed a
    → after ≡ done_if (is_complete put.dag a.stage) put
    → TellsResult c r says.Finished after
result_told c r a freed put after of_a fresh frees puts left =
    rw (← of_a, fresh) (
      refl,
      left ∙ ap (λ (x : CoreData). done_if (is_complete x.dag a.stage) x)
          (puts ∙ ap (λ (x : CoreData). with_result_of x a) frees),
    )

-- a task set that doesn't hand out tasks is a zombie, or isn't there
not_not : (b : Bool) → not (not b) ≡ b
not_not true = refl
not_not false = refl

zombie_or_live : (set : Option TaskSetData) → not (is_live_set set) ≡ is_zombie_in set
zombie_or_live None = refl
zombie_or_live (Some set) = not_not set.is_zombie

-- a failure told that isn't the last that is allowed
pub failure_told : (b : Bool) (c : CoreData) (a : AttemptId) (cause : FailureCause) (live : Bool)
    (mid : CoreData) (answer : Answer) (after : CoreData)
    → (b ≡ true → ⊥) → live ≡ is_live_set (set_of c.dag a) → mid ≡ after_failure c a cause
    → FailsBy cause (not live) mid a answer after → TellsFailureIf b c a cause answer after
failure_told true c a cause live mid answer after not_last lives is fails =
    absurd (not_last refl)
failure_told false c a cause live mid answer after not_last lives is fails =
    let zombie : not live ≡ is_zombie_in (set_of c.dag a) =
    ap not lives ∙ zombie_or_live (set_of c.dag a) in
    rw (← zombie, ← is) fails

pub again_is_no_limit : verdicts.Again ≡ verdicts.Limit → ⊥
again_is_no_limit e = cc

-- a report posted that is of no running attempt
pub unknown_posted : (c : CoreData) (a : AttemptId) (outcome : Outcome) (answer : Answer)
    (after : CoreData) → job_runs c ≡ true → running_of c a ≡ None → answer ≡ says.Ignored
    → after ≡ told_once c → Posts c a outcome answer after
unknown_posted c a outcome answer after runs none said left = rw (runs, none) (said, left)

-- one that was to be told later
pub unknown_told : (c : CoreData) (a : AttemptId) (outcome : Outcome) (after : CoreData)
    → running_of c a ≡ None → after ≡ told_once c → TellsNow c a outcome says.Ignored after
unknown_told c a outcome after none left = rw none (refl, left)

-- an attempt that isn't out any more runs where it did
pub running_in : (running : List Running) (a : AttemptId) (place : ℕ)
    → IsRunningAt running a place → IsRunningAt (map (as_in a) running) a place
running_in running a place r =
    record {
      one = as_in a r.one;
      found = find_in a a running ∙ ap (option_map (as_in a)) r.found;
      here = slice_get-map (as_in a) running place ∙ ap (option_map (as_in a)) r.here;
      alone = remove_map (as_in a) running place ∙ ap (map (as_in a)) r.alone
          ∙ sym (map_filter (as_in a) (λ q. not (is_of a q))
          (λ q. ap not (in_same a a q)) running);
    }
  where
    remove_map : {A : Type 0} (f : A → A) (xs : List A) (i : ℕ)
        → remove (map f xs) i ≡ map f (remove xs i)
    remove_map f [] zero = refl
    remove_map f [] (suc i) = refl
    remove_map f (x ∷ xs) zero = refl
    remove_map f (x ∷ xs) (suc i) = ap (λ ys. f x ∷ ys) (remove_map f xs i)

    map_filter : {A : Type 0} (f : A → A) (w : A → Bool) → ((x : A) → w (f x) ≡ w x)
        → (xs : List A) → filter w (map f xs) ≡ map f (filter w xs)
    map_filter f w same [] = refl
    map_filter f w same (x ∷ xs) = rw (same x) (by (w x) (map_filter f w same xs))
      where
        by : (b : Bool) → filter w (map f xs) ≡ map f (filter w xs)
            → cond b (f x ∷ filter w (map f xs)) (filter w (map f xs))
            ≡ map f (cond b (x ∷ filter w xs) (filter w xs))
        by true h = ap (λ ys. f x ∷ ys) h
        by false h = h

-- the same once a second copy of its report is to be told later or not
pub running_if : (twice : Bool) (c : CoreData) (a : AttemptId) (outcome : Outcome) (place : ℕ)
    → IsRunningAt c.running a place → IsRunningAt (shelved_if twice c a outcome 0).running a place
running_if false c a outcome place r = r
running_if true c a outcome place r = running_in c.running a place r
