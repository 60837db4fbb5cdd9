-- Who may commit, once the success of a result task was told.
use Rattle.std.proofs.Common.{◌≡◌, ◌≢◌, ◌⊎◌, inl, inr, ℕ, zero, suc, ◌-◌, ◌<◌, ◌==◌, ◌&&◌, ◌||◌, not, All, Bool, true, false, cond, if◌then◌else◌, List, [], ◌∷◌, Option, Some, None, find, is_some, length, option_map, slice_get, refl, ap, sym, subst, ◌∙◌, arith, rules, true≢false}
use Rattle.std.specs.List.{filter}
use Rattle.std.proofs.lemmas.List.Elements.{All-cons, All-head, All-tail}
use Rattle.sc_base.specs.Lists.{at_or}
use Rattle.sc_ids.specs.Changes.{change_at}
use Rattle.sc_ids.specs.Graphs.{StageData}
use Rattle.sc_ids.specs.declared.attempts.AttemptId.{AttemptId}
use Rattle.sc_ids.specs.declared.blocks.Target.{Target}
use Rattle.sc_ids.specs.declared.blocks.Target.TheVariants as targets
use Rattle.sc_ids.proofs.ChangeLemmas.{at_or_change_other, at_or_change_same, length_change_at, slice_get_change_same}
use Rattle.sc_commit.specs.CommitLaws.{holder_of, winner_of}
use Rattle.sc_commit.specs.Committers.{committer_at, winner_in}
use Rattle.sc_commit.specs.Committing.{after_end, denies, ended, holds, is_same}
use Rattle.sc_commit.specs.declared.committers.Committer.{Committer}
use Rattle.sc_commit.specs.declared.committers.Committer.TheVariants.{Holder, Nobody, Winner}
use Rattle.sc_commit.specs.declared.committers.Ending.TheVariants.{Succeeded}
use Rattle.sc_commit.proofs.CommitLemmas.{change_sound, ended_sound}
use Rattle.sc_commit.proofs.LawLemmas.{winners_held}
use Rattle.sc_dag.specs.DagData.{DagData, StageState, newest_at, no_stage, set_in, stage_at, with_state}
use Rattle.sc_dag.specs.Laws.{CallsKeepSound, OthersGoOn}
use Rattle.sc_dag.specs.Outputs.{is_complete, is_done, is_done_by, results_in}
use Rattle.sc_dag.specs.Reports.{after_result_success, completed, is_repeat, result_success_of, succeeded_in_both, wants_in, with_result}
use Rattle.sc_dag.specs.Sound.{IsSoundDag, runner_in, runner_of}
use Rattle.sc_dag.specs.Submission.{is_map}
use Rattle.sc_dag.specs.declared.attempts.StageAttempt.{StageAttempt}
use Rattle.sc_dag.specs.declared.reports.Success.{Success}
use Rattle.sc_dag.specs.declared.reports.Success.TheVariants as successes
use Rattle.sc_dag.proofs.Moving.{newest_among}
use Rattle.sc_dag.proofs.Tests.{both_left, both_right, clash, not_true}
use Rattle.sc_core.specs.CoreData.{CoreData, is_of, job_runs, result_stage, taken_off}
use Rattle.sc_core.specs.Posts.{fits, has_moved, is_save}
use Rattle.sc_core.specs.Sound.{IsAsFar, IsSoundJob, IsSoundSave, RunsWell, SavesWell, has_grant, was_given}
use Rattle.sc_core.specs.Tells.{TellsResult, after_result, done_if, released, with_result_of}
use Rattle.sc_core.specs.declared.answers.Answer.{Answer}
use Rattle.sc_core.specs.declared.events.Outcome.TheVariants as outcomes
use Rattle.sc_core.specs.declared.running.Phase.{Phase}
use Rattle.sc_core.specs.declared.running.Phase.TheVariants as phases
use Rattle.sc_core.specs.declared.running.Running.{Running}
use Rattle.sc_core.proofs.GrantLemmas.{apart, committer_here, committer_other, denies_ended, equal, holder_ended, holds_beside, holds_is}
use Rattle.sc_core.proofs.HeldLemmas.{result_held}
use Rattle.sc_core.proofs.LeftLemmas.{same_saves}
use Rattle.sc_core.proofs.LookupLemmas.{set_among}
use Rattle.sc_core.proofs.ResultLemmas.{Frees, frees, runs_results}
use Rattle.sc_core.proofs.SaveLemmas.{Freed, HasWonBeside, SavesBut, Stays, done_same, freed, freed_flags, result_same, save_now, saves_stay, saves_well, saves_without}
use Rattle.sc_core.proofs.SaveTellLemmas.{ended_saves, others_differ, rest_of, stays_same, stays_then}
use Rattle.sc_core.proofs.ShelfLemmas.{runs_given}
use Rattle.sc_core.proofs.TaskCallLemmas.{both_results, result_moves}

-- ---- results

-- a partition is done where its result is there
pub done_at : (d : DagData) (s p : ℕ) → is_map (stage_at d s).target ≡ false
    → is_done d s p ≡ at_or (results_in (slice_get d.states s)) p false
done_at d s p kind = by (stage_at d s).target kind
  where
    by : (target : Target) → is_map target ≡ false
        → is_done_by d.tracker target (results_in (slice_get d.states s)) p
        ≡ at_or (results_in (slice_get d.states s)) p false
    by (targets.Map shuffle) e = absurd (true≢false e)
    by (targets.Result node) e = refl

-- a success that isn't a repeated one puts the result in its place
pub result_here : (d : DagData) (a : AttemptId) (now : ℕ) → is_repeat d a ≡ false
    → results_in (slice_get (after_result_success d a now).states a.stage)
    ≡ change_at (results_in (slice_get d.states a.stage)) a.partition (λ b. true)
result_here d a now first = rw first (done (is_complete mid a.stage) ∙ put)
  where
    both : DagData
    both = succeeded_in_both d a now

    mid : DagData
    mid = with_state (succeeded_in_both d a now) a.stage (with_result a.partition)

    at : (o : Option StageState) → results_in (option_map (with_result a.partition) o)
        ≡ change_at (results_in o) a.partition (λ b. true)
    at None = refl
    at (Some state) = refl

    put : results_in (slice_get mid.states a.stage)
        ≡ change_at (results_in (slice_get d.states a.stage)) a.partition (λ b. true)
    put =
        ap results_in (slice_get_change_same both.states a.stage (with_result a.partition))
        ∙ at (slice_get both.states a.stage)
        ∙ ap (λ rs. change_at rs a.partition (λ b. true)) (both_results d a now a.stage)

    kept : (o : Option StageState) → results_in (option_map completed o) ≡ results_in o
    kept None = refl
    kept (Some state) = refl

    done : (b : Bool)
        → results_in (slice_get (if b then with_state mid a.stage completed else mid).states
        a.stage) ≡ results_in (slice_get mid.states a.stage)
    done true =
        ap results_in (slice_get_change_same mid.states a.stage completed)
        ∙ kept (slice_get mid.states a.stage)
    done false = refl

-- ---- who has a grant has no result

-- a stage of which an attempt runs has a newest set
newest_there : (d : DagData) (a : AttemptId) (exec : ℕ) → runner_of d a ≡ Some exec
    → newest_at d a.stage ≢ None
newest_there d a exec runs = by (slice_get d.states a.stage) runs
  where
    first : (xs : List StageAttempt) (i : ℕ) → runner_in (set_in (slice_get xs i)) a ≡ Some exec
        → set_in (slice_get xs (length xs - 1)) ≢ None
    first [] i e = absurd (search (rules, e))
    first (x ∷ xs) i e =
        subst (λ (n : ℕ). set_in (slice_get (x ∷ xs) n) ≢ None) (one (length xs)) (last x xs)
      where
        one : (n : ℕ) → n ≡ suc n - 1
        one n = omega arith

        last : (y : StageAttempt) (ys : List StageAttempt)
            → set_in (slice_get (y ∷ ys) (length ys)) ≢ None
        last y [] = λ n. search (rules, n)
        last y (z ∷ zs) = last z zs

    by : (o : Option StageState) → runner_in (set_among o a.stage_attempt) a ≡ Some exec
        → newest_among o ≢ None
    by None e = absurd (search (rules, e))
    by (Some state) e = first state.attempts _ e

-- a holder is one of a save, in whose place it stands
pub holder_within : (ks : List Committer) (p : ℕ) (h : AttemptId) → holder_of ks p ≡ Some h
    → (is_save ks ≡ true) × (p < length ks)
holder_within [] p h e = absurd (search (rules, e))
holder_within (k ∷ ks) zero h e = (refl, omega arith)
holder_within (k ∷ ks) (suc p) h e =
    (refl, let lt : p < length ks = (holder_within ks p h e).1 in omega (arith, lt))

-- what is taken away isn't there any more
without : {A : Type 0} (q : A → Bool) (xs : List A) → find q (filter (λ x. not (q x)) xs) ≡ None
without q [] = refl
without {A = A} q (x ∷ xs) = by (q x) refl (without q xs)
  where
    by : (b : Bool) → q x ≡ b → find q (filter (λ y. not (q y)) xs) ≡ None
        → find q (cond (not b) (x ∷ filter (λ y. not (q y)) xs) (filter (λ y. not (q y)) xs))
        ≡ None
    by true e h = h
    by false e h = rw e h

-- where there is a holder nobody has won
holder_alone : (k : Committer) (a : AttemptId) → holds a k ≡ true → is_some (winner_in k) ≡ false
holder_alone Nobody a e = refl
holder_alone (Holder h d) a e = refl
holder_alone (Winner w) a e = absurd (true≢false (sym e))

-- the success of a running attempt isn't a repeated one where its partition has no result
unrepeated : (d : DagData) (a : AttemptId) (exec : ℕ) → IsSoundDag d
    → is_map (stage_at d a.stage).target ≡ false → runner_of d a ≡ Some exec
    → a.partition < (stage_at d a.stage).tasks → is_done d a.stage a.partition ≡ false
    → is_repeat d a ≡ false
unrepeated d a exec sound kind runs within undone =
    by (wants_in (newest_at d a.stage) a.partition) refl
  where
    by : (b : Bool) → wants_in (newest_at d a.stage) a.partition ≡ b → not b ≡ false
    by true e = refl
    by false e =
        absurd (clash
        (sound.covered a.stage a.partition kind within (newest_there d a exec runs) e) undone)

-- ---- a holder succeeds

-- an attempt that runs, is of the result stage, and holds its grant
module _ (c : CoreData) (a : AttemptId) (exec : ℕ) (job : IsSoundJob c) (save : IsSoundSave c)
    (runs : runner_of c.dag a ≡ Some exec) (stage : a.stage ≡ result_stage c.dag)
    (has : has_grant c a ≡ true) where
  kind : is_map (stage_at c.dag a.stage).target ≡ false
  kind = subst (λ (s : ℕ). is_map (stage_at c.dag s).target ≡ false) (sym stage) job.result

  there : holder_of c.committers a.partition ≡ Some a
  there = holds_is (committer_at c.committers a.partition) a has

  saves : (is_save c.committers ≡ true) × (a.partition < length c.committers)
  saves = holder_within c.committers a.partition a there

  within : a.partition < (stage_at c.dag a.stage).tasks
  within =
      subst (λ (n : ℕ). a.partition < n)
      (save.places saves.0 ∙ ap (λ (s : ℕ). (stage_at c.dag s).tasks) (sym stage)) saves.1

  undone : is_done c.dag a.stage a.partition ≡ false
  undone =
      ap (λ (s : ℕ). is_done c.dag s a.partition) stage
      ∙ sym (save.won saves.0 a.partition)
      ∙ holder_alone (committer_at c.committers a.partition) a has

  pub holder_first : is_repeat c.dag a ≡ false
  holder_first = unrepeated c.dag a exec job.dag kind runs within undone

  abbrev pub freed_core : CoreData
  freed_core = released (taken_off c a) a Succeeded

  abbrev pub next : CoreData
  next = with_result_of (released (taken_off c a) a Succeeded) a

  free : Freed c.dag freed_core.dag
  free = freed (taken_off c a) a Succeeded

  -- with its result there
  module _ (sound : IsSoundDag (released (taken_off c a) a Succeeded).dag)
      (runs_still : runner_of (released (taken_off c a) a Succeeded).dag a ≡ Some exec) where
    freed_kind : is_map (stage_at freed_core.dag a.stage).target ≡ false
    freed_kind =
        subst (λ (all : List StageData). is_map (at_or all a.stage no_stage).target ≡ false)
        (sym free.stages) kind

    first : is_repeat freed_core.dag a ≡ false
    first =
        unrepeated freed_core.dag a exec sound freed_kind runs_still
        (subst (λ (all : List StageData). a.partition < (at_or all a.stage no_stage).tasks)
        (sym free.stages) within)
        (done_same c.dag freed_core.dag a.stage a.partition free.stages (free.results a.stage) kind
        ∙ undone)

    -- the results then
    results : results_in (slice_get next.dag.states a.stage)
        ≡ change_at (results_in (slice_get c.dag.states a.stage)) a.partition (λ b. true)
    results =
        result_here freed_core.dag a c.now first
        ∙ ap (λ rs. change_at rs a.partition (λ b. true)) (free.results a.stage)

    next_stages : next.dag.stages ≡ c.dag.stages
    next_stages = (result_moves freed_core.dag a c.now).stages ∙ free.stages

    next_kind : is_map (stage_at next.dag a.stage).target ≡ false
    next_kind =
        subst (λ (all : List StageData). is_map (at_or all a.stage no_stage).target ≡ false)
        (sym next_stages) kind

    room : a.partition < length (results_in (slice_get c.dag.states a.stage))
    room =
        let many : length (results_in (slice_get c.dag.states a.stage))
        ≡ (stage_at c.dag a.stage).tasks =
        rw kind at (job.dag.results a.stage) in
        omega (arith, many, within)

    same : result_stage next.dag ≡ result_stage c.dag
    same = result_same c next next_stages

    given : (b : AttemptId) → was_given c.dag b ≡ true → was_given next.dag b ≡ true
    given b g = (result_moves freed_core.dag a c.now).given b (free.given b g)

    -- what is done then, is so of old or is this one
    done : (p : ℕ) → is_done next.dag a.stage p
        ≡ (if p == a.partition then true else is_done c.dag a.stage p)
    done p =
        done_at next.dag a.stage p next_kind ∙ ap (λ rs. at_or rs p false) results
        ∙ by (p == a.partition) refl
      where
        by : (b : Bool) → (p == a.partition) ≡ b
            → at_or (change_at (results_in (slice_get c.dag.states a.stage)) a.partition
            (λ b. true)) p false
            ≡ (if b then true else is_done c.dag a.stage p)
        by true e =
            ap (λ (q : ℕ). at_or (change_at (results_in (slice_get c.dag.states a.stage))
            a.partition (λ b. true)) q false) (equal p a.partition e)
            ∙ at_or_change_same (results_in (slice_get c.dag.states a.stage)) a.partition false
            (λ b. true) room
        by false e =
            at_or_change_other (results_in (slice_get c.dag.states a.stage)) a.partition p false
            (λ b. true) (apart p a.partition e)
            ∙ sym (done_at c.dag a.stage p kind)

    -- and who has won
    winners : (p : ℕ) → is_some (winner_of next.committers p)
        ≡ (if p == a.partition then true else is_some (winner_of c.committers p))
    winners p = by (p == a.partition) refl
      where
        one : (k : Committer) → holds a k ≡ true → is_some (winner_in (ended a Succeeded k)) ≡ true
        one Nobody e = absurd (true≢false (sym e))
        one (Winner w) e = absurd (true≢false (sym e))
        one (Holder h d) e = rw e refl

        by : (b : Bool) → (p == a.partition) ≡ b
            → is_some (winner_of next.committers p)
            ≡ (if b then true else is_some (winner_of c.committers p))
        by true e =
            ap (λ (q : ℕ). is_some (winner_of next.committers q)) (equal p a.partition e)
            ∙ ap (λ k. is_some (winner_in k))
            (committer_here c.committers a.partition (ended a Succeeded) refl)
            ∙ one (committer_at c.committers a.partition) has
        by false e =
            ap (λ k. is_some (winner_in k))
            (committer_other c.committers a.partition p (ended a Succeeded) e)

    but : SavesBut (a ∷ []) (rest_of a c) c
    but = ended_saves a c save

    well : (xs : List Running) → All (λ r. is_same a r.hand_out.attempt ≡ false) xs
        → All (SavesWell c) xs → All (SavesWell next) xs
    well [] others all = λ i r l. absurd (omega (arith, l))
    well (x ∷ xs) others all =
        All-cons (SavesWell next) x xs
        (saves_well c next x next_stages
        (same_saves c.committers a.partition (ended a Succeeded))
        (holds_beside c.committers a x.hand_out.attempt Succeeded
        (All-head (λ r. is_same a r.hand_out.attempt ≡ false) x xs others))
        (All-head (SavesWell c) x xs all))
        (well xs (All-tail (λ r. is_same a r.hand_out.attempt ≡ false) x xs others)
        (All-tail (SavesWell c) x xs all))

    gone : find (is_of a) (rest_of a c) ≡ None
    gone = without (is_of a) c.running

    pub won_saves : SavesBut [] (rest_of a c) next
    won_saves =
        record {
          commit = change_sound c.committers a.partition (ended a Succeeded)
              (ended_sound a Succeeded) save.commit;
          places = λ s. length_change_at c.committers a.partition (ended a Succeeded)
              ∙ save.places saves.0
              ∙ sym (ap (λ (s : ℕ). (stage_at next.dag s).tasks) same
              ∙ ap (λ (all : List StageData). (at_or all (result_stage c.dag) no_stage).tasks)
              next_stages);
          phases = well (rest_of a c) (others_differ a c) but.phases;
          holders = λ p h e. (let was = holder_ended c.committers a Succeeded p h save.commit e in
              let held = but.holders p h was.0 in
              record {
                stage = held.stage ∙ sym same;
                runs = λ n. held.runs (rw was.1 refl);
              });
          winners = λ p w e. winner p w (winners_held c.committers p a w Succeeded e);
          won = λ s p. winners p ∙ ap (λ b. if p == a.partition then true else b)
              (save.won saves.0 p ∙ ap (λ (s : ℕ). is_done c.dag s p) (sym stage))
              ∙ sym (done p) ∙ ap (λ (s : ℕ). is_done next.dag s p) (stage ∙ sym same);
          mirrors = λ s p. ap (λ flags. at_or flags p false)
              (result_held freed_core.dag a c.now s)
              ∙ freed_flags c.dag a (holds a (committer_at c.committers a.partition))
              (result_stage c.dag) s p (denies (committer_at c.committers p)) (λ e. stage)
              (save.mirrors s p)
              ∙ sym (ap (λ (r : ℕ). (s == r) && denies (committer_at next.committers p)) same
              ∙ ap (λ b. (s == result_stage c.dag) && b)
              (denies_ended c.committers a Succeeded p));
        }
      where
        winner : (p : ℕ) (w : AttemptId)
            → (winner_of c.committers p ≡ Some w)
            ⊎ ((holder_of c.committers p ≡ Some w) × (a ≡ w) × (Succeeded ≡ Succeeded))
            → HasWonBeside (rest_of a c) next w
        winner p w (inl e) =
            let was = but.winners p w e in
            record {
              given = given w was.given;
              stage = was.stage ∙ sym same;
              over = was.over;
            }
        winner p w (inr (e, is, how)) =
            subst (λ x. HasWonBeside (rest_of a c) next x) is
            (record {
              given = given a (runs_given c.dag a exec job.dag runs);
              stage = stage ∙ sym same;
              over = gone;
            })

-- ---- any success

-- a grant that isn't there isn't freed
unheld : (c : CoreData) (a : AttemptId) → has_grant c a ≡ false
    → (released c a Succeeded).dag ≡ c.dag
unheld c a e = rw e refl

-- of a job that doesn't save there is no committer
nobody : (ks : List Committer) → is_save ks ≡ false → ks ≡ []
nobody [] e = refl
nobody (k ∷ ks) e = absurd (true≢false e)

-- a success that ends its attempt alone, or is one of a job that doesn't save
plain_saves : (c after : CoreData) (a : AttemptId) → IsSoundJob c → IsSoundSave c
    → has_grant c a ≡ false → Stays c after → after.running ≡ rest_of a c → IsSoundSave after
plain_saves c after a job save none stays running =
    save_now after (rest_of a c)
    (saves_stay [] (rest_of a c) c after job.result stays
    (saves_without a [] (rest_of a c) c none (ended_saves a c save))) running

-- a job that goes on isn't done
going : (b : Bool) (m : CoreData) → job_runs (done_if b m) ≡ true → m ≡ done_if b m
going true m on = absurd (true≢false (sym on))
going false m on = refl

-- what a success leaves of a job that doesn't save
unsaved_stays : (c : CoreData) (a : AttemptId) → is_save c.committers ≡ false
    → Stays c (with_result_of c a)
unsaved_stays c a none =
    record {
      stages = (result_moves c.dag a c.now).stages;
      results = λ s. absurd (clash s none);
      held = result_held c.dag a c.now;
      given = (result_moves c.dag a c.now).given;
      committers = refl;
    }

pub result_saves :
    CallsKeepSound → OthersGoOn → (c after : CoreData) (r : Running) (answer : Answer)
    → IsSoundJob c → RunsWell c r → SavesWell c r → IsSoundSave c
    → fits c r outcomes.Result ≡ true
    → TellsResult (taken_off c r.hand_out.attempt) r answer after → job_runs after ≡ true
    → IsSoundSave after
result_saves calls others c after r answer job well far save fit (says, is) on =
    subst IsSoundSave (sym is)
    (by (has_grant c a) refl (result_success_of c.dag a) refl
    (subst (λ x. job_runs x ≡ true) is on))
  where
    a : AttemptId
    a = r.hand_out.attempt

    told : CoreData
    told = taken_off c r.hand_out.attempt

    free : CoreData
    free = released (taken_off c r.hand_out.attempt) r.hand_out.attempt Succeeded

    kind : is_map (stage_at c.dag r.hand_out.attempt.stage).target ≡ false
    kind = not_true (is_map (stage_at c.dag r.hand_out.attempt.stage).target) (both_left _ _ fit)

    stage : r.hand_out.attempt.stage ≡ result_stage c.dag
    stage = runs_results c r job well kind

    -- the result of a save was moved, so its attempt holds the grant
    moved : (phase : Phase) → r.phase ≡ phase → has_moved phase ≡ true → has_grant c a ≡ true
    moved phases.Moved e m = subst (λ x. IsAsFar x (has_grant c a)) e far.far
    moved phases.Given e m = absurd (true≢false (sym m))
    moved phases.Staged e m = absurd (true≢false (sym m))
    moved phases.Granted e m = absurd (true≢false (sym m))
    moved phases.Denied e m = absurd (true≢false (sym m))
    moved (phases.Faulted fault) e m = absurd (true≢false (sym m))

    plain : has_grant c a ≡ false → (b : Bool) → is_save c.committers ≡ b → b ≡ false
    plain none false e = refl
    plain none true e =
        absurd (clash (moved r.phase refl (saved (both_right _ _ fit))) none)
      where
        saved : (not (is_save c.committers) || has_moved r.phase) ≡ true
            → has_moved r.phase ≡ true
        saved h = rw e at h

    -- without a grant
    repeated : has_grant c a ≡ false → IsSoundSave (with_result_of told a)
    repeated none =
        plain_saves c (with_result_of told a) a job save none
        (stays_then c told (with_result_of told a) (stays_same c told refl refl)
        (unsaved_stays told a (plain none (is_save c.committers) refl))) refl

    finished : has_grant c a ≡ false → IsSoundSave (with_result_of free a)
    finished none =
        let unsaved = plain none (is_save c.committers) refl in
        let empty : c.committers ≡ [] = nobody c.committers unsaved in
        let same : after_end c.committers a Succeeded ≡ c.committers =
        ap (λ ks. after_end ks a Succeeded) empty ∙ sym empty in
        plain_saves c (with_result_of free a) a job save none
        (stays_then c free (with_result_of free a)
        (stays_same c free (unheld told a none) same)
        (unsaved_stays free a (ap is_save same ∙ unsaved))) refl

    -- with one
    wins : has_grant c a ≡ true → IsSoundSave (with_result_of free a)
    wins has =
        save_now (with_result_of free a) (rest_of a c)
        (won_saves c a r.exec job save well.in_set stage has (frees_all.sound job.dag)
        (frees_all.calm.runners a ∙ well.in_set)) refl
      where
        frees_all : Frees c.dag free.dag
        frees_all = frees calls others told a Succeeded

    first : has_grant c a ≡ true → result_success_of c.dag a ≡ successes.Finished
    first has = rw (holder_first c a r.exec job save well.in_set stage has) refl

    by : (b : Bool) → has_grant c a ≡ b → (s : Success) → result_success_of c.dag a ≡ s
        → job_runs (after_result s told a) ≡ true → IsSoundSave (after_result s told a)
    by true has successes.Repeated e go = absurd (search (rules, sym (first has) ∙ e))
    by true has successes.Registered e go =
        subst IsSoundSave (going _ (with_result_of free a) go) (wins has)
    by true has successes.Bogus e go =
        subst IsSoundSave (going _ (with_result_of free a) go) (wins has)
    by true has successes.Finished e go =
        subst IsSoundSave (going _ (with_result_of free a) go) (wins has)
    by false none successes.Repeated e go = repeated none
    by false none successes.Registered e go =
        subst IsSoundSave (going _ (with_result_of free a) go) (finished none)
    by false none successes.Bogus e go =
        subst IsSoundSave (going _ (with_result_of free a) go) (finished none)
    by false none successes.Finished e go =
        subst IsSoundSave (going _ (with_result_of free a) go) (finished none)
