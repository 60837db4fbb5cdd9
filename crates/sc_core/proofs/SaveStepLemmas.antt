-- Who may commit, once a task was handed out, a report is to be told later, or an executor is lost.
use Rattle.std.proofs.Common.{◌≡◌, ◌≢◌, ℕ, ◌==◌, not, All, Bool, true, false, cond, if◌then◌else◌, length, ◌-◌, List, [], ◌∷◌, ◌++◌, map, Option, Some, None, find, option_map, refl, ap, sym, subst, ◌∙◌, arith, rules}
use Rattle.std.specs.List.{filter, list_any}
use Rattle.std.specs.Option.{option_or}
use Rattle.std.proofs.lemmas.List.Elements.{All-cons, All-filter, All-head, All-map, All-push, All-tail, All-weaker}
use Rattle.std.proofs.lemmas.List.Folds.{find-append}
use Rattle.sc_base.specs.Lists.{at_or}
use Rattle.sc_ids.specs.Graphs.{StageData}
use Rattle.sc_ids.specs.declared.attempts.AttemptId.{AttemptId}
use Rattle.sc_commit.specs.Committers.{committer_at}
use Rattle.sc_commit.specs.Committing.{is_same}
use Rattle.sc_commit.specs.declared.committers.Ending.TheVariants as endings
use Rattle.sc_taskset.proofs.FindLemmas.{found_is, found_passes}
use Rattle.sc_dag.specs.DagData.{no_stage, stage_at}
use Rattle.sc_dag.specs.Losses.{after_lost}
use Rattle.sc_dag.specs.Offers.{handed_out}
use Rattle.sc_dag.specs.Sound.{runner_of}
use Rattle.sc_dag.specs.Submission.{is_map}
use Rattle.sc_dag.proofs.Tests.{clash}
use Rattle.sc_core.specs.CoreData.{CoreData, as_in, is_of, result_stage, running_of, shelved, with_dag}
use Rattle.sc_core.specs.HandOuts.{HandOutData}
use Rattle.sc_core.specs.Losses.{all_released, attempts_on, runs_on, without_executor}
use Rattle.sc_core.specs.Sound.{IsSoundJob, IsSoundSave, RunsWell, SavesWell, has_grant, was_given}
use Rattle.sc_core.specs.Takes.{IsAsking, IsHandOut, running_on, with_task}
use Rattle.sc_core.specs.Tells.{released}
use Rattle.sc_core.specs.declared.events.Outcome.{Outcome}
use Rattle.sc_core.specs.declared.running.Running.{Running}
use Rattle.sc_core.proofs.GrantLemmas.{holds_is}
use Rattle.sc_core.proofs.HeldLemmas.{handed_held, lost_held}
use Rattle.sc_core.proofs.LookupLemmas.{same_is}
use Rattle.sc_core.proofs.LossLemmas.{lost_loses, lost_results}
use Rattle.sc_core.proofs.MoveLemmas.{Moves, state_results}
use Rattle.sc_core.proofs.OfferLemmas.{IsOffered, handed_out_moves, offered, offered_new}
use Rattle.sc_core.proofs.SaveLemmas.{SavesBut, freed, is_among, save_now, saves_now, saves_others, saves_released, saves_stay}
use Rattle.sc_core.proofs.SaveTellLemmas.{none_left, stays_same}
use Rattle.sc_core.proofs.ShelfLemmas.{all_left, find_in, offered_fresh}

-- ---- a task

-- what runs nowhere isn't found among those that run
none_runs : (c : CoreData) (a : AttemptId) → All (RunsWell c) c.running
    → runner_of c.dag a ≡ None → running_of c a ≡ None
none_runs c a all none = by (running_of c a) refl
  where
    by : (o : Option Running) → running_of c a ≡ o → o ≡ None
    by None e = refl
    by (Some r) e =
        let same : r.hand_out.attempt ≡ a =
        same_is r.hand_out.attempt a (found_passes (is_of a) c.running r e) in
        absurd (search (
          rules,
          (found_is (RunsWell c) (is_of a) c.running r all e).in_set,
          subst (λ b. runner_of c.dag b ≡ None) (sym same) none,
        ))

-- so it holds no grant
none_holds : (c : CoreData) (a : AttemptId) → IsSoundSave c → running_of c a ≡ None
    → has_grant c a ≡ false
none_holds c a save none = by (has_grant c a) refl
  where
    by : (b : Bool) → has_grant c a ≡ b → b ≡ false
    by false e = refl
    by true e =
        absurd (((saves_now c save).holders a.partition a
        (holds_is (committer_at c.committers a.partition) a e)).runs refl none)

pub task_saves : (c : CoreData) (exec : ℕ) (h : HandOutData) → IsSoundJob c → IsAsking c exec
    → IsHandOut c exec h → IsSoundSave c → IsSoundSave (with_task c exec h)
task_saves c exec h job asks out save =
    save_now after (c.running ++ running_on h exec ∷ [])
    (saves_stay [] (c.running ++ running_on h exec ∷ []) c after job.result
    (record {
      stages = refl;
      results = λ s. state_results c.dag h.attempt.stage _ (λ state. refl);
      held = handed_held c.dag h.attempt exec c.now;
      given = moves.given;
      committers = refl;
    })
    (saves_others [] [] c.running (c.running ++ running_on h exec ∷ []) c
    (All-push (SavesWell c) c.running (running_on h exec) save.phases
    (record {
      saver = λ n. absurd (n refl);
      far = none_holds c h.attempt save
          (none_runs c h.attempt job.running (offered_new c.dag exec c.now h.attempt o
          out.offer.newest));
    }))
    (λ p b e n runs. subst (λ x. x ≢ None)
    (sym (find-append (is_of b) c.running (running_on h exec ∷ [])))
    (some (find (is_of b) c.running) (find (is_of b) (running_on h exec ∷ [])) (runs refl)))
    (λ w given e. find-append (is_of w) c.running (running_on h exec ∷ [])
    ∙ ap (λ x. option_or x (find (is_of w) (running_on h exec ∷ []))) e
    ∙ other w (is_same h.attempt w) refl given)
    (saves_now c save))) refl
  where
    after : CoreData
    after = with_task c exec h

    o : IsOffered c.dag exec c.now h.attempt
    o = offered c.dag exec c.now h.attempt job.dag out.offer

    moves : Moves (is_same h.attempt) (Some exec) c.dag (handed_out c.dag h.attempt exec c.now)
    moves = handed_out_moves c.dag exec c.now h.attempt o out.offer.newest

    some : (x y : Option Running) → x ≢ None → option_or x y ≢ None
    some None y n = absurd (n refl)
    some (Some r) y n = λ m. search (rules, m)

    other : (w : AttemptId) (b : Bool) → is_same h.attempt w ≡ b → was_given c.dag w ≡ true
        → find (is_of w) (running_on h exec ∷ []) ≡ None
    other w false e given = rw e refl
    other w true e given =
        absurd (clash given
        (subst (λ b. was_given c.dag b ≡ false) (same_is h.attempt w e)
        (offered_fresh c.dag exec c.now h.attempt o out.offer.newest)))

-- ---- a report that is to be told later

pub shelved_saves : (c : CoreData) (a : AttemptId) (outcome : Outcome) (delay : ℕ) → IsSoundJob c
    → IsSoundSave c → IsSoundSave (shelved c a outcome delay)
shelved_saves c a outcome delay job save =
    save_now after (map (as_in a) c.running)
    (saves_stay [] (map (as_in a) c.running) c after job.result (stays_same c after refl refl)
    (saves_others [] [] c.running (map (as_in a) c.running) c
    (All-map (SavesWell c) (as_in a) c.running
    (All-weaker (SavesWell c) (λ r. SavesWell c (as_in a r)) in_well c.running save.phases))
    (λ p h e n runs. subst (λ x. x ≢ None) (sym (find_in a h c.running))
    (some (find (is_of h) c.running) (runs refl)))
    (λ w given e. find_in a w c.running ∙ ap (option_map (as_in a)) e)
    (saves_now c save))) refl
  where
    after : CoreData
    after = shelved c a outcome delay

    some : (o : Option Running) → o ≢ None → option_map (as_in a) o ≢ None
    some None n = absurd (n refl)
    some (Some r) n = λ m. search (rules, m)

    in_well : (r : Running) → SavesWell c r → SavesWell c (as_in a r)
    in_well r well = by (is_of a r)
      where
        by : (b : Bool) → SavesWell c (if b then record r { is_out = false } else r)
        by true = record { saver = well.saver; far = well.far }
        by false = well

-- ---- a loss

-- what holds of those that pass a test holds of all that are left of it
all_on : {A : Type 0} (P : A → Type 0) (q : A → Bool) (xs : List A)
    → All (λ x. q x ≡ true → P x) xs → All P (filter q xs)
all_on P q [] all = λ i d l. absurd (omega (arith, l))
all_on {A = A} P q (x ∷ xs) all =
    by (q x) refl (all_on P q xs (All-tail (λ y. q y ≡ true → P y) x xs all))
  where
    by : (b : Bool) → q x ≡ b → All P (filter q xs)
        → All P (cond b (x ∷ filter q xs) (filter q xs))
    by false e h = h
    by true e h =
        All-cons P x (filter q xs) (All-head (λ y. q y ≡ true → P y) x xs all e) h

-- an attempt that doesn't end with its executor runs on
stays_there : (exec : ℕ) (h : AttemptId) (xs : List Running)
    → is_among (attempts_on exec xs) h ≡ false → find (is_of h) xs ≢ None
    → find (is_of h) (filter (λ r. not (runs_on exec r)) xs) ≢ None
stays_there exec h [] n some = some
stays_there exec h (x ∷ xs) n some =
    by (runs_on exec x) (is_of h x) refl n some (λ m k. stays_there exec h xs m k)
  where
    by : (u v : Bool) → is_of h x ≡ v
        → list_any (λ a. is_same a h) (map (λ r. r.hand_out.attempt)
        (cond u (x ∷ filter (runs_on exec) xs) (filter (runs_on exec) xs))) ≡ false
        → cond v (Some x) (find (is_of h) xs) ≢ None
        → (is_among (attempts_on exec xs) h ≡ false → find (is_of h) xs ≢ None
        → find (is_of h) (filter (λ r. not (runs_on exec r)) xs) ≢ None)
        → find (is_of h) (cond (not u) (x ∷ filter (λ r. not (runs_on exec r)) xs)
        (filter (λ r. not (runs_on exec r)) xs)) ≢ None
    by true true e m k rest = absurd (search (rules, rw e at m))
    by true false e m k rest = rest (rw e at m) k
    by false true e m k rest = rw e (λ z. search (rules, z))
    by false false e m k rest = rw e (rest m k)

all_stages : (these : List AttemptId) (c : CoreData)
    → (all_released these c).dag.stages ≡ c.dag.stages
all_stages [] c = refl
all_stages (a ∷ these) c =
    all_stages these (released c a endings.Failed) ∙ (freed c a endings.Failed).stages

-- attempts that end one after the other
all_saves : (these : List AttemptId) (rs : List Running) (c : CoreData)
    → is_map (stage_at c.dag (result_stage c.dag)).target ≡ false
    → All (λ a. All (λ r. is_same a r.hand_out.attempt ≡ false) rs) these → SavesBut these rs c
    → SavesBut [] rs (all_released these c)
all_saves [] rs c kind differ save = save
all_saves (a ∷ these) rs c kind differ save =
    all_saves these rs (released c a endings.Failed)
    (subst (λ (all : List StageData). is_map (at_or all (length all - 1) no_stage).target ≡ false)
    (sym (freed c a endings.Failed).stages) kind)
    (All-tail (λ b. All (λ r. is_same b r.hand_out.attempt ≡ false) rs) a these differ)
    (saves_released a these rs c kind
    (All-head (λ b. All (λ r. is_same b r.hand_out.attempt ≡ false) rs) a these differ) save)

pub lose_saves : (c : CoreData) (exec : ℕ) → IsSoundJob c → IsSoundSave c
    → IsSoundSave (without_executor c exec)
lose_saves c exec job save =
    save_now (without_executor c exec) rest
    (saves_stay [] rest (all_released these mid) (without_executor c exec) all_kind
    (stays_same (all_released these mid) (without_executor c exec) refl refl)
    (all_saves these rest mid job.result differ
    (saves_stay these rest c mid job.result
    (record {
      stages = refl;
      results = λ s. lost_results c.dag exec;
      held = lost_held c.dag exec;
      given = (lost_loses c.dag exec job.dag).given;
      committers = refl;
    })
    (saves_others [] these c.running rest c
    (All-filter (λ r. not (runs_on exec r)) (SavesWell c) c.running save.phases)
    (λ p h e n runs. stays_there exec h c.running n (runs refl))
    (λ w given e. none_left (is_of w) (λ r. not (runs_on exec r)) c.running e)
    (saves_now c save))))) refl
  where
    rest : List Running
    rest = filter (λ r. not (runs_on exec r)) c.running

    these : List AttemptId
    these = attempts_on exec c.running

    mid : CoreData
    mid = with_dag c (after_lost c.dag exec)

    all_kind : is_map (stage_at (all_released these mid).dag
        (result_stage (all_released these mid).dag)).target ≡ false
    all_kind =
        subst (λ (all : List StageData). is_map (at_or all (length all - 1) no_stage).target
        ≡ false) (sym (all_stages these mid)) job.result

    differ : All (λ a. All (λ r. is_same a r.hand_out.attempt ≡ false) rest) these
    differ =
        All-map (λ a. All (λ r. is_same a r.hand_out.attempt ≡ false) rest)
        (λ r. r.hand_out.attempt) (filter (runs_on exec) c.running)
        (all_on (λ q. All (λ r. is_same q.hand_out.attempt r.hand_out.attempt ≡ false) rest)
        (runs_on exec) c.running
        (All-weaker (RunsWell c)
        (λ q. runs_on exec q ≡ true
        → All (λ r. is_same q.hand_out.attempt r.hand_out.attempt ≡ false) rest)
        (λ q well on. all_left
        (λ r. is_same q.hand_out.attempt r.hand_out.attempt ≡ false) (runs_on exec) c.running
        (All-weaker (RunsWell c)
        (λ r. runs_on exec r ≡ false → is_same q.hand_out.attempt r.hand_out.attempt ≡ false)
        (λ r other off. apart_by q r well other on off _ refl) c.running job.running))
        c.running job.running))
      where
        apart_by : (q r : Running) → RunsWell c q → RunsWell c r → runs_on exec q ≡ true
            → runs_on exec r ≡ false → (b : Bool)
            → is_same q.hand_out.attempt r.hand_out.attempt ≡ b → b ≡ false
        apart_by q r well other on off false e = refl
        apart_by q r well other on off true e =
            let same : q.hand_out.attempt ≡ r.hand_out.attempt =
            same_is q.hand_out.attempt r.hand_out.attempt e in
            let execs : q.exec ≡ r.exec =
            search (
              rules,
              subst (λ a. runner_of c.dag a ≡ Some q.exec) same well.in_set,
              other.in_set,
            ) in
            absurd (clash (subst (λ (n : ℕ). (n == exec) ≡ true) execs on) off)
