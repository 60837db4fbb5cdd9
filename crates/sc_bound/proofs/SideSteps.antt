-- What happens beside the reports adds nothing to an account.
use Rattle.std.proofs.Common.{◌≡◌, ◌⊎◌, inl, inr, ℕ, zero, suc, ◌-◌, ◌≤◌, ◌==◌, ◌&&◌, not, All, Bool, true, false, cond, if◌then◌else◌, List, [], ◌∷◌, length, map, Option, Some, None, is_some, slice_get, count_by, refl, ap, sym, subst, ◌∙◌, arith, rules, true≢false}
use Rattle.std.proofs.lemmas.Bool.{cases_eq}
use Rattle.std.proofs.lemmas.Bool.Decides.{nat_tests}
use Rattle.std.proofs.lemmas.List.Sums.{sum_by-cons}
use Rattle.sc_base.specs.Lists.{at_or}
use Rattle.sc_ids.specs.Changes.{change_at}
use Rattle.sc_ids.specs.Graphs.{StageData}
use Rattle.sc_ids.specs.declared.attempts.AttemptId.{AttemptId}
use Rattle.sc_commit.specs.CommitLaws.{winner_of}
use Rattle.sc_commit.specs.Committers.{committer_at, winner_in}
use Rattle.sc_commit.specs.Committing.{after_ask, answer_to, asked as committer_asked, denies, is_same, permitted_at}
use Rattle.sc_commit.specs.declared.committers.Committer.{Committer}
use Rattle.sc_commit.specs.declared.committers.Committer.TheVariants.{Holder, Nobody, Winner}
use Rattle.sc_commit.specs.declared.committers.Permission.{Permission}
use Rattle.sc_commit.specs.declared.committers.Permission.TheVariants as permissions
use Rattle.sc_taskset.specs.Lookups.{is_finished, is_task_of, task_at}
use Rattle.sc_taskset.specs.TaskSetData.{TaskData, TaskSetData}
use Rattle.sc_dag.specs.DagData.{newest_at}
use Rattle.sc_dag.specs.Offers.{newest_number}
use Rattle.sc_dag.specs.Outputs.{held_in, is_done}
use Rattle.sc_dag.specs.Reports.{after_hold, wants_in}
use Rattle.sc_dag.specs.Sound.{AreHeldBy}
use Rattle.sc_dag.proofs.Items.{find_all, find_passes}
use Rattle.sc_dag.proofs.Tests.{clash}
use Rattle.sc_core.specs.CoreData.{CoreData, is_of, job_runs, result_stage}
use Rattle.sc_core.specs.Posts.{is_denied, is_save}
use Rattle.sc_core.specs.Saving.{AsksBy, AsksIf, MovesIf, StagesIf, as_far, asked, come_to, held_back, is_given, is_granted, is_staged, may_save, moved_by, phase_out, saver_phase, staged_by}
use Rattle.sc_core.specs.Sides.{LeavesIf, Sides, StepsAside, TicksIf}
use Rattle.sc_core.specs.Sound.{IsSoundCore}
use Rattle.sc_core.specs.declared.answers.Answer.{Answer}
use Rattle.sc_core.specs.declared.events.FileOutcome.{FileOutcome}
use Rattle.sc_core.specs.declared.events.FileOutcome.TheVariants.{Done, Failed}
use Rattle.sc_core.specs.declared.events.SideEvent.{SideEvent}
use Rattle.sc_core.specs.declared.events.SideEvent.TheVariants.{Ask, Leave, Move, Stage, Tick}
use Rattle.sc_core.specs.declared.running.Phase.{Phase}
use Rattle.sc_core.specs.declared.running.Phase.TheVariants as phases
use Rattle.sc_core.specs.declared.running.Running.{Running}
use Rattle.sc_core.proofs.LeftLemmas.{same_saves}
use Rattle.sc_core.proofs.LookupLemmas.{same_is}
use Rattle.sc_history.specs.Evidence.{is_of_task}
use Rattle.sc_bound.specs.Accounts.{account_of, running_for, runs_for}
use Rattle.sc_bound.specs.Numbered.{set_at}
use Rattle.sc_bound.specs.Sets.{is_open, is_wanted_task}
use Rattle.sc_bound.proofs.AccountLemmas.{account_kept, fewer_order}
use Rattle.sc_bound.proofs.KeepLemmas.{Slot, hold_slots, slots_same}
use Rattle.sc_bound.proofs.SetLemmas.{Fewer, held_fewer}
use Rattle.sc_bound.proofs.ShutLemmas.{newest_is, older_dead, unwanted_shut, zombie_shut}

-- ---- what runs

-- no fewer where each that counts does so still
count_more : {A : Type 0} (p : A → Bool) (g : A → A) (xs : List A)
    → ((x : A) → p x ≡ true → p (g x) ≡ true) → count_by p xs ≤ count_by p (map g xs)
count_more p g [] keeps = omega arith
count_more {A = A} p g (x ∷ xs) keeps =
    let a = sum_by-cons f (g x) (map g xs) in
    let b = sum_by-cons f x xs in
    let one = by (p x) refl in
    let rest = count_more p g xs keeps in
    omega (arith, a, b, one, rest)
  where
    f : A → ℕ
    f y = cond (p y) 1 0

    by : (b : Bool) → p x ≡ b → f x ≤ f (g x)
    by true e = rw (e, keeps x e) (omega arith)
    by false e = rw e (omega arith)

-- an attempt that has come further
far_runs : (a : AttemptId) (phase : Phase) (s k p : ℕ) (r : Running)
    → (is_denied phase ≡ false) ⊎ (is_of_task s k p a ≡ false)
    → runs_for s k p r ≡ true → runs_for s k p (as_far a phase r) ≡ true
far_runs a phase s k p r calm e = by (is_of a r) refl r.is_out calm
  where
    left : (x y : Bool) → (x && y) ≡ true → x ≡ true
    left true y h = refl
    left false y h = absurd (true≢false (sym h))

    task : is_of_task s k p r.hand_out.attempt ≡ true
    task = left (is_of_task s k p r.hand_out.attempt) _ e

    by : (x : Bool) → is_of a r ≡ x → (y : Bool)
        → (is_denied phase ≡ false) ⊎ (is_of_task s k p a ≡ false)
        → runs_for s k p (if x && y then record r { phase = phase } else r) ≡ true
    by false f y w = e
    by true f false w = e
    by true f true (inl free) = rw (task, free) refl
    by true f true (inr apart) =
        let is : r.hand_out.attempt ≡ a = same_is r.hand_out.attempt a f in
        absurd (clash (ap (is_of_task s k p) (sym is) ∙ task) apart)

-- ---- accounts

-- sets hand out no more, and what runs runs on where they hand out
side_kept : (c after : CoreData) (s k p : ℕ)
    → Slot (Fewer p) p (set_at c.dag s k) (set_at after.dag s k)
    → (is_open (set_at after.dag s k) p ≡ true → running_for c s k p ≤ running_for after s k p)
    → account_of after s k p ≤ account_of c s k p
side_kept c after s k p fewer more =
    account_kept (set_at c.dag s k) (set_at after.dag s k) p (running_for c s k p)
    (running_for after s k p) fewer more

-- the stages stay, and an attempt comes further that isn't denied
comes_add : (c : CoreData) (ks : List Committer) (a : AttemptId) (phase : Phase) (s k p : ℕ)
    → is_denied phase ≡ false
    → account_of (come_to (record c { committers = ks }) a phase) s k p ≤ account_of c s k p
comes_add c ks a phase s k p free =
    side_kept c (come_to (record c { committers = ks }) a phase) s k p
    (slots_same (Fewer p) p (fewer_order p) c.dag s k)
    (λ o. count_more (runs_for s k p) (as_far a phase) c.running
    (λ r. far_runs a phase s k p r (inl free)))

-- ---- who is denied

-- its committer denies then, or another one has won
asked_so : (ks : List Committer) (a other : AttemptId)
    → answer_to ks a true ≡ permissions.Denied other
    → (denies (committer_at (after_ask ks a true) a.partition) ≡ true)
    ⊎ (is_some (winner_of (after_ask ks a true) a.partition) ≡ true)
asked_so ks a other e = by ks a.partition e
  where
    one : (k : Committer) → permitted_at a (Some k) ≡ permissions.Denied other
        → (denies (committer_asked a k) ≡ true) ⊎ (is_some (winner_in (committer_asked a k)) ≡ true)
    one Nobody h = absurd (search (rules, h))
    one (Winner w) h = inr refl
    one (Holder g d) h = test (is_same g a) h
      where
        test : (b : Bool)
            → (if b then permissions.Granted else permissions.Denied g) ≡ permissions.Denied other
            → (denies (if b then Holder g d else Holder g true) ≡ true)
            ⊎ (is_some (winner_in (if b then Holder g d else Holder g true)) ≡ true)
        test true f = absurd (search (rules, f))
        test false f = inl refl

    by : (ks : List Committer) (i : ℕ)
        → permitted_at a (slice_get ks i) ≡ permissions.Denied other
        → (denies (committer_at (change_at ks i (committer_asked a)) i) ≡ true)
        ⊎ (is_some (winner_in (committer_at (change_at ks i (committer_asked a)) i)) ≡ true)
    by [] i h = absurd (search (rules, h))
    by (k ∷ ks) zero h = one k h
    by (k ∷ ks) (suc i) h = by ks i h

-- in such a state the newest set hands the partition out no more
denied_shut : (c : CoreData) (p : ℕ) → IsSoundCore c → job_runs c ≡ true
    → is_save c.committers ≡ true
    → (denies (committer_at c.committers p) ≡ true) ⊎ (is_some (winner_of c.committers p) ≡ true)
    → is_open (newest_at c.dag (result_stage c.dag)) p ≡ false
denied_shut c p sound runs saves (inr won) =
    unwanted_shut (newest_at c.dag (result_stage c.dag)) p
    (by (wants_in (newest_at c.dag (result_stage c.dag)) p) refl)
  where
    done : is_done c.dag (result_stage c.dag) p ≡ true
    done = sym ((sound.save runs).won saves p) ∙ won

    by : (b : Bool) → wants_in (newest_at c.dag (result_stage c.dag)) p ≡ b
        → wants_in (newest_at c.dag (result_stage c.dag)) p ≡ false
    by false e = e
    by true e = absurd (clash done (sound.job.dag.wanted (result_stage c.dag) p e))
denied_shut c p sound runs saves (inl denied) =
    by (newest_at c.dag (result_stage c.dag)) (sound.job.dag.held (result_stage c.dag))
  where
    flags : List Bool
    flags = held_in (slice_get c.dag.states (result_stage c.dag))

    flag : at_or (held_in (slice_get c.dag.states (result_stage c.dag))) p false ≡ true
    flag =
        (sound.save runs).mirrors (result_stage c.dag) p
        ∙ one (result_stage c.dag) (denies (committer_at c.committers p)) denied
      where
        one : (n : ℕ) (b : Bool) → b ≡ true → ((n == n) && b) ≡ true
        one n b e = grind (arith, nat_tests, e)

    none : (b : Bool) → (b && false) ≡ false
    none true = refl
    none false = refl

    task : (set : TaskSetData)
        → All (λ t. t.denied ≡ at_or (held_in (slice_get c.dag.states (result_stage c.dag)))
        t.partition false) set.tasks
        → (o : Option TaskData) → task_at p set.tasks ≡ o → is_wanted_task o ≡ false
    task set all None e = refl
    task set all (Some t) e =
        let held = find_all (λ u. u.denied
        ≡ at_or (held_in (slice_get c.dag.states (result_stage c.dag))) u.partition false)
        (is_task_of p) set.tasks t all e in
        let passes : is_task_of p t ≡ true = find_passes (is_task_of p) set.tasks t e in
        let same : t.partition ≡ p = grind (arith, nat_tests, passes) in
        let is : t.denied ≡ true =
        held ∙ ap (λ (n : ℕ). at_or flags n false) same ∙ flag in
        ap (λ b. not (is_finished t) && not b) is ∙ none (not (is_finished t))

    by : (o : Option TaskSetData)
        → AreHeldBy (held_in (slice_get c.dag.states (result_stage c.dag))) o
        → is_open o p ≡ false
    by None h = refl
    by (Some set) h =
        ap (λ b. not set.is_zombie && b) (task set h (task_at p set.tasks) refl)
        ∙ none (not set.is_zombie)

-- ---- each event

-- a denied attempt was one of the result stage of a save that runs
record Saves (c : CoreData) (a : AttemptId) : Type 0 where
  runs : job_runs c ≡ true
  saves : is_save c.committers ≡ true
  stage : a.stage ≡ result_stage c.dag

saves_so : (c : CoreData) (a : AttemptId) → is_staged (saver_phase c a) ≡ true → Saves c a
saves_so c a e = by (may_save c a) refl e
  where
    left : (x y : Bool) → (x && y) ≡ true → x ≡ true
    left true y h = refl
    left false y h = absurd (true≢false (sym h))

    right : (x y : Bool) → (x && y) ≡ true → y ≡ true
    right true y h = h
    right false y h = absurd (true≢false (sym h))

    by : (b : Bool) → may_save c a ≡ b
        → is_staged (if b then phase_out a c.running else None) ≡ true → Saves c a
    by false f g = absurd (true≢false (sym g))
    by true f g =
        let rest = right (job_runs c) (is_save c.committers && (a.stage == result_stage c.dag)) f in
        let last = right (is_save c.committers) (a.stage == result_stage c.dag) rest in
        record {
          runs = left (job_runs c) _ f;
          saves = left (is_save c.committers) _ rest;
          stage = grind (arith, nat_tests, last);
        }

denied_adds : (c after : CoreData) (a other : AttemptId) (s k p : ℕ) → IsSoundCore after
    → Saves c a → answer_to c.committers a true ≡ permissions.Denied other
    → after ≡ come_to (held_back (asked c a) a) a phases.Denied
    → account_of after s k p ≤ account_of c s k p
denied_adds c after a other s k p sound saves denied is =
    by (is_of_task s k p a) refl
  where
    next : CoreData
    next = come_to (held_back (asked c a) a) a phases.Denied

    fewer : Slot (Fewer p) p (set_at c.dag s k) (set_at next.dag s k)
    fewer = one (denies (committer_at (asked c a).committers a.partition))
      where
        one : (b : Bool) → Slot (Fewer p) p (set_at c.dag s k)
            (set_at (if b then after_hold c.dag a.stage a.partition true else c.dag) s k)
        one true =
            hold_slots (Fewer p) p (fewer_order p) c.dag a.stage a.partition true
            (λ x. held_fewer x a.partition p) s k
        one false = slots_same (Fewer p) p (fewer_order p) c.dag s k

    now : Slot (Fewer p) p (set_at c.dag s k) (set_at after.dag s k)
    now = subst (λ (x : CoreData). Slot (Fewer p) p (set_at c.dag s k) (set_at x.dag s k)) (sym is)
        fewer

    stages : after.dag.stages ≡ c.dag.stages
    stages =
        ap (λ (x : CoreData). x.dag.stages) is
        ∙ one (denies (committer_at (asked c a).committers a.partition))
      where
        one : (b : Bool)
            → (if b then after_hold c.dag a.stage a.partition true else c.dag).stages
            ≡ c.dag.stages
        one true = refl
        one false = refl

    last : result_stage after.dag ≡ a.stage
    last = ap (λ (xs : List StageData). length xs - 1) stages ∙ sym saves.stage

    shut : is_open (newest_at after.dag a.stage) a.partition ≡ false
    shut =
        subst (λ (n : ℕ). is_open (newest_at after.dag n) a.partition ≡ false) last
        (denied_shut after a.partition sound
        (ap (λ (x : CoreData). job_runs x) is ∙ saves.runs)
        (ap (λ (x : CoreData). is_save x.committers) is
        ∙ same_saves c.committers a.partition (committer_asked a) ∙ saves.saves)
        (subst (λ (x : CoreData). (denies (committer_at x.committers a.partition) ≡ true)
        ⊎ (is_some (winner_of x.committers a.partition) ≡ true)) (sym is)
        (asked_so c.committers a other denied)))

    own : is_open (set_at after.dag a.stage a.stage_attempt) a.partition ≡ false
    own = which (cases_eq a.stage_attempt (newest_number after.dag a.stage))
        (set_at after.dag a.stage a.stage_attempt) refl
      where
        which : (a.stage_attempt ≡ newest_number after.dag a.stage)
            ⊎ (a.stage_attempt ≡ newest_number after.dag a.stage → ⊥)
            → (o : Option TaskSetData) → set_at after.dag a.stage a.stage_attempt ≡ o
            → is_open (set_at after.dag a.stage a.stage_attempt) a.partition ≡ false
        which (inl e) o f =
            ap (λ x. is_open x a.partition) (newest_is after.dag a.stage a.stage_attempt e) ∙ shut
        which (inr e) None f = ap (λ x. is_open x a.partition) f
        which (inr e) (Some set) f =
            ap (λ x. is_open x a.partition) f
            ∙ zombie_shut set a.partition
            (older_dead after.dag a.stage a.stage_attempt set sound.job.dag f e).0

    by : (b : Bool) → is_of_task s k p a ≡ b → account_of after s k p ≤ account_of c s k p
    by true e =
        let stage : s ≡ a.stage = grind (arith, nat_tests, e) in
        let number : k ≡ a.stage_attempt = grind (arith, nat_tests, e) in
        let part : p ≡ a.partition = grind (arith, nat_tests, e) in
        side_kept c after s k p now (λ o. absurd (clash o (rw (stage, number, part) own)))
    by false e =
        side_kept c after s k p now
        (λ o. subst (λ (x : CoreData). running_for c s k p ≤ running_for x s k p) (sym is)
        (count_more (runs_for s k p) (as_far a phases.Denied) c.running
        (λ r. far_runs a phases.Denied s k p r (inr e))))

pub sides_add : (c after : CoreData) (event : SideEvent) (answer : Answer) (s k p : ℕ)
    → IsSoundCore after → StepsAside c event answer after
    → account_of after s k p ≤ account_of c s k p
sides_add c after event answer s k p sound (said, told, step) = by event step
  where
    same : (x : CoreData) → account_of x s k p ≤ account_of c s k p → after ≡ x
        → account_of after s k p ≤ account_of c s k p
    same x le is =
        subst (λ (y : CoreData). account_of y s k p ≤ account_of c s k p) (sym is) le

    staged : (wrote : FileOutcome) → is_denied (staged_by wrote) ≡ false
    staged Done = refl
    staged (Failed fault) = refl

    moved : (renamed : FileOutcome) → is_denied (moved_by renamed) ≡ false
    moved Done = refl
    moved (Failed fault) = refl

    by : (event : SideEvent) → Sides c event said after
        → account_of after s k p ≤ account_of c s k p
    by (Leave exec) h = one (job_runs c) h
      where
        one : (b : Bool) → LeavesIf b c exec said after
            → account_of after s k p ≤ account_of c s k p
        one true (t, is) = same _ (omega arith) is
        one false (t, is) = same c (omega arith) is
    by (Tick now) h = one (job_runs c) h
      where
        one : (b : Bool) → TicksIf b c now said after
            → account_of after s k p ≤ account_of c s k p
        one true (t, is) = same _ (omega arith) is
        one false (t, is) = same c (omega arith) is
    by (Stage a wrote) h = one (is_given (saver_phase c a)) h
      where
        one : (b : Bool) → StagesIf b c a wrote said after
            → account_of after s k p ≤ account_of c s k p
        one true (t, is) =
            same (come_to c a (staged_by wrote))
            (comes_add c c.committers a (staged_by wrote) s k p (staged wrote)) is
        one false (t, is) = same c (omega arith) is
    by (Move a renamed) h = one (is_granted (saver_phase c a)) h
      where
        one : (b : Bool) → MovesIf b c a renamed said after
            → account_of after s k p ≤ account_of c s k p
        one true (t, is) =
            same (come_to c a (moved_by renamed))
            (comes_add c c.committers a (moved_by renamed) s k p (moved renamed)) is
        one false (t, is) = same c (omega arith) is
    by (Ask a) h = one (is_staged (saver_phase c a)) refl h
      where
        asks : is_staged (saver_phase c a) ≡ true → (permission : Permission)
            → answer_to c.committers a true ≡ permission → AsksBy permission c a said after
            → account_of after s k p ≤ account_of c s k p
        asks e permissions.Granted f (t, is) =
            same (come_to (asked c a) a phases.Granted)
            (comes_add c (asked c a).committers a phases.Granted s k p refl) is
        asks e (permissions.Denied other) f (t, is) =
            denied_adds c after a other s k p sound (saves_so c a e) f is
        asks e permissions.Over f (t, is) = same c (omega arith) is

        one : (b : Bool) → is_staged (saver_phase c a) ≡ b → AsksIf b c a said after
            → account_of after s k p ≤ account_of c s k p
        one true e g = asks e (answer_to c.committers a true) refl g
        one false e (t, is) = same c (omega arith) is
