-- Each event adds nothing to an account, but two where it frees the partition.
use Rattle.std.proofs.Common.{◌≡◌, ◌⊎◌, inl, inr, ℕ, zero, suc, ◌+◌, ◌-◌, ◌*◌, ◌≤◌, ◌==◌, ◌&&◌, Bool, true, false, cond, if◌then◌else◌, List, [], ◌∷◌, Option, Some, None, option_map, is_some, slice_get, refl, ap, sym, subst, ◌∙◌, arith, true≢false}
use Rattle.std.proofs.lemmas.Bool.{cases_eq}
use Rattle.std.proofs.lemmas.Bool.Decides.{nat_tests}
use Rattle.std.proofs.lemmas.List.Sums.{sum_by-append}
use Rattle.sc_ids.specs.declared.attempts.AttemptId.{AttemptId}
use Rattle.sc_commit.specs.declared.committers.Ending.TheVariants as endings
use Rattle.sc_taskset.specs.Lookups.{task_at}
use Rattle.sc_taskset.specs.Offers.{given_of, handed}
use Rattle.sc_taskset.specs.Reports.{after_loss}
use Rattle.sc_taskset.specs.TaskSetData.{TaskSetData}
use Rattle.sc_ids.specs.Graphs.{StageData}
use Rattle.sc_dag.specs.DagData.{DagData, newest_at}
use Rattle.sc_dag.specs.Openings.{blank_states}
use Rattle.sc_dag.specs.Outputs.{is_complete}
use Rattle.sc_dag.specs.Submission.{IsSubmitted, this_stage}
use Rattle.sc_dag.specs.declared.reports.Success.{Success}
use Rattle.sc_dag.specs.declared.reports.Success.TheVariants as successes
use Rattle.sc_dag.specs.Losses.{after_lost}
use Rattle.sc_dag.specs.Offers.{handed_out, may_be_given_in, newest_number}
use Rattle.sc_dag.specs.Reports.{reaches_limit_in, result_success_of, set_of}
use Rattle.sc_dag.proofs.Tests.{both_left}
use Rattle.sc_core.specs.CoreData.{CoreData, result_stage, with_dag}
use Rattle.sc_core.specs.Journals.{Replays}
use Rattle.sc_core.specs.HandOuts.{HandOutData}
use Rattle.sc_core.specs.Losses.{all_released, attempts_on, without_executor}
use Rattle.sc_core.specs.Posts.{fits}
use Rattle.sc_core.specs.Sound.{IsSoundCore}
use Rattle.sc_core.specs.Takes.{Takes, running_on, with_task}
use Rattle.sc_core.specs.Tells.{Tells, TellsResult, after_result, done_if, released, with_result_of}
use Rattle.sc_core.specs.declared.answers.Answer.{Answer}
use Rattle.sc_core.specs.declared.entries.Entry.{Entry}
use Rattle.sc_core.specs.declared.events.Event.{Event}
use Rattle.sc_core.specs.declared.events.Event.TheVariants.{Post, Release, Side, Take, TellLost}
use Rattle.sc_core.specs.declared.events.Outcome.{Outcome}
use Rattle.sc_core.specs.declared.events.Outcome.TheVariants as outcomes
use Rattle.sc_core.specs.declared.running.Running.{Running}
use Rattle.sc_core.proofs.LawLemmas.{steps_keep_sound}
use Rattle.sc_core.proofs.OfferLemmas.{offered, offered_may}
use Rattle.sc_core.proofs.TakeCases.{GivesTask, TakesSo, takes_so}
use Rattle.sc_history.specs.Evidence.{is_of_task}
use Rattle.sc_history.specs.Tellings.{telling, tellings_in}
use Rattle.sc_history.proofs.Events.{IsLoss, losses_come}
use Rattle.sc_bound.specs.Accounts.{AccountsAreKept, StepsKeepAccounts, account_of, frees, running_for, runs_for, times_freed}
use Rattle.sc_bound.specs.Numbered.{set_at, set_numbered}
use Rattle.sc_bound.specs.Sets.{is_open}
use Rattle.sc_bound.proofs.AccountLemmas.{Steady, account, account_begun, account_freed, steady_order}
use Rattle.sc_bound.proofs.HearLemmas.{Hearing, Hears, in_runs, posts_hear, releases_hear}
use Rattle.sc_bound.proofs.KeepLemmas.{Slot, result_slots, slot_then, slots_same, slots_then, submitted_slots}
use Rattle.sc_bound.proofs.OlderLemmas.{running_few}
use Rattle.sc_bound.proofs.ReportLemmas.{SteadyAll, released_steady}
use Rattle.sc_bound.proofs.SetLemmas.{MayBe, handed_one, handed_open, handed_other, lost_given, may_be}
use Rattle.sc_bound.proofs.ShutLemmas.{newest_is}
use Rattle.sc_bound.proofs.SlotLemmas.{set_lost, set_newest, set_older}
use Rattle.sc_bound.proofs.SideSteps.{sides_add}
use Rattle.sc_bound.proofs.StepLemmas.{failure_adds, failure_steady, map_adds, result_adds}

-- what an event may add
abbrev AddsAt : CoreData → CoreData → Event → Answer → ℕ → ℕ → ℕ → Type 0
AddsAt c after event answer s k p =
    account_of after s k p
    ≤ account_of c s k p + 2 * (if frees c event answer s k p then 1 else 0)

-- ---- asking

-- a task is handed out
gives_adds : (c after : CoreData) (exec : ℕ) (answer : Answer) (s k p : ℕ) → IsSoundCore c
    → GivesTask c after exec answer → account_of after s k p ≤ account_of c s k p
gives_adds c after exec answer s k p sound g =
    subst (λ (x : CoreData). account_of x s k p ≤ account_of c s k p) (sym g.is)
    (by (newest_at c.dag h.attempt.stage) refl
    (offered_may c.dag exec c.now h.attempt
    (offered c.dag exec c.now h.attempt sound.job.dag g.out.offer)))
  where
    h : HandOutData
    h = g.task

    next : CoreData
    next = with_task c exec g.task

    many : running_for (with_task c exec g.task) s k p
        ≡ running_for c s k p + (if is_of_task s k p g.task.attempt then 1 else 0)
    many =
        sum_by-append (λ r. cond (runs_for s k p r) 1 0) c.running (running_on g.task exec ∷ [])
        ∙ one (is_of_task s k p g.task.attempt)
      where
        one : (b : Bool) → running_for c s k p + (0 + cond (b && true) 1 0)
            ≡ running_for c s k p + (if b then 1 else 0)
        one true = omega arith
        one false = omega arith

    number : g.task.attempt.stage_attempt ≡ newest_number c.dag g.task.attempt.stage
    number = g.out.offer.newest

    -- an account by its parts
    less : (set now : TaskSetData) (n m : ℕ)
        → ((given_of now p ≡ given_of set p + 1) × (is_open (Some set) p ≡ true) × (m ≡ n + 1)
        × (n ≤ 1))
        ⊎ ((given_of now p ≡ given_of set p) × (m ≡ n))
        → (is_open (Some now) p ≡ true → is_open (Some set) p ≡ true)
        → account (Some now) p m ≤ account (Some set) p n
    less set now n m (inl (given, is, up, few)) opens = one (is_open (Some now) p)
      where
        needs : (b : Bool) → given_of now p + (if b then 2 - m else 0) ≤ given_of set p + (2 - n)
        needs true = omega (arith, given, up, few)
        needs false = omega (arith, given, up, few)

        one : (b : Bool) → account (Some now) p m ≤ account (Some set) p n
        one b = rw is (needs (is_open (Some now) p))
    less set now n m (inr (given, same)) opens = one (is_open (Some now) p) refl
      where
        one : (b : Bool) → is_open (Some now) p ≡ b
            → account (Some now) p m ≤ account (Some set) p n
        one true e = rw (e, opens e) (omega (arith, given, same))
        one false e = rw e (omega (arith, given))

    by : (o : Option TaskSetData) → newest_at c.dag g.task.attempt.stage ≡ o
        → may_be_given_in o exec c.now g.task.attempt.partition ≡ true
        → account_of (with_task c exec g.task) s k p ≤ account_of c s k p
    by None e may = absurd (true≢false (sym may))
    by (Some set) e may = which (cases_eq s g.task.attempt.stage)
        (cases_eq k (newest_number c.dag g.task.attempt.stage))
        (cases_eq p g.task.attempt.partition)
      where
        f : TaskSetData → TaskSetData
        f x = handed x g.task.attempt.partition exec c.now

        m : MayBe set g.task.attempt.partition
        m = may_be set exec c.now g.task.attempt.partition may

        untouched : is_of_task s k p g.task.attempt ≡ false
            → set_at (handed_out c.dag g.task.attempt exec c.now) s k ≡ set_at c.dag s k
            → account_of (with_task c exec g.task) s k p ≤ account_of c s k p
        untouched apart same =
            let n : running_for (with_task c exec g.task) s k p ≡ running_for c s k p =
            many ∙ ap (λ b. running_for c s k p + (if b then 1 else 0)) apart ∙ (omega arith) in
            rw (n, same) (omega arith)

        beside : (s ≡ g.task.attempt.stage → k ≡ newest_number c.dag g.task.attempt.stage → ⊥)
            → account_of (with_task c exec g.task) s k p ≤ account_of c s k p
        beside ne =
            untouched (none (is_of_task s k p g.task.attempt) refl)
            (set_older c.dag g.task.attempt.stage
            (λ x. handed x g.task.attempt.partition exec c.now)
            s k ne)
          where
            none : (b : Bool) → is_of_task s k p g.task.attempt ≡ b
                → is_of_task s k p g.task.attempt ≡ false
            none false q = q
            none true q =
                let stage : s ≡ g.task.attempt.stage = grind (arith, nat_tests, q) in
                let at : k ≡ g.task.attempt.stage_attempt = grind (arith, nat_tests, q) in
                absurd (ne stage (at ∙ number))

        here : s ≡ g.task.attempt.stage → k ≡ newest_number c.dag g.task.attempt.stage
            → (set_at c.dag s k ≡ Some set)
            × (set_at (handed_out c.dag g.task.attempt exec c.now) s k
            ≡ Some (handed set g.task.attempt.partition exec c.now))
        here u v =
            let at : set_at c.dag g.task.attempt.stage k ≡ Some set =
            newest_is c.dag g.task.attempt.stage k v ∙ e in (
              ap (λ (n : ℕ). set_at c.dag n k) u ∙ at,
              ap (λ (n : ℕ). set_at (handed_out c.dag g.task.attempt exec c.now) n k) u
                  ∙ set_newest c.dag g.task.attempt.stage
                  (λ x. handed x g.task.attempt.partition exec c.now) k v
                  ∙ ap (λ o. option_map (λ x. handed x g.task.attempt.partition exec c.now) o) at,
            )

        is_one : (r : Running) → runs_for s k p r ≡ true
            → is_of_task s k p r.hand_out.attempt ≡ true
        is_one r e = both_left (is_of_task s k p r.hand_out.attempt) _ e

        it : s ≡ g.task.attempt.stage → k ≡ newest_number c.dag g.task.attempt.stage
            → p ≡ g.task.attempt.partition
            → account_of (with_task c exec g.task) s k p ≤ account_of c s k p
        it u v w =
            let at = here u v in
            let few = running_few c (runs_for s k p) s k p set m.task sound is_one at.0
            (ap (λ (n : ℕ). task_at n set.tasks) w ∙ m.there) in
            let short = m.few in
            let of : is_of_task s k p g.task.attempt ≡ true =
            grind (arith, nat_tests, u, v, w, number) in
            let up : running_for (with_task c exec g.task) s k p ≡ running_for c s k p + 1 =
            many ∙ ap (λ b. running_for c s k p + (if b then 1 else 0)) of in
            rw (at.0, at.1) (less set (handed set g.task.attempt.partition exec c.now)
            (running_for c s k p) (running_for (with_task c exec g.task) s k p)
            (inl (
              rw w (handed_one set exec c.now g.task.attempt.partition m),
              rw w (m.is_open_now),
              up,
              omega (arith, few, short),
            ))
            (handed_open set exec c.now g.task.attempt.partition p))

        other : s ≡ g.task.attempt.stage → k ≡ newest_number c.dag g.task.attempt.stage
            → (p ≡ g.task.attempt.partition → ⊥)
            → account_of (with_task c exec g.task) s k p ≤ account_of c s k p
        other u v w =
            let at = here u v in
            let apart : (g.task.attempt.partition == p) ≡ false = grind (arith, nat_tests, w) in
            let of : is_of_task s k p g.task.attempt ≡ false =
            not_it (is_of_task s k p g.task.attempt) refl in
            let same : running_for (with_task c exec g.task) s k p ≡ running_for c s k p =
            many ∙ ap (λ b. running_for c s k p + (if b then 1 else 0)) of ∙ (omega arith) in
            rw (at.0, at.1) (less set (handed set g.task.attempt.partition exec c.now)
            (running_for c s k p) (running_for (with_task c exec g.task) s k p)
            (inr (handed_other set exec c.now g.task.attempt.partition p apart, same))
            (handed_open set exec c.now g.task.attempt.partition p))
          where
            not_it : (b : Bool) → is_of_task s k p g.task.attempt ≡ b
                → is_of_task s k p g.task.attempt ≡ false
            not_it false q = q
            not_it true q =
                let part : p ≡ g.task.attempt.partition = grind (arith, nat_tests, q) in
                absurd (w part)

        which : (s ≡ g.task.attempt.stage) ⊎ (s ≡ g.task.attempt.stage → ⊥)
            → (k ≡ newest_number c.dag g.task.attempt.stage)
            ⊎ (k ≡ newest_number c.dag g.task.attempt.stage → ⊥)
            → (p ≡ g.task.attempt.partition) ⊎ (p ≡ g.task.attempt.partition → ⊥)
            → account_of (with_task c exec g.task) s k p ≤ account_of c s k p
        which (inr u) v w = beside (λ x y. u x)
        which (inl u) (inr v) w = beside (λ x y. v y)
        which (inl u) (inl v) (inl w) = it u v w
        which (inl u) (inl v) (inr w) = other u v w

takes_add : (c after : CoreData) (exec : ℕ) (answer : Answer) (s k p : ℕ) → IsSoundCore c
    → Takes c exec answer after → account_of after s k p ≤ account_of c s k p
takes_add c after exec answer s k p sound step = by (takes_so c after exec answer step)
  where
    same : after ≡ c → account_of after s k p ≤ account_of c s k p
    same is =
        subst (λ (x : CoreData). account_of x s k p ≤ account_of c s k p) (sym is) (omega arith)

    by : TakesSo c after exec answer → account_of after s k p ≤ account_of c s k p
    by (inl g) = gives_adds c after exec answer s k p sound g
    by (inr (inl b)) =
        subst (λ (x : CoreData). account_of x s k p ≤ account_of c s k p) (sym b.is) (omega arith)
    by (inr (inr q)) = same q.is

-- ---- a loss

all_steady : (p : ℕ) (these : List AttemptId) (c : CoreData)
    → SteadyAll p c.dag (all_released these c).dag
all_steady p [] c = slots_same (Steady p) p (steady_order p) c.dag
all_steady p (a ∷ these) c =
    slots_then (Steady p) p (steady_order p) c.dag (released c a endings.Failed).dag
    (all_released these (released c a endings.Failed)).dag
    (released_steady p c a endings.Failed) (all_steady p these (released c a endings.Failed))

pub losses_add : (c after : CoreData) (exec : ℕ) (answer : Answer) (s k p : ℕ)
    → IsLoss c after exec answer
    → Slot (Steady p) p (set_at c.dag s k) (set_at after.dag s k)
losses_add c after exec answer s k p is =
    subst (λ d. Slot (Steady p) p (set_at c.dag s k) (set_at d s k)) (sym is.dag)
    (slot_then (Steady p) p (steady_order p) (set_at c.dag s k)
    (set_at (after_lost c.dag exec) s k) (set_at (without_executor c exec).dag s k) told
    (all_steady p (attempts_on exec c.running) (with_dag c (after_lost c.dag exec)) s k))
  where
    one : (o : Option TaskSetData)
        → Slot (Steady p) p o (option_map (λ set. after_loss set exec) o)
    one None = tt
    one (Some set) = record { given = lost_given set exec p; dead = λ z. z }

    told : Slot (Steady p) p (set_at c.dag s k) (set_at (after_lost c.dag exec) s k)
    told =
        subst (λ y. Slot (Steady p) p (set_at c.dag s k) y) (sym (set_lost c.dag exec s k))
        (one (set_at c.dag s k))

-- ---- reports

pub result_steady : (c after : CoreData) (r : Running) (answer : Answer) (p : ℕ)
    → TellsResult c r answer after → SteadyAll p c.dag after.dag
result_steady c after r answer p (told, is) =
    subst (λ (x : CoreData). SteadyAll p c.dag x.dag) (sym is)
    (by (result_success_of c.dag r.hand_out.attempt))
  where
    freed : CoreData
    freed = released c r.hand_out.attempt endings.Succeeded

    done : (x : Bool) (m : CoreData) → SteadyAll p c.dag m.dag
        → SteadyAll p c.dag (done_if x m).dag
    done true m h = h
    done false m h = h

    won : SteadyAll p c.dag (done_if
        (is_complete (with_result_of freed r.hand_out.attempt).dag r.hand_out.attempt.stage)
        (with_result_of freed r.hand_out.attempt)).dag
    won =
        done (is_complete (with_result_of freed r.hand_out.attempt).dag r.hand_out.attempt.stage)
        (with_result_of freed r.hand_out.attempt)
        (slots_then (Steady p) p (steady_order p) c.dag freed.dag
        (with_result_of freed r.hand_out.attempt).dag
        (released_steady p c r.hand_out.attempt endings.Succeeded)
        (result_slots (Steady p) p (steady_order p) freed.dag r.hand_out.attempt freed.now))

    by : (x : Success) → SteadyAll p c.dag (after_result x c r.hand_out.attempt).dag
    by successes.Repeated =
        result_slots (Steady p) p (steady_order p) c.dag r.hand_out.attempt c.now
    by successes.Registered = won
    by successes.Bogus = won
    by successes.Finished = won

hears_add : (c after : CoreData) (event : Event) (answer : Answer) (s k p : ℕ) → IsSoundCore c
    → Hears c after event answer → AddsAt c after event answer s k p
hears_add c after event answer s k p sound h =
    by h.outcome h.known.told h.known.fit h.tells (is_some (set_at c.dag s k)) refl
    (frees c event answer s k p) refl
  where
    -- from the state in between
    from : (more extra : ℕ)
        → account (set_at after.dag s k) p (running_for after s k p)
        ≤ account (set_at h.mid.dag s k) p (running_for c s k p) + more
        → more ≤ extra → account_of after s k p ≤ account_of c s k p + extra
    from more extra le up =
        let here : account (set_at after.dag s k) p (running_for after s k p)
        ≤ account (set_at c.dag s k) p (running_for c s k p) + more =
        subst (λ d. account (set_at after.dag s k) p (running_for after s k p)
        ≤ account (set_at d s k) p (running_for c s k p) + more) h.dag le in
        omega (arith, here, up)

    -- a set that is yet to begin
    begun : SteadyAll p h.mid.dag after.dag → is_some (set_at c.dag s k) ≡ false → (b : Bool)
        → account_of after s k p ≤ account_of c s k p + 2 * (if b then 1 else 0)
    begun steady none b =
        from 0 (2 * (if b then 1 else 0))
        (let le =
        account_begun (set_at h.mid.dag s k) (set_at after.dag s k) p (running_for c s k p)
        (running_for after s k p) (steady s k)
        (ap (λ d. is_some (set_at d s k)) h.dag ∙ none) in
        omega (arith, le)) (omega arith)

    by : (outcome : Outcome)
        → tellings_in c event answer ≡ telling h.one.hand_out.attempt outcome answer ∷ []
        → fits c h.one outcome ≡ true → Tells h.mid h.one outcome answer after
        → (x : Bool) → is_some (set_at c.dag s k) ≡ x → (b : Bool)
        → frees c event answer s k p ≡ b
        → account_of after s k p ≤ account_of c s k p + 2 * (if b then 1 else 0)
    by (outcomes.Map loc) told fit tells x e b f =
        from 0 (2 * (if b then 1 else 0)) (map_adds c after event answer sound h loc tells s k p)
        (omega arith)
    by outcomes.Result told fit tells false e b f =
        begun (result_steady h.mid after h.one answer p tells) e b
    by outcomes.Result told fit tells true e b f =
        from 0 (2 * (if b then 1 else 0))
        (result_adds c after event answer sound h tells s k p
        (ap (λ d. is_some (set_at d s k)) h.dag ∙ e)) (omega arith)
    by (outcomes.Failed cause) told fit tells false e b f =
        begun (failure_steady c after event answer sound h cause
        (reaches_limit_in (set_of h.mid.dag h.one.hand_out.attempt) h.one.hand_out.attempt cause)
        tells p) e b
    by (outcomes.Failed cause) told fit tells true e true f =
        from 2 2
        (account_freed (set_at h.mid.dag s k) (set_at after.dag s k) p (running_for c s k p)
        (running_for after s k p)
        (failure_steady c after event answer sound h cause
        (reaches_limit_in (set_of h.mid.dag h.one.hand_out.attempt) h.one.hand_out.attempt cause)
        tells p s k)) (omega arith)
    by (outcomes.Failed cause) told fit tells true e false f =
        from 0 0
        (failure_adds c after event answer sound h cause told fit
        (reaches_limit_in (set_of h.mid.dag h.one.hand_out.attempt) h.one.hand_out.attempt cause)
        refl tells s k p e f) (omega arith)

hearing_adds : (c after : CoreData) (event : Event) (answer : Answer) (s k p : ℕ)
    → IsSoundCore c → Hearing c after event answer → AddsAt c after event answer s k p
hearing_adds c after event answer s k p sound (inr h) =
    hears_add c after event answer s k p sound h
hearing_adds c after event answer s k p sound (inl q) =
    let same : account_of after s k p ≡ account_of c s k p =
    ap (λ d. account (set_at d s k) p (running_for after s k p)) q.dag
    ∙ ap (λ n. account (set_at c.dag s k) p n) (q.count (runs_for s k p) (in_runs s k p)) in
    omega (arith, same)

-- ---- each event

pub steps_keep_accounts : StepsKeepAccounts
steps_keep_accounts c after (Take exec) answer s k p sound step =
    let le = takes_add c after exec answer s k p sound step in omega (arith, le)
steps_keep_accounts c after (Post a outcome) answer s k p sound step =
    hearing_adds c after (Post a outcome) answer s k p sound
    (posts_hear c after a outcome answer sound step)
steps_keep_accounts c after (Release key) answer s k p sound step =
    hearing_adds c after (Release key) answer s k p sound
    (releases_hear c after key answer sound step)
steps_keep_accounts c after (Side event) answer s k p sound step =
    let le =
    sides_add c after event answer s k p
    (steps_keep_sound c after (Side event) answer sound step) step in
    omega (arith, le)
steps_keep_accounts c after (TellLost exec) answer s k p sound step =
    by (is_some (set_at c.dag s k)) refl
  where
    steady : Slot (Steady p) p (set_at c.dag s k) (set_at after.dag s k)
    steady = losses_add c after exec answer s k p (losses_come c after exec answer step)

    by : (b : Bool) → is_some (set_at c.dag s k) ≡ b
        → account_of after s k p
        ≤ account_of c s k p + 2 * (if b && true then 1 else 0)
    by true e =
        let le =
        account_freed (set_at c.dag s k) (set_at after.dag s k) p (running_for c s k p)
        (running_for after s k p) steady in
        omega (arith, le)
    by false e =
        let le =
        account_begun (set_at c.dag s k) (set_at after.dag s k) p (running_for c s k p)
        (running_for after s k p) steady e in
        omega (arith, le)

-- ---- journals

accounts_along : (s k p : ℕ) (opening end : CoreData) (entries : List Entry) → IsSoundCore opening
    → (replays : Replays opening entries end)
    → account_of end s k p
    ≤ account_of opening s k p + 2 * times_freed s k p opening entries end replays
accounts_along s k p opening end [] sound is =
    let same : account_of end s k p ≡ account_of opening s k p =
    ap (λ (x : CoreData). account_of x s k p) is in
    omega (arith, same)
accounts_along s k p opening end (entry ∷ entries) sound (mid, step, rest) =
    let one = steps_keep_accounts opening mid entry.event entry.answer s k p sound step in
    let more =
    accounts_along s k p mid end entries
    (steps_keep_sound opening mid entry.event entry.answer sound step) rest in
    omega (arith, one, more)

-- as a job begins, two of each partition are left at most
account_begins : (d after : DagData) (submitted : ℕ → Bool) (s k p n : ℕ)
    → set_at d s k ≡ None → IsSubmitted d submitted after → account (set_at after s k) p n ≤ 2
account_begins d after submitted s k p n none sent =
    let le =
    account_begun None (set_at after s k) p 0 n
    (subst (λ o. Slot (Steady p) p o (set_at after s k)) none
    (submitted_slots (Steady p) p (steady_order p) d after submitted sent s k)) refl in
    omega (arith, le)

-- none stands in a stage for which nothing was done
pub blank_none : (last : Option DagData) (n : ℕ) (stages : List StageData) (s k : ℕ)
    → set_numbered (slice_get (blank_states last n stages) s) k ≡ None
blank_none last n [] s k = refl
blank_none last n (stage ∷ stages) zero k =
    refl
blank_none last n (stage ∷ stages) (suc s) k = blank_none last (n + 1) stages s k

pub accounts_are_kept : AccountsAreKept
accounts_are_kept graph limits saves plan last opening end entries s k p o sound replays =
    let along = accounts_along s k p opening end entries sound replays in
    let begins =
    account_begins o.dag opening.dag (this_stage (result_stage o.dag)) s k p
    (running_for opening s k p)
    (ap (λ xs. set_numbered (slice_get xs s) k) o.opens.states
    ∙ blank_none (option_map (λ l. l.dag) last) 0 o.dag.stages s k) o.submits in
    omega (arith, along, begins)
