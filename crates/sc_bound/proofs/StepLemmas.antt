-- No event adds to an account, but where it frees the partition.
use Rattle.std.proofs.Common.{◌≡◌, ◌⊎◌, inl, inr, ℕ, ◌+◌, ◌<◌, ◌≤◌, ◌==◌, ◌&&◌, ◌||◌, not, All, Bool, true, false, [], ◌∷◌, get_or, nat_lt, Option, Some, None, is_some, slice_get, count_by, refl, ap, sym, subst, ◌∙◌, arith, rules, true≢false}
use Rattle.std.specs.List.{list_any}
use Rattle.std.proofs.lemmas.Bool.{cases_eq}
use Rattle.std.proofs.lemmas.Bool.Decides.{nat_tests}
use Rattle.std.proofs.lemmas.List.Elements.{All-weaker}
use Rattle.sc_ids.specs.Failures.{is_counted}
use Rattle.sc_ids.specs.declared.attempts.AttemptId.{AttemptId}
use Rattle.sc_ids.specs.declared.blocks.Loc.{Loc}
use Rattle.sc_ids.specs.declared.failures.FailureCause.{FailureCause}
use Rattle.sc_ids.specs.declared.failures.FailureCause.TheVariants as causes
use Rattle.sc_commit.specs.Committers.{committer_at}
use Rattle.sc_commit.specs.Committing.{holds}
use Rattle.sc_commit.specs.declared.committers.Ending.TheVariants as endings
use Rattle.sc_taskset.specs.Reports.{after_failure as set_after_failure, is_counted_in}
use Rattle.sc_taskset.specs.TaskSetData.{TaskSetData}
use Rattle.sc_taskset.proofs.FindLemmas.{found_is}
use Rattle.sc_taskset.specs.declared.tasks.Verdict.{Verdict}
use Rattle.sc_taskset.specs.declared.tasks.Verdict.TheVariants as verdicts
use Rattle.sc_tracker.specs.Trust.{is_newer}
use Rattle.sc_dag.specs.DagData.{DagData}
use Rattle.sc_dag.specs.Offers.{newest_number}
use Rattle.sc_dag.specs.Outputs.{is_complete}
use Rattle.sc_dag.specs.Losses.{after_seen}
use Rattle.sc_dag.specs.Reports.{after_failed, after_map_success, after_result_success, is_of_newest, map_success_of, reaches_limit_in, result_success_of, set_of}
use Rattle.sc_dag.specs.Sound.{IsSoundDag, runner_of}
use Rattle.sc_dag.specs.declared.reports.Success.{Success}
use Rattle.sc_dag.specs.declared.reports.Success.TheVariants as successes
use Rattle.sc_dag.proofs.CalmCalls.{others_go_on}
use Rattle.sc_dag.proofs.SoundCalls.{calls_keep_sound}
use Rattle.sc_dag.proofs.Tests.{clash}
use Rattle.sc_core.specs.CoreData.{CoreData, is_of, with_dag}
use Rattle.sc_core.specs.Posts.{fits_failure, is_denied}
use Rattle.sc_core.specs.Sound.{IsAsFar, IsSoundCore, SavesWell, has_grant}
use Rattle.sc_core.specs.HandOuts.{HandOutData}
use Rattle.sc_core.specs.Tells.{FailsBy, FailsOrAborts, IsGone, Misses, MissesIf, TellsFailureIf, TellsMap, TellsResult, after_failure, after_result, done_if, is_zombie_in, released, with_result_of}
use Rattle.sc_core.specs.declared.answers.Answer.{Answer}
use Rattle.sc_core.specs.declared.events.Event.{Event}
use Rattle.sc_core.specs.declared.events.Event.TheVariants.{Post, Release, Side, Take, TellLost}
use Rattle.sc_core.specs.declared.events.Outcome.TheVariants as outcomes
use Rattle.sc_core.specs.declared.running.Phase.{Phase}
use Rattle.sc_core.specs.declared.running.Phase.TheVariants as phases
use Rattle.sc_core.specs.declared.running.Running.{Running}
use Rattle.sc_core.proofs.LeftLemmas.{tells_left}
use Rattle.sc_core.proofs.LookupLemmas.{same_is}
use Rattle.sc_core.proofs.ResultLemmas.{frees as frees_dag}
use Rattle.sc_history.specs.Evidence.{is_of_task}
use Rattle.sc_history.specs.Tellings.{is_heard, telling, tellings_in}
use Rattle.sc_bound.specs.Accounts.{counts_for, counts_in, frees, frees_by, frees_in, gives_back, running_for, runs_for}
use Rattle.sc_bound.specs.Numbered.{set_at}
use Rattle.sc_bound.specs.Sets.{is_open}
use Rattle.sc_bound.proofs.AccountLemmas.{Steady, account, account_kept, account_shut, fewer_order, steady_order}
use Rattle.sc_bound.proofs.CountLemmas.{count_filter}
use Rattle.sc_bound.proofs.HearLemmas.{Hears, found_alone, in_runs, left_of}
use Rattle.sc_bound.proofs.KeepLemmas.{Slot, failed_slots, map_slots, result_slots, slot_then, slots_same, slots_then}
use Rattle.sc_bound.proofs.ReportLemmas.{FewerAll, SteadyAll, dead_then, failing_slots, follows_slots, gone_shuts, map_shut, metadata_shuts, own_number, released_fewer, released_number, released_steady, result_shut, runs_there, shut_then, some_then, uncounted_low}
use Rattle.sc_bound.proofs.SetLemmas.{Fewer}
use Rattle.sc_bound.proofs.ShutLemmas.{older_dead}

-- ---- what runs

-- an attempt of another task doesn't count
others_run : (c : CoreData) (a : AttemptId) (s k p : ℕ) → is_of_task s k p a ≡ false
    → count_by (runs_for s k p) (left_of a c) ≡ running_for c s k p
others_run c a s k p apart =
    count_filter (runs_for s k p) (λ r. not (is_of a r)) c.running
    (λ i d l e. none (get_or c.running i d) e)
  where
    none : (r : Running) → not (is_of a r) ≡ false → runs_for s k p r ≡ false
    none r e = by (is_of a r) refl e
      where
        by : (b : Bool) → is_of a r ≡ b → not b ≡ false → runs_for s k p r ≡ false
        by true f g =
            let is : r.hand_out.attempt ≡ a = same_is r.hand_out.attempt a f in
            ap (λ b. is_of_task s k p b && not (is_denied r.phase)) is
            ∙ ap (λ b. b && not (is_denied r.phase)) apart
        by false f g = absurd (true≢false g)

-- nor one that was denied
denied_runs : (c : CoreData) (ran : Running) (s k p : ℕ)
    → All (λ r. is_of ran.hand_out.attempt r ≡ true → r ≡ ran) c.running
    → is_denied ran.phase ≡ true
    → count_by (runs_for s k p) (left_of ran.hand_out.attempt c) ≡ running_for c s k p
denied_runs c ran s k p alone denied =
    count_filter (runs_for s k p) (λ r. not (is_of ran.hand_out.attempt r)) c.running
    (All-weaker (λ r. is_of ran.hand_out.attempt r ≡ true → r ≡ ran)
    (λ r. not (is_of ran.hand_out.attempt r) ≡ false → runs_for s k p r ≡ false) none c.running
    alone)
  where
    drop : (b : Bool) → (b && false) ≡ false
    drop true = refl
    drop false = refl

    none : (r : Running) → (is_of ran.hand_out.attempt r ≡ true → r ≡ ran)
        → not (is_of ran.hand_out.attempt r) ≡ false → runs_for s k p r ≡ false
    none r same e = by (is_of ran.hand_out.attempt r) refl e
      where
        by : (b : Bool) → is_of ran.hand_out.attempt r ≡ b → not b ≡ false
            → runs_for s k p r ≡ false
        by true f g =
            ap (runs_for s k p) (same f)
            ∙ ap (λ b. is_of_task s k p ran.hand_out.attempt && not b) denied
            ∙ drop (is_of_task s k p ran.hand_out.attempt)
        by false f g = absurd (true≢false g)

-- ---- a report that is heard

pub of_task : (s k p : ℕ) (a : AttemptId) → is_of_task s k p a ≡ true
    → (s ≡ a.stage) × (k ≡ a.stage_attempt) × (p ≡ a.partition)
of_task s k p a e =
    let stage : s ≡ a.stage = grind (arith, nat_tests, e) in
    let number : k ≡ a.stage_attempt = grind (arith, nat_tests, e) in
    let part : p ≡ a.partition = grind (arith, nat_tests, e) in
    (stage, number, part)

-- what a report of a failure is answered is heard
failure_heard : (b : Bool) (c after : CoreData) (a : AttemptId) (cause : FailureCause)
    (answer : Answer) → TellsFailureIf b c a cause answer after → is_heard answer ≡ true
failure_heard true c after a cause answer (told, is) = ap is_heard told
failure_heard false c after a cause answer h =
    caused cause (is_zombie_in (set_of c.dag a)) (after_failure c a cause) h
  where
    missed : (m : CoreData) → Misses m a answer after → is_heard answer ≡ true
    missed m k = by (is_of_newest m.dag a && not (is_complete m.dag a.stage)) k
      where
        ends : (verdict : Verdict) (dag : DagData) → FailsOrAborts m a verdict dag answer after
            → is_heard answer ≡ true
        ends verdicts.Again dag (told, is) = ap is_heard told
        ends verdicts.Limit dag (told, is) = ap is_heard told

        by : (x : Bool) → MissesIf x m a answer after → is_heard answer ≡ true
        by true (verdict, dag, fails, e) = ends verdict dag e
        by false (told, is) = ap is_heard told

    caused : (cause : FailureCause) (zombie : Bool) (m : CoreData)
        → FailsBy cause zombie m a answer after → is_heard answer ≡ true
    caused causes.Planned zombie m (told, is) = ap is_heard told
    caused (causes.Raised raise) zombie m (told, is) = ap is_heard told
    caused (causes.Device fault) zombie m (told, is) = ap is_heard told
    caused causes.Denied zombie m (told, is) = ap is_heard told
    caused (causes.Metadata last) zombie m k = missed m k
    caused (causes.Gone exec wanted found) zombie m k =
        by (is_newer (slice_get m.dag.tracker.trust exec) found) zombie k
      where
        by : (x y : Bool) → IsGone x y m a exec found answer after → is_heard answer ≡ true
        by true y g = missed (with_dag m (after_seen m.dag exec found)) g
        by false true (told, is) = ap is_heard told
        by false false g = missed m g

-- a failure that frees nothing
record FreesNone (c : CoreData) (a : AttemptId) (cause : FailureCause) (s k p : ℕ) : Type 0 where
  uncounted : is_of_task s k p a ≡ true → counts_in (set_at c.dag s k) cause ≡ false
  kept : s ≡ a.stage → p ≡ a.partition → a.stage_attempt < k → has_grant c a ≡ false

frees_none : (c : CoreData) (event : Event) (answer : Answer) (a : AttemptId)
    (cause : FailureCause) (s k p : ℕ)
    → tellings_in c event answer ≡ telling a (outcomes.Failed cause) answer ∷ []
    → is_heard answer ≡ true → is_some (set_at c.dag s k) ≡ true
    → frees c event answer s k p ≡ false → FreesNone c a cause s k p
frees_none c event answer a cause s k p told heard some none =
    record {
      uncounted = λ e. counted e (is_of_task s k p a) (counts_in (set_at c.dag s k) cause) refl one;
      kept = λ stage part below. held stage part below (has_grant c a) refl;
    }
  where
    -- it isn't a loss, which would be no report
    in_it : (e : Event) → tellings_in c e answer ≡ telling a (outcomes.Failed cause) answer ∷ []
        → frees_in c e answer s k p ≡ false
        → frees_by c s k p (telling a (outcomes.Failed cause) answer) ≡ false
    in_it (TellLost exec) t f = absurd (true≢false f)
    in_it (Post b outcome) t f = sym (ap (list_any (frees_by c s k p)) t ∙ right _) ∙ f
      where
        right : (b : Bool) → (b || false) ≡ b
        right true = refl
        right false = refl
    in_it (Release key) t f = sym (ap (list_any (frees_by c s k p)) t ∙ right _) ∙ f
      where
        right : (b : Bool) → (b || false) ≡ b
        right true = refl
        right false = refl
    in_it (Take exec) t f = absurd (search (rules, t))
    in_it (Side e) t f = absurd (search (rules, t))

    so : frees_in c event answer s k p ≡ false
    so = rw some at none

    by_it : frees_by c s k p (telling a (outcomes.Failed cause) answer) ≡ false
    by_it = in_it event told so

    one : (counts_for c s k p (telling a (outcomes.Failed cause) answer)
        || gives_back c s k p (telling a (outcomes.Failed cause) answer)) ≡ false
    one = rw heard at by_it

    counted : is_of_task s k p a ≡ true → (x y : Bool) → counts_in (set_at c.dag s k) cause ≡ y
        → (counts_for c s k p (telling a (outcomes.Failed cause) answer)
        || gives_back c s k p (telling a (outcomes.Failed cause) answer)) ≡ false
        → counts_in (set_at c.dag s k) cause ≡ false
    counted e x false f g = f
    counted e x true f g = absurd (true≢false (rw (e, f) at g))

    held : s ≡ a.stage → p ≡ a.partition → a.stage_attempt < k → (g : Bool)
        → has_grant c a ≡ g → has_grant c a ≡ false
    held stage part below false f = f
    held stage part below true f =
        let here : ((a.stage == s) && (a.partition == p)) ≡ true =
        grind (arith, nat_tests, stage, part) in
        let under : nat_lt a.stage_attempt k ≡ true = grind (arith, nat_tests, below) in
        absurd (clash (back (counts_for c s k p (telling a (outcomes.Failed cause) answer)))
        one)
      where
        back : (x : Bool) → (x || gives_back c s k p (telling a (outcomes.Failed cause) answer))
            ≡ true
        back true = refl
        back false =
            let here : ((a.stage == s) && (a.partition == p)) ≡ true =
            grind (arith, nat_tests, stage, part) in
            let under : nat_lt a.stage_attempt k ≡ true = grind (arith, nat_tests, below) in
            rw (here, under, f) refl

-- ---- what a report leaves of an account

module _ (c after : CoreData) (event : Event) (answer : Answer) (sound : IsSoundCore c)
    (h : Hears c after event answer) where
  a : AttemptId
  a = h.one.hand_out.attempt

  runs : runner_of h.mid.dag h.one.hand_out.attempt ≡ Some h.one.exec
  runs = ap (λ d. runner_of d h.one.hand_out.attempt) h.dag ∙ h.known.in_set

  mid_sound : IsSoundDag h.mid.dag
  mid_sound = subst IsSoundDag (sym h.dag) sound.job.dag

  -- how many run
  now_runs : (s k p : ℕ)
      → running_for after s k p ≡ count_by (runs_for s k p) (left_of h.one.hand_out.attempt c)
  now_runs s k p =
      ap (λ rs. count_by (runs_for s k p) rs)
      (tells_left h.mid after h.one h.outcome answer h.tells).running
      ∙ h.count (runs_for s k p) (in_runs s k p)

  -- the attempt that ran, by the one that reports
  hand : h.known.ran.hand_out.attempt ≡ h.one.hand_out.attempt
  hand = ap (λ (x : HandOutData). x.attempt) h.known.hand

  -- accounts of the state in between are those of the state before
  abbrev Adds : ℕ → ℕ → ℕ → ℕ → Type 0
  Adds s k p more =
      account (set_at after.dag s k) p (running_for after s k p)
      ≤ account (set_at h.mid.dag s k) p (running_for c s k p) + more

  -- no set hands out more, and what runs no more is of a set that hands out no more
  kept : (s k p : ℕ) → Slot (Fewer p) p (set_at h.mid.dag s k) (set_at after.dag s k)
      → (is_open (set_at after.dag s k) p ≡ true
      → running_for c s k p ≤ running_for after s k p)
      → Adds s k p 0
  kept s k p fewer more =
      let le =
      account_kept (set_at h.mid.dag s k) (set_at after.dag s k) p (running_for c s k p)
      (running_for after s k p) fewer more in
      omega (arith, le)

  shut : (s k p : ℕ) → Slot (Steady p) p (set_at h.mid.dag s k) (set_at after.dag s k)
      → is_open (set_at after.dag s k) p ≡ false → Adds s k p 0
  shut s k p steady e =
      let le =
      account_shut (set_at h.mid.dag s k) (set_at after.dag s k) p (running_for c s k p)
      (running_for after s k p) steady e in
      omega (arith, le)

  -- another task has as many that run
  same_runs : (s k p : ℕ) → is_of_task s k p h.one.hand_out.attempt ≡ false
      → running_for c s k p ≤ running_for after s k p
  same_runs s k p apart =
      let now = now_runs s k p in
      let same = others_run c h.one.hand_out.attempt s k p apart in
      omega (arith, now, same)

  -- ---- a map task

  pub map_adds : (loc : Loc) → TellsMap h.mid h.one loc answer after → (s k p : ℕ) → Adds s k p 0
  map_adds loc (dag, up, told, is) s k p = by (is_of_task s k p h.one.hand_out.attempt) refl
    where
      mid : DagData
      mid = after_map_success h.mid.dag h.one.hand_out.attempt loc h.one.hand_out.epoch h.mid.now

      first : FewerAll p h.mid.dag mid
      first =
          map_slots (Fewer p) p (fewer_order p) h.mid.dag h.one.hand_out.attempt loc
          h.one.hand_out.epoch h.mid.now

      second : FewerAll p mid dag
      second =
          follows_slots p
          (map_success_of h.mid.dag h.one.hand_out.attempt loc h.one.hand_out.epoch) mid dag
          h.one.hand_out.attempt.stage up

      all : Slot (Fewer p) p (set_at h.mid.dag s k) (set_at after.dag s k)
      all =
          subst (λ (x : CoreData). Slot (Fewer p) p (set_at h.mid.dag s k) (set_at x.dag s k))
          (sym is)
          (slots_then (Fewer p) p (fewer_order p) h.mid.dag mid dag first second s k)

      own : is_open (set_at after.dag h.one.hand_out.attempt.stage
          h.one.hand_out.attempt.stage_attempt) h.one.hand_out.attempt.partition ≡ false
      own =
          subst (λ (x : CoreData). is_open (set_at x.dag h.one.hand_out.attempt.stage
          h.one.hand_out.attempt.stage_attempt) h.one.hand_out.attempt.partition ≡ false)
          (sym is)
          (shut_then h.one.hand_out.attempt.partition
          (set_at mid h.one.hand_out.attempt.stage h.one.hand_out.attempt.stage_attempt)
          (set_at dag h.one.hand_out.attempt.stage h.one.hand_out.attempt.stage_attempt)
          (follows_slots h.one.hand_out.attempt.partition
          (map_success_of h.mid.dag h.one.hand_out.attempt loc h.one.hand_out.epoch) mid dag
          h.one.hand_out.attempt.stage up h.one.hand_out.attempt.stage
          h.one.hand_out.attempt.stage_attempt)
          (map_shut h.mid.dag h.one.hand_out.attempt h.one.exec loc h.one.hand_out.epoch h.mid.now
          mid_sound runs)
          (some_then h.one.hand_out.attempt.partition
          (set_at h.mid.dag h.one.hand_out.attempt.stage h.one.hand_out.attempt.stage_attempt)
          (set_at mid h.one.hand_out.attempt.stage h.one.hand_out.attempt.stage_attempt)
          (map_slots (Fewer h.one.hand_out.attempt.partition) h.one.hand_out.attempt.partition
          (fewer_order h.one.hand_out.attempt.partition) h.mid.dag h.one.hand_out.attempt loc
          h.one.hand_out.epoch h.mid.now h.one.hand_out.attempt.stage
          h.one.hand_out.attempt.stage_attempt)
          (runs_there h.mid.dag h.one.hand_out.attempt h.one.exec runs)))

      by : (b : Bool) → is_of_task s k p h.one.hand_out.attempt ≡ b → Adds s k p 0
      by true e =
          let at = of_task s k p h.one.hand_out.attempt e in
          kept s k p all (λ o. absurd (clash o (rw (at.0, at.1, at.2) own)))
      by false e = kept s k p all (λ o. same_runs s k p e)

  -- ---- a result task

  -- what is left once its grant is free, told to the sets or repeated
  pub result_adds : TellsResult h.mid h.one answer after → (s k p : ℕ)
      → is_some (set_at h.mid.dag s k) ≡ true → Adds s k p 0
  result_adds (told, is) s k p some = by (result_success_of h.mid.dag h.one.hand_out.attempt) refl
    where
      b : AttemptId
      b = h.one.hand_out.attempt

      freed : CoreData
      freed = released h.mid h.one.hand_out.attempt endings.Succeeded

      freed_sound : IsSoundDag (released h.mid h.one.hand_out.attempt endings.Succeeded).dag
      freed_sound =
          (frees_dag calls_keep_sound others_go_on h.mid h.one.hand_out.attempt
          endings.Succeeded).sound mid_sound

      freed_runs : runner_of (released h.mid h.one.hand_out.attempt endings.Succeeded).dag
          h.one.hand_out.attempt ≡ Some h.one.exec
      freed_runs =
          (frees_dag calls_keep_sound others_go_on h.mid h.one.hand_out.attempt
          endings.Succeeded).calm.runners h.one.hand_out.attempt
          ∙ runs

      -- from a state where only a grant was freed, a result is told
      from : (m : CoreData) → IsSoundDag m.dag
          → runner_of m.dag h.one.hand_out.attempt ≡ Some h.one.exec
          → SteadyAll p h.mid.dag m.dag
          → newest_number m.dag h.one.hand_out.attempt.stage
          ≡ newest_number h.mid.dag h.one.hand_out.attempt.stage
          → ((p ≡ h.one.hand_out.attempt.partition → s ≡ h.one.hand_out.attempt.stage
          → k ≡ newest_number h.mid.dag h.one.hand_out.attempt.stage → ⊥)
          → Slot (Fewer p) p (set_at h.mid.dag s k) (set_at m.dag s k))
          → after.dag ≡ after_result_success m.dag h.one.hand_out.attempt m.now → Adds s k p 0
      from m m_sound m_runs steady number fewer e =
          which (cases_eq p b.partition) (cases_eq s b.stage)
          (cases_eq k (newest_number h.mid.dag h.one.hand_out.attempt.stage))
          (is_of_task s k p h.one.hand_out.attempt) refl
        where
          told_steady : Slot (Steady p) p (set_at h.mid.dag s k) (set_at after.dag s k)
          told_steady =
              subst (λ d. Slot (Steady p) p (set_at h.mid.dag s k) (set_at d s k)) (sym e)
              (slots_then (Steady p) p (steady_order p) h.mid.dag m.dag
              (after_result_success m.dag h.one.hand_out.attempt m.now) steady
              (result_slots (Steady p) p (steady_order p) m.dag h.one.hand_out.attempt m.now) s k)

          there : is_some (set_at m.dag s k) ≡ true
          there = one (set_at h.mid.dag s k) (set_at m.dag s k) (steady s k) some
            where
              one : (o x : Option TaskSetData) → Slot (Steady p) p o x → is_some o ≡ true
                  → is_some x ≡ true
              one None x g f = absurd (true≢false (sym f))
              one (Some u) None g f = absurd g
              one (Some u) (Some v) g f = refl

          told_shut : p ≡ b.partition → s ≡ b.stage
              → (k ≡ b.stage_attempt) ⊎ (k ≡ newest_number m.dag b.stage) → Adds s k p 0
          told_shut at_p at_s way =
              shut s k p told_steady
              (subst (λ d. is_open (set_at d s k) p ≡ false) (sym e)
              (rw (at_p, at_s)
              (result_shut m.dag b h.one.exec m.now k m_sound m_runs way
              (subst (λ (r : ℕ). is_some (set_at m.dag r k) ≡ true) at_s there))))

          told_kept : is_of_task s k p h.one.hand_out.attempt ≡ false
              → (p ≡ h.one.hand_out.attempt.partition → s ≡ h.one.hand_out.attempt.stage
              → k ≡ newest_number h.mid.dag h.one.hand_out.attempt.stage → ⊥)
              → Adds s k p 0
          told_kept apart ne =
              kept s k p
              (subst (λ d. Slot (Fewer p) p (set_at h.mid.dag s k) (set_at d s k)) (sym e)
              (slot_then (Fewer p) p (fewer_order p) (set_at h.mid.dag s k) (set_at m.dag s k)
              (set_at (after_result_success m.dag h.one.hand_out.attempt m.now) s k) (fewer ne)
              (result_slots (Fewer p) p (fewer_order p) m.dag h.one.hand_out.attempt m.now s k)))
              (λ o. same_runs s k p apart)

          own : is_of_task s k p h.one.hand_out.attempt ≡ true → Adds s k p 0
          own e =
              let at = of_task s k p h.one.hand_out.attempt e in
              told_shut at.2 at.0 (inl at.1)

          which : (p ≡ b.partition) ⊎ (p ≡ b.partition → ⊥) → (s ≡ b.stage) ⊎ (s ≡ b.stage → ⊥)
              → (k ≡ newest_number h.mid.dag h.one.hand_out.attempt.stage)
              ⊎ (k ≡ newest_number h.mid.dag h.one.hand_out.attempt.stage → ⊥)
              → (x : Bool) → is_of_task s k p h.one.hand_out.attempt ≡ x → Adds s k p 0
          which u v w true e = own e
          which (inl u) (inl v) (inl w) false e = told_shut u v (inr (w ∙ sym number))
          which (inr u) v w false e = told_kept e (λ x y z. u x)
          which (inl u) (inr v) w false e = told_kept e (λ x y z. v y)
          which (inl u) (inl v) (inr w) false e = told_kept e (λ x y z. w z)

      done_dag : (x : Bool) (m : CoreData) → (done_if x m).dag ≡ m.dag
      done_dag true m = refl
      done_dag false m = refl

      won : after ≡ (let next = with_result_of freed h.one.hand_out.attempt in
          done_if (is_complete next.dag h.one.hand_out.attempt.stage) next) → Adds s k p 0
      won e =
          from freed freed_sound freed_runs
          (released_steady p h.mid h.one.hand_out.attempt endings.Succeeded)
          (released_number h.mid h.one.hand_out.attempt endings.Succeeded
          h.one.hand_out.attempt.stage)
          (λ ne. released_fewer p h.mid h.one.hand_out.attempt endings.Succeeded s k
          (λ held at_s at_k at_p. ne at_p at_s at_k))
          (ap (λ (x : CoreData). x.dag) e
          ∙ done_dag (is_complete (with_result_of freed h.one.hand_out.attempt).dag
          h.one.hand_out.attempt.stage) (with_result_of freed h.one.hand_out.attempt))

      by : (x : Success) → result_success_of h.mid.dag h.one.hand_out.attempt ≡ x → Adds s k p 0
      by successes.Repeated e =
          from h.mid mid_sound runs (slots_same (Steady p) p (steady_order p) h.mid.dag) refl
          (λ ne. slots_same (Fewer p) p (fewer_order p) h.mid.dag s k)
          (ap (λ (x : CoreData). x.dag)
          (is ∙ ap (λ y. after_result y h.mid h.one.hand_out.attempt) e))
      by successes.Registered e =
          won (is ∙ ap (λ y. after_result y h.mid h.one.hand_out.attempt) e)
      by successes.Bogus e =
          won (is ∙ ap (λ y. after_result y h.mid h.one.hand_out.attempt) e)
      by successes.Finished e =
          won (is ∙ ap (λ y. after_result y h.mid h.one.hand_out.attempt) e)

  -- ---- a failure

  -- it frees the partition
  pub failure_steady : (cause : FailureCause) (b : Bool)
      → TellsFailureIf b h.mid h.one.hand_out.attempt cause answer after → (p : ℕ)
      → SteadyAll p h.mid.dag after.dag
  failure_steady cause b tells p s k =
      slot_then (Steady p) p (steady_order p) (set_at h.mid.dag s k) (set_at left.dag s k)
      (set_at after.dag s k) first
      (failing_slots (Steady p) p (steady_order p) b h.mid after h.one.hand_out.attempt cause answer
      tells s k)
    where
      left : CoreData
      left = after_failure h.mid h.one.hand_out.attempt cause

      first : Slot (Steady p) p (set_at h.mid.dag s k) (set_at left.dag s k)
      first =
          slots_then (Steady p) p (steady_order p) h.mid.dag
          (after_failed h.mid.dag h.one.hand_out.attempt cause) left.dag
          (failed_slots (Steady p) p (steady_order p) h.mid.dag h.one.hand_out.attempt cause)
          (released_steady p (with_dag h.mid (after_failed h.mid.dag h.one.hand_out.attempt cause))
          h.one.hand_out.attempt endings.Failed) s k

  pub failure_adds : (cause : FailureCause)
      → tellings_in c event answer
      ≡ telling h.one.hand_out.attempt (outcomes.Failed cause) answer ∷ []
      → fits_failure h.one cause ≡ true
      → (b : Bool) → reaches_limit_in (set_of h.mid.dag h.one.hand_out.attempt)
      h.one.hand_out.attempt cause ≡ b
      → TellsFailureIf b h.mid h.one.hand_out.attempt cause answer after → (s k p : ℕ)
      → is_some (set_at c.dag s k) ≡ true → frees c event answer s k p ≡ false → Adds s k p 0
  failure_adds cause told fit b limit tells s k p some none =
      by (is_of_task s k p h.one.hand_out.attempt) refl
    where
      no : FreesNone c h.one.hand_out.attempt cause s k p
      no =
          frees_none c event answer h.one.hand_out.attempt cause s k p told
          (failure_heard b h.mid after h.one.hand_out.attempt cause answer tells) some none

      steady : Slot (Steady p) p (set_at h.mid.dag s k) (set_at after.dag s k)
      steady = failure_steady cause b tells p s k

      left : CoreData
      left = after_failure h.mid h.one.hand_out.attempt cause

      -- where no grant of the set is given back
      fewer : (has_grant c h.one.hand_out.attempt ≡ true → s ≡ h.one.hand_out.attempt.stage
          → k ≡ newest_number (after_failed h.mid.dag h.one.hand_out.attempt cause)
          h.one.hand_out.attempt.stage → p ≡ h.one.hand_out.attempt.partition → ⊥)
          → Slot (Fewer p) p (set_at h.mid.dag s k) (set_at after.dag s k)
      fewer ne =
          slot_then (Fewer p) p (fewer_order p) (set_at h.mid.dag s k) (set_at left.dag s k)
          (set_at after.dag s k)
          (slot_then (Fewer p) p (fewer_order p) (set_at h.mid.dag s k)
          (set_at (after_failed h.mid.dag h.one.hand_out.attempt cause) s k)
          (set_at left.dag s k)
          (failed_slots (Fewer p) p (fewer_order p) h.mid.dag h.one.hand_out.attempt cause s k)
          (released_fewer p (with_dag h.mid (after_failed h.mid.dag h.one.hand_out.attempt cause))
          h.one.hand_out.attempt endings.Failed s k
          (λ held at_s at_k at_p. ne (grant held) at_s at_k at_p)))
          (failing_slots (Fewer p) p (fewer_order p) b h.mid after h.one.hand_out.attempt cause
          answer tells s k)
        where
          grant : holds h.one.hand_out.attempt
              (committer_at h.mid.committers h.one.hand_out.attempt.partition) ≡ true
              → has_grant c h.one.hand_out.attempt ≡ true
          grant e =
              ap (λ ks. holds h.one.hand_out.attempt
              (committer_at ks h.one.hand_out.attempt.partition)) (sym h.committers) ∙ e

      number : newest_number (after_failed h.mid.dag h.one.hand_out.attempt cause)
          h.one.hand_out.attempt.stage
          ≡ newest_number h.mid.dag h.one.hand_out.attempt.stage
      number =
          own_number h.mid.dag h.one.hand_out.attempt
          (λ x. set_after_failure x h.one.hand_out.attempt.partition
          h.one.hand_out.attempt.nth cause)
          h.one.hand_out.attempt.stage

      -- another task
      other : is_of_task s k p h.one.hand_out.attempt ≡ false → Adds s k p 0
      other apart = kept s k p (fewer given_back) (λ o. same_runs s k p apart)
        where
          given_back : has_grant c h.one.hand_out.attempt ≡ true
              → s ≡ h.one.hand_out.attempt.stage
              → k ≡ newest_number (after_failed h.mid.dag h.one.hand_out.attempt cause)
              h.one.hand_out.attempt.stage → p ≡ h.one.hand_out.attempt.partition → ⊥
          given_back g at_s at_k at_p =
              below (set_of h.mid.dag h.one.hand_out.attempt) refl
              (runs_there h.mid.dag h.one.hand_out.attempt h.one.exec runs)
            where
              newest : k ≡ newest_number h.mid.dag h.one.hand_out.attempt.stage
              newest = at_k ∙ number

              own : h.one.hand_out.attempt.stage_attempt
                  ≡ newest_number h.mid.dag h.one.hand_out.attempt.stage → ⊥
              own e =
                  let same : k ≡ h.one.hand_out.attempt.stage_attempt = newest ∙ sym e in
                  true≢false (sym (grind (arith, nat_tests, at_s, at_p, same)) ∙ apart)

              below : (o : Option TaskSetData) → set_of h.mid.dag h.one.hand_out.attempt ≡ o
                  → is_some o ≡ true → ⊥
              below None e f = true≢false (sym f)
              below (Some set) e f =
                  let older =
                  older_dead h.mid.dag h.one.hand_out.attempt.stage
                  h.one.hand_out.attempt.stage_attempt set mid_sound e own in
                  let lt = older.1 in
                  clash g (no.kept at_s at_p (omega (arith, lt, newest)))

      -- the attempt's own set
      own : is_of_task s k p h.one.hand_out.attempt ≡ true → Adds s k p 0
      own e = by_set (set_of h.mid.dag h.one.hand_out.attempt) refl
        where
          at : (s ≡ h.one.hand_out.attempt.stage) × (k ≡ h.one.hand_out.attempt.stage_attempt)
              × (p ≡ h.one.hand_out.attempt.partition)
          at = of_task s k p h.one.hand_out.attempt e

          it : (d : DagData) → set_at d s k ≡ set_at d h.one.hand_out.attempt.stage
              h.one.hand_out.attempt.stage_attempt
          it d = rw (at.0, at.1) refl

          dead : (set : TaskSetData) → set_of h.mid.dag h.one.hand_out.attempt ≡ Some set
              → set.is_zombie ≡ true → Adds s k p 0
          dead set f z =
              shut s k p steady
              (dead_then p set (set_at after.dag s k) z
              (subst (λ y. Slot (Steady p) p y (set_at after.dag s k)) (it h.mid.dag ∙ f) steady))

          shuts : is_open (set_at after.dag h.one.hand_out.attempt.stage
              h.one.hand_out.attempt.stage_attempt) h.one.hand_out.attempt.partition ≡ false
              → Adds s k p 0
          shuts g = shut s k p steady (rw (at.0, at.1, at.2) g)

          denied : is_denied h.one.phase ≡ true → Adds s k p 0
          denied d =
              kept s k p (fewer (λ g u v w. absurd (clash g (no_grant h.known.ran.phase
              (ap is_denied (sym h.known.phase) ∙ d) saves.far))))
              (λ o. (let now = now_runs s k p in
              let same : count_by (runs_for s k p) (left_of h.one.hand_out.attempt c)
              ≡ running_for c s k p =
              subst (λ x. count_by (runs_for s k p) (left_of x c) ≡ running_for c s k p) hand
              (denied_runs c h.known.ran s k p
              (found_alone h.known.ran.hand_out.attempt c.running h.known.ran sound.job.apart
              h.known.found)
              (ap is_denied (sym h.known.phase) ∙ d)) in
              omega (arith, now, same)))
            where
              saves : SavesWell c h.known.ran
              saves =
                  found_is (SavesWell c) (is_of h.known.ran.hand_out.attempt) c.running h.known.ran
                  (sound.save h.runs).phases h.known.found

              no_grant : (phase : Phase) → is_denied phase ≡ true
                  → IsAsFar phase (has_grant c h.known.ran.hand_out.attempt)
                  → has_grant c h.one.hand_out.attempt ≡ false
              no_grant phases.Denied f far = ap (has_grant c) (sym hand) ∙ far
              no_grant phases.Given f far = absurd (true≢false (sym f))
              no_grant phases.Staged f far = absurd (true≢false (sym f))
              no_grant phases.Granted f far = absurd (true≢false (sym f))
              no_grant phases.Moved f far = absurd (true≢false (sym f))
              no_grant (phases.Faulted fault) f far = absurd (true≢false (sym f))

          live : (set : TaskSetData) → set_of h.mid.dag h.one.hand_out.attempt ≡ Some set
              → set.is_zombie ≡ false
              → h.one.hand_out.attempt.stage_attempt
              ≡ newest_number h.mid.dag h.one.hand_out.attempt.stage → Adds s k p 0
          live set f z newest = caused cause refl fit
            where
              counts : is_counted_in set cause ≡ false
              counts =
                  sym (ap (λ o. counts_in o cause)
                  (ap (λ d. set_at d s k) (sym h.dag) ∙ it h.mid.dag ∙ f)) ∙ no.uncounted e

              uncounted : is_counted cause ≡ false
              uncounted = one (is_counted cause) refl (rw z at counts)
                where
                  one : (x : Bool) → is_counted cause ≡ x → (x && true) ≡ false
                      → is_counted cause ≡ false
                  one true g q = absurd (true≢false q)
                  one false g q = g

              low : reaches_limit_in (set_of h.mid.dag h.one.hand_out.attempt)
                  h.one.hand_out.attempt cause ≡ false
              low =
                  ap (λ o. reaches_limit_in o h.one.hand_out.attempt cause) f
                  ∙ uncounted_low set h.one.hand_out.attempt.partition h.one.hand_out.attempt.nth
                  cause counts

              goes : FailsBy cause (is_zombie_in (set_of h.mid.dag h.one.hand_out.attempt))
                  (after_failure h.mid h.one.hand_out.attempt cause) h.one.hand_out.attempt answer
                  after
              goes = way b (sym limit ∙ low) tells
                where
                  way : (x : Bool) → x ≡ false
                      → TellsFailureIf x h.mid h.one.hand_out.attempt cause answer after
                      → FailsBy cause (is_zombie_in (set_of h.mid.dag h.one.hand_out.attempt))
                      (after_failure h.mid h.one.hand_out.attempt cause) h.one.hand_out.attempt
                      answer after
                  way true g q = absurd (true≢false g)
                  way false g q = q

              caused : (why : FailureCause) → cause ≡ why → fits_failure h.one why ≡ true
                  → Adds s k p 0
              caused causes.Planned is g =
                  absurd (true≢false (ap is_counted (sym is) ∙ uncounted))
              caused (causes.Raised raise) is g =
                  absurd (true≢false (ap is_counted (sym is) ∙ uncounted))
              caused (causes.Device fault) is g =
                  absurd (true≢false (ap is_counted (sym is) ∙ uncounted))
              caused causes.Denied is g = denied g
              caused (causes.Gone exec wanted found) is g =
                  shuts (gone_shuts h.mid h.one.hand_out.attempt cause set mid_sound f newest z exec
                  wanted found after answer is
                  (subst (λ x. FailsBy x (is_zombie_in (set_of h.mid.dag h.one.hand_out.attempt))
                  (after_failure h.mid h.one.hand_out.attempt cause) h.one.hand_out.attempt answer
                  after) is goes))
              caused (causes.Metadata last) is g =
                  shuts (metadata_shuts h.mid h.one.hand_out.attempt cause set mid_sound f newest z
                  last after answer
                  (subst (λ x. FailsBy x (is_zombie_in (set_of h.mid.dag h.one.hand_out.attempt))
                  (after_failure h.mid h.one.hand_out.attempt cause) h.one.hand_out.attempt answer
                  after) is goes))

          by_set : (o : Option TaskSetData) → set_of h.mid.dag h.one.hand_out.attempt ≡ o
              → Adds s k p 0
          by_set None f =
              absurd (true≢false (sym (runs_there h.mid.dag h.one.hand_out.attempt h.one.exec runs)
              ∙ ap is_some f))
          by_set (Some set) f = which set.is_zombie refl
              (cases_eq h.one.hand_out.attempt.stage_attempt
              (newest_number h.mid.dag h.one.hand_out.attempt.stage))
            where
              which : (z : Bool) → set.is_zombie ≡ z
                  → (h.one.hand_out.attempt.stage_attempt
                  ≡ newest_number h.mid.dag h.one.hand_out.attempt.stage)
                  ⊎ (h.one.hand_out.attempt.stage_attempt
                  ≡ newest_number h.mid.dag h.one.hand_out.attempt.stage → ⊥)
                  → Adds s k p 0
              which true z w = dead set f z
              which false z (inl w) = live set f z w
              which false z (inr w) =
                  dead set f (older_dead h.mid.dag h.one.hand_out.attempt.stage
                  h.one.hand_out.attempt.stage_attempt set mid_sound f w).0

      by : (x : Bool) → is_of_task s k p h.one.hand_out.attempt ≡ x → Adds s k p 0
      by true e = own e
      by false e = other e
