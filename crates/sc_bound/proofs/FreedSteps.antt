-- Each event that frees a partition spends something that may free it.
use Rattle.std.proofs.Common.{◌≡◌, ◌⊎◌, inl, inr, ℕ, ◌+◌, ◌≤◌, ◌==◌, ◌&&◌, ◌||◌, Bool, true, false, if◌then◌else◌, [], ◌∷◌, nat_lt, Option, Some, None, is_some, refl, ap, sym, subst, ◌∙◌, arith, rules, true≢false}
use Rattle.std.specs.List.{list_any}
use Rattle.sc_ids.specs.declared.attempts.AttemptId.{AttemptId}
use Rattle.sc_ids.specs.declared.failures.FailureCause.{FailureCause}
use Rattle.sc_ids.specs.declared.limits.Limits.{Limits}
use Rattle.sc_taskset.specs.TaskSetData.{TaskSetData}
use Rattle.sc_dag.specs.DagData.{DagData}
use Rattle.sc_dag.specs.Reports.{after_failed, reaches_limit_in, set_of}
use Rattle.sc_dag.specs.Sound.{runner_of}
use Rattle.sc_dag.proofs.Tests.{both_left, both_right}
use Rattle.sc_core.specs.CoreData.{CoreData, job_runs, shelved_of}
use Rattle.sc_core.specs.Sound.{IsSoundCore, has_grant}
use Rattle.sc_core.specs.Steps.{Steps}
use Rattle.sc_core.specs.Tells.{Tells, TellsFailureIf}
use Rattle.sc_core.specs.declared.answers.Answer.{Answer}
use Rattle.sc_core.specs.declared.events.Event.{Event}
use Rattle.sc_core.specs.declared.events.Event.TheVariants.{Post, Release, Side, Take, TellLost}
use Rattle.sc_core.specs.declared.events.Outcome.{Outcome}
use Rattle.sc_core.specs.declared.events.Outcome.TheVariants as outcomes
use Rattle.sc_core.specs.declared.running.Shelved.{Shelved}
use Rattle.sc_history.specs.Evidence.{is_of_task}
use Rattle.sc_history.specs.Tellings.{Telling, is_heard, telling, tellings_in, told_late}
use Rattle.sc_history.proofs.GrowingCalls.{failures_grow}
use Rattle.sc_history.proofs.Keeping.{NoFailures, SameFailures, failures_calm, failures_marked}
use Rattle.sc_history.proofs.SetLimits.{HaveLimits, limits_of_set}
use Rattle.sc_bound.specs.Accounts.{counts_in, frees, frees_by, frees_in, gives_back}
use Rattle.sc_bound.specs.Losses.{lost_count}
use Rattle.sc_bound.specs.Numbered.{set_at}
use Rattle.sc_bound.proofs.FailedLemmas.{fails_at, other_fails, own_below, own_fails}
use Rattle.sc_bound.proofs.HearLemmas.{Hearing, Hears, posts_hear, releases_hear}
use Rattle.sc_bound.proofs.KeptLemmas.{Keeps, heard_older, heard_one, losses_keep, map_keeps, result_keeps, same_fails, sides_keep, silence_keeps, takes_keep}
use Rattle.sc_bound.proofs.LostLemmas.{lost_more, lost_stay}
use Rattle.sc_bound.proofs.OlderLemmas.{is_older, older_running}
use Rattle.sc_bound.proofs.StepLemmas.{of_task}

-- ---- what frees a partition

-- by the one report of an event
freed_by : (c : CoreData) (event : Event) (answer : Answer) (t : Telling) (s k p : ℕ)
    → tellings_in c event answer ≡ t ∷ [] → frees_in c event answer s k p ≡ frees_by c s k p t
freed_by c (Take exec) answer t s k p told = absurd (search (rules, told))
freed_by c (Side event) answer t s k p told = absurd (search (rules, told))
freed_by c (TellLost exec) answer t s k p told = absurd (search (rules, told))
freed_by c (Post a outcome) answer t s k p told =
    ap (list_any (frees_by c s k p)) told ∙ right (frees_by c s k p t)
  where
    right : (b : Bool) → (b || false) ≡ b
    right true = refl
    right false = refl
freed_by c (Release key) answer t s k p told =
    ap (list_any (frees_by c s k p)) told ∙ right (frees_by c s k p t)
  where
    right : (b : Bool) → (b || false) ≡ b
    right true = refl
    right false = refl

-- a failure that frees a partition counts for it, or is of an attempt of an older set
frees_so : (c : CoreData) (a : AttemptId) (cause : FailureCause) (answer : Answer) (s k p : ℕ)
    → frees_by c s k p (telling a (outcomes.Failed cause) answer) ≡ true
    → ((is_of_task s k p a && counts_in (set_at c.dag s k) cause) ≡ true)
    ⊎ (is_older s k p a ≡ true)
frees_so c a cause answer s k p e =
    by (is_of_task s k p a && counts_in (set_at c.dag s k) cause) refl
    (both_right (is_heard answer) _ e)
  where
    back : (x y z : Bool) → (x && (y && z)) ≡ true → (x && y) ≡ true
    back true true z h = refl
    back true false z h = h
    back false y z h = h

    by : (x : Bool) → (is_of_task s k p a && counts_in (set_at c.dag s k) cause) ≡ x
        → (x || gives_back c s k p (telling a (outcomes.Failed cause) answer)) ≡ true
        → ((is_of_task s k p a && counts_in (set_at c.dag s k) cause) ≡ true)
        ⊎ (is_older s k p a ≡ true)
    by true f h = inl f
    by false f h =
        inr (back ((a.stage == s) && (a.partition == p)) (nat_lt a.stage_attempt k) _ h)

-- ---- what an event spends

-- whether something is so, as a count
abbrev pub one_if : Bool → ℕ
one_if b = if b then 1 else 0

-- A partition is freed or isn't: for that one more failure counts, one more executor is lost, or
-- one attempt less runs of an older set.
abbrev Spends : CoreData → CoreData → Bool → ℕ → ℕ → ℕ → Type 0
Spends c after freed s k p =
    one_if freed + older_running after s k p + fails_at c.dag s k p + lost_count c.dag.tracker
    ≤ older_running c s k p + fails_at after.dag s k p + lost_count after.dag.tracker

-- failures stay within a limit, with one left while the job runs
abbrev pub IsWithinLimit : Limits → CoreData → ℕ → ℕ → ℕ → Type 0
IsWithinLimit limits c s k p =
    fails_at c.dag s k p + one_if (job_runs c) ≤ limits.task_failures

one_most : (b : Bool) → one_if b ≤ 1
one_most true = omega arith
one_most false = omega arith

-- where nothing is freed
kept_spends : (c after : CoreData) (s k p : ℕ) → Keeps c after s k p
    → lost_count c.dag.tracker ≤ lost_count after.dag.tracker
    → is_some (set_at c.dag s k) ≡ true → Spends c after false s k p
kept_spends c after s k p keeps lost some =
    let older = keeps.older some in
    let fails = keeps.fails in
    omega (arith, older, fails, lost)

kept_within : (limits : Limits) (c after : CoreData) (s k p : ℕ) → Keeps c after s k p
    → IsWithinLimit limits c s k p → IsWithinLimit limits after s k p
kept_within limits c after s k p keeps le =
    let fails = keeps.fails in
    let runs = by (job_runs after) (job_runs c) keeps.runs in
    omega (arith, fails, runs, le)
  where
    by : (x y : Bool) → (x ≡ true → y ≡ true) → one_if x ≤ one_if y
    by true y h = rw (h refl) (omega arith)
    by false y h = omega arith

-- ---- a failure that is heard

module _ (c after : CoreData) (event : Event) (answer : Answer) (h : Hears c after event answer)
    (cause : FailureCause) (b : Bool)
    (limit : reaches_limit_in (set_of h.mid.dag h.one.hand_out.attempt) h.one.hand_out.attempt
    cause ≡ b)
    (tells : TellsFailureIf b h.mid h.one.hand_out.attempt cause answer after) (s k p : ℕ) where
  abbrev a : AttemptId
  a = h.one.hand_out.attempt

  runs : runner_of h.mid.dag h.one.hand_out.attempt ≡ Some h.one.exec
  runs = ap (λ d. runner_of d h.one.hand_out.attempt) h.dag ∙ h.known.in_set

  -- what follows the failure counts no more
  then_same : (r n q : ℕ) → fails_at after.dag r n q
      ≡ fails_at (after_failed h.mid.dag h.one.hand_out.attempt cause) r n q
  then_same r n q =
      same_fails (after_failed h.mid.dag a cause) after.dag r n q
      (failures_grow SameFailures NoFailures h.mid.dag.limits (failures_calm h.mid.dag.limits)
      failures_marked b h.mid after a cause answer refl tells)

  -- one more failure counts, or none does
  failure_fails : fails_at after.dag s k p
      ≡ fails_at c.dag s k p
      + one_if (is_of_task s k p h.one.hand_out.attempt && counts_in (set_at c.dag s k) cause)
  failure_fails = by (is_of_task s k p a) refl
    where
      mine : (s ≡ a.stage) × (k ≡ a.stage_attempt) × (p ≡ a.partition)
          → fails_at after.dag s k p
          ≡ fails_at c.dag s k p + one_if (counts_in (set_at c.dag s k) cause)
      mine at =
          rw (at.0, at.1, at.2)
          (then_same a.stage a.stage_attempt a.partition
          ∙ own_fails h.mid.dag a h.one.exec cause runs
          ∙ ap (λ (d : DagData). fails_at d a.stage a.stage_attempt a.partition
          + one_if (counts_in (set_at d a.stage a.stage_attempt) cause)) h.dag)

      by : (x : Bool) → is_of_task s k p a ≡ x
          → fails_at after.dag s k p
          ≡ fails_at c.dag s k p + one_if (x && counts_in (set_at c.dag s k) cause)
      by true e = mine (of_task s k p a e)
      by false e =
          let next = then_same s k p in
          let other = other_fails h.mid.dag a h.one.exec cause runs s k p e in
          let same = ap (λ (d : DagData). fails_at d s k p) h.dag in
          omega (arith, next, other, same)

  -- the last one that is allowed ends the job
  pub failure_within : (limits : Limits) → HaveLimits limits c.dag → IsWithinLimit limits c s k p
      → IsWithinLimit limits after s k p
  failure_within limits have le =
      by (is_of_task s k p a && counts_in (set_at c.dag s k) cause) refl
    where
      was : fails_at c.dag s k p + 1 ≤ limits.task_failures
      was = let on : one_if (job_runs c) ≡ 1 = ap one_if h.runs in omega (arith, le, on)

      below : (o : Option TaskSetData) → set_of h.mid.dag a ≡ o → counts_in o cause ≡ true
          → reaches_limit_in (set_of h.mid.dag a) a cause ≡ false
          → fails_at h.mid.dag a.stage a.stage_attempt a.partition + 2 ≤ limits.task_failures
      below None e counts low = absurd (true≢false (sym counts))
      below (Some set) e counts low =
          let le = own_below h.mid.dag a h.one.exec cause runs set e counts low in
          let is = limits_of_set limits c.dag a set have
          (ap (λ (d : DagData). set_of d a) (sym h.dag) ∙ e) in
          let same = ap (λ (l : Limits). l.task_failures) is in
          omega (arith, le, same)

      one_more : is_of_task s k p a ≡ true → counts_in (set_at c.dag s k) cause ≡ true
          → (x : Bool) → b ≡ x → TellsFailureIf x h.mid a cause answer after
          → fails_at c.dag s k p + 1 + one_if (job_runs after) ≤ limits.task_failures
      one_more e counts true f (told, is) =
          let over : one_if (job_runs after) ≡ 0 = ap (λ (x : CoreData). one_if (job_runs x)) is in
          let room = was in
          omega (arith, room, over)
      one_more e counts false f t =
          let at = of_task s k p a e in
          let one = below (set_of h.mid.dag a) refl
          (ap (λ (d : DagData). counts_in (set_at d a.stage a.stage_attempt) cause) h.dag
          ∙ (rw (at.0, at.1) at counts)) (limit ∙ f) in
          let same : fails_at c.dag s k p
          ≡ fails_at h.mid.dag a.stage a.stage_attempt a.partition =
          (rw (at.0, at.1, at.2) refl)
          ∙ ap (λ (d : DagData). fails_at d a.stage a.stage_attempt a.partition) (sym h.dag) in
          let most = one_most (job_runs after) in
          omega (arith, one, same, most)

      by : (x : Bool) → (is_of_task s k p a && counts_in (set_at c.dag s k) cause) ≡ x
          → IsWithinLimit limits after s k p
      by true e =
          let fails = failure_fails in
          let up : one_if (is_of_task s k p a && counts_in (set_at c.dag s k) cause) ≡ 1 =
          ap one_if e in
          let one = one_more (both_left (is_of_task s k p a) _ e)
          (both_right (is_of_task s k p a) _ e) b refl tells in
          omega (arith, fails, up, one)
      by false e =
          let fails = failure_fails in
          let none : one_if (is_of_task s k p a && counts_in (set_at c.dag s k) cause) ≡ 0 =
          ap one_if e in
          let most = one_most (job_runs after) in
          let room = was in
          omega (arith, fails, none, most, room)

  -- what frees the partition is spent
  pub failure_spends : (freed : Bool)
      → (freed ≡ true → ((is_of_task s k p h.one.hand_out.attempt
      && counts_in (set_at c.dag s k) cause) ≡ true)
      ⊎ (is_older s k p h.one.hand_out.attempt ≡ true))
      → lost_count c.dag.tracker ≤ lost_count after.dag.tracker → Spends c after freed s k p
  failure_spends false so lost =
      let fails = failure_fails in
      let older = heard_older c after event answer h s k p in
      omega (arith, fails, older, lost)
  failure_spends true so lost = by (so refl)
    where
      by : ((is_of_task s k p a && counts_in (set_at c.dag s k) cause) ≡ true)
          ⊎ (is_older s k p a ≡ true) → Spends c after true s k p
      by (inl e) =
          let fails = failure_fails in
          let up : one_if (is_of_task s k p a && counts_in (set_at c.dag s k) cause) ≡ 1 =
          ap one_if e in
          let older = heard_older c after event answer h s k p in
          omega (arith, fails, up, older, lost)
      by (inr e) =
          let fails = failure_fails in
          let older = heard_one c after event answer h s k p e in
          omega (arith, fails, older, lost)

-- ---- each event

-- a report that is heard
heard_spends : (c after : CoreData) (event : Event) (answer : Answer) (s k p : ℕ)
    → Hears c after event answer → lost_count c.dag.tracker ≤ lost_count after.dag.tracker
    → is_some (set_at c.dag s k) ≡ true → Spends c after (frees_in c event answer s k p) s k p
heard_spends c after event answer s k p h lost some =
    by h.outcome h.tells (freed_by c event answer _ s k p h.known.told)
  where
    off : (b : Bool) → (b && false) ≡ false
    off true = refl
    off false = refl

    none : (b x y z w : Bool)
        → (b && ((x && false) || (y && (z && (w && false))))) ≡ false
    none b x y z w =
        ap (λ u. b && (u || (y && (z && (w && false))))) (off x)
        ∙ ap (λ u. b && (y && (z && u))) (off w)
        ∙ ap (λ u. b && (y && u)) (off z)
        ∙ ap (λ u. b && u) (off y)
        ∙ off b

    -- a report of a success frees nothing
    nothing : (b : AttemptId)
        → (is_heard answer && ((is_of_task s k p b && false)
        || (((b.stage == s) && (b.partition == p))
        && (nat_lt b.stage_attempt k && (has_grant c b && false))))) ≡ false
    nothing b =
        none (is_heard answer) (is_of_task s k p b) ((b.stage == s) && (b.partition == p))
        (nat_lt b.stage_attempt k) (has_grant c b)

    kept : frees_in c event answer s k p ≡ false → Keeps c after s k p
        → Spends c after (frees_in c event answer s k p) s k p
    kept e keeps = rw e (kept_spends c after s k p keeps lost some)

    by : (outcome : Outcome) → Tells h.mid h.one outcome answer after
        → frees_in c event answer s k p
        ≡ frees_by c s k p (telling h.one.hand_out.attempt outcome answer)
        → Spends c after (frees_in c event answer s k p) s k p
    by (outcomes.Map loc) tells is =
        kept (is ∙ nothing h.one.hand_out.attempt)
        (map_keeps c after event answer h s k p loc tells)
    by outcomes.Result tells is =
        kept (is ∙ nothing h.one.hand_out.attempt) (result_keeps c after event answer h s k p tells)
    by (outcomes.Failed cause) tells is =
        failure_spends c after event answer h cause
        (reaches_limit_in (set_of h.mid.dag h.one.hand_out.attempt) h.one.hand_out.attempt cause)
        refl tells s k p (frees_in c event answer s k p)
        (λ e. frees_so c h.one.hand_out.attempt cause answer s k p (sym is ∙ e)) lost

-- a report that isn't
posts_none : (c : CoreData) (a : AttemptId) (outcome : Outcome) (answer : Answer) (s k p : ℕ)
    → is_heard answer ≡ false → frees_in c (Post a outcome) answer s k p ≡ false
posts_none c a outcome answer s k p unheard = rw unheard refl

releases_none : (c : CoreData) (key : ℕ) (answer : Answer) (s k p : ℕ)
    → is_heard answer ≡ false → frees_in c (Release key) answer s k p ≡ false
releases_none c key answer s k p unheard = by (shelved_of c key)
  where
    by : (o : Option Shelved) → list_any (frees_by c s k p) (told_late o answer) ≡ false
    by None = refl
    by (Some x) = rw unheard refl

hearing_spends : (c after : CoreData) (event : Event) (answer : Answer) (s k p : ℕ)
    → (is_heard answer ≡ false → frees_in c event answer s k p ≡ false)
    → Hearing c after event answer → lost_count c.dag.tracker ≤ lost_count after.dag.tracker
    → is_some (set_at c.dag s k) ≡ true → Spends c after (frees_in c event answer s k p) s k p
hearing_spends c after event answer s k p quiet (inl q) lost some =
    rw (quiet q.unheard)
    (kept_spends c after s k p (silence_keeps c after answer s k p q) lost some)
hearing_spends c after event answer s k p quiet (inr h) lost some =
    heard_spends c after event answer s k p h lost some

spends_in : (c after : CoreData) (event : Event) (answer : Answer) (s k p : ℕ) → IsSoundCore c
    → Steps c event answer after → is_some (set_at c.dag s k) ≡ true
    → Spends c after (frees_in c event answer s k p) s k p
spends_in c after (Take exec) answer s k p sound step some =
    kept_spends c after s k p (takes_keep c after exec answer s k p sound step)
    (lost_stay c after (Take exec) answer sound step) some
spends_in c after (Post a outcome) answer s k p sound step some =
    hearing_spends c after (Post a outcome) answer s k p (posts_none c a outcome answer s k p)
    (posts_hear c after a outcome answer sound step)
    (lost_stay c after (Post a outcome) answer sound step) some
spends_in c after (Release key) answer s k p sound step some =
    hearing_spends c after (Release key) answer s k p (releases_none c key answer s k p)
    (releases_hear c after key answer sound step)
    (lost_stay c after (Release key) answer sound step) some
spends_in c after (Side event) answer s k p sound step some =
    kept_spends c after s k p (sides_keep c after event answer s k p step)
    (lost_stay c after (Side event) answer sound step) some
spends_in c after (TellLost exec) answer s k p sound step some =
    let keeps = losses_keep c after exec answer s k p step in
    let older = keeps.older some in
    let fails = keeps.fails in
    let lost = lost_more c after exec answer step in
    omega (arith, older, fails, lost)

pub steps_spend : (c after : CoreData) (event : Event) (answer : Answer) (s k p : ℕ)
    → IsSoundCore c → Steps c event answer after → is_some (set_at c.dag s k) ≡ true
    → Spends c after (frees c event answer s k p) s k p
steps_spend c after event answer s k p sound step some =
    subst (λ b. Spends c after b s k p)
    (sym (ap (λ b. b && frees_in c event answer s k p) some))
    (spends_in c after event answer s k p sound step some)

-- ---- the limit of failures

heard_within : (limits : Limits) (c after : CoreData) (event : Event) (answer : Answer)
    (s k p : ℕ) → HaveLimits limits c.dag → Hears c after event answer
    → IsWithinLimit limits c s k p → IsWithinLimit limits after s k p
heard_within limits c after event answer s k p have h le = by h.outcome h.tells
  where
    by : (outcome : Outcome) → Tells h.mid h.one outcome answer after
        → IsWithinLimit limits after s k p
    by (outcomes.Map loc) tells =
        kept_within limits c after s k p (map_keeps c after event answer h s k p loc tells) le
    by outcomes.Result tells =
        kept_within limits c after s k p (result_keeps c after event answer h s k p tells) le
    by (outcomes.Failed cause) tells =
        failure_within c after event answer h cause
        (reaches_limit_in (set_of h.mid.dag h.one.hand_out.attempt) h.one.hand_out.attempt cause)
        refl tells s k p limits have le

hearing_within : (limits : Limits) (c after : CoreData) (event : Event) (answer : Answer)
    (s k p : ℕ) → HaveLimits limits c.dag → Hearing c after event answer
    → IsWithinLimit limits c s k p → IsWithinLimit limits after s k p
hearing_within limits c after event answer s k p have (inl q) le =
    kept_within limits c after s k p (silence_keeps c after answer s k p q) le
hearing_within limits c after event answer s k p have (inr h) le =
    heard_within limits c after event answer s k p have h le

pub steps_within : (limits : Limits) (c after : CoreData) (event : Event) (answer : Answer)
    (s k p : ℕ) → IsSoundCore c → HaveLimits limits c.dag → Steps c event answer after
    → IsWithinLimit limits c s k p → IsWithinLimit limits after s k p
steps_within limits c after (Take exec) answer s k p sound have step le =
    kept_within limits c after s k p (takes_keep c after exec answer s k p sound step) le
steps_within limits c after (Post a outcome) answer s k p sound have step le =
    hearing_within limits c after (Post a outcome) answer s k p have
    (posts_hear c after a outcome answer sound step) le
steps_within limits c after (Release key) answer s k p sound have step le =
    hearing_within limits c after (Release key) answer s k p have
    (releases_hear c after key answer sound step) le
steps_within limits c after (Side event) answer s k p sound have step le =
    kept_within limits c after s k p (sides_keep c after event answer s k p step) le
steps_within limits c after (TellLost exec) answer s k p sound have step le =
    kept_within limits c after s k p (losses_keep c after exec answer s k p step) le
