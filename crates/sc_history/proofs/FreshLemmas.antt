-- No attempt is handed out twice.
use Rattle.std.proofs.Common.{◌≡◌, ◌≢◌, ℕ, ◌<◌, ◌≤◌, ◌==◌, Bool, true, false, if◌then◌else◌, List, [], ◌∷◌, ◌++◌, All, get_or, Option, Some, None, option_map, refl, ap, sym, subst, ◌∙◌, append-nil, arith, rules, slice_get}
use Rattle.std.specs.List.{AllPairs}
use Rattle.std.proofs.lemmas.Bool.Decides.{nat_tests}
use Rattle.std.proofs.lemmas.Grind.{flat_map-append}
use Rattle.std.proofs.lemmas.List.Elements.{All-head, All-nil, All-push, All-tail, All-weaker}
use Rattle.std.proofs.lemmas.List.Quantifiers.{all_pairs_push}
use Rattle.sc_ids.specs.declared.attempts.AttemptId.{AttemptId}
use Rattle.sc_ids.specs.declared.failures.FailureCause.{FailureCause}
use Rattle.sc_ids.specs.declared.limits.Limits.{Limits}
use Rattle.sc_taskset.specs.Lookups.{copy_at, is_nth, is_task_of, task_at, with_task}
use Rattle.sc_taskset.specs.Offers.{given_in, given_of, handed_task}
use Rattle.sc_taskset.specs.Reports.{after_failure, after_loss, ended_task, failed_task, held_task, is_counted_in, is_failure, lost_task, noted_task, redoes_lost, succeeded_task}
use Rattle.sc_taskset.specs.Sound.{IsSoundTask}
use Rattle.sc_taskset.specs.TaskSetData.{TaskData, TaskSetData}
use Rattle.sc_taskset.specs.declared.tasks.RunningCopy.{RunningCopy as Copy}
use Rattle.sc_taskset.proofs.FindLemmas.{found_is, found_passes}
use Rattle.sc_taskset.proofs.LawLemmas.{task_changed, task_other}
use Rattle.sc_dag.specs.DagData.{DagData, StageState, attempt_in, newest_at, set_in, with_set}
use Rattle.sc_dag.specs.Offers.{IsOffer, OffersIn}
use Rattle.sc_dag.specs.Offers as offers
use Rattle.sc_dag.specs.Reports.{failed_attempt, set_of}
use Rattle.sc_dag.specs.Sound.{IsSoundDag, runner_among, runner_in, runner_of}
use Rattle.sc_dag.specs.declared.attempts.StageAttempt.{StageAttempt}
use Rattle.sc_dag.proofs.Sets.{task_viewed}
use Rattle.sc_core.specs.CoreData.{CoreData}
use Rattle.sc_core.specs.HandOuts.{HandOutData}
use Rattle.sc_core.specs.Sound.{IsSoundCore, RunsWell}
use Rattle.sc_core.specs.Steps.{Steps}
use Rattle.sc_core.specs.Takes.{Takes, running_on, with_task as with_hand_out}
use Rattle.sc_core.specs.declared.answers.Answer.{Answer}
use Rattle.sc_core.specs.declared.answers.Answer.TheVariants as says
use Rattle.sc_core.specs.declared.entries.Entry.{Entry}
use Rattle.sc_core.specs.declared.events.Event.{Event}
use Rattle.sc_core.specs.declared.events.Event.TheVariants.{Post, Release, Side, Take, TellLost}
use Rattle.sc_core.proofs.LawLemmas.{steps_keep_sound}
use Rattle.sc_core.proofs.ShelfLemmas.{find_mapped}
use Rattle.sc_core.proofs.LookupLemmas.{set_among, set_holds, set_of_newest}
use Rattle.sc_history.specs.Fresh.{TakesAreFresh, attempts_given, given_by}
use Rattle.sc_history.proofs.Growing.{IsCalm, Slot, attempt_among, numbered_slot}
use Rattle.sc_history.proofs.GrowingCalls.{steps_grow}
use Rattle.sc_history.proofs.Journals.{replays_induct}

-- ---- how often tasks were handed out

-- no partition was handed out less often
MoreGiven : StageAttempt → StageAttempt → Type 0
MoreGiven x y = (p : ℕ) → given_of x.set p ≤ given_of y.set p

Anything : StageAttempt → Type 0
Anything x = Unit {0}

same_given : (a b : ℕ) → b ≡ a → a ≤ b
same_given a b e = omega (arith, e)

given_failed : (x : StageAttempt) (q nth : ℕ) (cause : FailureCause)
    → MoreGiven x (with_set (λ s. after_failure s q nth cause) x)
unfolding MoreGiven
given_failed x q nth cause p =
    same_given (given_of x.set p) (given_of (after_failure x.set q nth cause) p)
    (task_viewed given_in q p (failed_task (is_counted_in x.set cause) nth)
    (λ t. part t (is_failure (is_counted_in x.set cause) nth t))
    (λ t. given t (is_failure (is_counted_in x.set cause) nth t)) x.set.tasks)
  where
    part : (t : TaskData) (b : Bool)
        → (if b then noted_task nth (ended_task nth t) else ended_task nth t).partition
        ≡ t.partition
    part t true = refl
    part t false = refl

    given : (t : TaskData) (b : Bool)
        → (if b then noted_task nth (ended_task nth t) else ended_task nth t).given ≡ t.given
    given t true = refl
    given t false = refl

given_handed : (set : TaskSetData) (q exec now p : ℕ)
    → given_of set p ≤ given_in (task_at p (with_task q (handed_task exec now) set.tasks))
given_handed set q exec now p = by (q == p) refl
  where
    f : TaskData → TaskData
    f = handed_task exec now

    more : (o : Option TaskData) → given_in o ≤ given_in (option_map f o)
    more None = omega arith
    more (Some t) = omega arith

    by : (b : Bool) → (q == p) ≡ b → given_of set p ≤ given_in (task_at p (with_task q f set.tasks))
    by true e =
        let is : q ≡ p = grind (arith, nat_tests, e) in
        subst (λ (n : ℕ). given_of set n ≤ given_in (task_at n (with_task q f set.tasks))) is
        (subst (λ o. given_of set q ≤ given_in o) (sym (task_changed q f (λ t. refl) set.tasks))
        (more (task_at q set.tasks)))
    by false e =
        same_given (given_of set p) (given_in (task_at p (with_task q f set.tasks)))
        (ap given_in (task_other q p f e (λ t. refl) set.tasks))

given_lost : (set : TaskSetData) (exec p : ℕ)
    → given_of set p ≤ given_of (after_loss set exec) p
given_lost set exec p =
    same_given (given_of set p) (given_of (after_loss set exec) p)
    (ap given_in
    (find_mapped (is_task_of p) (lost_task exec (redoes_lost set)) (λ t. refl) set.tasks)
    ∙ kept (task_at p set.tasks))
  where
    kept : (o : Option TaskData)
        → given_in (option_map (lost_task exec (redoes_lost set)) o) ≡ given_in o
    kept None = refl
    kept (Some t) = refl

given_calm : (L : Limits) → IsCalm MoreGiven Anything L
unfolding MoreGiven Anything
given_calm L =
    record {
      same = λ x p. omega arith;
      chain = λ x y z h k p. (let a = h p in let b = k p in omega (arith, a, b));
      hands = λ x q exec now p. given_handed x.set q exec now p;
      succeeds = λ x q nth now p.
          same_given (given_of x.set p) _
          (task_viewed given_in q p (succeeded_task nth) (λ t. refl) (λ t. refl) x.set.tasks);
      ends = λ x q nth p.
          same_given (given_of x.set p) _
          (task_viewed given_in q p (ended_task nth) (λ t. refl) (λ t. refl) x.set.tasks);
      holds = λ x q denied p.
          same_given (given_of x.set p) _
          (task_viewed given_in q p (held_task denied) (λ t. refl) (λ t. refl) x.set.tasks);
      loses = λ x exec p. given_lost x.set exec p;
      stops = λ x p. omega arith;
      forgives = λ x p. omega arith;
      begins = λ t stage results held. tt;
      stays = λ x y h k. tt;
    }

given_marked : (x : StageAttempt) → MoreGiven x (failed_attempt x)
unfolding MoreGiven
given_marked x p = omega arith

-- how often a partition was handed out in a stage attempt
given_among : Option TaskSetData → ℕ → ℕ
given_among None p = 0
given_among (Some set) p = given_of set p

given_to : DagData → AttemptId → ℕ
given_to d a = given_among (set_of d a) a.partition

given_kept : (c after : CoreData) (event : Event) (answer : Answer) (a : AttemptId)
    → Steps c event answer after → given_to c.dag a ≤ given_to after.dag a
unfolding MoreGiven given_among given_to
given_kept c after event answer a step =
    states (slice_get c.dag.states a.stage) (slice_get after.dag.states a.stage)
    (numbered_slot MoreGiven Anything (slice_get c.dag.states a.stage)
    (slice_get after.dag.states a.stage) a.stage_attempt
    (steps_grow MoreGiven Anything c.dag.limits (given_calm c.dag.limits) given_marked given_failed
    c after event answer refl step a.stage))
  where
    slots : (o x : Option StageAttempt) → Slot MoreGiven Anything o x
        → given_among (set_in o) a.partition ≤ given_among (set_in x) a.partition
    slots None None h = omega arith
    slots None (Some y) h = omega arith
    slots (Some x) None h = absurd h
    slots (Some x) (Some y) h = h a.partition

    states : (o x : Option StageState)
        → Slot MoreGiven Anything (attempt_among o a.stage_attempt)
        (attempt_among x a.stage_attempt)
        → given_among (set_among o a.stage_attempt) a.partition
        ≤ given_among (set_among x a.stage_attempt) a.partition
    states None None h = omega arith
    states None (Some y) h = omega arith
    states (Some x) None h =
        slots (attempt_in x a.stage_attempt) None h
    states (Some x) (Some y) h =
        slots (attempt_in x a.stage_attempt) (attempt_in y a.stage_attempt) h

-- ---- attempts that are handed out

-- an attempt that is offered has the number of hand-outs before it
offered_next : (d : DagData) (exec now : ℕ) (a : AttemptId) → IsOffer d exec now a
    → given_to d a ≡ a.nth
unfolding given_among given_to
offered_next d exec now a offer =
    ap (λ o. given_among o a.partition) (set_of_newest d a offer.newest)
    ∙ by (newest_at d a.stage) offer.offered
  where
    by : (o : Option TaskSetData) → OffersIn o exec now (Some (offers.given_of a))
        → given_among o a.partition ≡ a.nth
    by None h = absurd h
    by (Some set) h = sym h.1

-- one that runs was handed out
running_given : (d : DagData) (a : AttemptId) (exec : ℕ) → IsSoundDag d
    → runner_of d a ≡ Some exec → a.nth < given_to d a
unfolding given_among given_to
running_given d a exec sound runs = by (set_of d a) refl runs
  where
    copy : (t : TaskData) → IsSoundTask t → (o : Option Copy) → copy_at a.nth t.copies ≡ o
        → option_map (λ (c : Copy). c.exec) o ≡ Some exec → a.nth < t.given
    copy t is None f h = absurd (search (rules, h))
    copy t is (Some c) f h =
        let below : c.nth < t.given =
        found_is (λ (x : Copy). x.nth < t.given) (is_nth a.nth) t.copies c is.handed_out f in
        let at : is_nth a.nth c ≡ true = found_passes (is_nth a.nth) t.copies c f in
        let same : c.nth ≡ a.nth = grind (arith, nat_tests, at) in
        omega (arith, below, same)

    task : (set : TaskSetData) → set_of d a ≡ Some set → (o : Option TaskData)
        → task_at a.partition set.tasks ≡ o → runner_among o a.nth ≡ Some exec
        → a.nth < given_in o
    task set e None f h = absurd (search (rules, h))
    task set e (Some t) f h =
        let is : IsSoundTask t =
        found_is IsSoundTask (is_task_of a.partition) set.tasks t
        (set_holds (λ s. All IsSoundTask s.tasks) (slice_get d.states a.stage) a.stage_attempt set
        (λ i x l. (sound.attempts a.stage i x l).set.sound.tasks) e) f in
        copy t is (copy_at a.nth t.copies) refl h

    by : (o : Option TaskSetData) → set_of d a ≡ o → runner_in o a ≡ Some exec
        → a.nth < given_among o a.partition
    by None e h = absurd (search (rules, h))
    by (Some set) e h = task set e (task_at a.partition set.tasks) refl h

-- What holds along a journal.
record IsFresh (entries : List Entry) (c : CoreData) : Type 0 where
  sound : IsSoundCore c
  given : All (λ a. a.nth < given_to c.dag a) (attempts_given entries)
  apart : AllPairs (λ a b. a ≢ b) (attempts_given entries)

-- no more is handed out
none_given : (entries : List Entry) (e : Entry) (c after : CoreData) → IsFresh entries c
    → Steps c e.event e.answer after → given_by e.event e.answer ≡ []
    → IsFresh (entries ++ e ∷ []) after
none_given entries e c after h step none =
    record {
      sound = steps_keep_sound c after e.event e.answer h.sound step;
      given = subst (λ given. All (λ a. a.nth < given_to after.dag a) given) (sym same)
          (All-weaker (λ a. a.nth < given_to c.dag a) (λ a. a.nth < given_to after.dag a)
          (λ a lt. (let le = given_kept c after e.event e.answer a step in omega (arith, lt, le)))
          (attempts_given entries) h.given);
      apart = subst (λ given. AllPairs (λ a b. a ≢ b) given) (sym same) h.apart;
    }
  where
    same : attempts_given (entries ++ e ∷ []) ≡ attempts_given entries
    same =
        flat_map-append (λ x. given_by x.event x.answer) entries (e ∷ [])
        ∙ ap (λ more. attempts_given entries ++ (more ++ [])) none
        ∙ append-nil (attempts_given entries)

one_given : (entries : List Entry) (e : Entry) (c after : CoreData) (a : AttemptId)
    → IsFresh entries c → Steps c e.event e.answer after
    → given_by e.event e.answer ≡ a ∷ [] → given_to c.dag a ≡ a.nth → a.nth < given_to after.dag a
    → IsFresh (entries ++ e ∷ []) after
one_given entries e c after a h step one next ran =
    record {
      sound = steps_keep_sound c after e.event e.answer h.sound step;
      given = subst (λ given. All (λ b. b.nth < given_to after.dag b) given) (sym same)
          (All-push (λ b. b.nth < given_to after.dag b) (attempts_given entries) a
          (All-weaker (λ b. b.nth < given_to c.dag b) (λ b. b.nth < given_to after.dag b)
          (λ b lt. (let le = given_kept c after e.event e.answer b step in omega (arith, lt, le)))
          (attempts_given entries) h.given) ran);
      apart = subst (λ given. AllPairs (λ x y. x ≢ y) given) (sym same)
          (all_pairs_push (λ x y. x ≢ y) (attempts_given entries) a h.apart
          (λ k d lt. other (get_or (attempts_given entries) k d) (h.given k d lt)));
    }
  where
    same : attempts_given (entries ++ e ∷ []) ≡ attempts_given entries ++ a ∷ []
    same =
        flat_map-append (λ x. given_by x.event x.answer) entries (e ∷ [])
        ∙ ap (λ more. attempts_given entries ++ (more ++ [])) one

    other : (b : AttemptId) → b.nth < given_to c.dag b → b ≢ a
    other b lt is =
        let nth : b.nth ≡ a.nth = ap (λ (x : AttemptId). x.nth) is in
        let many : given_to c.dag b ≡ given_to c.dag a = ap (λ x. given_to c.dag x) is in
        omega (arith, lt, nth, many, next)

-- the last item of a list
last_holds : {A : Type 0} (P : A → Type 0) (xs : List A) (y : A) → All P (xs ++ y ∷ []) → P y
last_holds P [] y all = All-head P y [] all
last_holds P (x ∷ xs) y all = last_holds P xs y (All-tail P x (xs ++ y ∷ []) all)

task_ran : (c after : CoreData) (exec : ℕ) (t : HandOutData) → IsSoundCore after
    → after ≡ with_hand_out c exec t → t.attempt.nth < given_to after.dag t.attempt
task_ran c after exec t sound is =
    running_given after.dag t.attempt exec sound.job.dag
    (subst (λ (x : CoreData). runner_of x.dag t.attempt ≡ Some exec) (sym is) ran.in_set)
  where
    ran : RunsWell (with_hand_out c exec t) (running_on t exec)
    ran =
        last_holds (RunsWell (with_hand_out c exec t)) c.running (running_on t exec)
        (subst IsSoundCore is sound).job.running

fresh_kept : (entries : List Entry) (e : Entry) (c after : CoreData) → IsFresh entries c
    → Steps c e.event e.answer after → IsFresh (entries ++ e ∷ []) after
fresh_kept entries e c after h step = by e.event refl step
  where
    takes : (exec : ℕ) (answer : Answer) → e.event ≡ Take exec → e.answer ≡ answer
        → Takes c exec answer after → IsFresh (entries ++ e ∷ []) after
    takes exec answer x y k = by answer y k
      where
        none : given_by e.event e.answer ≡ [] → IsFresh (entries ++ e ∷ []) after
        none = none_given entries e c after h step

        same : given_by e.event e.answer ≡ given_by (Take exec) e.answer
        same = ap (λ v. given_by v e.answer) x

        gives : (w : Answer) → e.answer ≡ w → given_by e.event e.answer ≡ given_by (Take exec) w
        gives w z = same ∙ ap (λ v. given_by (Take exec) v) z

        by : (answer : Answer) → e.answer ≡ answer → Takes c exec answer after
            → IsFresh (entries ++ e ∷ []) after
        by (says.Task t) z (asking, out, below, is) =
            one_given entries e c after t.attempt h step (gives (says.Task t) z)
            (offered_next c.dag exec c.now t.attempt out.offer)
            (task_ran c after exec t (steps_keep_sound c after e.event e.answer h.sound step) is)
        by (says.Wait out) z k = none (gives (says.Wait out) z)
        by (says.Busy held) z k = none (gives (says.Busy held) z)
        by says.Lost z k = none (gives says.Lost z)
        by (says.Stopped first) z k = none (gives (says.Stopped first) z)
        by says.Ended z k = none (gives says.Ended z)
        by (says.Aborted why) z k = none (gives (says.Aborted why) z)
        by says.Ignored z k = none (gives says.Ignored z)
        by says.Shelved z k = none (gives says.Shelved z)
        by says.Told z k = none (gives says.Told z)
        by says.Repeated z k = none (gives says.Repeated z)
        by says.Registered z k = none (gives says.Registered z)
        by says.Bogus z k = none (gives says.Bogus z)
        by says.Finished z k = none (gives says.Finished z)
        by says.Again z k = none (gives says.Again z)
        by (says.Side said) z k = none (gives (says.Side said) z)
        by says.Resubmitted z k = none (gives says.Resubmitted z)

    by : (event : Event) → e.event ≡ event → Steps c event e.answer after
        → IsFresh (entries ++ e ∷ []) after
    by (Post a outcome) x s =
        none_given entries e c after h step (ap (λ v. given_by v e.answer) x)
    by (Release key) x s =
        none_given entries e c after h step (ap (λ v. given_by v e.answer) x)
    by (Side event) x s =
        none_given entries e c after h step (ap (λ v. given_by v e.answer) x)
    by (TellLost exec) x s =
        none_given entries e c after h step (ap (λ v. given_by v e.answer) x)
    by (Take exec) x s = takes exec e.answer x refl s

pub takes_are_fresh : TakesAreFresh
takes_are_fresh graph limits saved plan last opening end entries o sound replays =
    (replays_induct (λ es c. IsFresh es c) fresh_kept [] opening begins entries end
    replays).apart
  where
    begins : IsFresh [] opening
    begins =
        record {
          sound = sound;
          given = All-nil (λ a. a.nth < given_to opening.dag a);
          apart = λ i j d lt within. absurd (omega (arith, within));
        }
