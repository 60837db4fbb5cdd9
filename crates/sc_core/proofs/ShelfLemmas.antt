-- What is to be told later is kept well, whatever happens.
use Rattle.std.proofs.Common.{◌≡◌, ◌≢◌, ℕ, ◌+◌, ◌<◌, ◌==◌, ◌&&◌, ◌||◌, not, All, Bool, true, false, cond, if◌then◌else◌, List, [], ◌∷◌, ◌++◌, map, nat_lt, Option, Some, None, find, option_map, slice_get, refl, ap, sym, subst, ◌∙◌, arith, rules, true≢false}
use Rattle.std.specs.List.{AllPairs, filter}
use Rattle.std.proofs.lemmas.Bool.Decides.{nat_tests}
use Rattle.std.proofs.lemmas.List.Elements.{All-cons, All-filter, All-get_or, All-head, All-map, All-push, All-tail, All-weaker}
use Rattle.std.proofs.lemmas.List.Kept.{AllPairs-cons, AllPairs-filter}
use Rattle.std.proofs.lemmas.List.Quantifiers.{all_pairs_push}
use Rattle.sc_base.specs.Lists.{at_or}
use Rattle.sc_ids.specs.Graphs.{StageData}
use Rattle.sc_ids.specs.declared.attempts.AttemptId.{AttemptId}
use Rattle.sc_ids.specs.declared.failures.FailureCause.{FailureCause}
use Rattle.sc_ids.specs.declared.failures.FailureCause.TheVariants as causes
use Rattle.sc_commit.specs.Committing.{is_same}
use Rattle.sc_taskset.specs.Lookups.{copy_at, is_task_of, task_at}
use Rattle.sc_taskset.specs.Sound.{IsSoundTask}
use Rattle.sc_taskset.specs.TaskSetData.{TaskData, TaskSetData}
use Rattle.sc_taskset.specs.declared.tasks.RunningCopy as taskset
use Rattle.sc_taskset.proofs.FindLemmas.{found_is, found_passes, pairs_head, pairs_tail}
use Rattle.sc_dag.specs.DagData.{DagData, no_stage}
use Rattle.sc_dag.specs.Offers.{handed_out, newest_number}
use Rattle.sc_dag.specs.Reports.{set_of}
use Rattle.sc_dag.specs.Sound.{IsSoundDag, runner_among, runner_in, runner_of}
use Rattle.sc_dag.specs.Submission.{is_map}
use Rattle.sc_dag.proofs.Tests.{clash}
use Rattle.sc_core.specs.CoreData.{CoreData, as_in, has_key, is_of, job_runs, running_of, shelved, shelved_of, taken_off, to_be_told, told_once, without_shelved}
use Rattle.sc_core.specs.HandOuts.{HandOutData}
use Rattle.sc_core.specs.Posts.{fits, is_save}
use Rattle.sc_core.specs.Sound.{AreTwo, AwaitsTelling, IsShelvedWell, IsSoundJob, IsSoundShelf, RunsWell, given_among, given_in, is_shelved, was_given}
use Rattle.sc_core.specs.Takes.{IsAsking, IsHandOut, running_on, with_task}
use Rattle.sc_core.specs.declared.events.Outcome.{Outcome}
use Rattle.sc_core.specs.declared.events.Outcome.TheVariants as outcomes
use Rattle.sc_core.specs.declared.running.Running.{Running}
use Rattle.sc_core.specs.declared.running.Shelved.{Shelved}
use Rattle.sc_core.proofs.LeftLemmas.{Left}
use Rattle.sc_core.proofs.LookupLemmas.{same_is, set_holds, set_of_newest}
use Rattle.sc_core.proofs.MoveLemmas.{Moves}
use Rattle.sc_core.proofs.PlaceLemmas.{clash as two_clash}
use Rattle.sc_core.proofs.OfferLemmas.{IsOffered, handed_out_moves, offered}
use Rattle.sc_core.proofs.RunningLemmas.{none_passes, same_sym}

-- ---- which reports fit

-- what fits an attempt goes on fitting while the stages are the same ones, and the job saves or not
pub fits_still :
    (c after : CoreData) (r : Running) (outcome : Outcome) → after.dag.stages ≡ c.dag.stages
    → is_save after.committers ≡ is_save c.committers → fits c r outcome ≡ true
    → fits after r outcome ≡ true
fits_still c after r (outcomes.Map loc) stages saves fit =
    ap (λ (all : List StageData).
    is_map (at_or all r.hand_out.attempt.stage no_stage).target && (loc.exec == r.exec)) stages
    ∙ fit
fits_still c after r outcomes.Result stages saves fit = rw (stages, saves) fit
fits_still c after r (outcomes.Failed cause) stages saves fit = fit

-- ---- attempts that were handed out

-- one that runs was handed out
pub runs_given :
    (d : DagData) (a : AttemptId) (exec : ℕ) → IsSoundDag d → runner_of d a ≡ Some exec
    → was_given d a ≡ true
runs_given d a exec sound runs = by (set_of d a) refl runs
  where
    copy : (t : TaskData) → IsSoundTask t → (o : Option taskset.RunningCopy)
        → copy_at a.nth t.copies ≡ o → option_map (λ c. c.exec) o ≡ Some exec
        → nat_lt a.nth t.given ≡ true
    copy t is None e h = absurd (search (rules, h))
    copy t is (Some c) e h =
        let below : c.nth < t.given =
        found_is (λ x. x.nth < t.given) (λ x. x.nth == a.nth) t.copies c is.handed_out e in
        let same : (c.nth == a.nth) ≡ true =
        found_passes (λ x. x.nth == a.nth) t.copies c e in
        grind (arith, nat_tests, below, same)

    task : (set : TaskSetData) → set_of d a ≡ Some set → (o : Option TaskData)
        → task_at a.partition set.tasks ≡ o → runner_among o a.nth ≡ Some exec
        → given_among o a.nth ≡ true
    task set e None f h = absurd (search (rules, h))
    task set e (Some t) f h =
        copy t
        (found_is IsSoundTask (is_task_of a.partition) set.tasks t
        (set_holds (λ s. All IsSoundTask s.tasks) (slice_get d.states a.stage) a.stage_attempt set
        (λ i x l. (sound.attempts a.stage i x l).set.sound.tasks) e) f)
        (copy_at a.nth t.copies) refl h

    by : (o : Option TaskSetData) → set_of d a ≡ o → runner_in o a ≡ Some exec
        → given_in o a ≡ true
    by None e h = absurd (search (rules, h))
    by (Some set) e h = task set e (task_at a.partition set.tasks) refl h

-- one that comes next wasn't
pub offered_fresh :
    (d : DagData) (exec now : ℕ) (a : AttemptId) → IsOffered d exec now a
    → a.stage_attempt ≡ newest_number d a.stage → was_given d a ≡ false
offered_fresh d exec now a o number =
    ap (λ s. given_in s a) (set_of_newest d a number ∙ o.newest)
    ∙ ap (λ t. given_among t a.nth) o.is_task
    ∙ ap (λ (n : ℕ). nat_lt n o.task.given) o.nth ∙ itself o.task.given
  where
    itself : (n : ℕ) → nat_lt n n ≡ false
    itself n = grind (arith, nat_tests)

-- ---- reports among others

-- a report is there still beside one more
shelved_more :
    (xs : List Shelved) (x : Shelved) (a : AttemptId) → is_shelved xs a ≡ true
    → is_shelved (xs ++ x ∷ []) a ≡ true
shelved_more [] x a h = absurd (true≢false (sym h))
shelved_more (y ∷ ys) x a h = by (is_same y.attempt a) h (shelved_more ys x a)
  where
    by : (b : Bool) → (b || is_shelved ys a) ≡ true
        → (is_shelved ys a ≡ true → is_shelved (ys ++ x ∷ []) a ≡ true)
        → (b || is_shelved (ys ++ x ∷ []) a) ≡ true
    by true e f = refl
    by false e f = f e

-- and so is the one more
shelved_last :
    (xs : List Shelved) (x : Shelved) (a : AttemptId) → is_same x.attempt a ≡ true
    → is_shelved (xs ++ x ∷ []) a ≡ true
shelved_last [] x a h = rw h refl
shelved_last (y ∷ ys) x a h = by (is_same y.attempt a) (shelved_last ys x a h)
  where
    by : (b : Bool) → is_shelved (ys ++ x ∷ []) a ≡ true
        → (b || is_shelved (ys ++ x ∷ []) a) ≡ true
    by true e = refl
    by false e = e

-- keys above one are other ones
keys_above :
    (key : ℕ) (xs : List Shelved) → All (λ s. key < s.key) xs
    → filter (λ s. not (has_key key s)) xs ≡ xs
keys_above key [] all = refl
keys_above key (x ∷ xs) all =
    let lt : key < x.key = All-head (λ s. key < s.key) x xs all in
    let other : (x.key == key) ≡ false = grind (arith, nat_tests, lt) in
    rw other (ap (λ ys. x ∷ ys) (keys_above key xs (All-tail (λ s. key < s.key) x xs all)))

-- without the report of a key the reports of all other attempts are there still
shelved_beside :
    (xs : List Shelved) (key : ℕ) (one : Shelved) (b : AttemptId)
    → AllPairs (λ s t. s.key < t.key) xs → find (has_key key) xs ≡ Some one
    → is_same one.attempt b ≡ false → is_shelved xs b ≡ true
    → is_shelved (filter (λ s. not (has_key key s)) xs) b ≡ true
shelved_beside [] key one b rising found other h = h
shelved_beside (x ∷ xs) key one b rising found other h =
    by (x.key == key) refl found (is_same x.attempt b) refl h
    (shelved_beside xs key one b (pairs_tail (λ s t. s.key < t.key) x xs rising))
  where
    Left : Type 0
    Left = is_shelved (filter (λ s. not (has_key key s)) xs) b ≡ true

    by : (u : Bool) → (x.key == key) ≡ u
        → cond u (Some x) (find (has_key key) xs) ≡ Some one
        → (v : Bool) → is_same x.attempt b ≡ v → (v || is_shelved xs b) ≡ true
        → (find (has_key key) xs ≡ Some one → is_same one.attempt b ≡ false
        → is_shelved xs b ≡ true → Left)
        → is_shelved (cond (not u) (x ∷ filter (λ s. not (has_key key s)) xs)
        (filter (λ s. not (has_key key s)) xs)) b ≡ true
    by true e f true g h rest =
        let same : x ≡ one = search (rules, f) in
        absurd (clash (ap (λ (s : Shelved). is_same s.attempt b) (sym same) ∙ g) other)
    by true e f false g h rest =
        let key_is : x.key ≡ key = grind (arith, nat_tests, e) in
        ap (λ ys. is_shelved ys b)
        (keys_above key xs
        (subst (λ (k : ℕ). All (λ s. k < s.key) xs) key_is
        (pairs_head (λ s t. s.key < t.key) x xs rising)))
        ∙ h
    by false e f true g h rest = rw g refl
    by false e f false g h rest = rw g (rest f other h)

-- ---- attempts that aren't out any more

-- what keeps a test is found changed
pub find_mapped :
    {A : Type 0} (p : A → Bool) (f : A → A) → ((x : A) → p (f x) ≡ p x) → (xs : List A)
    → find p (map f xs) ≡ option_map f (find p xs)
find_mapped p f same [] = refl
find_mapped p f same (x ∷ xs) = rw (same x) (by (p x) (find_mapped p f same xs))
  where
    by : (b : Bool) → find p (map f xs) ≡ option_map f (find p xs)
        → cond b (Some (f x)) (find p (map f xs)) ≡ option_map f (cond b (Some x) (find p xs))
    by true h = refl
    by false h = h

pub in_same : (a b : AttemptId) (r : Running) → is_of b (as_in a r) ≡ is_of b r
in_same a b r = by (is_of a r)
  where
    by : (x : Bool) → is_of b (if x then record r { is_out = false } else r) ≡ is_of b r
    by true = refl
    by false = refl

pub find_in :
    (a b : AttemptId) (rs : List Running)
    → find (is_of b) (map (as_in a) rs) ≡ option_map (as_in a) (find (is_of b) rs)
find_in a b rs = find_mapped (is_of b) (as_in a) (in_same a b) rs

-- a report fits them as before
pub fits_in :
    (c : CoreData) (a : AttemptId) (r : Running) (outcome : Outcome)
    → fits c (as_in a r) outcome ≡ fits c r outcome
fits_in c a r outcome = by (is_of a r) outcome
  where
    of : (cause : FailureCause)
        → fits c (record r { is_out = false }) (outcomes.Failed cause)
        ≡ fits c r (outcomes.Failed cause)
    of causes.Planned = refl
    of (causes.Raised raise) = refl
    of (causes.Device fault) = refl
    of (causes.Gone exec wanted found) = refl
    of (causes.Metadata last) = refl
    of causes.Denied = refl

    by : (x : Bool) (outcome : Outcome)
        → fits c (if x then record r { is_out = false } else r) outcome ≡ fits c r outcome
    by false o = refl
    by true (outcomes.Map loc) = refl
    by true outcomes.Result = refl
    by true (outcomes.Failed cause) = of cause

-- ---- what is kept where all else is

-- what holds of those that don't pass a test holds of what is left without the others
pub all_left :
    {A : Type 0} (P : A → Type 0) (q : A → Bool) (xs : List A)
    → All (λ x. q x ≡ false → P x) xs → All P (filter (λ x. not (q x)) xs)
all_left P q [] all = λ i d l. absurd (omega (arith, l))
all_left {A = A} P q (x ∷ xs) all =
    by (q x) refl (all_left P q xs (All-tail (λ y. q y ≡ false → P y) x xs all))
  where
    by : (b : Bool) → q x ≡ b → All P (filter (λ y. not (q y)) xs)
        → All P (cond (not b) (x ∷ filter (λ y. not (q y)) xs) (filter (λ y. not (q y)) xs))
    by true e h = h
    by false e h =
        All-cons P x (filter (λ y. not (q y)) xs)
        (All-head (λ y. q y ≡ false → P y) x xs all e) h

-- a report told: its attempt runs no more, and what else is to be told is kept
pub told_shelf :
    (c after : CoreData) (a : AttemptId)
    → All (λ r. is_of a r ≡ false → r.is_out ≡ false
    → is_shelved c.shelf r.hand_out.attempt ≡ true) c.running
    → All (IsShelvedWell c) c.shelf → AllPairs (λ s t. s.key < t.key) c.shelf
    → Left (taken_off c a) after → job_runs after ≡ true → IsSoundShelf after
told_shelf c after a out each rising left runs =
    record {
      out = rw (left.running, shelf) (all_left
          (λ r. r.is_out ≡ false → is_shelved c.shelf r.hand_out.attempt ≡ true) (is_of a)
          c.running out);
      each = subst (λ ss. All (IsShelvedWell after) ss) (sym shelf)
          (All-weaker (IsShelvedWell c) (IsShelvedWell after) kept c.shelf each);
      rising = rw shelf rising;
    }
  where
    shelf : after.shelf ≡ c.shelf
    shelf = left.shelf runs

    waits : (s : Shelved) (r : Running) → (is_of s.attempt r ≡ true → AwaitsTelling c s r)
        → is_of s.attempt r ≡ true → AwaitsTelling after s r
    waits s r h e =
        record {
          is_in = (h e).is_in;
          fit = fits_still c after r s.outcome left.stages left.saves (h e).fit;
        }

    kept : (s : Shelved) → IsShelvedWell c s → IsShelvedWell after s
    kept s w =
        record {
          below = rw left.next_key w.below;
          given = left.given s.attempt w.given;
          runs = subst (λ rs. All (λ r. is_of s.attempt r ≡ true → AwaitsTelling after s r) rs)
              (sym left.running) (All-filter (λ r. not (is_of a r))
              (λ r. is_of s.attempt r ≡ true → AwaitsTelling after s r) c.running
              (All-weaker (λ r. is_of s.attempt r ≡ true → AwaitsTelling c s r)
              (λ r. is_of s.attempt r ≡ true → AwaitsTelling after s r) (waits s) c.running
              w.runs));
        }

-- what is found is alone where no two others pass
pub found_alone :
    {A : Type 0} (R : A → A → Type 0) (p : A → Bool)
    → ((x y : A) → R x y → p x ≡ true → p y ≡ false) → (xs : List A) (one : A)
    → AllPairs R xs → find p xs ≡ Some one → All (λ y. p y ≡ true → y ≡ one) xs
found_alone R p clashes [] one pairs found = λ i d l. absurd (omega (arith, l))
found_alone {A = A} R p clashes (x ∷ xs) one pairs found =
    by (p x) refl found (found_alone R p clashes xs one (pairs_tail R x xs pairs))
  where
    by : (b : Bool) → p x ≡ b → cond b (Some x) (find p xs) ≡ Some one
        → (find p xs ≡ Some one → All (λ y. p y ≡ true → y ≡ one) xs)
        → All (λ y. p y ≡ true → y ≡ one) (x ∷ xs)
    by true e f rest =
        All-cons (λ y. p y ≡ true → y ≡ one) x xs (λ h. search (rules, f))
        (All-weaker (R x) (λ y. p y ≡ true → y ≡ one)
        (λ y r h. absurd (clash h (clashes x y r e))) xs (pairs_head R x xs pairs))
    by false e f rest =
        All-cons (λ y. p y ≡ true → y ≡ one) x xs (λ h. absurd (clash h e)) (rest f)

-- a report that is to be told later
pub shelved_shelf :
    (c : CoreData) (a : AttemptId) (r : Running) (outcome : Outcome) (delay : ℕ) → IsSoundJob c
    → running_of c a ≡ Some r → fits c r outcome ≡ true → IsSoundShelf c
    → IsSoundShelf (shelved c a outcome delay)
shelved_shelf c a r outcome delay sound found fit shelf =
    record {
      out = All-map
          (λ q. q.is_out ≡ false → is_shelved after.shelf q.hand_out.attempt ≡ true) (as_in a)
          c.running
          (All-weaker (λ q. q.is_out ≡ false → is_shelved c.shelf q.hand_out.attempt ≡ true)
          (λ q. (as_in a q).is_out ≡ false
          → is_shelved after.shelf (as_in a q).hand_out.attempt ≡ true)
          (λ q h. out q (is_of a q) refl h) c.running shelf.out);
      each = All-push (IsShelvedWell after) c.shelf new
          (All-weaker (IsShelvedWell c) (IsShelvedWell after) kept c.shelf shelf.each) last;
      rising = all_pairs_push (λ s t. s.key < t.key) c.shelf new shelf.rising
          (λ k d l. All-get_or (λ s. s.key < c.next_key) c.shelf k d l
          (All-weaker (IsShelvedWell c) (λ s. s.key < c.next_key) (λ s w. w.below) c.shelf
          shelf.each));
    }
  where
    after : CoreData
    after = shelved c a outcome delay

    new : Shelved
    new = to_be_told c a outcome delay

    out : (q : Running) (x : Bool) → is_of a q ≡ x
        → (q.is_out ≡ false → is_shelved c.shelf q.hand_out.attempt ≡ true)
        → (if x then record q { is_out = false } else q).is_out ≡ false
        → is_shelved after.shelf (if x then record q { is_out = false } else q).hand_out.attempt
        ≡ true
    out q true e h f =
        shelved_last c.shelf new q.hand_out.attempt (same_sym a q.hand_out.attempt ∙ e)
    out q false e h f = shelved_more c.shelf new q.hand_out.attempt (h f)

    awaits : (s : Shelved) (q : Running) → (as_in a q).is_out ≡ false
        → fits c q s.outcome ≡ true → AwaitsTelling after s (as_in a q)
    awaits s q is_in fit =
        record {
          is_in = is_in;
          fit = fits_still c after (as_in a q) s.outcome refl refl
              (fits_in c a q s.outcome ∙ fit);
        }

    in_still : (q : Running) (x : Bool) → q.is_out ≡ false
        → (if x then record q { is_out = false } else q).is_out ≡ false
    in_still q true h = refl
    in_still q false h = h

    waits : (s : Shelved) (q : Running) → (is_of s.attempt q ≡ true → AwaitsTelling c s q)
        → is_of s.attempt (as_in a q) ≡ true → AwaitsTelling after s (as_in a q)
    waits s q h e =
        let w = h (sym (in_same a s.attempt q) ∙ e) in
        awaits s q (in_still q (is_of a q) w.is_in) w.fit

    kept : (s : Shelved) → IsShelvedWell c s → IsShelvedWell after s
    kept s w =
        record {
          below = more w.below;
          given = w.given;
          runs = All-map (λ r. is_of s.attempt r ≡ true → AwaitsTelling after s r) (as_in a)
              c.running
              (All-weaker (λ r. is_of s.attempt r ≡ true → AwaitsTelling c s r)
              (λ r. is_of s.attempt (as_in a r) ≡ true → AwaitsTelling after s (as_in a r))
              (waits s) c.running w.runs);
        }
      where
        more : s.key < c.next_key → s.key < c.next_key + 1
        more lt = omega (arith, lt)

    of_it : is_of a r ≡ true
    of_it = found_passes (is_of a) c.running r found

    turned : (q : Running) → is_of a q ≡ true → (x : Bool) → is_of a q ≡ x
        → (if x then record q { is_out = false } else q).is_out ≡ false
    turned q of true e = refl
    turned q of false e = absurd (clash of e)

    only : (q : Running) → (is_of a q ≡ true → q ≡ r) → is_of a (as_in a q) ≡ true
        → AwaitsTelling after new (as_in a q)
    only q same e =
        let of : is_of a q ≡ true = sym (in_same a a q) ∙ e in
        awaits new q (turned q of (is_of a q) refl)
        (ap (λ (x : Running). fits c x outcome) (same of) ∙ fit)

    last : IsShelvedWell after new
    last =
        record {
          below = omega arith;
          given = runs_given c.dag a r.exec sound.dag
              (subst (λ b. runner_of c.dag b ≡ Some r.exec) (same_is r.hand_out.attempt a of_it)
              (found_is (RunsWell c) (is_of a) c.running r sound.running found).in_set);
          runs = All-map (λ q. is_of a q ≡ true → AwaitsTelling after new q) (as_in a) c.running
              (All-weaker (λ q. is_of a q ≡ true → q ≡ r)
              (λ q. is_of a (as_in a q) ≡ true → AwaitsTelling after new (as_in a q)) only
              c.running
              (found_alone AreTwo (is_of a) (two_clash a) c.running r sound.apart found));
        }

-- a task that is handed out
pub task_shelf :
    (c : CoreData) (exec : ℕ) (h : HandOutData) → IsSoundJob c → IsAsking c exec
    → IsHandOut c exec h → IsSoundShelf c → IsSoundShelf (with_task c exec h)
task_shelf c exec h sound asks is shelf =
    record {
      out = All-push (λ r. r.is_out ≡ false → is_shelved c.shelf r.hand_out.attempt ≡ true)
          c.running (running_on h exec) shelf.out (λ e. absurd (true≢false e));
      each = All-weaker (IsShelvedWell c) (IsShelvedWell after) kept c.shelf shelf.each;
      rising = shelf.rising;
    }
  where
    after : CoreData
    after = with_task c exec h

    o : IsOffered c.dag exec c.now h.attempt
    o = offered c.dag exec c.now h.attempt sound.dag is.offer

    moves : Moves (is_same h.attempt) (Some exec) c.dag (handed_out c.dag h.attempt exec c.now)
    moves = handed_out_moves c.dag exec c.now h.attempt o is.offer.newest

    other : (s : Shelved) → was_given c.dag s.attempt ≡ true → (x : Bool)
        → is_same h.attempt s.attempt ≡ x → is_same h.attempt s.attempt ≡ false
    other s given false e = e
    other s given true e =
        absurd (clash given
        (subst (λ b. was_given c.dag b ≡ false) (same_is h.attempt s.attempt e)
        (offered_fresh c.dag exec c.now h.attempt o is.offer.newest)))

    awaits : (s : Shelved) (r : Running) → AwaitsTelling c s r → AwaitsTelling after s r
    awaits s r w =
        record { is_in = w.is_in; fit = fits_still c after r s.outcome refl refl w.fit }

    kept : (s : Shelved) → IsShelvedWell c s → IsShelvedWell after s
    kept s w =
        record {
          below = w.below;
          given = moves.given s.attempt w.given;
          runs = All-push (λ r. is_of s.attempt r ≡ true → AwaitsTelling after s r) c.running
              (running_on h exec)
              (All-weaker (λ r. is_of s.attempt r ≡ true → AwaitsTelling c s r)
              (λ r. is_of s.attempt r ≡ true → AwaitsTelling after s r)
              (λ r k e. awaits s r (k e)) c.running w.runs)
              (λ e. absurd (clash e (other s w.given (is_same h.attempt s.attempt) refl)));
        }

-- ---- a report that is told and kept no longer

-- what is left of what is to be told, as far as attempts go on waiting for it
pub record Unshelved (c after : CoreData) (a : AttemptId) : Type 0 where
  pub out : All (λ r. is_of a r ≡ false → r.is_out ≡ false
      → is_shelved after.shelf r.hand_out.attempt ≡ true) after.running
  pub each : All (IsShelvedWell after) after.shelf
  pub rising : AllPairs (λ s t. s.key < t.key) after.shelf

alike_each :
    (c after : CoreData) → after.dag ≡ c.dag → after.committers ≡ c.committers
    → after.running ≡ c.running → after.next_key ≡ c.next_key → (s : Shelved)
    → IsShelvedWell c s → IsShelvedWell after s
alike_each c after dag committers running next_key s w =
    record {
      below = rw next_key w.below;
      given = rw dag w.given;
      runs = subst (λ rs. All (λ r. is_of s.attempt r ≡ true → AwaitsTelling after s r) rs)
          (sym running) (All-weaker (λ r. is_of s.attempt r ≡ true → AwaitsTelling c s r)
          (λ r. is_of s.attempt r ≡ true → AwaitsTelling after s r) waits c.running w.runs);
    }
  where
    waits : (r : Running) → (is_of s.attempt r ≡ true → AwaitsTelling c s r)
        → is_of s.attempt r ≡ true → AwaitsTelling after s r
    waits r h e =
        record {
          is_in = (h e).is_in;
          fit = fits_still c after r s.outcome (ap (λ (d : DagData). d.stages) dag)
              (ap is_save committers) (h e).fit;
        }

-- the running attempt of a report waits for it
pub awaits_it :
    (c : CoreData) (s : Shelved) (r : Running) → IsShelvedWell c s
    → running_of c s.attempt ≡ Some r → AwaitsTelling c s r
awaits_it c s r w e =
    found_is (λ q. is_of s.attempt q ≡ true → AwaitsTelling c s q) (is_of s.attempt) c.running r
    w.runs e (found_passes (is_of s.attempt) c.running r e)

pub unshelved :
    (c : CoreData) (key : ℕ) (s : Shelved) → IsSoundShelf c → shelved_of c key ≡ Some s
    → Unshelved c (without_shelved c key) s.attempt
unshelved c key s shelf found =
    record {
      out = All-weaker (λ r. r.is_out ≡ false → is_shelved c.shelf r.hand_out.attempt ≡ true)
          (λ r. is_of s.attempt r ≡ false → r.is_out ≡ false
          → is_shelved after.shelf r.hand_out.attempt ≡ true)
          (λ r h other is_in.
          shelved_beside c.shelf key s r.hand_out.attempt shelf.rising found
          (same_sym s.attempt r.hand_out.attempt ∙ other) (h is_in))
          c.running shelf.out;
      each = All-weaker (IsShelvedWell c) (IsShelvedWell after)
          (alike_each c after refl refl refl refl) after.shelf
          (All-filter (λ x. not (has_key key x)) (IsShelvedWell c) c.shelf shelf.each);
      rising = AllPairs-filter (λ x y. x.key < y.key) (λ x. not (has_key key x)) c.shelf
          shelf.rising;
    }
  where
    after : CoreData
    after = without_shelved c key

-- where its attempt runs no more, all others wait still
pub unshelved_told :
    (c after : CoreData) (a : AttemptId) → Unshelved c after a → running_of after a ≡ None
    → IsSoundShelf (told_once after)
unshelved_told c after a u none =
    record {
      out = both after.running u.out (none_passes (is_of a) after.running none);
      each = All-weaker (IsShelvedWell after) (IsShelvedWell (told_once after))
          (alike_each after (told_once after) refl refl refl refl) after.shelf u.each;
      rising = u.rising;
    }
  where
    Waits : Running → Type 0
    Waits r = r.is_out ≡ false → is_shelved after.shelf r.hand_out.attempt ≡ true

    both : (rs : List Running) → All (λ r. is_of a r ≡ false → Waits r) rs
        → All (λ r. is_of a r ≡ false) rs → All Waits rs
    both rs all others = λ i d l. all i d l (others i d l)

-- ---- all else

-- a core that differs in what else was counted
pub alike_shelf :
    (c after : CoreData) → after.dag ≡ c.dag → after.committers ≡ c.committers
    → after.running ≡ c.running → after.next_key ≡ c.next_key → after.shelf ≡ c.shelf
    → IsSoundShelf c → IsSoundShelf after
alike_shelf c after dag committers running next_key shelf sound =
    record {
      out = rw (running, shelf) sound.out;
      each = subst (λ ss. All (IsShelvedWell after) ss) (sym shelf)
          (All-weaker (IsShelvedWell c) (IsShelvedWell after)
          (alike_each c after dag committers running next_key) c.shelf sound.each);
      rising = rw shelf sound.rising;
    }

-- attempts that aren't out any more run as before
pub shelved_job :
    (c : CoreData) (a : AttemptId) (outcome : Outcome) (delay : ℕ) → IsSoundJob c
    → IsSoundJob (shelved c a outcome delay)
shelved_job c a outcome delay sound =
    record {
      dag = sound.dag;
      result = sound.result;
      maps = sound.maps;
      running = All-map (RunsWell after) (as_in a) c.running
          (All-weaker (RunsWell c) (λ r. RunsWell after (as_in a r)) runs c.running sound.running);
      known = λ b exec h. known b exec h;
      placed = sound.placed;
      apart = pairs c.running sound.apart;
      budget = sound.budget;
      goes_on = λ r. record {
        settled = (sound.goes_on r).settled;
        result = (sound.goes_on r).result;
      };
      done = sound.done;
    }
  where
    after : CoreData
    after = shelved c a outcome delay

    runs : (r : Running) → RunsWell c r → RunsWell after (as_in a r)
    runs r w = by (is_of a r)
      where
        by : (x : Bool) → RunsWell after (if x then record r { is_out = false } else r)
        by true =
            record {
              in_set = w.in_set;
              there = w.there;
              live = w.live;
              handed_out = w.handed_out;
            }
        by false =
            record {
              in_set = w.in_set;
              there = w.there;
              live = w.live;
              handed_out = w.handed_out;
            }

    known : (b : AttemptId) (exec : ℕ) → runner_of c.dag b ≡ Some exec
        → find (is_of b) (map (as_in a) c.running) ≢ None
    known b exec h =
        rw (find_in a b c.running) (by (find (is_of b) c.running) (sound.known b exec h))
      where
        by : (o : Option Running) → o ≢ None → option_map (as_in a) o ≢ None
        by None some = λ n. some refl
        by (Some r) some = λ n. search (rules, n)

    two : (q r : Running) → AreTwo q r → AreTwo (as_in a q) (as_in a r)
    two q r t = by (is_of a q) (is_of a r)
      where
        by : (x y : Bool)
            → AreTwo (if x then record q { is_out = false } else q)
            (if y then record r { is_out = false } else r)
        by true true =
            record { attempts = t.attempts; execs = λ f g. absurd (true≢false (sym f)) }
        by true false =
            record { attempts = t.attempts; execs = λ f g. absurd (true≢false (sym f)) }
        by false true =
            record { attempts = t.attempts; execs = λ f g. absurd (true≢false (sym g)) }
        by false false = t

    one : (q : Running) (rs : List Running) → All (AreTwo q) rs
        → All (AreTwo (as_in a q)) (map (as_in a) rs)
    one q rs all =
        All-map (AreTwo (as_in a q)) (as_in a) rs
        (All-weaker (AreTwo q) (λ r. AreTwo (as_in a q) (as_in a r)) (λ r t. two q r t) rs all)

    pairs : (rs : List Running) → AllPairs AreTwo rs → AllPairs AreTwo (map (as_in a) rs)
    pairs [] h = λ i j d lt l. absurd (omega (arith, l))
    pairs (r ∷ rs) h =
        AllPairs-cons AreTwo (as_in a r) (map (as_in a) rs) (one r rs (pairs_head AreTwo r rs h))
        (pairs rs (pairs_tail AreTwo r rs h))
