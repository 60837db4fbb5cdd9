-- A task that is handed out runs then, and what ran before runs on.
use Rattle.std.proofs.Common.{◌+◌, ◌≡◌, ◌<◌, ◌==◌, inl, inr, ℕ, ◌-◌, ◌&&◌, ◌||◌, not, All, Bool, true, false, List, [], ◌∷◌, length, Option, Some, None, option_map, slice_get, refl, ap, sym, subst, ◌∙◌, arith, rules, true≢false}
use Rattle.std.proofs.lemmas.Bool.Decides.{nat_tests}
use Rattle.std.proofs.lemmas.List.Elements.{All-head, All-tail}
use Rattle.sc_ids.specs.Changes.{change_at}
use Rattle.sc_ids.specs.declared.attempts.AttemptId.{AttemptId}
use Rattle.sc_commit.specs.Committing.{is_same}
use Rattle.sc_taskset.specs.Lookups.{copy_at, is_task_of, is_there_and, task_at}
use Rattle.sc_taskset.specs.declared.tasks.RunningCopy as taskset
use Rattle.sc_taskset.specs.Offers.{IsNext, given_in, handed, is_copyable_task, is_slow, is_pending, is_pending_task, may_be_given}
use Rattle.sc_taskset.specs.Sound.{IsSoundTask}
use Rattle.sc_taskset.specs.TaskSetData.{TaskData, TaskSetData}
use Rattle.sc_taskset.proofs.FindLemmas.{found_is}
use Rattle.sc_dag.specs.DagData.{DagData, StageState, attempt_in, changed_newest, newest_at, place_of_attempt, set_in, with_attempts, with_set}
use Rattle.sc_dag.specs.Offers.{IsOffer, OffersIn, given_of, handed_out, may_be_given_in, newest_number, number_in}
use Rattle.sc_dag.specs.Sound.{IsSoundDag, runner_among, runner_in, runner_of}
use Rattle.sc_dag.specs.declared.attempts.StageAttempt.{StageAttempt}
use Rattle.sc_dag.proofs.Moving.{newest_among}
use Rattle.sc_dag.proofs.Runners.{place_newest}
use Rattle.sc_dag.proofs.Stuck.{newest_holds}
use Rattle.sc_core.proofs.LookupLemmas.{set_of_newest}
use Rattle.sc_core.proofs.MoveLemmas.{Moves, state_moves}
use Rattle.sc_core.proofs.SetLemmas.{MovesIn, is_copy_of}
use Rattle.sc_core.proofs.SetCallLemmas.{handed_moves}
use Rattle.sc_core.proofs.StateLemmas.{MovesOf, attempt_moves, is_number_of}

-- the task that is offered: one of the newest set of its stage, under its next number
pub record IsOffered (d : DagData) (exec now : ℕ) (a : AttemptId) : Type 0 where
  pub set : TaskSetData
  pub newest : newest_at d a.stage ≡ Some set
  pub task : TaskData
  pub is_task : task_at a.partition set.tasks ≡ Some task
  pub nth : a.nth ≡ task.given
  pub may : may_be_given set exec now a.partition ≡ true
  pub sound : IsSoundTask task

-- what may be given is a task
given_there : (set : TaskSetData) (exec now p : ℕ) → may_be_given set exec now p ≡ true
    → (t : TaskData) × (task_at p set.tasks ≡ Some t)
given_there set exec now p may = by (task_at p set.tasks) refl may
  where
    and_no : (b : Bool) → (b && false) ≡ false
    and_no true = refl
    and_no false = refl

    by : (o : Option TaskData) → task_at p set.tasks ≡ o
        → ((not set.is_zombie && is_there_and is_pending_task o)
        || (set.limits.speculation
        && (not set.is_zombie && is_there_and (is_copyable_task (is_slow set now) exec) o))) ≡ true
        → (t : TaskData) × (task_at p set.tasks ≡ Some t)
    by None e m = absurd (true≢false (sym m ∙ none set.is_zombie set.limits.speculation))
      where
        none : (z s : Bool) → ((not z && false) || (s && (not z && false))) ≡ false
        none true true = refl
        none true false = refl
        none false true = refl
        none false false = refl
    by (Some t) e m = (t, e)

pub offered : (d : DagData) (exec now : ℕ) (a : AttemptId) → IsSoundDag d → IsOffer d exec now a
    → IsOffered d exec now a
offered d exec now a sound offer = by (newest_at d a.stage) refl offer.offered
  where
    next : (set : TaskSetData) → IsNext set exec now a.partition
        → may_be_given set exec now a.partition ≡ true
    next set (inl s) = rw s.passes refl
    next set (inr (never, s)) = rw s.passes (or_true (is_pending set a.partition))
      where
        or_true : (b : Bool) → (b || true) ≡ true
        or_true true = refl
        or_true false = refl

    by : (o : Option TaskSetData) → newest_at d a.stage ≡ o
        → OffersIn o exec now (Some (given_of a)) → IsOffered d exec now a
    by None e h = absurd h
    by (Some set) e h =
        let may = next set h.0 in
        let t = given_there set exec now a.partition may in
        record {
          set = set;
          newest = e;
          task = t.0;
          is_task = t.1;
          nth = h.1 ∙ ap given_in t.1;
          may = may;
          sound = found_is IsSoundTask (is_task_of a.partition) set.tasks t.0
              (newest_holds (λ s. All IsSoundTask s.tasks) (slice_get d.states a.stage) set
              (λ i x l. ((sound.attempts a.stage i x l).set.sound).tasks) e) t.1;
        }

pub offered_may : (d : DagData) (exec now : ℕ) (a : AttemptId) → IsOffered d exec now a
    → may_be_given_in (newest_at d a.stage) exec now a.partition ≡ true
offered_may d exec now a o = rw o.newest o.may

-- what is handed out
pub handed_out_moves :
    (d : DagData) (exec now : ℕ) (a : AttemptId) → IsOffered d exec now a
    → a.stage_attempt ≡ newest_number d a.stage
    → Moves (is_same a) (Some exec) d (handed_out d a exec now)
handed_out_moves d exec now a o number =
    state_moves d a (Some exec) (changed_newest (λ set. handed set a.partition exec now))
    (λ state e. one state e) (λ e. absurd (search (rules, e, o.newest)))
  where
    change : StageAttempt → StageAttempt
    change = with_set (λ set. handed set a.partition exec now)

    one : (state : StageState) → slice_get d.states a.stage ≡ Some state
        → MovesOf (is_number_of a) (Some exec) (Some state)
        (Some (changed_newest (λ set. handed set a.partition exec now) state))
    one state e =
        subst (λ (i : ℕ). MovesOf (is_number_of a) (Some exec) (Some state)
        (Some (with_attempts state (change_at state.attempts i change)))) place
        (attempt_moves a (Some exec) change state moves (λ n. absurd (none n)))
      where
        place : place_of_attempt state a.stage_attempt ≡ length state.attempts - 1
        place =
            ap (λ (n : ℕ). place_of_attempt state n) (number ∙ ap number_in e)
            ∙ place_newest state (state.before + (length state.attempts - 1)) refl

        is : set_in (attempt_in state a.stage_attempt) ≡ Some o.set
        is =
            ap (λ (i : ℕ). set_in (slice_get state.attempts i)) place
            ∙ sym (ap newest_among e) ∙ o.newest

        none : attempt_in state a.stage_attempt ≡ None → ⊥
        none n = search (rules, n, is)

        moves : (x : StageAttempt) → attempt_in state a.stage_attempt ≡ Some x
            → MovesIn (is_copy_of a) (Some exec) x.set (change x).set
        moves x at =
            let same : x.set ≡ o.set = search (rules, at, is) in
            subst (λ s. MovesIn (is_copy_of a) (Some exec) s (handed s a.partition exec now))
            (sym same)
            (handed_moves o.set a o.task exec now o.is_task o.nth o.sound.handed_out)

-- ---- what is offered is new

-- an attempt that runs has another number than the one that comes next
runs_below :
    (nth : ℕ) (copies : List taskset.RunningCopy) → All (λ c. c.nth < nth) copies
    → copy_at nth copies ≡ None
runs_below nth [] all = refl
runs_below nth (c ∷ copies) all =
    let lt : c.nth < nth = All-head (λ d. d.nth < nth) c copies all in
    let other : (c.nth == nth) ≡ false = grind (arith, nat_tests, lt) in
    rw other (runs_below nth copies (All-tail (λ d. d.nth < nth) c copies all))

-- what is offered doesn't run yet
pub offered_new :
    (d : DagData) (exec now : ℕ) (a : AttemptId) → IsOffered d exec now a
    → a.stage_attempt ≡ newest_number d a.stage → runner_of d a ≡ None
offered_new d exec now a o number =
    ap (λ s. runner_in s a) (set_of_newest d a number ∙ o.newest)
    ∙ ap (λ t. runner_among t a.nth) o.is_task
    ∙ ap (λ c. exec_of c)
    (ap (λ (n : ℕ). copy_at n o.task.copies) o.nth
    ∙ runs_below o.task.given o.task.copies o.sound.handed_out)
  where
    exec_of : Option taskset.RunningCopy → Option ℕ
    exec_of x = option_map (λ c. c.exec) x
