-- What the loss of an executor does to the attempts that run.
use Rattle.std.proofs.Common.{◌≡◌, ℕ, ◌==◌, not, All, Bool, true, false, cond, if◌then◌else◌, List, [], ◌∷◌, map, Option, Some, None, IfSome, option_map, slice_get, refl, ap, sym, ◌∙◌, arith}
use Rattle.std.proofs.lemmas.Bool.Decides.{nat_tests}
use Rattle.std.proofs.lemmas.List.{length-map}
use Rattle.std.proofs.lemmas.Option.{slice_get-map}
use Rattle.sc_ids.proofs.ChangeLemmas.{at_or_change_other}
use Rattle.sc_ids.specs.declared.attempts.AttemptId.{AttemptId}
use Rattle.sc_taskset.specs.Lookups.{copy_at, is_task_of, task_at, without_exec}
use Rattle.sc_taskset.specs.Reports.{after_loss, lost_task, redoes_lost}
use Rattle.sc_taskset.specs.Sound.{AreApart, IsSoundTask}
use Rattle.sc_taskset.specs.TaskSetData.{TaskData, TaskSetData}
use Rattle.sc_taskset.specs.declared.tasks.RunningCopy.{RunningCopy}
use Rattle.sc_taskset.proofs.FindLemmas.{found_is}
use Rattle.sc_tracker.specs.TrackerData.{trust_of}
use Rattle.sc_tracker.specs.Trust.{is_live, lost_at, untold}
use Rattle.sc_dag.specs.DagData.{DagData, StageState, attempt_in, place_of_attempt, set_in, with_set}
use Rattle.sc_dag.specs.Losses.{after_lost, without_executor}
use Rattle.sc_dag.specs.Outputs.{results_in}
use Rattle.sc_dag.specs.Reports.{set_of}
use Rattle.sc_dag.specs.Sound.{IsSoundDag, runner_among, runner_in, runner_of}
use Rattle.sc_dag.specs.declared.attempts.StageAttempt.{StageAttempt}
use Rattle.sc_core.specs.Sound.{given_among, given_in, was_given}
use Rattle.sc_core.proofs.LookupLemmas.{set_among, set_holds}
use Rattle.sc_core.proofs.MoveLemmas.{Calm, SameResults}
use Rattle.sc_core.proofs.SetLemmas.{exec_in}
use Rattle.sc_core.proofs.ShelfLemmas.{find_mapped}
use Rattle.sc_core.proofs.StateLemmas.{place_kept}

-- where something runs, unless it is there
abbrev pub unless_on : ℕ → Option ℕ → Option ℕ
unless_on exec None = None
unless_on exec (Some on) = if on == exec then None else Some on

-- ---- in a task

one_left : (exec nth : ℕ) (c : RunningCopy)
    → exec_in (copy_at nth (without_exec exec (c ∷ [])))
    ≡ unless_on exec (exec_in (copy_at nth (c ∷ [])))
one_left exec nth c = by (c.exec == exec) (c.nth == nth) refl refl
  where
    by : (x y : Bool) → (c.exec == exec) ≡ x → (c.nth == nth) ≡ y
        → exec_in (copy_at nth (cond (not x) (c ∷ []) []))
        ≡ unless_on exec (exec_in (cond y (Some c) None))
    by true true e f = rw e refl
    by true false e f = refl
    by false true e f = rw (f, e) refl
    by false false e f = rw f refl

copies_left : (exec nth : ℕ) (copies : List RunningCopy) → AreApart copies
    → exec_in (copy_at nth (without_exec exec copies))
    ≡ unless_on exec (exec_in (copy_at nth copies))
copies_left exec nth [] apart = refl
copies_left exec nth (c ∷ []) apart = one_left exec nth c
copies_left exec nth (c ∷ d ∷ []) (nths, execs) =
    by (c.exec == exec) (c.nth == nth) refl refl
  where
    gone : (c.nth == nth) ≡ true → (u v : Bool) → (d.exec == exec) ≡ u → (d.nth == nth) ≡ v
        → exec_in (copy_at nth (cond (not u) (d ∷ []) [])) ≡ None
    gone e u true f g = absurd (grind (arith, nat_tests, e, g, nths))
    gone e true false f g = refl
    gone e false false f g = rw g refl

    by : (x y : Bool) → (c.exec == exec) ≡ x → (c.nth == nth) ≡ y
        → exec_in (copy_at nth (cond (not x) (c ∷ without_exec exec (d ∷ []))
        (without_exec exec (d ∷ []))))
        ≡ unless_on exec (exec_in (cond y (Some c) (copy_at nth (d ∷ []))))
    by true true e f =
        gone f (d.exec == exec) (d.nth == nth) refl refl ∙ sym (there e)
      where
        there : (c.exec == exec) ≡ true → unless_on exec (Some c.exec) ≡ None
        there h = rw h refl
    by true false e f = one_left exec nth d
    by false true e f = rw (f, e) refl
    by false false e f = rw f (one_left exec nth d)
copies_left exec nth (c ∷ d ∷ x ∷ xs) bad = absurd bad

task_left : (exec nth : ℕ) (redoes : Bool) (o : Option TaskData)
    → IfSome o (λ t. AreApart t.copies)
    → runner_among (option_map (lost_task exec redoes) o) nth ≡ unless_on exec (runner_among o nth)
task_left exec nth redoes None apart = refl
task_left exec nth redoes (Some t) apart = copies_left exec nth t.copies apart

-- ---- in a set

lost_task_at : (set : TaskSetData) (exec p : ℕ)
    → task_at p (after_loss set exec).tasks
    ≡ option_map (lost_task exec (redoes_lost set)) (task_at p set.tasks)
lost_task_at set exec p =
    find_mapped (is_task_of p) (lost_task exec (redoes_lost set)) (λ t. refl) set.tasks

set_left : (exec : ℕ) (b : AttemptId) (set : TaskSetData) → All IsSoundTask set.tasks
    → runner_in (Some (after_loss set exec)) b ≡ unless_on exec (runner_in (Some set) b)
set_left exec b set sound =
    ap (λ o. runner_among o b.nth) (lost_task_at set exec b.partition)
    ∙ task_left exec b.nth (redoes_lost set) (task_at b.partition set.tasks)
    (by (task_at b.partition set.tasks) refl)
  where
    by : (o : Option TaskData) → task_at b.partition set.tasks ≡ o
        → IfSome o (λ t. AreApart t.copies)
    by None e = tt
    by (Some t) e =
        (found_is IsSoundTask (is_task_of b.partition) set.tasks t sound e).apart

given_left : (exec : ℕ) (b : AttemptId) (o : Option TaskSetData)
    → given_in (option_map (λ set. after_loss set exec) o) b ≡ given_in o b
given_left exec b None = refl
given_left exec b (Some set) =
    ap (λ t. given_among t b.nth) (lost_task_at set exec b.partition)
    ∙ one (task_at b.partition set.tasks)
  where
    one : (o : Option TaskData)
        → given_among (option_map (lost_task exec (redoes_lost set)) o) b.nth
        ≡ given_among o b.nth
    one None = refl
    one (Some t) = refl

-- ---- in the stages

pub lost_set : (d : DagData) (exec : ℕ) (b : AttemptId)
    → set_of (after_lost d exec) b ≡ option_map (λ set. after_loss set exec) (set_of d b)
lost_set d exec b =
    ap (λ o. set_among o b.stage_attempt) (slice_get-map (without_executor exec) d.states b.stage)
    ∙ by (slice_get d.states b.stage)
  where
    lose : StageAttempt → StageAttempt
    lose = with_set (λ set. after_loss set exec)

    one : (o : Option StageAttempt)
        → set_in (option_map lose o) ≡ option_map (λ set. after_loss set exec) (set_in o)
    one None = refl
    one (Some a) = refl

    by : (o : Option StageState)
        → set_among (option_map (without_executor exec) o) b.stage_attempt
        ≡ option_map (λ set. after_loss set exec) (set_among o b.stage_attempt)
    by None = refl
    by (Some state) =
        ap (λ (i : ℕ). set_in (slice_get (map lose state.attempts) i))
        (place_kept state (without_executor exec state) b.stage_attempt refl
        (length-map state.attempts lose))
        ∙ ap set_in (slice_get-map lose state.attempts (place_of_attempt state b.stage_attempt))
        ∙ one (attempt_in state b.stage_attempt)

-- What a loss leaves as it is, and which attempts run then: those elsewhere.
pub record Loses (exec : ℕ) (d after : DagData) : Type 0 where
  pub stages : after.stages ≡ d.stages
  pub limits : after.limits ≡ d.limits
  pub lost : (e : ℕ) → (e == exec) ≡ false
      → (trust_of after.tracker e).lost ≡ (trust_of d.tracker e).lost
  pub runners : (b : AttemptId) → runner_of after b ≡ unless_on exec (runner_of d b)
  pub given : (b : AttemptId) → was_given d b ≡ true → was_given after b ≡ true

-- a calm change behind it
pub loses_then : (exec : ℕ) (c d e : DagData) → Loses exec c d → Calm d e → Loses exec c e
loses_then exec c d e h k =
    record {
      stages = k.stages ∙ h.stages;
      limits = k.limits ∙ h.limits;
      lost = λ x other. k.lost x ∙ h.lost x other;
      runners = λ b. k.runners b ∙ h.runners b;
      given = λ b g. k.given b (h.given b g);
    }

pub lost_loses : (d : DagData) (exec : ℕ) → IsSoundDag d → Loses exec d (after_lost d exec)
lost_loses d exec sound =
    record {
      stages = refl;
      limits = refl;
      lost = λ e other. lost e other (is_live (slice_get d.tracker.trust exec)) refl;
      runners = λ b. ap (λ o. runner_in o b) (lost_set d exec b) ∙ runs b (set_of d b) refl;
      given = λ b g. ap (λ o. given_in o b) (lost_set d exec b)
          ∙ given_left exec b (set_of d b) ∙ g;
    }
  where
    lost : (e : ℕ) → (e == exec) ≡ false → (x : Bool)
        → is_live (slice_get d.tracker.trust exec) ≡ x
        → (trust_of (after_lost d exec).tracker e).lost ≡ (trust_of d.tracker e).lost
    lost e other true h =
        rw h (ap (λ t. t.lost)
        (at_or_change_other d.tracker.trust exec e untold (lost_at d.tracker.epoch)
        (λ is. grind (arith, nat_tests, other, is))))
    lost e other false h = rw h refl

    runs : (b : AttemptId) (o : Option TaskSetData) → set_of d b ≡ o
        → runner_in (option_map (λ set. after_loss set exec) o) b
        ≡ unless_on exec (runner_in o b)
    runs b None e = refl
    runs b (Some set) e =
        set_left exec b set
        (set_holds (λ s. All IsSoundTask s.tasks) (slice_get d.states b.stage) b.stage_attempt set
        (λ i x l. (sound.attempts b.stage i x l).set.sound.tasks) e)

-- no result goes with it
pub lost_results : (d : DagData) (exec : ℕ) → SameResults d (after_lost d exec)
lost_results d exec s =
    ap results_in (slice_get-map (without_executor exec) d.states s)
    ∙ kept (slice_get d.states s)
  where
    kept : (o : Option StageState)
        → results_in (option_map (without_executor exec) o) ≡ results_in o
    kept None = refl
    kept (Some state) = refl
