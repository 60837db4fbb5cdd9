-- What events leave of what may free a partition, where they free none.
use Rattle.std.proofs.Common.{◌≡◌, ◌⊎◌, inl, inr, ℕ, ◌+◌, ◌<◌, ◌≤◌, not, Bool, true, false, cond, if◌then◌else◌, List, [], ◌∷◌, length, Option, Some, None, count_by, is_some, slice_get, refl, ap, sym, subst, ◌∙◌, arith, true≢false}
use Rattle.std.specs.List.{filter}
use Rattle.std.proofs.lemmas.Bool.{cases_eq}
use Rattle.std.proofs.lemmas.Bool.Decides.{nat_tests}
use Rattle.std.proofs.lemmas.List.Sums.{sum_by-append}
use Rattle.sc_ids.specs.declared.attempts.AttemptId.{AttemptId}
use Rattle.sc_ids.specs.declared.blocks.Loc.{Loc}
use Rattle.sc_taskset.specs.TaskSetData.{TaskSetData}
use Rattle.sc_tracker.specs.Trust.{are_lost}
use Rattle.sc_dag.specs.DagData.{DagData, StageState, attempt_in, set_in}
use Rattle.sc_dag.specs.Offers.{newest_number}
use Rattle.sc_dag.specs.declared.attempts.StageAttempt.{StageAttempt}
use Rattle.sc_core.specs.CoreData.{CoreData, is_of, is_running_job, job_runs, running_of}
use Rattle.sc_core.specs.HandOuts.{HandOutData}
use Rattle.sc_core.specs.Losses.{Loses, LosesOrAborts, runs_on, without_executor}
use Rattle.sc_core.specs.Sides.{StepsAside}
use Rattle.sc_core.specs.Sound.{IsSoundCore}
use Rattle.sc_core.specs.Takes.{Takes, running_on, with_task}
use Rattle.sc_core.specs.Tells.{TellsMap, TellsResult}
use Rattle.sc_core.specs.declared.answers.Answer.{Answer}
use Rattle.sc_core.specs.declared.events.Event.{Event}
use Rattle.sc_core.specs.declared.events.SideEvent.{SideEvent}
use Rattle.sc_core.specs.declared.running.Running.{Running}
use Rattle.sc_core.proofs.LeftLemmas.{tells_left}
use Rattle.sc_core.proofs.SideLemmas.{steps_aside}
use Rattle.sc_core.proofs.TakeCases.{GivesTask, TakesSo, takes_so}
use Rattle.sc_history.proofs.Events.{losses_come}
use Rattle.sc_history.proofs.Growing.{attempt_among}
use Rattle.sc_history.proofs.GrowingCalls.{Grows, losses_grow, maps_grow, may_hold_grows, results_grow, takes_grow}
use Rattle.sc_history.proofs.Keeping.{NoFailures, SameFailures, failures_at, failures_calm, failures_in, failures_same}
use Rattle.sc_bound.specs.Numbered.{set_at, set_numbered}
use Rattle.sc_bound.proofs.CountLemmas.{count_fewer, count_map, count_without}
use Rattle.sc_bound.proofs.FailedLemmas.{fails_at, fails_in}
use Rattle.sc_bound.proofs.HearLemmas.{CountsAlike, Hears, Silent, left_of}
use Rattle.sc_bound.proofs.OlderLemmas.{is_older, older_running, runs_older}
use Rattle.sc_bound.proofs.ShutLemmas.{older_dead}

-- ---- failures that count

pub fails_are : (d : DagData) (s k p : ℕ) → fails_at d s k p ≡ length (failures_at d s k p)
fails_are d s k p = by (slice_get d.states s)
  where
    attempt : (o : Option StageAttempt) → fails_in (set_in o) p ≡ length (failures_in o p)
    attempt None = refl
    attempt (Some x) = refl

    by : (o : Option StageState)
        → fails_in (set_numbered o k) p ≡ length (failures_in (attempt_among o k) p)
    by None = refl
    by (Some state) = attempt (attempt_in state k)

-- calls that count none leave as many
pub same_fails : (d after : DagData) (s k p : ℕ) → Grows SameFailures NoFailures d after
    → fails_at after s k p ≡ fails_at d s k p
same_fails d after s k p h =
    fails_are after s k p
    ∙ ap (λ (xs : List ℕ). length xs) (failures_same d after s k p h)
    ∙ sym (fails_are d s k p)

-- ---- events

-- as many failures count, no more attempts of older sets run, and a job that has ended stays so
pub record Keeps (c after : CoreData) (s k p : ℕ) : Type 0 where
  pub older : is_some (set_at c.dag s k) ≡ true
      → older_running after s k p ≤ older_running c s k p
  pub fails : fails_at after.dag s k p ≡ fails_at c.dag s k p
  pub runs : job_runs after ≡ true → job_runs c ≡ true

-- a task that is handed out is of the newest set
pub takes_keep : (c after : CoreData) (exec : ℕ) (answer : Answer) (s k p : ℕ) → IsSoundCore c
    → Takes c exec answer after → Keeps c after s k p
takes_keep c after exec answer s k p sound step =
    record {
      older = λ some. older some (takes_so c after exec answer step);
      fails = same_fails c.dag after.dag s k p
          (takes_grow SameFailures NoFailures c.dag.limits (failures_calm c.dag.limits) c after exec
          answer step);
      runs = λ r. runs r (takes_so c after exec answer step);
    }
  where
    above : (o : Option TaskSetData) → set_at c.dag s k ≡ o → is_some o ≡ true
        → k ≤ newest_number c.dag s
    above None e f = absurd (true≢false (sym f))
    above (Some set) e f = by (cases_eq k (newest_number c.dag s))
      where
        by : (k ≡ newest_number c.dag s) ⊎ (k ≡ newest_number c.dag s → ⊥)
            → k ≤ newest_number c.dag s
        by (inl is) = omega (arith, is)
        by (inr ne) =
            let lt = (older_dead c.dag s k set sound.job.dag e ne).1 in omega (arith, lt)

    new : (g : GivesTask c after exec answer) → is_some (set_at c.dag s k) ≡ true
        → is_older s k p g.task.attempt ≡ false
    new g some = by (is_older s k p g.task.attempt) refl
      where
        by : (b : Bool) → is_older s k p g.task.attempt ≡ b → is_older s k p g.task.attempt ≡ false
        by false e = e
        by true e =
            let stage : g.task.attempt.stage ≡ s = grind (arith, nat_tests, e) in
            let low : g.task.attempt.stage_attempt < k = grind (arith, nat_tests, e) in
            let number = g.out.offer.newest in
            let same = ap (λ (n : ℕ). newest_number c.dag n) stage in
            let le = above (set_at c.dag s k) refl some in
            absurd (omega (arith, low, le, number, same))

    counts : AttemptId → ℕ
    counts a = cond (is_older s k p a) 1 0

    older : is_some (set_at c.dag s k) ≡ true → TakesSo c after exec answer
        → older_running after s k p ≤ older_running c s k p
    older some (inl g) =
        subst (λ (x : CoreData). older_running x s k p ≤ older_running c s k p) (sym g.is) le
      where
        le : older_running (with_task c exec g.task) s k p ≤ older_running c s k p
        le =
            let all = sum_by-append (λ (r : Running). counts r.hand_out.attempt) c.running
            (running_on g.task exec ∷ []) in
            let none : counts g.task.attempt ≡ 0 = ap (λ b. cond b 1 0) (new g some) in
            omega (arith, all, none)
    older some (inr (inl b)) =
        subst (λ (x : CoreData). older_running x s k p ≤ older_running c s k p) (sym b.is)
        (omega arith)
    older some (inr (inr q)) =
        subst (λ (x : CoreData). older_running x s k p ≤ older_running c s k p) (sym q.is)
        (omega arith)

    runs : job_runs after ≡ true → TakesSo c after exec answer → job_runs c ≡ true
    runs r (inl g) = g.asking.runs
    runs r (inr (inl b)) = b.asking.runs
    runs r (inr (inr q)) = ap (λ (x : CoreData). job_runs x) (sym q.is) ∙ r

-- what happens beside the reports
pub sides_keep : (c after : CoreData) (event : SideEvent) (answer : Answer) (s k p : ℕ)
    → StepsAside c event answer after → Keeps c after s k p
sides_keep c after event answer s k p step =
    let is = steps_aside c after event answer step in
    record {
      older = λ some. (let same : older_running after s k p ≡ older_running c s k p =
          ap (λ (rs : List Running). count_by (runs_older s k p) rs) is.running
          ∙ count_map (runs_older s k p) is.further c.running
          (λ r. ap (λ (h : HandOutData). is_older s k p h.attempt) (is.each r).hand_out) in
          omega (arith, same));
      fails = same_fails c.dag after.dag s k p
          (may_hold_grows SameFailures NoFailures c.dag.limits (failures_calm c.dag.limits) c.dag
          after.dag is.dag);
      runs = λ r. ap is_running_job (sym is.job) ∙ r;
    }

-- a loss
pub losses_keep : (c after : CoreData) (exec : ℕ) (answer : Answer) (s k p : ℕ)
    → Loses c exec answer after → Keeps c after s k p
losses_keep c after exec answer s k p (may, step) =
    record {
      older = λ some. by (are_lost (without_executor c exec).dag.tracker.trust) step;
      fails = same_fails c.dag after.dag s k p
          (losses_grow SameFailures NoFailures c.dag.limits (failures_calm c.dag.limits) c after
          exec answer (may, step));
      runs = λ r. (losses_come c after exec answer (may, step)).runs;
    }
  where
    left : count_by (runs_older s k p) (filter (λ r. not (runs_on exec r)) c.running)
        ≤ older_running c s k p
    left = count_fewer (runs_older s k p) (λ r. not (runs_on exec r)) c.running

    by : (b : Bool) → LosesOrAborts b (without_executor c exec) answer after
        → older_running after s k p ≤ older_running c s k p
    by true (told, is) =
        subst (λ (x : CoreData). older_running x s k p ≤ older_running c s k p) (sym is) left
    by false (told, is) =
        subst (λ (x : CoreData). older_running x s k p ≤ older_running c s k p) (sym is) left

-- ---- reports

-- an attempt of an older set stays one that isn't out any more
older_alike : (s k p : ℕ) → CountsAlike (runs_older s k p)
older_alike s k p a r = by (is_of a r)
  where
    by : (b : Bool)
        → runs_older s k p (if b then record r { is_out = false } else r) ≡ runs_older s k p r
    by true = refl
    by false = refl

-- one that isn't told
pub silence_keeps : (c after : CoreData) (answer : Answer) (s k p : ℕ) → Silent c after answer
    → Keeps c after s k p
silence_keeps c after answer s k p q =
    record {
      older = λ some. (let same = q.count (runs_older s k p) (older_alike s k p) in
          omega (arith, same));
      fails = ap (λ (d : DagData). fails_at d s k p) q.dag;
      runs = λ r. ap is_running_job (sym q.job) ∙ r;
    }

module _ (c after : CoreData) (event : Event) (answer : Answer) (h : Hears c after event answer)
    (s k p : ℕ) where
  -- what runs then
  left : older_running after s k p
      ≡ count_by (runs_older s k p) (left_of h.one.hand_out.attempt c)
  left =
      ap (λ (rs : List Running). count_by (runs_older s k p) rs)
      (tells_left h.mid after h.one h.outcome answer h.tells).running
      ∙ h.count (runs_older s k p) (older_alike s k p)

  pub heard_older : older_running after s k p ≤ older_running c s k p
  heard_older =
      let same = left in
      let few = count_fewer (runs_older s k p) (λ r. not (is_of h.one.hand_out.attempt r))
      c.running in
      omega (arith, same, few)

  -- one of an attempt of an older set leaves one less of these
  pub heard_one : is_older s k p h.one.hand_out.attempt ≡ true
      → older_running after s k p + 1 ≤ older_running c s k p
  heard_one e =
      let hand : h.known.ran.hand_out.attempt ≡ h.one.hand_out.attempt =
      ap (λ (x : HandOutData). x.attempt) h.known.hand in
      let found = ap (λ a. running_of c a) (sym hand) ∙ h.known.found in
      let few = count_without (runs_older s k p) (is_of h.one.hand_out.attempt) c.running
      h.known.ran found (ap (is_older s k p) hand ∙ e) in
      let same = left in
      omega (arith, same, few)

  -- that of a success
  pub success_keeps : Grows SameFailures NoFailures h.mid.dag after.dag → Keeps c after s k p
  success_keeps grows =
      record {
        older = λ some. heard_older;
        fails = same_fails h.mid.dag after.dag s k p grows
            ∙ ap (λ (d : DagData). fails_at d s k p) h.dag;
        runs = λ r. h.runs;
      }

  pub map_keeps : (loc : Loc) → TellsMap h.mid h.one loc answer after → Keeps c after s k p
  map_keeps loc tells =
      success_keeps (maps_grow SameFailures NoFailures h.mid.dag.limits
      (failures_calm h.mid.dag.limits) h.mid after h.one loc answer refl tells)

  pub result_keeps : TellsResult h.mid h.one answer after → Keeps c after s k p
  result_keeps tells =
      success_keeps (results_grow SameFailures NoFailures h.mid.dag.limits
      (failures_calm h.mid.dag.limits) h.mid after h.one answer tells)
