-- A job that is aborted for want of executors has lost each of them.
use Rattle.std.proofs.Common.{◌≡◌, inl, inr, ℕ, Bool, true, false, List, [], ◌∷◌, refl, ap, sym, subst, ◌∙◌, rules}
use Rattle.sc_ids.specs.declared.attempts.AttemptId.{AttemptId}
use Rattle.sc_tracker.specs.Trust.{are_lost}
use Rattle.sc_dag.specs.Losses.{after_lost}
use Rattle.sc_dag.proofs.Tests.{both_left}
use Rattle.sc_tracker.specs.TrackerData.{TrackerData}
use Rattle.sc_core.proofs.SideLemmas.{held_tracker}
use Rattle.sc_core.specs.CoreData.{CoreData, job_runs, with_dag}
use Rattle.sc_core.specs.Journals.{Replays}
use Rattle.sc_core.specs.Losses.{Loses, LosesOrAborts, attempts_on, without_executor}
use Rattle.sc_core.specs.Steps.{Steps}
use Rattle.sc_core.specs.Takes.{Takes}
use Rattle.sc_core.specs.declared.answers.Abort.TheVariants as aborts
use Rattle.sc_core.specs.declared.answers.Answer.{Answer}
use Rattle.sc_core.specs.declared.answers.JobState.TheVariants as jobs
use Rattle.sc_core.specs.declared.entries.Entry.{Entry}
use Rattle.sc_core.specs.declared.events.Event.{Event}
use Rattle.sc_core.specs.declared.events.Event.TheVariants.{Post, Release, Side, Take, TellLost}
use Rattle.sc_history.specs.Losses.{NoExecutorsAreShown}
use Rattle.sc_history.proofs.Events.{Comes, all_job, posts_come, releases_come, sides_come}
use Rattle.sc_history.proofs.JobLemmas.{EndsBy, tells_ends}
use Rattle.sc_core.proofs.TakeCases.{TakesSo, takes_so}

-- a job that was aborted for want of executors has none left
abbrev HasLost : CoreData → Type 0
HasLost c = c.job ≡ jobs.Aborted aborts.NoExecutor → are_lost c.dag.tracker.trust ≡ true

-- a job that runs isn't aborted so
not_running : (c : CoreData) → job_runs c ≡ true → c.job ≡ jobs.Aborted aborts.NoExecutor → ⊥
not_running c runs e = search (rules, runs, e)

-- ---- asking

takes_lost : (c after : CoreData) (exec : ℕ) (answer : Answer) → Takes c exec answer after
    → HasLost c → HasLost after
takes_lost c after exec answer h lost = by (takes_so c after exec answer h)
  where
    by : TakesSo c after exec answer → HasLost after
    by (inl t) =
        λ e. absurd (not_running c t.asking.runs (ap (λ (x : CoreData). x.job) (sym t.is) ∙ e))
    by (inr (inl b)) =
        λ e. absurd (let j = ap (λ (x : CoreData). x.job) b.is in search (rules, j, e))
    by (inr (inr same)) = subst (λ x. HasLost x) (sym same.is) lost

-- ---- reports

-- no report aborts a job so, and one that isn't heard leaves every executor as it was
comes_lost : (c after : CoreData) (event : Event) (answer : Answer) → Comes c after event answer
    → HasLost c → HasLost after
comes_lost c after event answer (inl q) lost =
    λ e. ap (λ (t : TrackerData). are_lost t.trust) (held_tracker c.dag after.dag q.dag)
    ∙ lost (sym q.job ∙ e)
comes_lost c after event answer (inr h) lost =
    by (tells_ends h.mid after h.one h.outcome answer h.tells)
  where
    a : AttemptId
    a = h.one.hand_out.attempt

    by : EndsBy h.mid a answer after → HasLost after
    by (inl is) = λ e. absurd (not_running c h.runs (sym (is ∙ h.job) ∙ e))
    by (inr (inl done)) = λ e. absurd (search (rules, done, e))
    by (inr (inr (inl limit))) = λ e. absurd (let j = limit.job in search (rules, j, e))
    by (inr (inr (inr limit))) = λ e. absurd (let j = limit.job in search (rules, j, e))

-- ---- losses

-- a loss aborts the job where it leaves no executor
losses_lost : (c after : CoreData) (exec : ℕ) (answer : Answer) → Loses c exec answer after
    → HasLost after
losses_lost c after exec answer (may, step) = by (are_lost next.dag.tracker.trust) refl step
  where
    next : CoreData
    next = without_executor c exec

    runs : job_runs c ≡ true
    runs = both_left (job_runs c) _ may

    job : next.job ≡ c.job
    job = all_job (attempts_on exec c.running) (with_dag c (after_lost c.dag exec))

    by : (b : Bool) → are_lost next.dag.tracker.trust ≡ b → LosesOrAborts b next answer after
        → HasLost after
    by true all (told, is) =
        λ e. ap (λ (x : CoreData). are_lost x.dag.tracker.trust) is ∙ all
    by false all (told, is) =
        λ e. absurd (not_running c runs (sym job ∙ sym (ap (λ (x : CoreData). x.job) is) ∙ e))

steps_lost : (c after : CoreData) (event : Event) (answer : Answer) → Steps c event answer after
    → HasLost c → HasLost after
steps_lost c after (Take exec) answer step lost = takes_lost c after exec answer step lost
steps_lost c after (Post a outcome) answer step lost =
    comes_lost c after (Post a outcome) answer (posts_come c after a outcome answer step) lost
steps_lost c after (Release key) answer step lost =
    comes_lost c after (Release key) answer (releases_come c after key answer step) lost
steps_lost c after (Side event) answer step lost =
    comes_lost c after (Side event) answer (sides_come c after event answer step) lost
steps_lost c after (TellLost exec) answer step lost = losses_lost c after exec answer step

-- ---- journals

lost_stays : (opening end : CoreData) (entries : List Entry) → Replays opening entries end
    → HasLost opening → HasLost end
lost_stays opening end [] is lost = subst (λ x. HasLost x) (sym is) lost
lost_stays opening end (entry ∷ entries) (mid, step, rest) lost =
    lost_stays mid end entries rest
    (steps_lost opening mid entry.event entry.answer step lost)

pub no_executors_are_shown : NoExecutorsAreShown
no_executors_are_shown graph limits saved plan last opening end entries o sound replays =
    lost_stays opening end entries replays (λ b. absurd (begins b))
  where
    begins : opening.job ≡ jobs.Aborted aborts.NoExecutor → ⊥
    begins b = let j = o.job in search (rules, j, b)
