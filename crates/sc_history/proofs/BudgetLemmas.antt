-- A core counts what it hands out, and never hands out more than it may.
use Rattle.std.proofs.Common.{◌≡◌, ◌⊎◌, inl, inr, ℕ, ◌+◌, ◌≤◌, Bool, true, false, cond, List, [], ◌∷◌, Option, refl, ap, sym, subst, ◌∙◌, arith, rules}
use Rattle.std.proofs.lemmas.List.Sums.{sum_by-cons}
use Rattle.sc_ids.specs.Graphs.{StageData}
use Rattle.sc_ids.specs.declared.attempts.AttemptId.{AttemptId}
use Rattle.sc_commit.specs.declared.committers.Ending.TheVariants as endings
use Rattle.sc_ids.specs.declared.limits.Limits.{Limits}
use Rattle.sc_plan.specs.declared.lines.PlanLine.{PlanLine}
use Rattle.sc_dag.specs.DagData.{DagData}
use Rattle.sc_dag.specs.Losses.{after_lost}
use Rattle.sc_dag.specs.Submission.{IsSubmitted, this_stage}
use Rattle.sc_core.proofs.SideLemmas.{held_limits}
use Rattle.sc_core.specs.CoreData.{CoreData, job_runs, result_stage, with_dag}
use Rattle.sc_core.specs.Journals.{Replays}
use Rattle.sc_core.specs.Openings.{IsOpening}
use Rattle.sc_core.specs.Losses.{Loses, all_released, attempts_on}
use Rattle.sc_core.specs.Steps.{Steps}
use Rattle.sc_core.specs.Takes.{Takes}
use Rattle.sc_core.specs.Tells.{released}
use Rattle.sc_core.specs.declared.answers.Abort.TheVariants as aborts
use Rattle.sc_core.specs.declared.answers.Answer.{Answer}
use Rattle.sc_core.specs.declared.answers.JobState.TheVariants as jobs
use Rattle.sc_core.specs.declared.entries.Entry.{Entry}
use Rattle.sc_core.specs.declared.events.Event.{Event}
use Rattle.sc_core.specs.declared.events.Event.TheVariants.{Post, Release, Side, Take, TellLost}
use Rattle.sc_core.proofs.LeftLemmas.{Left, released_left, tells_left}
use Rattle.sc_history.specs.Budgets.{BudgetsAreShown, HandOutsAreCounted, LimitsStay, gives_task, is_hand_out}
use Rattle.sc_history.proofs.Events.{Comes, IsLoss, losses_come, posts_come, releases_come, sides_come}
use Rattle.sc_history.proofs.JobLemmas.{EndsBy, tells_ends}
use Rattle.sc_core.specs.Owners.{has_task}
use Rattle.sc_core.proofs.TakeCases.{TakesSo, takes_so}

-- a job that was aborted by its budget has handed out all that it may
abbrev IsSpent : CoreData → Type 0
IsSpent c = c.job ≡ jobs.Aborted aborts.Budget → c.dag.limits.hand_outs ≤ c.handed

-- What an event does to the count of tasks.
record Counts (c after : CoreData) (gives : Bool) : Type 0 where
  handed : after.handed ≡ c.handed + cond gives 1 0
  limits : after.dag.limits ≡ c.dag.limits
  within : c.handed ≤ c.dag.limits.hand_outs → after.handed ≤ after.dag.limits.hand_outs
  spent : IsSpent c → IsSpent after

unchanged : (c after : CoreData) → after ≡ c → Counts c after false
unchanged c after is =
    subst (λ x. Counts c x false) (sym is)
    (record { handed = omega arith; limits = refl; within = λ h. h; spent = λ h. h })

-- ---- asking

takes_count : (c after : CoreData) (exec : ℕ) (answer : Answer) → Takes c exec answer after
    → Counts c after (gives_task (Take exec) answer)
takes_count c after exec answer h = by (takes_so c after exec answer h)
  where
    running : job_runs c ≡ true → c.job ≡ jobs.Aborted aborts.Budget → ⊥
    running runs e = search (rules, runs, e)

    gives : (b : Bool) → has_task answer ≡ b → Counts c after b → Counts c after (has_task answer)
    gives b e counts = subst (Counts c after) (sym e) counts

    by : TakesSo c after exec answer → Counts c after (has_task answer)
    by (inl t) =
        gives true (ap has_task t.told)
        (subst (λ x. Counts c x true) (sym t.is)
        (record {
          handed = refl;
          limits = refl;
          within = λ le. (let below = t.below in omega (arith, below));
          spent = λ spent e. absurd (running t.asking.runs e);
        }))
    by (inr (inl b)) =
        gives false (ap has_task b.told)
        (subst (λ x. Counts c x false) (sym b.is)
        (record {
          handed = omega arith;
          limits = refl;
          within = λ h. h;
          spent = λ spent e. b.most;
        }))
    by (inr (inr same)) = gives false same.plain (unchanged c after same.is)

-- ---- reports

comes_count : (c after : CoreData) (event : Event) (answer : Answer) → Comes c after event answer
    → Counts c after false
comes_count c after event answer (inl q) =
    record {
      handed = (let same = q.handed in omega (arith, same));
      limits = held_limits c.dag after.dag q.dag;
      within = λ h. rw (q.handed, held_limits c.dag after.dag q.dag) h;
      spent = λ spent e. rw (q.handed, held_limits c.dag after.dag q.dag)
          (spent (sym q.job ∙ e));
    }
comes_count c after event answer (inr h) =
    record {
      handed = (let a = left.handed in let b = h.handed in omega (arith, a, b));
      limits = left.limits ∙ ap (λ (d : DagData). d.limits) h.dag;
      within = λ w. rw (left.handed, left.limits, h.handed, h.dag) w;
      spent = ended (tells_ends h.mid after h.one h.outcome answer h.tells);
    }
  where
    left : Left h.mid after
    left = tells_left h.mid after h.one h.outcome answer h.tells

    ended : EndsBy h.mid h.one.hand_out.attempt answer after → IsSpent c → IsSpent after
    ended (inl same) spent e =
        absurd (let runs = h.runs in let mid = h.job in search (rules, runs, same, mid, e))
    ended (inr (inl done)) spent e = absurd (search (rules, done, e))
    ended (inr (inr (inl limit))) spent e =
        absurd (let j = limit.job in search (rules, j, e))
    ended (inr (inr (inr limit))) spent e =
        absurd (let j = limit.job in search (rules, j, e))

-- ---- losses

all_limits : (these : List AttemptId) (c : CoreData)
    → (all_released these c).dag.limits ≡ c.dag.limits
all_limits [] c = refl
all_limits (a ∷ these) c =
    all_limits these (released c a endings.Failed)
    ∙ (released_left c a endings.Failed).limits

losses_count : (c after : CoreData) (exec : ℕ) (answer : Answer) → Loses c exec answer after
    → Counts c after false
losses_count c after exec answer step =
    record {
      handed = (let same = is.handed in omega (arith, same));
      limits = limits;
      within = λ h. rw (is.handed, limits) h;
      spent = λ spent e. absurd (by is.job e);
    }
  where
    is : IsLoss c after exec answer
    is = losses_come c after exec answer step

    limits : after.dag.limits ≡ c.dag.limits
    limits =
        ap (λ (d : DagData). d.limits) is.dag
        ∙ all_limits (attempts_on exec c.running) (with_dag c (after_lost c.dag exec))

    by : (after.job ≡ c.job) ⊎ (after.job ≡ jobs.Aborted aborts.NoExecutor)
        → after.job ≡ jobs.Aborted aborts.Budget → ⊥
    by (inl same) e = let runs = is.runs in search (rules, runs, same, e)
    by (inr none) e = search (rules, none, e)

steps_count : (c after : CoreData) (event : Event) (answer : Answer) → Steps c event answer after
    → Counts c after (gives_task event answer)
steps_count c after (Take exec) answer step = takes_count c after exec answer step
steps_count c after (Post a outcome) answer step =
    comes_count c after (Post a outcome) answer (posts_come c after a outcome answer step)
steps_count c after (Release key) answer step =
    comes_count c after (Release key) answer (releases_come c after key answer step)
steps_count c after (Side event) answer step =
    comes_count c after (Side event) answer (sides_come c after event answer step)
steps_count c after (TellLost exec) answer step = losses_count c after exec answer step

-- ---- journals

pub hand_outs_are_counted : HandOutsAreCounted
hand_outs_are_counted opening end [] is = ap (λ (x : CoreData). x.handed) is ∙ (omega arith)
hand_outs_are_counted opening end (entry ∷ entries) (mid, step, rest) =
    let one = (steps_count opening mid entry.event entry.answer step).handed in
    let more = hand_outs_are_counted mid end entries rest in
    let all = sum_by-cons (λ e. cond (is_hand_out e) 1 0) entry entries in
    omega (arith, one, more, all)

pub limits_stay : LimitsStay
limits_stay opening end [] is = ap (λ (x : CoreData). x.dag.limits) is
limits_stay opening end (entry ∷ entries) (mid, step, rest) =
    limits_stay mid end entries rest
    ∙ (steps_count opening mid entry.event entry.answer step).limits

within_stays : (opening end : CoreData) (entries : List Entry) → Replays opening entries end
    → opening.handed ≤ opening.dag.limits.hand_outs → end.handed ≤ end.dag.limits.hand_outs
within_stays opening end [] is h = rw is h
within_stays opening end (entry ∷ entries) (mid, step, rest) h =
    within_stays mid end entries rest
    ((steps_count opening mid entry.event entry.answer step).within h)

spent_stays : (opening end : CoreData) (entries : List Entry) → Replays opening entries end
    → IsSpent opening → IsSpent end
spent_stays opening end [] is h = subst (λ x. IsSpent x) (sym is) h
spent_stays opening end (entry ∷ entries) (mid, step, rest) h =
    spent_stays mid end entries rest
    ((steps_count opening mid entry.event entry.answer step).spent h)

-- the limits of a job that begins
pub opening_limits :
    (graph : List StageData) (limits : Limits) (saved : Bool) (plan : List PlanLine)
    (last : Option CoreData) (c : CoreData) → IsOpening graph limits saved plan last c
    → c.dag.limits ≡ limits
opening_limits graph limits saved plan last c o = sent o.submits ∙ o.limits_are
  where
    sent : IsSubmitted o.dag (this_stage (result_stage o.dag)) c.dag
        → c.dag.limits ≡ o.dag.limits
    sent (looked, are, is) = ap (λ (d : DagData). d.limits) is

pub budgets_are_shown : BudgetsAreShown
budgets_are_shown graph limits saved plan last opening end entries o replays e =
    let many = hand_outs_are_counted opening end entries replays in
    let most = within_stays opening end entries replays (rw (o.handed) (omega arith)) in
    let least : end.dag.limits.hand_outs ≤ end.handed =
    spent_stays opening end entries replays (λ b. absurd (begins b)) e in
    let none = o.handed in
    let same : end.dag.limits.hand_outs ≡ limits.hand_outs =
    ap (λ (l : Limits). l.hand_outs) (limits_stay opening end entries replays
    ∙ opening_limits graph limits saved plan last opening o) in
    omega (arith, many, most, least, none, same)
  where
    begins : opening.job ≡ jobs.Aborted aborts.Budget → ⊥
    begins b = let j = o.job in search (rules, j, b)

-- the limits after an event
pub step_limits : (c after : CoreData) (event : Event) (answer : Answer)
    → Steps c event answer after → after.dag.limits ≡ c.dag.limits
step_limits c after event answer step = (steps_count c after event answer step).limits
