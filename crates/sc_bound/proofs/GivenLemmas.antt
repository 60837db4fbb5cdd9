-- A job hands out no more tasks than the bound, where its stages have few task sets.
use Rattle.std.proofs.Common.{◌≡◌, ◌⊎◌, inl, inr, ℕ, zero, suc, ◌+◌, ◌*◌, ◌-◌, ◌<◌, ◌≤◌, All, Bool, true, false, Contains, if◌then◌else◌, List, [], ◌∷◌, length, nat_lt, Option, Some, slice_get, refl, ap, sym, subst, ◌∙◌, arith, rules, true≢false}
use Rattle.std.specs.List.{sum_by}
use Rattle.std.proofs.lemmas.Bool.Decides.{nat_tests}
use Rattle.std.proofs.lemmas.List.Sums.{sum_by-cons}
use Rattle.std.proofs.lemmas.Nat.{mul-le}
use Rattle.sc_base.specs.Lists.{at_or}
use Rattle.sc_ids.specs.Graphs.{StageData}
use Rattle.sc_ids.specs.LimitRanges.{AreLimits}
use Rattle.sc_ids.specs.declared.limits.Limits.{Limits}
use Rattle.sc_plan.specs.Orders.{planned_losses}
use Rattle.sc_plan.specs.declared.lines.PlanLine.{PlanLine}
use Rattle.sc_taskset.specs.Offers.{given_of}
use Rattle.sc_dag.specs.DagData.{DagData, StageState, no_stage, set_in, stage_at}
use Rattle.sc_dag.specs.Losses.{after_lost}
use Rattle.sc_dag.specs.Sound.{IsSetOf}
use Rattle.sc_dag.specs.Submission.{IsSubmitted, this_stage}
use Rattle.sc_dag.specs.declared.attempts.StageAttempt.{StageAttempt}
use Rattle.sc_core.specs.CoreData.{CoreData, job_runs, result_stage, with_dag}
use Rattle.sc_core.specs.Journals.{Replays}
use Rattle.sc_core.specs.Losses.{attempts_on}
use Rattle.sc_core.specs.Openings.{IsOpening}
use Rattle.sc_core.specs.Sound.{IsSoundCore}
use Rattle.sc_core.specs.Steps.{Steps}
use Rattle.sc_core.specs.declared.answers.Answer.{Answer}
use Rattle.sc_core.specs.declared.entries.Entry.{Entry}
use Rattle.sc_core.specs.declared.events.Event.{Event}
use Rattle.sc_core.specs.declared.events.Event.TheVariants.{Post, Release, Side, Take, TellLost}
use Rattle.sc_core.proofs.LawLemmas.{replays_keep_sound}
use Rattle.sc_core.proofs.LeftLemmas.{tells_left}
use Rattle.sc_core.proofs.LoseLemmas.{all_left}
use Rattle.sc_core.proofs.SideLemmas.{held_stages}
use Rattle.sc_core.proofs.TakeCases.{TakesSo, takes_so}
use Rattle.sc_history.proofs.Events.{Comes, losses_come, posts_come, releases_come, sides_come}
use Rattle.sc_bound.specs.Bounds.{hand_out_bound, loses_in, set_bound, task_bound}
use Rattle.sc_bound.specs.Freed.{older_sets, older_than}
use Rattle.sc_bound.specs.Given.{BoundsAreKept, HaveFewSets}
use Rattle.sc_bound.specs.Handed.{given_in_set, given_in_state}
use Rattle.sc_bound.specs.Numbered.{set_at, set_numbered}
use Rattle.sc_bound.proofs.FreedLemmas.{given_left, left_few, left_of}
use Rattle.sc_bound.proofs.HandedLemmas.{handed_is_given}
use Rattle.sc_bound.proofs.OlderLemmas.{all_at, set_sound}
use Rattle.sc_bound.proofs.PartLemmas.{set_given}
use Rattle.sc_bound.proofs.StageSums.{sum_numbered}
use Rattle.sc_bound.proofs.StepSums.{rising_step, rising_total, sums_beside, times_sum}

-- ---- the stages of a job never change

comes_same : (c after : CoreData) (event : Event) (answer : Answer) → Comes c after event answer
    → after.dag.stages ≡ c.dag.stages
comes_same c after event answer (inl q) = held_stages c.dag after.dag q.dag
comes_same c after event answer (inr h) =
    (tells_left h.mid after h.one h.outcome answer h.tells).stages
    ∙ ap (λ (d : DagData). d.stages) h.dag

step_same : (c after : CoreData) (event : Event) (answer : Answer) → Steps c event answer after
    → after.dag.stages ≡ c.dag.stages
step_same c after (Take exec) answer step = by (takes_so c after exec answer step)
  where
    by : TakesSo c after exec answer → after.dag.stages ≡ c.dag.stages
    by (inl g) = ap (λ (x : CoreData). x.dag.stages) g.is
    by (inr (inl b)) = ap (λ (x : CoreData). x.dag.stages) b.is
    by (inr (inr q)) = ap (λ (x : CoreData). x.dag.stages) q.is
step_same c after (Post a outcome) answer step =
    comes_same c after (Post a outcome) answer (posts_come c after a outcome answer step)
step_same c after (Release key) answer step =
    comes_same c after (Release key) answer (releases_come c after key answer step)
step_same c after (Side event) answer step =
    comes_same c after (Side event) answer (sides_come c after event answer step)
step_same c after (TellLost exec) answer step =
    ap (λ (d : DagData). d.stages) (losses_come c after exec answer step).dag
    ∙ (all_left (attempts_on exec c.running) (with_dag c (after_lost c.dag exec))).stages

stages_same : (opening end : CoreData) (entries : List Entry) → Replays opening entries end
    → end.dag.stages ≡ opening.dag.stages
stages_same opening end [] is = ap (λ (x : CoreData). x.dag.stages) is
stages_same opening end (entry ∷ entries) (mid, step, rest) =
    stages_same mid end entries rest ∙ step_same opening mid entry.event entry.answer step

-- ---- one stage

-- the task set at a place
placed : (state : StageState) (j : ℕ) (x : StageAttempt) → slice_get state.attempts j ≡ Some x
    → set_numbered (Some state) (state.before + j) ≡ Some x.set
placed state j x at = by (nat_lt (state.before + j) state.before) refl
  where
    by : (b : Bool) → nat_lt (state.before + j) state.before ≡ b
        → set_in (slice_get state.attempts
        (if b then length state.attempts else state.before + j - state.before)) ≡ Some x.set
    by true e = absurd (grind (arith, nat_tests, e))
    by false e =
        let same : state.before + j - state.before ≡ j = omega arith in
        ap (λ (n : ℕ). set_in (slice_get state.attempts n)) same ∙ ap set_in at

-- the stage of a number
stage_there : (stages : List StageData) (s : ℕ) (stage : StageData)
    → slice_get stages s ≡ Some stage → at_or stages s no_stage ≡ stage
stage_there [] s stage at = absurd (search (rules, at))
stage_there (x ∷ xs) zero stage at = search (rules, at)
stage_there (x ∷ xs) (suc s) stage at = stage_there xs s stage at

-- ---- sums of tasks

-- a greater factor makes a greater product
times_less : (n x y : ℕ) → x + 1 ≤ y → (1 + n) * x + 1 ≤ (1 + n) * y
times_less n x y le =
    let all = mul-le (1 + n) (x + 1) (1 + n) y (omega arith) le in
    let apart = times_sum (1 + n) x 1 in
    omega (arith, all, apart)

sum_tasks : (graph : List StageData) (x y : ℕ) → x ≤ y
    → sum_by (λ (stage : StageData). stage.tasks * x) graph
    ≤ sum_by (λ (stage : StageData). stage.tasks * y) graph
sum_tasks [] x y le = omega arith
sum_tasks (g ∷ graph) x y le =
    let a = sum_by-cons (λ (stage : StageData). stage.tasks * x) g graph in
    let b = sum_by-cons (λ (stage : StageData). stage.tasks * y) g graph in
    let one = mul-le g.tasks x g.tasks y (omega arith) le in
    let rest = sum_tasks graph x y le in
    omega (arith, a, b, one, rest)

-- and there is room for each of the tasks
sum_more : (graph : List StageData) (x y : ℕ) → x + 1 ≤ y
    → sum_by (λ (stage : StageData). stage.tasks * x) graph
    + sum_by (λ (stage : StageData). stage.tasks) graph
    ≤ sum_by (λ (stage : StageData). stage.tasks * y) graph
sum_more [] x y le = omega arith
sum_more (g ∷ graph) x y le =
    let a = sum_by-cons (λ (stage : StageData). stage.tasks * x) g graph in
    let b = sum_by-cons (λ (stage : StageData). stage.tasks * y) g graph in
    let c = sum_by-cons (λ (stage : StageData). stage.tasks) g graph in
    let one = mul-le g.tasks (x + 1) g.tasks y (omega arith) le in
    let apart = times_sum g.tasks x 1 in
    let rest = sum_more graph x y le in
    omega (arith, a, b, c, one, apart, rest)

module _ (graph : List StageData) (limits : Limits) (saves : Bool) (plan : List PlanLine)
    (last : Option CoreData) (opening end : CoreData) (entries : List Entry)
    (are : AreLimits limits) (o : IsOpening graph limits saves plan last opening)
    (sound : IsSoundCore opening) (replays : Replays opening entries end)
    (few : HaveFewSets end.plan end.dag) where
  at_end : IsSoundCore end
  at_end = replays_keep_sound opening end entries sound replays

  -- how often a set hands out a partition at first, but for what frees it
  abbrev first : ℕ
  first = left_of (job_runs end) + (limits.task_failures + loses_in end.plan)

  -- and how often a task is handed out in all sets of its stage
  abbrev pub each_bound : ℕ
  each_bound = (1 + 2 * planned_losses end.plan) * (2 * (first + 2 * planned_losses end.plan))

  set_few : (s j : ℕ) (state : StageState) (stage : StageData) (x : StageAttempt)
      → slice_get end.dag.states s ≡ Some state → slice_get end.dag.stages s ≡ Some stage
      → slice_get state.attempts j ≡ Some x
      → given_in_set x.set ≤ stage.tasks * rising_step first j
  set_few s j state stage x is_state is_stage at =
      set_given x.set stage.tasks (rising_step first j) of.sound
      (subst (λ (y : StageData). All (λ t. t.partition < y.tasks) x.set.tasks)
      (stage_there end.dag.stages s stage is_stage) of.within) each
    where
      is_set : set_at end.dag s (state.before + j) ≡ Some x.set
      is_set = ap (λ q. set_numbered q (state.before + j)) is_state ∙ placed state j x at

      of : IsSetOf (stage_at end.dag s) x.set
      of = set_sound end.dag s (state.before + j) x.set at_end.job.dag is_set

      each : (p : ℕ) → given_of x.set p ≤ rising_step first j
      each p =
          let le = given_left graph limits saves plan last opening end entries s
          (state.before + j) p x.set are o sound replays is_set in
          let older : older_sets end.dag s (state.before + j) ≡ state.before + j - state.before =
          ap (λ q. older_than q (state.before + j)) is_state in
          omega (arith, le, older)

  stage_few : (s : ℕ) (state : StageState) (stage : StageData)
      → slice_get end.dag.states s ≡ Some state → slice_get end.dag.stages s ≡ Some stage
      → given_in_state state ≤ stage.tasks * each_bound
  stage_few s state stage is_state is_stage =
      rising_total (λ (a : StageAttempt). given_in_set a.set) state.attempts stage.tasks first
      (2 * planned_losses end.plan) (λ j x at. set_few s j state stage x is_state is_stage at)
      (all_at (λ (q : StageState). length q.attempts ≤ 1 + 2 * planned_losses end.plan)
      end.dag.states s state few is_state)

  -- ---- all stages

  stages : end.dag.stages ≡ o.dag.stages
  stages = stages_same opening end entries replays ∙ sent o.submits
    where
      sent : IsSubmitted o.dag (this_stage (result_stage o.dag)) opening.dag
          → opening.dag.stages ≡ o.dag.stages
      sent (looked, they, is) = ap (λ (d : DagData). d.stages) is

  pub only : (s : ℕ) → (at_or end.dag.stages s no_stage ≡ no_stage)
      ⊎ (Contains graph (at_or end.dag.stages s no_stage)
      × ((at_or end.dag.stages s no_stage).id ≡ s))
  only =
      subst (λ (xs : List StageData). (s : ℕ) → (at_or xs s no_stage ≡ no_stage)
      ⊎ (Contains graph (at_or xs s no_stage) × ((at_or xs s no_stage).id ≡ s))) (sym stages)
      o.opens.numbered.only

  pub handed_each : end.handed ≤ sum_by (λ (stage : StageData). stage.tasks * each_bound) graph
  handed_each =
      let handed =
      handed_is_given graph limits saves plan last opening end entries o sound replays in
      let beside = sums_beside given_in_state
      (λ (stage : StageData). stage.tasks * each_bound) end.dag.states
      end.dag.stages at_end.job.dag.states
      (λ s state stage at is. stage_few s state stage at is) in
      let numbered = sum_numbered
      (λ (stage : StageData). stage.tasks * each_bound) graph end.dag.stages
      no_stage (omega arith) only in
      omega (arith, handed, beside, numbered)

  -- ---- the bound

  within_bound : each_bound ≤ task_bound end.plan limits
  within_bound = by (job_runs end)
    where
      by : (b : Bool)
          → (1 + 2 * planned_losses end.plan)
          * (2 * (left_of b + (limits.task_failures + loses_in end.plan)
          + 2 * planned_losses end.plan))
          ≤ task_bound end.plan limits
      by b =
          mul-le (1 + 2 * planned_losses end.plan)
          (2 * (left_of b + (limits.task_failures + loses_in end.plan)
          + 2 * planned_losses end.plan))
          (1 + 2 * planned_losses end.plan) (set_bound end.plan limits) (omega arith)
          (let one = left_few b in omega (arith, one))

  pub handed_within : end.handed ≤ hand_out_bound graph end.plan limits
  handed_within =
      let handed = handed_each in
      let most = sum_tasks graph each_bound (task_bound end.plan limits) within_bound in
      omega (arith, handed, most)

  -- while the job runs each of its tasks could be handed out once more
  pub handed_below : job_runs end ≡ true
      → end.handed + sum_by (λ (stage : StageData). stage.tasks) graph
      ≤ hand_out_bound graph end.plan limits
  handed_below runs =
      let handed = handed_each in
      let most = sum_more graph each_bound (task_bound end.plan limits) below in
      omega (arith, handed, most)
    where
      less : (b : Bool) → b ≡ true
          → 2 * (left_of b + (limits.task_failures + loses_in end.plan)
          + 2 * planned_losses end.plan) + 1 ≤ set_bound end.plan limits
      less true e = omega arith
      less false e = absurd (true≢false (sym e))

      below : each_bound + 1 ≤ task_bound end.plan limits
      below =
          times_less (2 * planned_losses end.plan)
          (2 * (first + 2 * planned_losses end.plan)) (set_bound end.plan limits)
          (less (job_runs end) runs)

pub bounds_are_kept : BoundsAreKept
bounds_are_kept graph limits saves plan last opening end entries are o sound replays few =
    handed_within graph limits saves plan last opening end entries are o sound replays few
