-- Each partition gets its result once.
use Rattle.std.proofs.Common.{◌≡◌, ◌⊎◌, inl, inr, ℕ, zero, suc, ◌+◌, ◌<◌, ◌≤◌, ◌==◌, ◌&&◌, Bool, true, false, cond, if◌then◌else◌, List, [], ◌∷◌, ◌++◌, length, replicate, Option, Some, None, refl, ap, sym, subst, ◌∙◌, arith, true≢false, slice_get}
use Rattle.std.proofs.lemmas.Bool.{cases_eq}
use Rattle.std.proofs.lemmas.Bool.Decides.{nat_tests}
use Rattle.std.proofs.lemmas.List.Sums.{sum_by-cons}
use Rattle.sc_base.specs.Lists.{at_or}
use Rattle.sc_ids.specs.Changes.{change_at}
use Rattle.sc_ids.specs.Graphs.{StageData}
use Rattle.sc_ids.specs.declared.attempts.AttemptId.{AttemptId}
use Rattle.sc_ids.specs.declared.blocks.Target.{Target}
use Rattle.sc_ids.specs.declared.blocks.Target.TheVariants as targets
use Rattle.sc_ids.specs.declared.limits.Limits.{Limits}
use Rattle.sc_ids.proofs.ChangeLemmas.{at_or_change_other, at_or_change_same}
use Rattle.sc_plan.specs.declared.lines.PlanLine.{PlanLine}
use Rattle.sc_commit.specs.declared.committers.Ending.TheVariants as endings
use Rattle.sc_taskset.specs.Offers.{handed}
use Rattle.sc_dag.specs.DagData.{DagData, changed_newest, newest_at, stage_at}
use Rattle.sc_dag.specs.Losses.{after_lost}
use Rattle.sc_dag.specs.Openings.{blank_states}
use Rattle.sc_dag.specs.Outputs.{is_complete, is_done, is_done_by, results_in}
use Rattle.sc_dag.specs.Reports.{after_result_success, ended_in_own, is_repeat, reaches_limit_in, result_success_of, set_of, wants_in}
use Rattle.sc_dag.specs.Sound.{IsSoundDag, runner_of}
use Rattle.sc_dag.specs.Submission.{is_map, this_stage}
use Rattle.sc_dag.specs.declared.reports.Success.TheVariants as successes
use Rattle.sc_dag.proofs.Runners.{within}
use Rattle.sc_dag.proofs.Tests.{both_left, not_false, not_true}
use Rattle.sc_core.specs.Sides.{MayHold}
use Rattle.sc_core.specs.CoreData.{CoreData, result_stage, shelved_of, with_dag}
use Rattle.sc_core.specs.Openings.{IsOpening}
use Rattle.sc_core.specs.Posts.{fits}
use Rattle.sc_core.specs.Losses.{Loses, all_released, attempts_on, without_executor}
use Rattle.sc_core.specs.Sound.{IsSoundCore}
use Rattle.sc_core.specs.Steps.{Steps}
use Rattle.sc_core.specs.Takes.{Takes}
use Rattle.sc_core.specs.Tells.{Tells, TellsResult, after_result, done_if, released, success_answer, with_result_of}
use Rattle.sc_core.specs.declared.answers.Answer.{Answer}
use Rattle.sc_core.specs.declared.events.Event.{Event}
use Rattle.sc_core.specs.declared.events.Event.TheVariants.{Post, Release, Side, Take, TellLost}
use Rattle.sc_core.specs.declared.events.Outcome.{Outcome}
use Rattle.sc_core.specs.declared.events.Outcome.TheVariants as outcomes
use Rattle.sc_core.specs.declared.running.Running.{Running}
use Rattle.sc_core.specs.declared.running.Shelved.{Shelved}
use Rattle.sc_core.proofs.LawLemmas.{steps_keep_sound}
use Rattle.sc_core.proofs.LimitLemmas.{done_jobs_are_whole}
use Rattle.sc_core.proofs.MoveLemmas.{SameResults, results_then, state_results}
use Rattle.sc_core.proofs.StageCallLemmas.{submitted_results}
use Rattle.sc_core.proofs.LossLemmas.{lost_results}
use Rattle.sc_core.proofs.TaskCallLemmas.{ended_results, hold_results}
use Rattle.sc_history.specs.Results.{ResultsAreOnce, finishes, is_finish, times_finished}
use Rattle.sc_history.specs.Tellings.{Telling, telling, tellings, tellings_in, told_late}
use Rattle.sc_history.proofs.Events.{Comes, losses_come, posts_come, releases_come, sides_come}
use Rattle.sc_history.proofs.Journals.{tellings_induct}
use Rattle.sc_history.proofs.ResultCalls.{GivesNone, failures_give_none, freed_repeat, freed_results, maps_give_none, results_of, won_others, won_results}
use Rattle.sc_core.proofs.TakeCases.{TakesSo, takes_so}

abbrev one_if : Bool → ℕ
one_if b = cond b 1 0

-- a partition has a result
abbrev has_result : DagData → ℕ → ℕ → Bool
has_result d s p = at_or (results_of d s) p false

-- what a report gives is one result more
abbrev CountsOne : DagData → DagData → Telling → Type 0
CountsOne d after t =
    (s p : ℕ) → one_if (has_result after s p)
    ≡ one_if (has_result d s p) + one_if (finishes s p t)

-- the same of an event and the reports that it is of
abbrev Counts : DagData → DagData → List Telling → Type 0
Counts d after told =
    (s p : ℕ) → one_if (has_result after s p)
    ≡ one_if (has_result d s p) + times_finished told s p

-- a report that gives no result
none_finished : (t : Telling) (s p : ℕ) → is_finish t.answer ≡ false
    → one_if (finishes s p t) ≡ 0
none_finished t s p quiet =
    ap (λ b. one_if ((t.attempt.stage == s) && ((t.attempt.partition == p) && b))) quiet
    ∙ no (t.attempt.stage == s) (t.attempt.partition == p)
  where
    no : (x y : Bool) → one_if (x && (y && false)) ≡ 0
    no true true = refl
    no true false = refl
    no false y = refl

-- one report counts once
one_told : (t : Telling) (s p : ℕ) → times_finished (t ∷ []) s p ≡ one_if (finishes s p t)
one_told t s p =
    let all = sum_by-cons (λ (x : Telling). one_if (finishes s p x)) t [] in omega (arith, all)

none_counts : (d after : DagData) (a : AttemptId) (outcome : Outcome) (answer : Answer)
    → GivesNone d after answer → CountsOne d after (telling a outcome answer)
none_counts d after a outcome answer none s p =
    let same : one_if (has_result after s p) ≡ one_if (has_result d s p) =
    ap (λ rs. one_if (at_or rs p false)) (none.results s) in
    let zero = none_finished (telling a outcome answer) s p none.quiet in
    omega (arith, same, zero)

-- the first success of a partition
won_counts : (d after : DagData) (a : AttemptId) (outcome : Outcome) (answer : Answer)
    → is_finish answer ≡ true → has_result d a.stage a.partition ≡ false
    → a.partition < length (results_of d a.stage)
    → ((s : ℕ) → (s ≡ a.stage → ⊥) → results_of after s ≡ results_of d s)
    → results_of after a.stage ≡ change_at (results_of d a.stage) a.partition (λ _. true)
    → CountsOne d after (telling a outcome answer)
won_counts d after a outcome answer finish lacks lt others here s p =
    by (cases_eq s a.stage) (cases_eq p a.partition)
  where
    Goal : ℕ → ℕ → Type 0
    Goal r q =
        one_if (has_result after r q)
        ≡ one_if (has_result d r q) + one_if (finishes r q (telling a outcome answer))

    told : (x y : Bool) → (a.stage == s) ≡ x → (a.partition == p) ≡ y
        → one_if (finishes s p (telling a outcome answer)) ≡ one_if (x && y)
    told x y e f = rw (e, f, finish) (both x y)
      where
        both : (u v : Bool) → one_if (u && (v && true)) ≡ one_if (u && v)
        both true true = refl
        both true false = refl
        both false v = refl

    by : (s ≡ a.stage) ⊎ (s ≡ a.stage → ⊥) → (p ≡ a.partition) ⊎ (p ≡ a.partition → ⊥)
        → Goal s p
    by (inl e) (inl f) =
        let now : has_result after s p ≡ true =
        rw (e, f) (ap (λ rs. at_or rs a.partition false) here
        ∙ at_or_change_same (results_of d a.stage) a.partition false (λ _. true) lt) in
        let before : has_result d s p ≡ false = rw (e, f) lacks in
        let tells : one_if (finishes s p (telling a outcome answer)) ≡ 1 =
        told true true (grind (arith, nat_tests, e)) (grind (arith, nat_tests, f)) in
        let after_is : one_if (has_result after s p) ≡ 1 = ap one_if now in
        let before_is : one_if (has_result d s p) ≡ 0 = ap one_if before in
        omega (arith, tells, after_is, before_is)
    by (inl e) (inr ne) =
        let same : one_if (has_result after s p) ≡ one_if (has_result d s p) =
        ap one_if (rw e (ap (λ rs. at_or rs p false) here
        ∙ at_or_change_other (results_of d a.stage) a.partition p false (λ _. true) ne)) in
        let tells : one_if (finishes s p (telling a outcome answer)) ≡ 0 =
        told true false (grind (arith, nat_tests, e)) (grind (arith, nat_tests, ne)) in
        omega (arith, same, tells)
    by (inr ne) f =
        let same : one_if (has_result after s p) ≡ one_if (has_result d s p) =
        ap (λ rs. one_if (at_or rs p false)) (others s ne) in
        let tells : one_if (finishes s p (telling a outcome answer)) ≡ 0 =
        told false (a.partition == p) (grind (arith, nat_tests, ne)) refl in
        omega (arith, same, tells)

-- ---- results

-- a partition of a result stage is done where it has a result
done_by_result : (d : DagData) (s p : ℕ) → is_map (stage_at d s).target ≡ false
    → is_done d s p ≡ has_result d s p
done_by_result d s p kind = by (stage_at d s).target kind
  where
    by : (target : Target) → is_map target ≡ false
        → is_done_by d.tracker target (results_of d s) p ≡ has_result d s p
    by (targets.Map shuffle) e = absurd (true≢false e)
    by (targets.Result node) e = refl

result_counts : (m after : CoreData) (r : Running) (answer : Answer) → IsSoundDag m.dag
    → runner_of m.dag r.hand_out.attempt ≡ Some r.exec
    → is_map (stage_at m.dag r.hand_out.attempt.stage).target ≡ false
    → TellsResult m r answer after
    → CountsOne m.dag after.dag (telling r.hand_out.attempt outcomes.Result answer)
result_counts m after r answer sound runs kind (told, is) = by (is_repeat m.dag a) refl
  where
    a : AttemptId
    a = r.hand_out.attempt

    freed : CoreData
    freed = released m r.hand_out.attempt endings.Succeeded

    next : CoreData
    next = with_result_of freed r.hand_out.attempt

    success : (x : Bool) → is_repeat m.dag a ≡ x
        → result_success_of m.dag a ≡ (if x then successes.Repeated else successes.Finished)
    success x e = ap (λ b. if b then successes.Repeated else successes.Finished) e

    done : (b : Bool) → (done_if b next).dag ≡ next.dag
    done true = refl
    done false = refl

    first : is_repeat m.dag a ≡ false → CountsOne m.dag after.dag (telling a outcomes.Result answer)
    first e =
        won_counts m.dag after.dag a outcomes.Result answer
        (ap is_finish (told ∙ ap success_answer (success false e)))
        (sym (done_by_result m.dag a.stage a.partition kind)
        ∙ sound.wanted a.stage a.partition wants)
        lt
        (λ s ne. ap (λ (x : DagData). results_of x s) dag_is
        ∙ won_others freed.dag a freed.now (freed_repeat m a endings.Succeeded ∙ e) s ne
        ∙ freed_results m a endings.Succeeded s)
        (ap (λ (x : DagData). results_of x a.stage) dag_is
        ∙ won_results freed.dag a freed.now (freed_repeat m a endings.Succeeded ∙ e)
        ∙ ap (λ rs. change_at rs a.partition (λ _. true))
        (freed_results m a endings.Succeeded a.stage))
      where
        wants : wants_in (newest_at m.dag a.stage) a.partition ≡ true
        wants = not_false (wants_in (newest_at m.dag a.stage) a.partition) e

        lt : a.partition < length (results_of m.dag a.stage)
        lt =
            let many : length (results_of m.dag a.stage) ≡ (stage_at m.dag a.stage).tasks =
            rw kind at (sound.results a.stage) in
            let low = within m.dag a r.exec m.now sound runs wants in
            omega (arith, many, low)

        dag_is : after.dag ≡ next.dag
        dag_is =
            ap (λ (x : CoreData). x.dag) (is ∙ ap (λ s. after_result s m a) (success false e))
            ∙ done (is_complete next.dag a.stage)

    again : is_repeat m.dag a ≡ true → CountsOne m.dag after.dag (telling a outcomes.Result answer)
    again e =
        none_counts m.dag after.dag a outcomes.Result answer
        (record {
          results = λ s.
              ap (λ (x : DagData). results_of x s)
              (ap (λ (x : CoreData). x.dag) (is ∙ ap (λ t. after_result t m a) (success true e))
              ∙ repeated)
              ∙ ended_results m.dag a s;
          quiet = ap is_finish (told ∙ ap success_answer (success true e));
        })
      where
        repeated : after_result_success m.dag a m.now ≡ ended_in_own m.dag a
        repeated = rw e refl

    by : (b : Bool) → is_repeat m.dag a ≡ b
        → CountsOne m.dag after.dag (telling a outcomes.Result answer)
    by true e = again e
    by false e = first e

-- ---- events

takes_count : (c after : CoreData) (exec : ℕ) (answer : Answer) → Takes c exec answer after
    → SameResults c.dag after.dag
takes_count c after exec answer h = by (takes_so c after exec answer h)
  where
    by : TakesSo c after exec answer → SameResults c.dag after.dag
    by (inl t) =
        λ s. ap (λ (x : CoreData). results_of x.dag s) t.is
        ∙ state_results c.dag t.task.attempt.stage
        (changed_newest (λ set. handed set t.task.attempt.partition exec c.now)) (λ state. refl) s
    by (inr (inl b)) = λ s. ap (λ (x : CoreData). results_of x.dag s) b.is
    by (inr (inr same)) = λ s. ap (λ (x : CoreData). results_of x.dag s) same.is

tells_count : (c m after : CoreData) (r : Running) (outcome : Outcome) (answer : Answer)
    → m.dag ≡ c.dag → IsSoundDag c.dag → runner_of c.dag r.hand_out.attempt ≡ Some r.exec
    → fits c r outcome ≡ true → Tells m r outcome answer after
    → CountsOne m.dag after.dag (telling r.hand_out.attempt outcome answer)
tells_count c m after r (outcomes.Map loc) answer same sound runs fit h =
    none_counts m.dag after.dag r.hand_out.attempt (outcomes.Map loc) answer
    (maps_give_none m after r loc answer h)
tells_count c m after r outcomes.Result answer same sound runs fit h =
    result_counts m after r answer (subst IsSoundDag (sym same) sound)
    (ap (λ d. runner_of d r.hand_out.attempt) same ∙ runs)
    (ap (λ d. is_map (stage_at d r.hand_out.attempt.stage).target) same
    ∙ not_true (is_map (stage_at c.dag r.hand_out.attempt.stage).target) (both_left _ _ fit)) h
tells_count c m after r (outcomes.Failed cause) answer same sound runs fit h =
    none_counts m.dag after.dag r.hand_out.attempt (outcomes.Failed cause) answer
    (failures_give_none
    (reaches_limit_in (set_of m.dag r.hand_out.attempt) r.hand_out.attempt cause) m after
    r.hand_out.attempt cause answer h)

-- what isn't heard gives nothing
unfinished : (c : CoreData) (event : Event) (answer : Answer) → is_finish answer ≡ false
    → (s p : ℕ) → times_finished (tellings_in c event answer) s p ≡ 0
unfinished c (Take exec) answer quiet s p = refl
unfinished c (Post a outcome) answer quiet s p =
    one_told (telling a outcome answer) s p
    ∙ none_finished (telling a outcome answer) s p quiet
unfinished c (Release key) answer quiet s p = by (shelved_of c key)
  where
    by : (o : Option Shelved) → times_finished (told_late o answer) s p ≡ 0
    by None = refl
    by (Some x) =
        one_told (telling x.attempt x.outcome answer) s p
        ∙ none_finished (telling x.attempt x.outcome answer) s p quiet
unfinished c (Side event) answer quiet s p = refl
unfinished c (TellLost exec) answer quiet s p = refl

-- no result is won or lost where a partition may be held back
may_hold_result : (d after : DagData) → MayHold d after → (s p : ℕ)
    → has_result after s p ≡ has_result d s p
may_hold_result d after (inl is) s p = ap (λ (x : DagData). has_result x s p) is
may_hold_result d after (inr (r, q, denied, is)) s p =
    ap (λ (x : DagData). has_result x s p) is
    ∙ ap (λ rs. at_or rs p false) (hold_results d r q denied s)

comes_count : (c after : CoreData) (event : Event) (answer : Answer) → IsSoundCore c
    → Comes c after event answer → Counts c.dag after.dag (tellings_in c event answer)
comes_count c after event answer sound (inl q) s p =
    let same : one_if (has_result after.dag s p) ≡ one_if (has_result c.dag s p) =
    ap one_if (may_hold_result c.dag after.dag q.dag s p) in
    let zero = unfinished c event answer q.unfinished s p in
    omega (arith, same, zero)
comes_count c after event answer sound (inr h) s p =
    let known = h.known sound in
    let gives = tells_count c h.mid after h.one h.outcome answer h.dag sound.job.dag known.in_set
    known.fit h.tells s p in
    let one = ap (λ told. times_finished told s p) known.told
    ∙ one_told (telling h.one.hand_out.attempt h.outcome answer) s p in
    let same : one_if (has_result h.mid.dag s p) ≡ one_if (has_result c.dag s p) =
    ap (λ (d : DagData). one_if (has_result d s p)) h.dag in
    omega (arith, gives, one, same)

all_results : (these : List AttemptId) (c : CoreData)
    → SameResults c.dag (all_released these c).dag
all_results [] c = λ s. refl
all_results (a ∷ these) c =
    let next = released c a endings.Failed in
    results_then c.dag next.dag (all_released these next).dag
    (freed_results c a endings.Failed) (all_results these next)

losses_count : (c after : CoreData) (exec : ℕ) (answer : Answer) → Loses c exec answer after
    → SameResults c.dag after.dag
losses_count c after exec answer step =
    subst (λ x. SameResults c.dag x) (sym (losses_come c after exec answer step).dag)
    (results_then c.dag from.dag (without_executor c exec).dag (lost_results c.dag exec)
    (all_results (attempts_on exec c.running) from))
  where
    from : CoreData
    from = with_dag c (after_lost c.dag exec)

same_count : (d after : DagData) → SameResults d after → (s p : ℕ)
    → one_if (has_result after s p) ≡ one_if (has_result d s p) + 0
same_count d after h s p =
    let same = ap (λ rs. one_if (at_or rs p false)) (h s) in omega (arith, same)

steps_count : (c after : CoreData) (event : Event) (answer : Answer) → IsSoundCore c
    → Steps c event answer after → Counts c.dag after.dag (tellings_in c event answer)
steps_count c after (Take exec) answer sound step s p =
    same_count c.dag after.dag (takes_count c after exec answer step) s p
steps_count c after (Post a outcome) answer sound step s p =
    comes_count c after (Post a outcome) answer sound (posts_come c after a outcome answer step) s p
steps_count c after (Release key) answer sound step s p =
    comes_count c after (Release key) answer sound (releases_come c after key answer step) s p
steps_count c after (Side event) answer sound step s p =
    comes_count c after (Side event) answer sound (sides_come c after event answer step) s p
steps_count c after (TellLost exec) answer sound step s p =
    same_count c.dag after.dag (losses_count c after exec answer step) s p

-- ---- journals

-- What holds along a journal.
record IsCounting (told : List Telling) (c : CoreData) : Type 0 where
  sound : IsSoundCore c
  counted : (s p : ℕ) → times_finished told s p ≡ one_if (has_result c.dag s p)

times_more : (told more : List Telling) (s p : ℕ)
    → times_finished (told ++ more) s p ≡ times_finished told s p + times_finished more s p
times_more [] more s p = omega arith
times_more (t ∷ told) more s p =
    let f = λ (x : Telling). one_if (finishes s p x) in
    let all = sum_by-cons f t (told ++ more) in
    let first = sum_by-cons f t told in
    let rest = times_more told more s p in
    omega (arith, all, first, rest)

counting_kept : (told : List Telling) (event : Event) (answer : Answer) (c after : CoreData)
    → IsCounting told c → Steps c event answer after
    → IsCounting (told ++ tellings_in c event answer) after
counting_kept told event answer c after h step =
    record {
      sound = steps_keep_sound c after event answer h.sound step;
      counted = λ s p.
          (let more = times_more told (tellings_in c event answer) s p in
          let before = h.counted s p in
          let gives = steps_count c after event answer h.sound step s p in
          omega (arith, more, before, gives));
    }

no_results : (n p : ℕ) → at_or (replicate n false) p false ≡ false
no_results zero p = refl
no_results (suc n) zero = refl
no_results (suc n) (suc p) = no_results n p

none_blank : (last : Option DagData) (n : ℕ) (stages : List StageData) (s p : ℕ)
    → at_or (results_in (slice_get (blank_states last n stages) s)) p false ≡ false
none_blank last n [] s p = refl
none_blank last n (stage ∷ stages) zero p =
    no_results (if is_map stage.target then 0 else stage.tasks) p
none_blank last n (stage ∷ stages) (suc s) p = none_blank last (n + 1) stages s p

begins_empty :
    (graph : List StageData) (limits : Limits) (saved : Bool) (plan : List PlanLine)
    (last : Option CoreData) (c : CoreData) → IsOpening graph limits saved plan last c → (s p : ℕ)
    → has_result c.dag s p ≡ false
begins_empty graph limits saved plan last c o s p =
    ap (λ rs. at_or rs p false)
    (submitted_results o.dag c.dag (this_stage (result_stage o.dag)) o.submits s)
    ∙ (rw (o.opens.states) (none_blank _ 0 o.dag.stages s p))

at_most : (b : Bool) → one_if b ≤ 1
at_most true = omega arith
at_most false = omega arith

pub results_are_once : ResultsAreOnce
results_are_once graph limits saved plan last opening end entries o sound replays = (
  λ s p. (let is = h.counted s p in let most = at_most (has_result end.dag s p) in
      omega (arith, is, most)),
  λ p done lt.
      h.counted (result_stage end.dag) p
      ∙ ap one_if (sym (done_by_result end.dag (result_stage end.dag) p h.sound.job.result)
      ∙ done_jobs_are_whole end p h.sound done lt),
)
  where
    begins : IsCounting [] opening
    begins =
        record {
          sound = sound;
          counted = λ s p.
              sym (ap one_if (begins_empty graph limits saved plan last opening o s p));
        }

    h : IsCounting (tellings opening entries end replays) end
    h =
        tellings_induct (λ told c. IsCounting told c) counting_kept [] opening begins entries end
        replays
