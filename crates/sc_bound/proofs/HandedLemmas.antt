-- A job counts as many hand-outs as its task sets do.
use Rattle.std.proofs.Common.{◌≡◌, inl, inr, ℕ, zero, suc, ◌+◌, ◌-◌, Bool, true, false, cond, if◌then◌else◌, List, [], ◌∷◌, length, Option, Some, None, slice_get, refl, ap, sym, subst, ◌∙◌, arith, rules, true≢false}
use Rattle.std.specs.List.{sum_by}
use Rattle.std.specs.Option.{option_map}
use Rattle.std.proofs.lemmas.List.Sums.{sum_by-cons}
use Rattle.sc_ids.specs.Changes.{change_at}
use Rattle.sc_ids.specs.Graphs.{StageData}
use Rattle.sc_ids.specs.declared.attempts.AttemptId.{AttemptId}
use Rattle.sc_ids.specs.declared.limits.Limits.{Limits}
use Rattle.sc_plan.specs.declared.lines.PlanLine.{PlanLine}
use Rattle.sc_taskset.specs.Lookups.{is_task_of, task_at, with_task}
use Rattle.sc_taskset.specs.Offers.{handed, handed_task}
use Rattle.sc_taskset.specs.TaskSetData.{TaskData}
use Rattle.sc_dag.specs.DagData.{DagData, StageState, changed_newest, set_in, with_set}
use Rattle.sc_dag.specs.Offers.{handed_out, may_be_given_in}
use Rattle.sc_dag.specs.Submission.{this_stage}
use Rattle.sc_dag.specs.declared.attempts.StageAttempt.{StageAttempt}
use Rattle.sc_dag.proofs.Moving.{newest_among}
use Rattle.sc_core.specs.CoreData.{CoreData, result_stage}
use Rattle.sc_core.specs.Journals.{Replays}
use Rattle.sc_core.specs.Openings.{IsOpening}
use Rattle.sc_core.specs.Owners.{has_task}
use Rattle.sc_core.specs.Sound.{IsSoundCore}
use Rattle.sc_core.specs.Steps.{Steps}
use Rattle.sc_core.specs.Takes.{Takes}
use Rattle.sc_core.specs.declared.answers.Answer.{Answer}
use Rattle.sc_core.specs.declared.entries.Entry.{Entry}
use Rattle.sc_core.specs.declared.events.Event.{Event}
use Rattle.sc_core.specs.declared.events.Event.TheVariants.{Post, Release, Side, Take, TellLost}
use Rattle.sc_core.proofs.LawLemmas.{steps_keep_sound}
use Rattle.sc_core.proofs.OfferLemmas.{offered, offered_may}
use Rattle.sc_core.proofs.TakeCases.{TakesSo, takes_so}
use Rattle.sc_history.specs.Budgets.{gives_task, hand_outs_in, is_hand_out}
use Rattle.sc_history.proofs.BudgetLemmas.{hand_outs_are_counted}
use Rattle.sc_bound.specs.Handed.{HandedIsGiven, given_in_all, given_in_set, given_in_state}
use Rattle.sc_bound.specs.Numbered.{set_at, set_numbered}
use Rattle.sc_bound.proofs.AccountLemmas.{Steady, steady_order}
use Rattle.sc_bound.proofs.AlikeLemmas.{given_at, slot_given, steps_alike}
use Rattle.sc_bound.proofs.EventSteps.{blank_none}
use Rattle.sc_bound.proofs.KeepLemmas.{submitted_slots}
use Rattle.sc_bound.proofs.SetLemmas.{may_be}
use Rattle.sc_bound.proofs.TotalLemmas.{all_none, all_same, steps_number}

-- ---- a task that is handed out

-- one more of the one that is there
given_one : (q exec now : ℕ) (tasks : List TaskData) (task : TaskData)
    → task_at q tasks ≡ Some task
    → sum_by (λ t. t.given) (with_task q (handed_task exec now) tasks)
    ≡ sum_by (λ t. t.given) tasks + 1
given_one q exec now [] task there = absurd (search (rules, there))
given_one q exec now (t ∷ ts) task there =
    by (is_task_of q t) there (λ e. given_one q exec now ts task e)
  where
    by : (b : Bool) → cond b (Some t) (task_at q ts) ≡ Some task
        → (task_at q ts ≡ Some task
        → sum_by (λ u. u.given) (with_task q (handed_task exec now) ts)
        ≡ sum_by (λ u. u.given) ts + 1)
        → sum_by (λ u. u.given)
        (if b then handed_task exec now t ∷ ts else t ∷ with_task q (handed_task exec now) ts)
        ≡ sum_by (λ u. u.given) (t ∷ ts) + 1
    by true e rest =
        let a = sum_by-cons (λ (u : TaskData). u.given) t ts in
        let b = sum_by-cons (λ (u : TaskData). u.given) (handed_task exec now t) ts in
        omega (arith, a, b)
    by false e rest =
        let a = sum_by-cons (λ (u : TaskData). u.given) t ts in
        let b = sum_by-cons (λ (u : TaskData). u.given) t
        (with_task q (handed_task exec now) ts) in
        let more = rest e in
        omega (arith, a, b, more)

change_one : {A : Type 0} (g : A → ℕ) (f : A → A) (xs : List A) (i : ℕ) (x : A)
    → slice_get xs i ≡ Some x → g (f x) ≡ g x + 1
    → sum_by g (change_at xs i f) ≡ sum_by g xs + 1
change_one g f [] i x at up = absurd (search (rules, at))
change_one g f (y ∷ ys) zero x at up =
    let same : y ≡ x = search (rules, at) in
    let here : g (f y) ≡ g y + 1 = subst (λ z. g (f z) ≡ g z + 1) (sym same) up in
    let a = sum_by-cons g y ys in
    let b = sum_by-cons g (f y) ys in
    omega (arith, a, b, here)
change_one g f (y ∷ ys) (suc i) x at up =
    let a = sum_by-cons g y ys in
    let b = sum_by-cons g y (change_at ys i f) in
    let rest = change_one g f ys i x at up in
    omega (arith, a, b, rest)

handed_one : (d : DagData) (a : AttemptId) (exec now : ℕ)
    → may_be_given_in (newest_among (slice_get d.states a.stage)) exec now a.partition ≡ true
    → given_in_all (handed_out d a exec now) ≡ given_in_all d + 1
handed_one d a exec now may = by (slice_get d.states a.stage) refl may
  where
    set_one : (x : StageAttempt) → may_be_given_in (Some x.set) exec now a.partition ≡ true
        → given_in_set (handed x.set a.partition exec now)
        ≡ given_in_set x.set + 1
    set_one x h =
        let m = may_be x.set exec now a.partition h in
        given_one a.partition exec now x.set.tasks m.task m.there

    state_one : (state : StageState) (o : Option StageAttempt)
        → slice_get state.attempts (length state.attempts - 1) ≡ o
        → may_be_given_in (set_in o) exec now a.partition ≡ true
        → given_in_state (changed_newest (λ set. handed set a.partition exec now) state)
        ≡ given_in_state state + 1
    state_one state None e h = absurd (true≢false (sym h))
    state_one state (Some x) e h =
        change_one (λ (y : StageAttempt). given_in_set y.set)
        (with_set (λ set. handed set a.partition exec now)) state.attempts
        (length state.attempts - 1) x e (set_one x h)

    by : (o : Option StageState) → slice_get d.states a.stage ≡ o
        → may_be_given_in (newest_among o) exec now a.partition ≡ true
        → given_in_all (handed_out d a exec now) ≡ given_in_all d + 1
    by None e h = absurd (true≢false (sym h))
    by (Some state) e h =
        change_one given_in_state (changed_newest (λ set. handed set a.partition exec now))
        d.states a.stage state e
        (state_one state (slice_get state.attempts (length state.attempts - 1)) refl h)

-- ---- each event

ones : Bool → ℕ
ones b = cond b 1 0

-- one that hands nothing out leaves as much
plain_gives : (c after : CoreData) (event : Event) (answer : Answer) → IsSoundCore c
    → Steps c event answer after → gives_task event answer ≡ false
    → given_in_all after.dag ≡ given_in_all c.dag
plain_gives c after event answer sound step none =
    all_same c.dag after.dag sound.job.dag
    (steps_keep_sound c after event answer sound step).job.dag
    (steps_alike c after event answer sound step none) (steps_number c after event answer step)

takes_give : (c after : CoreData) (exec : ℕ) (answer : Answer) → IsSoundCore c
    → Takes c exec answer after
    → given_in_all after.dag ≡ given_in_all c.dag + ones (has_task answer)
unfolding ones
takes_give c after exec answer sound step = by (takes_so c after exec answer step)
  where
    none : has_task answer ≡ false
        → given_in_all after.dag ≡ given_in_all c.dag + cond (has_task answer) 1 0
    none e =
        let same = plain_gives c after (Take exec) answer sound step e in
        rw e (omega (arith, same))

    by : TakesSo c after exec answer
        → given_in_all after.dag ≡ given_in_all c.dag + cond (has_task answer) 1 0
    by (inl g) =
        let more = handed_one c.dag g.task.attempt exec c.now
        (offered_may c.dag exec c.now g.task.attempt
        (offered c.dag exec c.now g.task.attempt sound.job.dag g.out.offer)) in
        let is = ap (λ (x : CoreData). given_in_all x.dag) g.is in
        rw (ap has_task g.told) (omega (arith, more, is))
    by (inr (inl b)) = none (ap has_task b.told)
    by (inr (inr q)) = none q.plain

step_gives : (c after : CoreData) (event : Event) (answer : Answer) → IsSoundCore c
    → Steps c event answer after
    → given_in_all after.dag ≡ given_in_all c.dag + ones (gives_task event answer)
unfolding ones
step_gives c after (Take exec) answer sound step = takes_give c after exec answer sound step
step_gives c after (Post a outcome) answer sound step =
    let same = plain_gives c after (Post a outcome) answer sound step refl in omega (arith, same)
step_gives c after (Release key) answer sound step =
    let same = plain_gives c after (Release key) answer sound step refl in omega (arith, same)
step_gives c after (Side event) answer sound step =
    let same = plain_gives c after (Side event) answer sound step refl in omega (arith, same)
step_gives c after (TellLost exec) answer sound step =
    let same = plain_gives c after (TellLost exec) answer sound step refl in omega (arith, same)

-- ---- journals

given_along : (opening end : CoreData) (entries : List Entry) → IsSoundCore opening
    → Replays opening entries end
    → given_in_all end.dag ≡ given_in_all opening.dag + hand_outs_in entries
unfolding ones
given_along opening end [] sound is =
    let same = ap (λ (x : CoreData). given_in_all x.dag) is in omega (arith, same)
given_along opening end (entry ∷ entries) sound (mid, step, rest) =
    let one = step_gives opening mid entry.event entry.answer sound step in
    let more = given_along mid end entries
    (steps_keep_sound opening mid entry.event entry.answer sound step) rest in
    let all = sum_by-cons (λ (e : Entry). cond (is_hand_out e) 1 0) entry entries in
    omega (arith, one, more, all)

-- nothing was handed out where a job begins
begins_none : (graph : List StageData) (limits : Limits) (saves : Bool) (plan : List PlanLine)
    (last : Option CoreData) (opening : CoreData)
    → IsOpening graph limits saves plan last opening → (s k p : ℕ)
    → given_at (set_at opening.dag s k) p ≡ 0
begins_none graph limits saves plan last opening o s k p =
    slot_given (Steady p) p (steady_order p) (set_at o.dag s k) (set_at opening.dag s k)
    (submitted_slots (Steady p) p (steady_order p) o.dag opening.dag
    (this_stage (result_stage o.dag)) o.submits s k)
    ∙ ap (λ x. given_at x p)
    (ap (λ xs. set_numbered (slice_get xs s) k) o.opens.states
    ∙ blank_none (option_map (λ l. l.dag) last) 0 o.dag.stages s k)

pub handed_is_given : HandedIsGiven
handed_is_given graph limits saves plan last opening end entries o sound replays =
    let counted = hand_outs_are_counted opening end entries replays in
    let along = given_along opening end entries sound replays in
    let begins = all_none opening.dag sound.job.dag
    (begins_none graph limits saves plan last opening o) in
    let none = o.handed in
    omega (arith, counted, along, begins, none)
