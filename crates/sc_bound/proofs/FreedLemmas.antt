-- How often a partition of a set is freed in a journal.
use Rattle.std.proofs.Common.{◌≡◌, ℕ, ◌+◌, ◌*◌, ◌-◌, ◌≤◌, ◌&&◌, Bool, true, false, if◌then◌else◌, List, [], ◌∷◌, length, nat_lt, Option, Some, None, is_some, count_by, slice_get, refl, ap, sym, subst, ◌∙◌, arith, true≢false}
use Rattle.std.proofs.lemmas.Bool.Decides.{nat_tests}
use Rattle.std.proofs.lemmas.Option.{slice_get_past}
use Rattle.sc_ids.specs.Graphs.{StageData}
use Rattle.sc_ids.specs.LimitRanges.{AreLimits}
use Rattle.sc_ids.specs.declared.limits.Limits.{Limits}
use Rattle.sc_plan.specs.declared.lines.PlanLine.{PlanLine}
use Rattle.sc_taskset.specs.Offers.{given_of}
use Rattle.sc_taskset.specs.TaskSetData.{TaskSetData}
use Rattle.sc_dag.specs.DagData.{DagData, StageState, attempt_in, set_in}
use Rattle.sc_dag.specs.declared.attempts.StageAttempt.{StageAttempt}
use Rattle.sc_core.specs.CoreData.{CoreData, job_runs}
use Rattle.sc_core.specs.Journals.{Replays}
use Rattle.sc_core.specs.Losses.{is_due_after}
use Rattle.sc_core.specs.Openings.{IsOpening}
use Rattle.sc_core.specs.Sound.{IsSoundCore}
use Rattle.sc_core.specs.Steps.{Steps}
use Rattle.sc_core.specs.declared.answers.Answer.{Answer}
use Rattle.sc_core.specs.declared.entries.Entry.{Entry}
use Rattle.sc_core.specs.declared.events.Event.{Event}
use Rattle.sc_core.specs.declared.running.Running.{Running}
use Rattle.sc_core.proofs.LawLemmas.{replays_keep_sound, steps_keep_sound}
use Rattle.sc_history.proofs.BudgetLemmas.{opening_limits, step_limits}
use Rattle.sc_history.proofs.Growing.{IsCalm, Slot, attempt_among, numbered_slot}
use Rattle.sc_history.proofs.GrowingCalls.{steps_grow}
use Rattle.sc_history.proofs.Keeping.{NoFailures, SameFailures, failures_calm, no_failures}
use Rattle.sc_history.proofs.SetLimits.{HaveLimits, limits_begin, limits_kept}
use Rattle.sc_history.proofs.Starting.{opening_slot}
use Rattle.sc_bound.specs.Accounts.{account_in, account_of, frees, frees_in, need_of, times_freed}
use Rattle.sc_bound.specs.Bounds.{loses_in}
use Rattle.sc_bound.specs.Freed.{FreesAreBounded, GivenIsBounded, freed_bound, older_sets, older_than}
use Rattle.sc_bound.specs.Losses.{lost_count}
use Rattle.sc_bound.specs.Numbered.{set_at, set_numbered}
use Rattle.sc_bound.proofs.EventSteps.{accounts_are_kept}
use Rattle.sc_bound.proofs.FailedLemmas.{fails_at, fails_in}
use Rattle.sc_bound.proofs.FreedSteps.{IsWithinLimit, one_if, steps_spend, steps_within}
use Rattle.sc_bound.proofs.KeptLemmas.{fails_are}
use Rattle.sc_bound.proofs.LostLemmas.{lost_stay}
use Rattle.sc_bound.proofs.OlderLemmas.{older_few, older_running, runs_older}
use Rattle.sc_bound.proofs.TrustLemmas.{lost_planned}

-- ---- sets stay

Any : StageAttempt → StageAttempt → Type 0
Any x y = Unit {0}

Each : StageAttempt → Type 0
Each x = Unit {0}

any_calm : (limits : Limits) → IsCalm Any Each limits
unfolding Any Each
any_calm limits =
    record {
      same = λ x. tt;
      chain = λ x y z h k. tt;
      hands = λ x p exec now. tt;
      succeeds = λ x p nth now. tt;
      ends = λ x p nth. tt;
      holds = λ x p denied. tt;
      loses = λ x exec. tt;
      stops = λ x. tt;
      forgives = λ x. tt;
      begins = λ t stage results held. tt;
      stays = λ x y h k. tt;
    }

set_there : (o : Option StageState) (k : ℕ)
    → is_some (set_numbered o k) ≡ is_some (attempt_among o k)
set_there None k = refl
set_there (Some state) k = by (attempt_in state k)
  where
    by : (o : Option StageAttempt) → is_some (set_in o) ≡ is_some o
    by None = refl
    by (Some x) = refl

-- a set that is there stays there
step_stays : (c after : CoreData) (event : Event) (answer : Answer) (s k : ℕ)
    → Steps c event answer after → is_some (set_at c.dag s k) ≡ true
    → is_some (set_at after.dag s k) ≡ true
unfolding Any Each
step_stays c after event answer s k step some =
    set_there (slice_get after.dag.states s) k
    ∙ by (attempt_among (slice_get c.dag.states s) k)
    (attempt_among (slice_get after.dag.states s) k)
    (numbered_slot Any Each (slice_get c.dag.states s) (slice_get after.dag.states s) k
    (steps_grow Any Each c.dag.limits (any_calm c.dag.limits) (λ x. tt) (λ x p nth cause. tt) c
    after event answer refl step s))
    (sym (set_there (slice_get c.dag.states s) k) ∙ some)
  where
    by : (o x : Option StageAttempt) → Slot Any Each o x → is_some o ≡ true → is_some x ≡ true
    by None x h e = absurd (true≢false (sym e))
    by (Some y) None h e = absurd h
    by (Some y) (Some z) h e = refl

sets_stay : (c end : CoreData) (entries : List Entry) (s k : ℕ) → Replays c entries end
    → is_some (set_at c.dag s k) ≡ true → is_some (set_at end.dag s k) ≡ true
sets_stay c end [] s k is some = ap (λ (x : CoreData). is_some (set_at x.dag s k)) is ∙ some
sets_stay c end (entry ∷ entries) s k (mid, step, rest) some =
    sets_stay mid end entries s k rest
    (step_stays c mid entry.event entry.answer s k step some)

-- ---- what is left that may free a partition

-- the sets of a stage have numbers from one on
abbrev AreFrom : ℕ → DagData → ℕ → Type 0
AreFrom b d s = (k : ℕ) → is_some (set_at d s k) ≡ true → b ≤ k

-- attempts of older sets, which may give back a grant: as many as run, or as may run where the set
-- is yet to begin
abbrev left_back : CoreData → ℕ → ℕ → ℕ → ℕ → ℕ
left_back c b s k p =
    if is_some (set_at c.dag s k) then older_running c s k p else 2 * (k - b)

back_few : (c : CoreData) (b s k p : ℕ) → b ≤ k → older_running c s k p ≤ 2 * (k - b)
    → left_back c b s k p ≤ 2 * (k - b)
back_few c b s k p le few = by (is_some (set_at c.dag s k))
  where
    by : (x : Bool) → (if x then older_running c s k p else 2 * (k - b)) ≤ 2 * (k - b)
    by true = few
    by false = omega arith

freed_step : (c after : CoreData) (event : Event) (answer : Answer) (b s k p : ℕ)
    → IsSoundCore c → IsSoundCore after → Steps c event answer after → AreFrom b after.dag s
    → b ≤ k
    → one_if (frees c event answer s k p) + left_back after b s k p + fails_at c.dag s k p
    + lost_count c.dag.tracker
    ≤ left_back c b s k p + fails_at after.dag s k p + lost_count after.dag.tracker
freed_step c after event answer b s k p sound next step from le =
    by (set_at c.dag s k) refl
  where
    few : older_running after s k p ≤ 2 * (k - b)
    few =
        let same : b + (k - b) ≡ k = omega (arith, le) in
        subst (λ (n : ℕ). count_by (runs_older s n p) after.running ≤ 2 * (k - b)) same
        (older_few after s p b (k - b) next from)

    by : (o : Option TaskSetData) → set_at c.dag s k ≡ o
        → one_if (frees c event answer s k p) + left_back after b s k p + fails_at c.dag s k p
        + lost_count c.dag.tracker
        ≤ left_back c b s k p + fails_at after.dag s k p + lost_count after.dag.tracker
    by None e =
        let frees_none : one_if (frees c event answer s k p) ≡ 0 =
        ap (λ o. one_if (is_some o && frees_in c event answer s k p)) e in
        let fails_none : fails_at c.dag s k p ≡ 0 = ap (λ o. fails_in o p) e in
        let back : left_back c b s k p ≡ 2 * (k - b) =
        ap (λ o. if is_some o then older_running c s k p else 2 * (k - b)) e in
        let most = back_few after b s k p le few in
        let lost = lost_stay c after event answer sound step in
        omega (arith, frees_none, fails_none, back, most, lost)
    by (Some set) e =
        let some : is_some (set_at c.dag s k) ≡ true = ap is_some e in
        let spends = steps_spend c after event answer s k p sound step some in
        let was : left_back c b s k p ≡ older_running c s k p =
        ap (λ x. if x then older_running c s k p else 2 * (k - b)) some in
        let is : left_back after b s k p ≡ older_running after s k p =
        ap (λ x. if x then older_running after s k p else 2 * (k - b))
        (step_stays c after event answer s k step some) in
        omega (arith, spends, was, is)

-- ---- journals

freed_along : (b s k p : ℕ) (opening end : CoreData) (entries : List Entry) → IsSoundCore opening
    → (replays : Replays opening entries end) → AreFrom b end.dag s → b ≤ k
    → times_freed s k p opening entries end replays + left_back end b s k p
    + fails_at opening.dag s k p + lost_count opening.dag.tracker
    ≤ left_back opening b s k p + fails_at end.dag s k p + lost_count end.dag.tracker
freed_along b s k p opening end [] sound is from le =
    let back : left_back end b s k p ≡ left_back opening b s k p =
    ap (λ (x : CoreData). left_back x b s k p) is in
    let fails : fails_at end.dag s k p ≡ fails_at opening.dag s k p =
    ap (λ (x : CoreData). fails_at x.dag s k p) is in
    let lost : lost_count end.dag.tracker ≡ lost_count opening.dag.tracker =
    ap (λ (x : CoreData). lost_count x.dag.tracker) is in
    omega (arith, back, fails, lost)
freed_along b s k p opening end (entry ∷ entries) sound (mid, step, rest) from le =
    let next = steps_keep_sound opening mid entry.event entry.answer sound step in
    let one = freed_step opening mid entry.event entry.answer b s k p sound next step
    (λ j some. from j (sets_stay mid end entries s j rest some)) le in
    let more = freed_along b s k p mid end entries next rest from le in
    omega (arith, one, more)

within_along : (limits : Limits) (s k p : ℕ) (opening end : CoreData) (entries : List Entry)
    → IsSoundCore opening → opening.dag.limits ≡ limits → HaveLimits limits opening.dag
    → Replays opening entries end → IsWithinLimit limits opening s k p
    → IsWithinLimit limits end s k p
within_along limits s k p opening end [] sound same have is le =
    subst (λ (x : CoreData). IsWithinLimit limits x s k p) (sym is) le
within_along limits s k p opening end (entry ∷ entries) sound same have (mid, step, rest) le =
    within_along limits s k p mid end entries
    (steps_keep_sound opening mid entry.event entry.answer sound step)
    (step_limits opening mid entry.event entry.answer step ∙ same)
    (limits_kept limits opening mid entry.event entry.answer same step have) rest
    (steps_within limits opening mid entry.event entry.answer s k p sound have step le)

-- ---- a job

-- no failure counts where it begins
fails_begin : (graph : List StageData) (limits : Limits) (saves : Bool) (plan : List PlanLine)
    (last : Option CoreData) (opening : CoreData) (s k p : ℕ)
    → IsOpening graph limits saves plan last opening → fails_at opening.dag s k p ≡ 0
fails_begin graph limits saves plan last opening s k p o =
    fails_are opening.dag s k p
    ∙ ap (λ (xs : List ℕ). length xs)
    (no_failures (attempt_among (slice_get opening.dag.states s) k) p
    (opening_slot SameFailures NoFailures graph limits saves plan last opening
    (failures_calm limits) o s k))

-- how often a partition may be freed still once the job has ended
abbrev pub left_of : Bool → ℕ
left_of true = 0
left_of false = 1

-- failures of a partition of a set are no more than are allowed, and fewer while the job runs
fails_few : (graph : List StageData) (limits : Limits) (saves : Bool) (plan : List PlanLine)
    (last : Option CoreData) (opening end : CoreData) (entries : List Entry) (s k p : ℕ)
    → AreLimits limits → IsOpening graph limits saves plan last opening → IsSoundCore opening
    → Replays opening entries end
    → fails_at end.dag s k p + 1 ≤ left_of (job_runs end) + limits.task_failures
fails_few graph limits saves plan last opening end entries s k p are o sound replays =
    let none = fails_begin graph limits saves plan last opening s k p o in
    let one = most (job_runs opening) in
    let some = are.task_failures.above in
    let le = within_along limits s k p opening end entries sound
    (opening_limits graph limits saves plan last opening o)
    (limits_begin graph limits saves plan last opening o) replays
    (omega (arith, none, one, some)) in
    let left = both (job_runs end) in
    omega (arith, le, left)
  where
    most : (b : Bool) → one_if b ≤ 1
    most true = omega arith
    most false = omega arith

    both : (b : Bool) → left_of b + one_if b ≡ 1
    both true = refl
    both false = refl

-- no more executors are lost than the plan loses
lost_few : (c : CoreData) → IsSoundCore c → lost_count c.dag.tracker ≤ loses_in c.plan
lost_few c sound =
    lost_planned c.plan c.dag.tracker
    (λ e l none. true≢false (sym (sound.lost e l) ∙ ap (λ o. is_due_after o c.told) none))

-- nothing runs where it begins
back_begins : (graph : List StageData) (limits : Limits) (saves : Bool) (plan : List PlanLine)
    (last : Option CoreData) (opening : CoreData) (b s k p : ℕ)
    → IsOpening graph limits saves plan last opening → b ≤ k
    → left_back opening b s k p ≤ 2 * (k - b)
back_begins graph limits saves plan last opening b s k p o le =
    let none : older_running opening s k p ≡ 0 =
    ap (λ (rs : List Running). count_by (runs_older s k p) rs) o.running in
    back_few opening b s k p le (omega (arith, none))

-- a partition of a set is freed no more often than the bound has it, and not so often while the job
-- runs
frees_left :
    (graph : List StageData) (limits : Limits) (saves : Bool) (plan : List PlanLine)
    (last : Option CoreData) (opening end : CoreData) (entries : List Entry) (s k p : ℕ)
    → AreLimits limits → IsOpening graph limits saves plan last opening → IsSoundCore opening
    → (replays : Replays opening entries end) → is_some (set_at end.dag s k) ≡ true
    → times_freed s k p opening entries end replays + 1
    ≤ left_of (job_runs end) + freed_bound end.plan limits (older_sets end.dag s k)
frees_left graph limits saves plan last opening end entries s k p are o sound replays some =
    by (slice_get end.dag.states s) refl
  where
    bound : (b : ℕ) → AreFrom b end.dag s → b ≤ k
        → times_freed s k p opening entries end replays + 1
        ≤ left_of (job_runs end) + (limits.task_failures + loses_in end.plan + 2 * (k - b))
    bound b from le =
        let along = freed_along b s k p opening end entries sound replays from le in
        let begins = back_begins graph limits saves plan last opening b s k p o le in
        let fails = fails_few graph limits saves plan last opening end entries s k p are o sound
        replays in
        let lost = lost_few end (replays_keep_sound opening end entries sound replays) in
        omega (arith, along, begins, fails, lost)

    first : (state : StageState) (j : ℕ) → is_some (set_numbered (Some state) j) ≡ true
        → state.before ≤ j
    first state j h = one (nat_lt j state.before) refl h
      where
        one : (x : Bool) → nat_lt j state.before ≡ x
            → is_some (set_in (slice_get state.attempts
            (if x then length state.attempts else j - state.before))) ≡ true
            → state.before ≤ j
        one true e g =
            let past = slice_get_past state.attempts (length state.attempts) (omega arith) in
            absurd (true≢false (sym g ∙ ap (λ a. is_some (set_in a)) past))
        one false e g = grind (arith, nat_tests, e)

    by : (x : Option StageState) → slice_get end.dag.states s ≡ x
        → times_freed s k p opening entries end replays + 1
        ≤ left_of (job_runs end) + freed_bound end.plan limits (older_sets end.dag s k)
    by None e = absurd (true≢false (sym some ∙ ap (λ x. is_some (set_numbered x k)) e))
    by (Some state) e =
        let from : AreFrom state.before end.dag s =
        λ j h. first state j (sym (ap (λ x. is_some (set_numbered x j)) e) ∙ h) in
        let le = bound state.before from (from k some) in
        let older : older_sets end.dag s k ≡ k - state.before = ap (λ x. older_than x k) e in
        omega (arith, le, older)

pub left_few : (b : Bool) → left_of b ≤ 1
left_few true = omega arith
left_few false = omega arith

pub frees_are_bounded : FreesAreBounded
frees_are_bounded graph limits saves plan last opening end entries s k p are o sound replays some =
    let le = frees_left graph limits saves plan last opening end entries s k p are o sound replays
    some in
    let one = left_few (job_runs end) in
    omega (arith, le, one)

-- so it is handed out less often while the job runs
pub given_left :
    (graph : List StageData) (limits : Limits) (saves : Bool) (plan : List PlanLine)
    (last : Option CoreData) (opening end : CoreData) (entries : List Entry) (s k p : ℕ)
    (set : TaskSetData)
    → AreLimits limits → IsOpening graph limits saves plan last opening → IsSoundCore opening
    → Replays opening entries end → set_at end.dag s k ≡ Some set
    → given_of set p
    ≤ 2 * (left_of (job_runs end) + freed_bound end.plan limits (older_sets end.dag s k))
given_left graph limits saves plan last opening end entries s k p set are o sound replays at =
    let account = accounts_are_kept graph limits saves plan last opening end entries s k p o sound
    replays in
    let is : account_of end s k p ≡ given_of set p + need_of end s k p =
    ap (λ x. account_in x p (need_of end s k p)) at in
    let freed = frees_left graph limits saves plan last opening end entries s k p are o sound
    replays (ap is_some at) in
    omega (arith, account, is, freed)

pub given_is_bounded : GivenIsBounded
given_is_bounded graph limits saves plan last opening end entries s k p set are o sound replays at =
    let le = given_left graph limits saves plan last opening end entries s k p set are o sound
    replays at in
    let one = left_few (job_runs end) in
    omega (arith, le, one)
