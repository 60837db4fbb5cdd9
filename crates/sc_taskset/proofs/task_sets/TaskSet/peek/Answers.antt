use Rattle.std.proofs.Common.{◌≡◌, ◌∙◌, ℕ, Bool, List, arith, length, sym, ap, ap₂, true}
use Rattle.std.proofs.lemmas.List.{length-map}
use Rattle.std.specs.Option.{option_map}
use Rattle.sc_taskset.specs.Offers.{is_pending, slow_by}
use Rattle.sc_taskset.specs.Rows.{offered_task, set_of, task_of}
use Rattle.sc_taskset.specs.declared.tasks.RunningCopy.{RunningCopy}
use Rattle.sc_taskset.proofs.LookLemmas.{never_pending, singles_seen}
use Rattle.sc_taskset.proofs.OfferLemmas.{offers_nothing, offers_task}
use Rattle.sc_taskset.proofs.task_sets.TaskSet.peek.Goals as goal

pub returns-in_err-row-clause-offers : goal.returns-in_err-row-clause-offers
returns-in_err-row-clause-offers g c =
    let s = c.self.inside in
    let set = set_of s.rows s.failures.items s.durations.items s.is_map s.is_zombie s.limits
    s.born in
    let tasks = ap length c.as_slice.ensures
    ∙ sym (length-map s.rows (task_of s.failures.items)) in
    let slow = ap₂ (λ (ds : List ℕ) (n : ℕ). slow_by ds n c.args.now) c.deref.ensures.value
    tasks in
    rw (c.from_residual.ensures, ← c.self.view_is)
    (offers_nothing set c.args.exec c.args.now
    (ap (λ (w : RunningCopy → Bool). offered_task s.is_zombie s.limits.speculation w c.args.exec
    set.tasks) (sym slow)
    ∙ sym (c.offered.ensures.row s.failures.items)
    ∙ ap (option_map (task_of s.failures.items)) (c.in_err-row.was)))

pub returns-clause-offers : goal.returns-clause-offers
returns-clause-offers g c =
    let s = c.self.inside in
    let set = set_of s.rows s.failures.items s.durations.items s.is_map s.is_zombie s.limits
    s.born in
    let tasks = ap length c.as_slice.ensures
    ∙ sym (length-map s.rows (task_of s.failures.items)) in
    let slow = ap₂ (λ (ds : List ℕ) (n : ℕ). slow_by ds n c.args.now) c.deref.ensures.value
    tasks in
    rw (← c.self.view_is)
    (offers_task set c.args.exec c.args.now (task_of s.failures.items c.in_ok-row.row)
    c.self.invariant.sound.rising
    (ap (λ (w : RunningCopy → Bool). offered_task s.is_zombie s.limits.speculation w c.args.exec
    set.tasks) (sym slow)
    ∙ sym (c.offered.ensures.row s.failures.items)
    ∙ ap (option_map (task_of s.failures.items)) (c.in_ok-row.was)))

pub returns-in_err-row-clause-looked : goal.returns-in_err-row-clause-looked
returns-in_err-row-clause-looked g c =
    let s = c.self.inside in
    let looked = c.offered.ensures.looked in
    let singles = singles_seen s.failures.items s.rows in
    let tasks = length-map s.rows (task_of s.failures.items) in
    rw (← c.self.view_is) (omega (arith, looked, singles, tasks))

pub returns-in_err-row-clause-pending : goal.returns-in_err-row-clause-pending
returns-in_err-row-clause-pending g c = λ partition is.
    let s = c.self.inside in
    let set = set_of s.rows s.failures.items s.durations.items s.is_map s.is_zombie s.limits
    s.born in
    let here : is_pending set partition ≡ true = rw (← c.self.view_is) at is in
    c.offered.ensures.pending s.failures.items
    (λ none. never_pending set.tasks s.is_zombie partition none here)

pub returns-clause-looked : goal.returns-clause-looked
returns-clause-looked g c =
    let s = c.self.inside in
    let looked = c.offered.ensures.looked in
    let singles = singles_seen s.failures.items s.rows in
    let tasks = length-map s.rows (task_of s.failures.items) in
    rw (← c.self.view_is) (omega (arith, looked, singles, tasks))

pub returns-clause-pending : goal.returns-clause-pending
returns-clause-pending g c = λ partition is.
    let s = c.self.inside in
    let set = set_of s.rows s.failures.items s.durations.items s.is_map s.is_zombie s.limits
    s.born in
    let here : is_pending set partition ≡ true = rw (← c.self.view_is) at is in
    c.offered.ensures.pending s.failures.items
    (λ none. never_pending set.tasks s.is_zombie partition none here)
