use Rattle.std.proofs.Common.{◌*◌, ◌+◌, ◌≤◌, ◌∙◌, arith, length, sym, ap, vec_capacity, vec_len}
use Rattle.std.proofs.lemmas.List.{length-map}
use Rattle.sc_taskset.specs.Rows.{set_of, task_of}
use Rattle.sc_taskset.proofs.HandLemmas.{held_roomy, row_room}
use Rattle.sc_taskset.proofs.task_sets.TaskSet.give.Goals as goal

pub hand_in-requires : goal.hand_in-requires
hand_in-requires c =
    row_room c.self.inside.failures.items c.self.inside.rows c.args.self.now c.args.exec
    c.args.now c.args.partition (ap (λ s. s.tasks) (sym c.self.view_is)) c.requires

pub invariant_of-self-2 : goal.invariant_of-self-2
invariant_of-self-2 c =
    let s = c.self.inside in
    let set = set_of s.rows s.failures.items s.durations.items s.is_map s.is_zombie s.limits
    s.born in
    let many = ap length c.as_slice-tasks.ensures
    ∙ sym (length-map s.rows (task_of s.failures.items)) in
    let failures : vec_len s.failures + 2 * length set.tasks
    ≤ vec_capacity c.reserve_for.new.items =
    omega (arith, c.in_ok-reserve_for.ensures.room, many) in
    let durations : vec_len s.durations + 2 * length set.tasks
    ≤ vec_capacity c.reserve_for-2.new.items =
    omega (arith, c.in_ok-reserve_for-2.ensures.room, many) in
    rw (
      c.reserve_for.ensures.items,
      c.reserve_for-2.ensures.items,
      c.reserve_for.ensures.len,
      c.reserve_for-2.ensures.len,
      c.in_ok-hand_in.ensures.handed s.failures.items,
    )
    (held_roomy set c.args.partition c.args.exec c.args.now _ _
    (rw (← c.self.view_is) at c.requires) failures durations c.self.invariant)
