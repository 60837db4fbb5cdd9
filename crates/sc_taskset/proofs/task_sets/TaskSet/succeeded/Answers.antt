use Rattle.sc_taskset.specs.Rows.{set_of}
use Rattle.sc_taskset.proofs.SuccessLemmas.{duration_room, held_success}
use Rattle.sc_taskset.proofs.task_sets.TaskSet.succeeded.Goals as goal

pub note_duration-requires-clause-rising : goal.note_duration-requires-clause-rising
note_duration-requires-clause-rising c = c.self.invariant.sound.durations

pub note_duration-requires-clause-room : goal.note_duration-requires-clause-room
note_duration-requires-clause-room c =
    let s = c.self.inside in
    rw (c.duration_in-duration.ensures s.failures.items)
    (duration_room
    (set_of s.rows s.failures.items s.durations.items s.is_map s.is_zombie s.limits
    s.born)
    c.args.partition c.args.nth c.args.now c.self.invariant)

pub invariant_of-self : goal.invariant_of-self
invariant_of-self c =
    let s = c.self.inside in
    rw (
      c.note_duration.ensures.items,
      c.note_duration.ensures.len,
      c.ends-self-inside.ensures s.failures.items,
      c.succeed_in.ensures s.failures.items,
      c.duration_in-duration.ensures s.failures.items,
    )
    (held_success
    (set_of s.rows s.failures.items s.durations.items s.is_map s.is_zombie s.limits
    s.born)
    c.args.partition c.args.nth c.args.now _ c.note_duration.ensures.kept c.self.invariant)
