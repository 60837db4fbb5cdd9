use Rattle.std.proofs.Common.{◌≡◌, ◌∙◌, ap, not, ◌&&◌, Bool, ℕ, length, nat_le}
use Rattle.std.specs.List.{filter}
use Rattle.sc_ids.specs.Failures.{is_counted}
use Rattle.sc_taskset.specs.Lookups.{is_there_and, task_at}
use Rattle.sc_taskset.specs.Reports.{is_failure, is_last_failure}
use Rattle.sc_taskset.specs.Rows.{is_failure_of, set_of, tasks_of}
use Rattle.sc_taskset.proofs.FailureLemmas.{failure_room, held_failed, limit_noted, view_failed}
use Rattle.sc_taskset.proofs.task_sets.TaskSet.failed.Goals as goal

pub note_failure-requires : goal.note_failure-requires
note_failure-requires c =
    let s = c.self.inside in
    failure_room
    (set_of s.rows s.failures.items s.durations.items s.is_map s.is_zombie s.limits
    s.born)
    c.args.partition c.args.nth (is_counted c.args.cause && not s.is_zombie) c.fails_in-fails.result
    (c.fails_in-fails.ensures s.failures.items)
    c.self.invariant

pub invariant_of-self : goal.invariant_of-self
invariant_of-self c =
    let s = c.self.inside in
    let counts : Bool = is_counted c.args.cause && not s.is_zombie in
    let fails : c.fails_in-fails.result
    ≡ is_there_and (is_failure counts c.args.nth)
    (task_at c.args.partition (tasks_of s.failures.items s.rows)) =
    c.fails_in-fails.ensures s.failures.items in
    rw (
      c.note_failure.ensures.items,
      c.note_failure.ensures.len,
      c.note_failure.ensures.kept,
      view_failed s.failures.items s.rows c.end_in.new.rows c.args.partition c.args.nth
          counts c.fails_in-fails.result c.self.invariant.sound.rising c.end_in.ensures fails,
    )
    (held_failed
    (set_of s.rows s.failures.items s.durations.items s.is_map s.is_zombie s.limits
    s.born)
    c.args.partition c.args.nth counts c.fails_in-fails.result fails c.self.invariant)

pub returns-clause-state : goal.returns-clause-state
returns-clause-state c =
    let s = c.self.inside in
    let counts : Bool = is_counted c.args.cause && not s.is_zombie in
    let fails : c.fails_in-fails.result
    ≡ is_there_and (is_failure counts c.args.nth)
    (task_at c.args.partition (tasks_of s.failures.items s.rows)) =
    c.fails_in-fails.ensures s.failures.items in
    rw (
      ← c.self.view_is,
      c.note_failure.ensures.items,
      view_failed s.failures.items s.rows c.end_in.new.rows c.args.partition c.args.nth
          counts c.fails_in-fails.result c.self.invariant.sound.rising c.end_in.ensures fails,
    )

pub returns-clause-limit : goal.returns-clause-limit
returns-clause-limit c =
    let s = c.self.inside in
    let counts : Bool = is_counted c.args.cause && not s.is_zombie in
    let told : Bool = c.fails_in-fails.result in
    let limit : ℕ = s.limits.task_failures in
    let fails : told
    ≡ is_there_and (is_failure counts c.args.nth)
    (task_at c.args.partition (tasks_of s.failures.items s.rows)) =
    c.fails_in-fails.ensures s.failures.items in
    let same : (told
    && nat_le limit (length (filter (is_failure_of c.args.partition) c.deref.result.now)))
    ≡ is_there_and (is_last_failure limit counts c.args.nth)
    (task_at c.args.partition (tasks_of s.failures.items s.rows)) =
    ap (λ fs. told && nat_le limit (length (filter (is_failure_of c.args.partition) fs)))
    (c.deref.ensures.value ∙ c.note_failure.ensures.items)
    ∙ limit_noted s.failures.items s.rows c.args.partition c.args.nth limit counts told
    fails in
    rw (← c.self.view_is) (rw same at c.verdict.ensures)
