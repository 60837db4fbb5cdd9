use Rattle.std.proofs.Common.{◌≡◌, ◌+◌, arith, length, subst, vec_capacity}
use Rattle.sc_taskset.specs.Marks.{IsMarked}
use Rattle.sc_taskset.proofs.MarkLemmas.{fit_fewer, fit_kept, marked_push}
use Rattle.sc_taskset.proofs.RoomLemmas.{fresh_push}
use Rattle.sc_taskset.proofs.rooms.SetRoom.hold.Goals as goal

pub put-requires : goal.put-requires
put-requires c =
    fit_fewer c.self.inside.marks (c.len.result + 1) (vec_capacity c.self.inside.rows)
    (omega (arith, rw (← c.self.view_is) at c.requires.spare, c.len.ensures))
    c.self.invariant.5

pub invariant_of-self : goal.invariant_of-self
invariant_of-self c =
    let s = c.self.inside in
    let row = c.new-row.result in
    let place : c.len.result ≡ length s.rows.items = omega (arith, c.len.ensures, s.rows.ok.0) in
    let marked : IsMarked s.marks c.put.new.self (length s.rows.items) row =
    subst (λ k. IsMarked s.marks c.put.new.self k row) place c.put.ensures in
    rw (c.push_reserved.ensures.items, c.push_reserved.ensures.capacity) (
      fresh_push s.rows.items row c.args.partition c.self.invariant.0
          (rw (← c.self.view_is) at c.requires.above) c.new-row.ensures,
      c.self.invariant.1,
      c.self.invariant.2,
      c.self.invariant.3,
      marked_push s.rows.items row s.marks c.put.new.self c.self.invariant.4 marked,
      fit_kept s.marks c.put.new.self (length s.rows.items) (vec_capacity s.rows) row marked
          c.self.invariant.5,
    )
