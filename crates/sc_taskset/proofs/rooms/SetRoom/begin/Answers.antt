use Rattle.std.proofs.Common.{◌≡◌, ap, length, arith}
use Rattle.std.specs.Vec.{vec_len}
use Rattle.sc_taskset.proofs.RoomLemmas.{fresh_listed, held_fresh}
use Rattle.sc_taskset.proofs.rooms.SetRoom.begin.Goals as goal

pub invariant_of-result : goal.invariant_of-result
invariant_of-result c =
    let s = c.self.inside in
    let failures : vec_len s.failures ≡ 0 =
    omega (arith, s.failures.ok.0, ap length c.self.invariant.1) in
    let durations : vec_len s.durations ≡ 0 =
    omega (arith, s.durations.ok.0, ap length c.self.invariant.2) in
    rw (
      c.new-2.ensures,
      c.new.ensures,
      failures,
      durations,
      c.self.invariant.1,
      c.self.invariant.2,
      c.self.invariant.0.fresh,
    )
    (held_fresh _ c.args.is_map c.args.limits c.args.born _ _ c.self.invariant.0.rising
    (rw (← c.self.view_is) at c.requires))

pub new-requires-2 : goal.new-requires-2
new-requires-2 c =
    let s = c.self.inside in
    rw c.new.ensures
    (fresh_listed s.lists s.rows.items c.self.invariant.3 c.self.invariant.0)
