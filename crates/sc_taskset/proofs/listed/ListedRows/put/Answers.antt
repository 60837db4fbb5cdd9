use Rattle.std.proofs.Common.{subst}
use Rattle.sc_taskset.specs.Lists.{IsOnFewer}
use Rattle.sc_taskset.proofs.LeaveLemmas.{put_listed}
use Rattle.sc_taskset.proofs.TableLemmas.{read_same}
use Rattle.sc_taskset.proofs.listed.ListedRows.put.Goals as goal

pub invariant_of-self : goal.invariant_of-self
invariant_of-self c =
    let rows = c.self.inside.table in
    let there = rw (← c.self.view_is) at c.requires.there in
    let fewer = rw (← c.self.view_is) at c.requires.fewer in
    let before = read_same rows c.as_slice.result.now c.args.place _ c.args.row
    c.as_slice.ensures there in
    rw c.put.ensures
    (put_listed c.self.inside.lists c.leave.new.self rows c.args.place _ c.args.row there before
    c.self.invariant (subst (λ b. IsOnFewer b c.args.row) before fewer) c.leave.ensures)
