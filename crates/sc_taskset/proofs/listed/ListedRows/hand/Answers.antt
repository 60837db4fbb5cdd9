use Rattle.std.proofs.Common.{◌∙◌, refl, subst, sym}
use Rattle.sc_taskset.specs.Lists.{IsOnOneMore}
use Rattle.sc_taskset.proofs.LeaveLemmas.{hand_listed, kept_listed}
use Rattle.sc_taskset.proofs.TableLemmas.{read_same}
use Rattle.sc_taskset.proofs.listed.ListedRows.hand.Goals.{then-not-is_on+in_ok-add, else-not-is_on}
use Rattle.sc_taskset.proofs.listed.ListedRows.hand.Goals as goal

pub invariant_of-self-2 : goal.invariant_of-self-2
invariant_of-self-2 c =
    let rows = c.self.inside.table in
    let there = rw (← c.self.view_is) at c.requires.there in
    let before = read_same rows c.as_slice.result.now c.args.place _ c.args.row
    c.as_slice.ensures there in
    let more = subst (λ b. IsOnOneMore c.args.exec b c.args.row) before
    (rw (← c.self.view_is) at c.requires.more) in
    rw c.put.ensures (elim c.if-not-is_on.branch [
      | then-not-is_on+in_ok-add w ↦
          rw w.self-inside-is
          (hand_listed c.self.inside.lists w.add.new.self rows c.args.place _ c.args.row there
          before c.self.invariant c.args.exec more
          (sym c.is_on.ensures ∙ w.if-not-is_on.true) w.in_ok-add.ensures.added)
      | else-not-is_on w ↦
          rw w.self-inside-is
          (kept_listed c.self.inside.lists c.self.inside.lists rows c.args.place _ c.args.row
          there before c.self.invariant c.args.exec more
          (sym c.is_on.ensures ∙ w.if-not-is_on.false) (λ e. refl))
    ])
