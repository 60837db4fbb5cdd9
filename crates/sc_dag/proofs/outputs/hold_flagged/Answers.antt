use Rattle.std.proofs.Common.{arith, sym, ◌∙◌}
use Rattle.sc_dag.proofs.HeldLemmas.{below_all, below_left, below_none, below_taken}
use Rattle.sc_dag.proofs.outputs.hold_flagged.Goals.{then-is_flagged, else-is_flagged}
use Rattle.sc_dag.proofs.outputs.hold_flagged.Goals as goal

pub loop-k-init : goal.loop-k-init
loop-k-init c = sym (below_none c.args.held.now c.args.set c.requires.free)

pub loop-k-preserved : goal.loop-k-preserved
loop-k-preserved c =
    let flags = c.args.held.now in
    elim c.if-is_flagged.branch [
      | then-is_flagged w ↦
          rw w.set-is (below_taken flags c.loop-k.k c.args.set c.loop-k.set w.held.new.self
          c.requires.rising c.loop-k.invariant
          (sym c.is_flagged.ensures ∙ w.if-is_flagged.true) w.held.ensures)
      | else-is_flagged w ↦
          rw w.set-is (below_left flags c.loop-k.k c.args.set c.loop-k.set c.loop-k.invariant
          (sym c.is_flagged.ensures ∙ w.if-is_flagged.false))
    ]

pub returns : goal.returns
returns c =
    below_all c.args.held.now c.loop-k.k c.args.set c.loop-k.set c.loop-k.invariant
    (λ i d l. (let lt = c.requires.within i d l in
    omega (arith, lt, c.loop-k-test.false)))
