use Rattle.std.proofs.Common.{◌≡◌, ◌∙◌, ◌-◌, sym, ap, arith, true, false}
use Rattle.sc_tracker.specs.Outputs.{is_here, output_in}
use Rattle.sc_tracker.proofs.CountLemmas.{forgotten_again, forgotten_anew, some_here}
use Rattle.sc_tracker.proofs.shuffles.ShuffleOutputs.forget_one.Goals.{then-is_here, else-is_here}
use Rattle.sc_tracker.proofs.shuffles.ShuffleOutputs.forget_one.Goals as goal

pub overflow_sub-self : goal.overflow_sub-self
overflow_sub-self c =
    let outputs = c.self.inside.outputs in
    let some : is_here (output_in outputs.items c.args.map) ≡ true =
    ap (λ s. is_here (output_in s.outputs c.args.map)) c.self.view_is
    ∙ ap is_here (sym c.output.ensures) ∙ sym c.is_here.ensures ∙ c.if-is_here.true in
    let more = some_here outputs.items c.args.map some in
    omega (arith, more, c.self.invariant)

pub invariant_of-self : goal.invariant_of-self
invariant_of-self c =
    let outputs = c.self.inside.outputs in
    elim c.if-is_here.branch [
      | then-is_here w ↦
          (let some : is_here (output_in outputs.items c.args.map) ≡ true =
          ap (λ s. is_here (output_in s.outputs c.args.map)) c.self.view_is
          ∙ ap is_here (sym c.output.ensures) ∙ sym c.is_here.ensures ∙ w.if-is_here.true in
          rw (c.forget_in.ensures, w.self-inside-is)
          (ap (λ n. n - 1) c.self.invariant
          ∙ sym (forgotten_anew outputs.items c.args.map some)))
      | else-is_here w ↦
          (let none : is_here (output_in outputs.items c.args.map) ≡ false =
          ap (λ s. is_here (output_in s.outputs c.args.map)) c.self.view_is
          ∙ ap is_here (sym c.output.ensures) ∙ sym c.is_here.ensures ∙ w.if-is_here.false in
          rw (c.forget_in.ensures, w.self-inside-is)
          (c.self.invariant ∙ sym (forgotten_again outputs.items c.args.map none)))
    ]
