use Rattle.std.proofs.Common.{◌≡◌, ◌∙◌, ◌+◌, ◌<◌, ◌≤◌, sym, ap, arith, length, true, false, count_by}
use Rattle.sc_ids.proofs.ChangeLemmas.{change_at_past}
use Rattle.sc_tracker.specs.Outputs.{is_here, output_in, placed}
use Rattle.sc_tracker.proofs.CountLemmas.{placed_anew, placed_again}
use Rattle.sc_tracker.proofs.shuffles.ShuffleOutputs.place.Goals.{then-map-len+then-not-is_here, else-map-len, else-map-len-via-then-map-len+else-not-is_here, else-map-len-via-else-map-len}
use Rattle.sc_tracker.proofs.shuffles.ShuffleOutputs.place.Goals as goal

pub invariant_of-self : goal.invariant_of-self
invariant_of-self c =
    let outputs = c.self.inside.outputs in
    elim c.if-map-len.branch [
      | then-map-len+then-not-is_here w ↦
          (let short : c.args.map < length outputs.items =
          omega (arith, w.if-map-len.true, c.len.ensures, outputs.ok.0) in
          let none : is_here (output_in outputs.items c.args.map) ≡ false =
          ap (λ s. is_here (output_in s.outputs c.args.map)) c.self.view_is
          ∙ ap is_here (sym w.output.ensures) ∙ sym w.is_here.ensures ∙ w.if-not-is_here.true in
          rw (c.place_in.ensures, w.self-inside-is)
          (sym (placed_anew outputs.items c.args.map c.args.loc c.args.epoch short none
          ∙ ap (λ n. n + 1) (sym c.self.invariant))))
      | else-map-len w ↦
          elim w.else-map-len.branch [
            | else-map-len-via-then-map-len+else-not-is_here v ↦
                (let some : is_here (output_in outputs.items c.args.map) ≡ true =
                ap (λ s. is_here (output_in s.outputs c.args.map)) c.self.view_is
                ∙ ap is_here (sym v.output.ensures) ∙ sym v.is_here.ensures
                ∙ v.if-not-is_here.false in
                rw (c.place_in.ensures, w.self-inside-is)
                (sym (placed_again outputs.items c.args.map c.args.loc c.args.epoch some
                ∙ sym c.self.invariant)))
            | else-map-len-via-else-map-len v ↦
                (let past : length outputs.items ≤ c.args.map =
                omega (arith, v.if-map-len.false, c.len.ensures, outputs.ok.0) in
                rw (c.place_in.ensures, w.self-inside-is)
                (c.self.invariant
                ∙ sym (ap (count_by is_here)
                (change_at_past outputs.items c.args.map (placed c.args.loc c.args.epoch) past))))
          ]
    ]
