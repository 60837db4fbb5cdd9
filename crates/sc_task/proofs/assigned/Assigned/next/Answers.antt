use Rattle.std.proofs.Common.{◌∙◌, Some, ap, refl, sym, arith}
use Rattle.sc_dag.specs.Outputs.{block_of}
use Rattle.sc_task.specs.Nexts.{next_at}
use Rattle.sc_task.proofs.NextLemmas.{block_next, none_next, nothing_next}
use Rattle.sc_task.proofs.assigned.Assigned.next.Goals as goal

pub returns-in_default : goal.returns-in_default
returns-in_default g c =
    nothing_next g.W.Naming.work c.self.inside.task c.self.inside.got.items
    c.self.inside.cursor c.args.self.now c.self.inside.got.len c.self.invariant
    (omega (arith, c.self.inside.got.ok.0)) c.self.view_is c.in_default.is

pub returns-in-Some-Here : goal.returns-in-Some-Here
returns-in-Some-Here g c =
    let h = c.in-Some-Here.ensures.lookup in
    ap (λ l. next_at (Some c.block.result) (Some l)) (sym c.in-Some-Here.field-0-is)
    ∙ block_next g.W.Naming.work c.self.inside.task c.self.inside.got.items
    c.self.inside.cursor c.args.self.now c.self.inside.got.len c.self.invariant
    (omega (arith, c.self.inside.got.ok.0)) c.self.view_is c.in-Some.cursor c.block.result
    c.inputs.result.now c.len.result c.in-Some-Here.field-0.now c.in-Some.is c.block.ensures
    (c.inputs.ensures ∙ ap (λ h. h.inputs) c.hand_out.ensures) c.len.ensures h.3.0 h.1

pub returns-in-Some-Missing : goal.returns-in-Some-Missing
returns-in-Some-Missing g c =
    let h = c.in-Some-Missing.ensures.lookup in
    ap (λ l. next_at (Some (block_of c.in-Some.cursor.shuffle c.in-Some.cursor.map)) (Some l))
    (sym c.in-Some-Missing.field-0-is)
    ∙ block_next g.W.Naming.work c.self.inside.task c.self.inside.got.items
    c.self.inside.cursor c.args.self.now c.self.inside.got.len c.self.invariant
    (omega (arith, c.self.inside.got.ok.0)) c.self.view_is c.in-Some.cursor
    (block_of c.in-Some.cursor.shuffle c.in-Some.cursor.map)
    c.inputs.result.now c.len.result c.in-Some-Missing.field-0.now c.in-Some.is refl
    (c.inputs.ensures ∙ ap (λ h. h.inputs) c.hand_out.ensures) c.len.ensures h.3.0 h.1

pub returns-in-None : goal.returns-in-None
returns-in-None g c =
    none_next g.W.Naming.work c.self.inside.task c.self.inside.got.items
    c.self.inside.cursor c.args.self.now c.self.inside.got.len c.self.invariant
    (omega (arith, c.self.inside.got.ok.0)) c.self.view_is c.in-Some.cursor
    c.inputs.result.now c.len.result c.in-Some.is
    (c.inputs.ensures ∙ ap (λ h. h.inputs) c.hand_out.ensures) c.len.ensures
    c.in-None.ensures.lookup.3
