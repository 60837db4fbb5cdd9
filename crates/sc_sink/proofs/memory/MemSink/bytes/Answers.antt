use Rattle.std.proofs.Common.{◌∙◌, Some, ap, sym}
use Rattle.sc_sink.proofs.PieceLemmas.{concat-pieces_of}
use Rattle.sc_sink.proofs.memory.MemSink.bytes.Goals as goal

pub returns : goal.returns
returns c =
    let lens = c.self.inside.lens.items in
    let bytes = c.self.inside.bytes.items in
    let whole = concat-pieces_of lens bytes c.self.invariant in
    rw (← c.self.view_is) (ap Some (whole ∙ sym c.deref.ensures.value))
