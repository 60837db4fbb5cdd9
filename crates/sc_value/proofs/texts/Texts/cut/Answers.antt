use Rattle.sc_value.proofs.texts.Texts.cut.Goals as goal

pub pieces_at-requires-clause-parts : goal.pieces_at-requires-clause-parts
pieces_at-requires-clause-parts c = rw (c.as_slice-2.ensures, c.as_slice.ensures) c.self.invariant

pub of_spans-requires : goal.of_spans-requires
of_spans-requires c =
    rw (c.in_ok-bytes.ensures, ← c.as_slice.ensures) c.in_ok-found.ensures.parts
