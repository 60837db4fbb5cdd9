use Rattle.sc_value.proofs.texts.Texts.words.Goals as goal

pub words_at-requires : goal.words_at-requires
words_at-requires c = rw (c.as_slice-2.ensures, c.as_slice.ensures) c.self.invariant

pub of_spans-requires : goal.of_spans-requires
of_spans-requires c = rw (c.in_ok-bytes.ensures, ← c.as_slice.ensures) c.in_ok-found.ensures.parts
