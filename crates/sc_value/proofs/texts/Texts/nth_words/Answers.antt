use Rattle.sc_value.proofs.texts.Texts.nth_words.Goals as goal

pub nth_words_at-requires : goal.nth_words_at-requires
nth_words_at-requires c = rw (c.as_slice-2.ensures, c.as_slice.ensures) c.self.invariant

pub of_spans-requires : goal.of_spans-requires
of_spans-requires c = rw (c.in_ok-bytes.ensures, ← c.as_slice.ensures) c.in_ok-places.ensures.parts
