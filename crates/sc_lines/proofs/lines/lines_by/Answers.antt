use Rattle.sc_lines.proofs.lines.lines_by.Goals as goal

pub of_spans-requires : goal.of_spans-requires
of_spans-requires g c =
    rw (c.in_ok-share.ensures, ← c.as_slice-text.ensures) c.in_ok-spans.ensures.lines.parts
