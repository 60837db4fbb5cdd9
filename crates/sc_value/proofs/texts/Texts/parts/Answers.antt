use Rattle.std.proofs.Common.{subst, sym}
use Rattle.std.specs.List.{All}
use Rattle.sc_value.specs.Spans.{IsPart}
use Rattle.sc_value.proofs.texts.Texts.parts.Goals as goal

pub returns-clause-parts : goal.returns-clause-parts
returns-clause-parts c =
    let spans = c.as_slice-2.result.now in
    subst (λ bytes. All (IsPart bytes) spans) (sym c.as_slice.ensures)
    (subst (λ ss. All (IsPart c.self.inside.bytes) ss) (sym c.as_slice-2.ensures)
    c.self.invariant)
