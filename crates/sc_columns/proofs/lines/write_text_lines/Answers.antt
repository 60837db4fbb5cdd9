use Rattle.std.proofs.Common.{◌∙◌, ◌++◌, ap, map, refl, sym}
use Rattle.sc_value.specs.Datum.{text}
use Rattle.sc_columns.proofs.FindingLemmas.{found-map}
use Rattle.sc_columns.proofs.PrintLemmas.{line_written}
use Rattle.sc_columns.proofs.lines.write_text_lines.Goals as goal

pub loop-i-preserved : goal.loop-i-preserved
loop-i-preserved c =
    let t = c.get.result.now in
    line_written (map text c.args.texts.now) c.loop-i.i (text t) c.args.out.now.items
    c.loop-i.out.items c.extend_from_slice.new.self.items c.push.new.self.items
    (found-map text c.args.texts.now c.loop-i.i t (text t) (sym c.get.ensures) refl)
    c.loop-i.invariant
    (c.in_ok-extend_from_slice.ensures.items
    ∙ ap (λ b. c.loop-i.out.items ++ b) c.as_bytes.ensures.value)
    c.in_ok-push.ensures.items
