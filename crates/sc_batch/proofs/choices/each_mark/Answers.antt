use Rattle.std.proofs.Common.{◌∙◌, ap, ◌++◌, ◌∷◌, []}
use Rattle.sc_value.specs.Views.{datum_of}
use Rattle.sc_expr.specs.Heads.{truth_in}
use Rattle.sc_batch.proofs.ZipLemmas.{mapped_more}
use Rattle.sc_batch.proofs.choices.each_mark.Goals as goal

pub loop-i-preserved : goal.loop-i-preserved
loop-i-preserved c =
    mapped_more truth_in c.args.rows.now c.loop-i.out.items c.push.new.self.items c.loop-i.i
    (datum_of c.in_ok-row.row) c.in_ok-row.ensures c.loop-i.invariant
    (c.in_ok-push.ensures.items ∙ ap (λ b. c.loop-i.out.items ++ b ∷ []) c.truth_in.ensures)
