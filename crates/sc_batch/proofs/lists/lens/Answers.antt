use Rattle.std.proofs.Common.{◌∙◌, ap, sym, map}
use Rattle.std.proofs.lemmas.Result.{IfOk-weaker}
use Rattle.sc_expr.specs.declared.exprs.Head.TheVariants as heads
use Rattle.sc_batch.specs.Made.{rows_made}
use Rattle.sc_batch.specs.Outcomes.{of_one, until_raise}
use Rattle.sc_batch.proofs.WordLemmas.{each-count}
use Rattle.sc_batch.proofs.lists.lens.Goals as goal

pub returns-in-Words : goal.returns-in-Words
returns-in-Words c =
    let end = c.args.input.raise in
    IfOk-weaker c.word_counts.result _ _ (λ s is. is ∙ each-count c.in-Words.texts end
    ∙ ap (λ col. until_raise (map (of_one heads.Len) (rows_made col)) end) (sym c.in-Words.is))
    c.word_counts.ensures
