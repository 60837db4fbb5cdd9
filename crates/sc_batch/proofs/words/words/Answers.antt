use Rattle.std.proofs.Common.{◌∙◌, ap, map}
use Rattle.sc_value.specs.Words.{words_of}
use Rattle.sc_columns.specs.Columns.{texts_value}
use Rattle.sc_expr.specs.declared.exprs.Head.TheVariants as heads
use Rattle.sc_batch.specs.Outcomes.{of_one, until_raise}
use Rattle.sc_batch.proofs.WordLemmas.{each-words}
use Rattle.sc_batch.proofs.words.words.Goals as goal

pub returns-in-Some : goal.returns-in-Some
returns-in-Some c =
    let end = c.args.input.raise in
    ap (λ ts. record { rows = map texts_value (map words_of ts); raise = end })
    c.in_ok-share-in-Some.ensures
    ∙ each-words c.in-Some.texts.now c.in_ok-rows.rows end c.in-Some.ensures
    ∙ ap (λ r. until_raise (map (of_one heads.Words) r) end) c.in_ok-rows.ensures
