use Rattle.std.proofs.Common.{◌∙◌, ap, sym}
use Rattle.sc_columns.specs.Columns.{rows_in}
use Rattle.sc_columns.proofs.VariantLemmas.{at-Pairs}
use Rattle.sc_columns.proofs.ViewLemmas.{ArePairs-front}
use Rattle.sc_columns.proofs.rows.Rows.as_pairs.Goals as goal

pub returns-in_ok-second-in-Pairs : goal.returns-in_ok-second-in-Pairs
returns-in_ok-second-in-Pairs c =
    let a = rows_in c.in-Pairs.a.value in
    let b = rows_in c.in-Pairs.b.value in
    ArePairs-front c.args.self.now a b _ c.len-n.result
    (sym c.column.ensures ∙ ap rows_in (sym c.deref.ensures)
    ∙ at-Pairs c.deref.result.now c.in-Pairs.a c.in-Pairs.b c.in-Pairs.is)
    c.len-n.ensures
    (c.in_ok-first-in-Pairs.ensures ∙ c.in_ok-front-in-Pairs.ensures)
    (c.in_ok-second-in-Pairs.ensures ∙ c.in_ok-front-in-Pairs-2.ensures)
