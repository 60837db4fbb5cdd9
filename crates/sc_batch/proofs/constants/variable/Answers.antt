use Rattle.std.proofs.Common.{◌∙◌, ap, sym, Ok}
use Rattle.sc_expr.specs.Meaning.{one_value, variable_value}
use Rattle.sc_lineage.specs.Streams.{each_until_raise}
use Rattle.sc_batch.proofs.ArgumentLemmas.{each-row}
use Rattle.sc_batch.proofs.constants.variable.Goals as goal

pub returns-in_ok-share-in-X : goal.returns-in_ok-share-in-X
returns-in_ok-share-in-X c =
    each-row c.args.rows.now c.in_ok-share-in-X.field-0 c.args.end c.in_ok-share-in-X.ensures
    ∙ ap (λ v. each_until_raise (λ d. Ok (variable_value (one_value d) v)) c.args.rows.now
    c.args.end)
    (sym c.in-X.is)
