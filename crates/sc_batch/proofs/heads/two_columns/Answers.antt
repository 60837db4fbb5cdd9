use Rattle.std.proofs.Common.{◌∙◌, ap, sym}
use Rattle.sc_value.specs.Datum.{pair}
use Rattle.sc_columns.specs.Columns.{zip_with}
use Rattle.sc_batch.specs.Made.{rows_made}
use Rattle.sc_batch.specs.Outcomes.{of_two, until_raise}
use Rattle.sc_batch.proofs.ValueLemmas.{each-pair}
use Rattle.sc_batch.proofs.heads.two_columns.Goals as goal

pub returns-in_ok-rows-in-Pair : goal.returns-in_ok-rows-in-Pair
returns-in_ok-rows-in-Pair c =
    let first = rows_made c.args.first in
    let second = c.args.second in
    c.of-in-Pair.ensures
    ∙ ap (λ r. record { rows = r; raise = c.args.end })
    (c.in_ok-rows-in-Pair.ensures ∙ ap (λ ds. zip_with pair ds second) c.in_ok-made-in-Pair.ensures)
    ∙ each-pair first second c.args.end
    ∙ ap (λ h. until_raise (zip_with (of_two h) first second) c.args.end) (sym c.in-Pair.is)
