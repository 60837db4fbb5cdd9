use Rattle.sc_columns.specs.Parts.{ArePairs}
use Rattle.sc_batch.proofs.ValueLemmas.{each-second}
use Rattle.sc_batch.proofs.ZipLemmas.{fact_of_some}
use Rattle.sc_batch.proofs.unary.seconds.Goals as goal

pub returns-in-Some : goal.returns-in-Some
returns-in-Some c =
    each-second c.args.rows.now c.in-Some.both c.args.end
    (fact_of_some (ArePairs c.args.rows.now) c.in_ok-both.field-0 c.in-Some.both c.in-Some.is
    c.in_ok-both.ensures)
