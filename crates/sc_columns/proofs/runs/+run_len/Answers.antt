use Rattle.std.proofs.Common.{◌∙◌, ap, arith, length}
use Rattle.std.proofs.lemmas.List.{length-map}
use Rattle.sc_value.specs.Datum.{pair}
use Rattle.sc_value.specs.Views.{datum_of}
use Rattle.sc_columns.specs.Runs.{run_rows}
use Rattle.sc_columns.proofs.ListLemmas.{length-zip_with}
use Rattle.sc_columns.proofs.RunLemmas.{run-Pairs, run-Values}
use Rattle.sc_columns.proofs.runs.+run_len.Goals as goal

pub returns-in-Pairs : goal.returns-in-Pairs
returns-in-Pairs t c =
    let e = ap length (run-Pairs c.args.run.now c.in-Pairs.a c.in-Pairs.b c.in-Pairs.is)
    ∙ length-zip_with pair (run_rows c.in-Pairs.a.value) (run_rows c.in-Pairs.b.value) in
    let a = ap (λ x. length (run_rows x)) c.deref-in-Pairs.ensures in
    let b = ap (λ x. length (run_rows x)) c.deref-in-Pairs-2.ensures in
    omega (arith, c.run_len.ensures, c.run_len-in-Pairs.ensures, c.min.ensures, a, b, e)

pub returns-in-Values : goal.returns-in-Values
returns-in-Values t c =
    let e = ap length (run-Values c.args.run.now c.in-Values.v c.in-Values.is)
    ∙ length-map c.in-Values.v.items datum_of in
    omega (arith, e)
