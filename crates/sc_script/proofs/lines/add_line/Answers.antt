use Rattle.std.proofs.lemmas.Result.{err_from_is_err_and}
use Rattle.sc_script.specs.Defining.{defined_data_of}
use Rattle.sc_script.specs.Views.{form_data_of}
use Rattle.sc_script.proofs.LineLemmas.{no_form, added}
use Rattle.sc_script.proofs.lines.add_line.Goals as goal

pub returns-in_err-form : goal.returns-in_err-form
returns-in_err-form c =
    let p = err_from_is_err_and c.from_residual.result c.from_residual.ensures.1 in
    rw (p.1, p.2) (no_form (defined_data_of c.args.defined) c.args.line.now c.in_err-form.field-0.0
    c.in_err-form.ensures)

pub returns : goal.returns
returns c =
    added (defined_data_of c.args.defined) c.args.line.now (form_data_of c.in_ok-form.form)
    c.add_form.result c.in_ok-form.ensures c.add_form.ensures
