use Rattle.std.proofs.Common.{map}
use Rattle.std.proofs.lemmas.Result.{err_from_is_err_and}
use Rattle.sc_script.specs.Views.{token_data_of}
use Rattle.sc_script.proofs.LineLemmas.{no_tokens, formed}
use Rattle.sc_script.proofs.lines.form_in.Goals as goal

pub returns-in_err-tokens : goal.returns-in_err-tokens
returns-in_err-tokens c =
    let p = err_from_is_err_and c.from_residual.result c.from_residual.ensures.1 in
    rw (p.1, p.2) (no_tokens c.args.line.now c.in_err-tokens.field-0.0 c.in_err-tokens.ensures)

pub returns : goal.returns
returns c =
    formed c.args.line.now (map token_data_of c.in_ok-tokens.tokens.items) c.form_of.result
    c.in_ok-tokens.ensures.0 c.in_ok-tokens.ensures.1 c.form_of.ensures
