use Rattle.std.proofs.lemmas.Result.{err_from_is_err_and}
use Rattle.sc_desk.proofs.begins.begin_journal.Goals as goal

pub returns-in_err-results-clause-fresh : goal.returns-in_err-results-clause-fresh
returns-in_err-results-clause-fresh g c =
    let p = err_from_is_err_and c.from_residual-in_err-results.result
    c.from_residual-in_err-results.ensures.1 in
    rw p.1 tt

pub returns-in_err-results-clause-sound : goal.returns-in_err-results-clause-sound
returns-in_err-results-clause-sound g c =
    let p = err_from_is_err_and c.from_residual-in_err-results.result
    c.from_residual-in_err-results.ensures.1 in
    rw p.1 tt

pub returns-in_err-results-clause-results : goal.returns-in_err-results-clause-results
returns-in_err-results-clause-results g c =
    let p = err_from_is_err_and c.from_residual-in_err-results.result
    c.from_residual-in_err-results.ensures.1 in
    rw p.1 tt
