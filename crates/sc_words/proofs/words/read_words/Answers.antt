use Rattle.std.proofs.Common.{◌∙◌, ap, map, sym, Some}
use Rattle.std.proofs.lemmas.Result.{err_from_is_err_and}
use Rattle.std.specs.String.{string_bytes}
use Rattle.sc_words.proofs.TakenLemmas.{command_found, lacks_none, refused_so}
use Rattle.sc_words.proofs.words.read_words.Goals as goal

pub returns-in_err-matches-clause-command : goal.returns-in_err-matches-clause-command
returns-in_err-matches-clause-command c =
    let p = err_from_is_err_and c.from_residual.result c.from_residual.ensures.1 in
    rw (p.1, p.2) (refused_so (map string_bytes c.args.words.now) c.in_err-matches.field-0.0
    c.in_err-matches.ensures)

pub returns-in-Some-clause-command : goal.returns-in-Some-clause-command
returns-in-Some-clause-command c =
    let found = c.in_ok-matches.ensures in (
      found.0,
      command_found (map string_bytes c.args.words.now) _ _ _ found.0 found.1
          c.in-Some.ensures.name c.in-Some.ensures.rows
          ∙ ap Some (sym c.in_ok-command_from-in-Some.ensures.command),
    )

pub returns-clause-command : goal.returns-clause-command
returns-clause-command c =
    let found = c.in_ok-matches.ensures in
    absurd (lacks_none (map string_bytes c.args.words.now) _ found.0 found.1
    c.in-None.ensures.rows)
