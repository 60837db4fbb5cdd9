use Rattle.std.proofs.lemmas.Result.{IfOk-weaker}
use Rattle.sc_words.proofs.ProgramLemmas.{adds_subcommand}
use Rattle.sc_words.proofs.program.program.Goals as goal

pub returns : goal.returns
returns c =
    let one = adds_subcommand _ _ _ _ _ c.in_ok-command.ensures c.bare_program.ensures
    c.in_ok-run.ensures.app in
    IfOk-weaker c.with_command-2.result _ _
    (λ m added. adds_subcommand _ _ _ _ _ added one c.in_ok-generate.ensures.app)
    c.with_command-2.ensures
