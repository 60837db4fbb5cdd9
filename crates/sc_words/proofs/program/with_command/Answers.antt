use Rattle.std.proofs.lemmas.Result.{IfOk-weaker}
use Rattle.sc_words.proofs.program.with_command.Goals as goal

pub returns : goal.returns
returns c =
    IfOk-weaker c.subcommand.result _ _ (λ m added. added.shape c.requires.local)
    c.subcommand.ensures
