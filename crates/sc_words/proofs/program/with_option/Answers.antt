use Rattle.std.proofs.lemmas.Result.{IfOk-weaker}
use Rattle.sc_words.proofs.ProgramLemmas.{stays_local}
use Rattle.sc_words.proofs.program.with_option.Goals as goal

pub returns-clause-app : goal.returns-clause-app
returns-clause-app c =
    IfOk-weaker c.arg.result _ _ (λ m added. added.shape c.requires.own) c.arg.ensures

pub returns-clause-local : goal.returns-clause-local
returns-clause-local c =
    IfOk-weaker c.arg.result _ _
    (λ m added. stays_local _ _ _ added c.requires.own c.requires.local) c.arg.ensures
