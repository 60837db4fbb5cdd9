use Rattle.std.proofs.lemmas.Result.{IfOk-weaker}
use Rattle.sc_words.proofs.ProgramLemmas.{adds_rule}
use Rattle.sc_words.proofs.program.run_command.Goals as goal

pub returns-clause-app : goal.returns-clause-app
returns-clause-app c =
    let one = adds_rule _ _ _ _ _ c.in_ok-command.ensures.app c.new-command.ensures.app
    c.script_argument.ensures.rule in
    let two = adds_rule _ _ _ _ _ c.in_ok-command-2.ensures.app one
    c.number_option.ensures.rule in
    let three = adds_rule _ _ _ _ _ c.in_ok-command-3.ensures.app two
    c.number_option-2.ensures.rule in
    let four = adds_rule _ _ _ _ _ c.in_ok-command-4.ensures.app three
    c.number_option-3.ensures.rule in
    let five = adds_rule _ _ _ _ _ c.in_ok-command-5.ensures.app four
    c.number_option-4.ensures.rule in
    let six = adds_rule _ _ _ _ _ c.in_ok-command-6.ensures.app five
    c.text_option.ensures.rule in
    IfOk-weaker c.with_option-7.result _ _
    (λ m added. adds_rule _ _ _ _ _ added six c.flag_option.ensures.rule)
    c.with_option-7.ensures.app
