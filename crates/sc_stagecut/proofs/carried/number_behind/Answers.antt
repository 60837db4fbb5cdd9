use Rattle.std.proofs.Common.{◌∙◌, ap, sym, ◌+◌}
use Rattle.sc_stagecut.proofs.CarriedLemmas.{number_behind-last}
use Rattle.sc_stagecut.proofs.carried.number_behind.Goals as goal

pub returns-in-Some : goal.returns-in-Some
returns-in-Some c =
    let item = c.in-Some.ensures.item in
    ap (λ n. n + 1) (c.from.ensures ∙ c.id.ensures)
    ∙ sym (number_behind-last c.args.next c.args.stages.now c.in-Some.stage.now item.3.0 item.1)
