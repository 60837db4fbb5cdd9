use Rattle.std.proofs.Common.{◌∙◌, ap}
use Rattle.sc_net.specs.Tasks.{TaskData}
use Rattle.sc_exec.proofs.OwedLemmas.{stages_told}
use Rattle.sc_exec.proofs.PartLemmas.{part_text}
use Rattle.sc_exec.proofs.saving.stage.Goals as goal

pub stage_part-said-requires-clause-text : goal.stage_part-said-requires-clause-text
stage_part-said-requires-clause-text g c =
    c.as_slice.ensures.value
    ∙ part_text g.W.Naming.work c.args.computed.now.task g.J.Opening.opening.job
    c.attempt-attempt.result _ c.requires.job
    (c.attempt-attempt.ensures ∙ ap (λ (t : TaskData). t.hand_out.attempt) c.task.ensures)
    c.in-Ok.ensures

pub returns-in-Ok-said-clause-told : goal.returns-in-Ok-said-clause-told
returns-in-Ok-said-clause-told g c =
    stages_told _ _ c.args.log.now _ _ _ c.in-Ok-said.said c.in-Ok-said.ensures.stages
