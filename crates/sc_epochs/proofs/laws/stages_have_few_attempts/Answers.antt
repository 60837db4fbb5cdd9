use Rattle.sc_epochs.proofs.StageLemmas.{stages_planned_by}
use Rattle.sc_epochs.proofs.laws.stages_have_few_attempts.Goals as goal

pub returns : goal.returns
returns c =
    stages_planned_by c.worlds_stay_sound.ensures.begins c.worlds_stay_sound.ensures.steps
