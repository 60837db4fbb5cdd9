use Rattle.sc_epochs.proofs.SurviveLemmas as survive
use Rattle.sc_epochs.proofs.laws.jobs_survive.Goals as goal

pub returns-clause-budget : goal.returns-clause-budget
returns-clause-budget c =
    survive.bounds_need_no_more c.worlds_stay_sound.ensures.begins
    c.worlds_stay_sound.ensures.steps

pub returns-clause-stages : goal.returns-clause-stages
returns-clause-stages c =
    survive.few_losses_abort_none c.worlds_stay_sound.ensures.begins
    c.worlds_stay_sound.ensures.steps

pub returns-clause-executors : goal.returns-clause-executors
returns-clause-executors c =
    survive.spared_executors_go_on c.worlds_stay_sound.ensures.begins
    c.worlds_stay_sound.ensures.steps
