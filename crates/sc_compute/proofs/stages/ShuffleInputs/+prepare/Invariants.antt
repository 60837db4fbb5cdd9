use Rattle.sc_compute.proofs.stages.ShuffleInputs.+prepare.Given as goal

abbrev pub decreases-prepare : goal.decreases-prepare
decreases-prepare l = l.node
