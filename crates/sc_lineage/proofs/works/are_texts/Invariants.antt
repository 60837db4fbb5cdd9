use Rattle.std.proofs.Common.{take}
use Rattle.sc_lineage.specs.ScriptData.{AreTexts}
use Rattle.sc_lineage.proofs.works.are_texts.Given as goal

abbrev pub invariant-loop-input : goal.invariant-loop-input
invariant-loop-input l = AreTexts (take l.input-index l.inputs)
