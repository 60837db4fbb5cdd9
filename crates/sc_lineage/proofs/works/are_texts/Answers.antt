use Rattle.sc_lineage.proofs.SoundLemmas.{AreTexts-more}
use Rattle.sc_lineage.proofs.works.are_texts.Goals as goal

pub loop-input-preserved : goal.loop-input-preserved
loop-input-preserved c =
    AreTexts-more c.args.inputs.now c.loop-input.input-index c.input-item.result
    c.loop-input-test.true c.input-item.is c.loop-input.invariant c.is_text.ensures
