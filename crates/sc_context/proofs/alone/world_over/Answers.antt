use Rattle.sc_context.proofs.alone.world_over.Goals as goal

pub returns-in-Ok-begin : goal.returns-in-Ok-begin
returns-in-Ok-begin g c = (_, c.in-Ok-begin.ensures.begun)
