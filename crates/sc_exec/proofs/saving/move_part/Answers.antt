use Rattle.sc_exec.proofs.OwedLemmas.{moves_told}
use Rattle.sc_exec.proofs.saving.move_part.Goals as goal

pub returns-in-Ok-clause-told : goal.returns-in-Ok-clause-told
returns-in-Ok-clause-told g c =
    moves_told _ _ c.args.log.now _ c.args.attempt c.in-Ok.said c.in-Ok.ensures.moves
