use Rattle.sc_taskset.proofs.TableLemmas.{guessed}
use Rattle.sc_taskset.proofs.tables.place_in.Goals as goal

pub returns-then-rows-guess : goal.returns-then-rows-guess
returns-then-rows-guess c =
    guessed c.args.rows.now c.args.partition c.args.partition _ c.requires c.if-guess-rows.true
    c.if-rows-guess.true
