use Rattle.std.proofs.Common.{rules}
use Rattle.std.proofs.lemmas.Result.{on_ok_weaker}
use Rattle.sc_world.proofs.CodeAmong.{is_busy, reads_among}
use Rattle.sc_world.specs.declared.places.AttemptState.TheVariants as phases
use Rattle.sc_world.proofs.among.read_among.Goals as goal

pub returns-clause-reads : goal.returns-clause-reads
returns-clause-reads g c =
    on_ok_weaker c.read.result
    (λ reads. reads_among c.args.stores.now c.args.exec c.args.held.now.items
    c.index_mut.result.now c.read.new.self
    (is_busy c.args.held.now.items c.args.exec phases.Reads c.requires.reads
    (λ e. search (rules, e)))
    c.index_mut.ensures.value reads)
    c.read.ensures.reads
