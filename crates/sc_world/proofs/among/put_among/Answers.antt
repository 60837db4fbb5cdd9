use Rattle.std.proofs.Common.{rules}
use Rattle.std.proofs.lemmas.Result.{IfOk-weaker}
use Rattle.sc_world.proofs.CodeAmong.{is_busy, puts_among}
use Rattle.sc_world.specs.declared.places.AttemptState.TheVariants as phases
use Rattle.sc_world.proofs.among.put_among.Goals as goal

pub returns-clause-puts : goal.returns-clause-puts
returns-clause-puts g c =
    IfOk-weaker c.put.result _ _
    (λ loc puts. puts_among g.W.Naming.work c.args.exec c.args.held.now.items
    c.args.stores.now.items loc c.index_mut.result.now c.put.new.self
    c.index_mut-own.result.now c.put.new.store
    (is_busy c.args.held.now.items c.args.exec phases.Puts c.requires.puts
    (λ e. search (rules, e)))
    c.requires.there c.index_mut.ensures.value c.index_mut-own.ensures.value puts)
    c.put.ensures.puts
