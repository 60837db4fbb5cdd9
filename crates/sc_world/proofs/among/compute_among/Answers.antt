use Rattle.std.proofs.Common.{rules}
use Rattle.std.proofs.lemmas.Result.{IfOk-weaker}
use Rattle.sc_world.proofs.CodeAmong.{computes_among, is_busy}
use Rattle.sc_world.specs.declared.places.AttemptState.TheVariants as phases
use Rattle.sc_world.proofs.among.compute_among.Goals as goal

pub returns-clause-computes : goal.returns-clause-computes
returns-clause-computes g c =
    IfOk-weaker c.compute.result _ _
    (λ kept computes. computes_among g.W.Naming.work c.args.exec c.args.held.now.items
    c.args.stores.now.items kept c.index_mut.result.now c.compute.new.self
    c.index_mut-store.result.now c.compute.new.store
    (is_busy c.args.held.now.items c.args.exec phases.Computes c.requires.computes
    (λ e. search (rules, e)))
    c.requires.there c.index_mut.ensures.value c.index_mut-store.ensures.value computes)
    c.compute.ensures.computes
