use Rattle.sc_world.proofs.CodeAmong.{evicts_among}
use Rattle.sc_world.proofs.among.evict_among.Goals as goal

pub returns : goal.returns
returns g c =
    evicts_among c.args.exec c.args.stores.now.items c.index_mut.result.now c.evict.new.self
    c.requires.there c.index_mut.ensures.value c.evict.ensures
