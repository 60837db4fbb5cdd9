use Rattle.sc_world.proofs.CodeAmong.{wipes_among}
use Rattle.sc_world.proofs.among.wipe_among.Goals as goal

pub returns : goal.returns
returns g c =
    wipes_among c.args.order c.args.stores.now.items c.wipe.result c.index_mut.result.now
    c.wipe.new.self c.requires.there c.index_mut.ensures.value c.wipe.ensures
