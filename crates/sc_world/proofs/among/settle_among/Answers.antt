use Rattle.sc_world.proofs.CodeAmong.{aside_there, settles_among}
use Rattle.sc_world.proofs.among.settle_among.Goals as goal

pub returns : goal.returns
returns g c =
    settles_among c.args.held.now.items c.args.exec c.index_mut.result.now c.settle.new.self
    c.args.answer (aside_there c.args.held.now.items c.args.exec c.requires.aside)
    c.index_mut.ensures.value c.settle.ensures
