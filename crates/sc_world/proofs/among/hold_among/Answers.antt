use Rattle.std.proofs.Common.{Some}
use Rattle.sc_task.specs.Attempts.{reported}
use Rattle.sc_world.proofs.CodeAmong.{written_as}
use Rattle.sc_world.proofs.among.hold_among.Goals as goal

pub returns : goal.returns
returns g c =
    written_as c.args.held.now.items c.args.exec c.index_mut.result.now c.hold.new.self
    (Some (reported c.args.report.task c.args.report.finding)) c.requires.there
    c.index_mut.ensures.value c.hold.ensures
