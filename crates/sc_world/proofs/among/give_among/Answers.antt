use Rattle.std.proofs.Common.{Some, ap, sym, ◌∙◌}
use Rattle.sc_task.specs.Attempts.{assigned}
use Rattle.sc_world.specs.Places.{held_with}
use Rattle.sc_world.proofs.CodeAmong.{written_as}
use Rattle.sc_world.proofs.among.give_among.Goals as goal

pub returns-in-Task : goal.returns-in-Task
returns-in-Task g c =
    written_as c.args.held.now.items c.args.exec c.index_mut.result.now c.give.new.self
    (Some (assigned c.in-Task.task 0)) c.requires c.index_mut.ensures.value c.give.ensures
    ∙ ap (held_with c.args.held.now.items c.args.exec) (sym c.in-Task.is)
