use Rattle.sc_stagecut.proofs.DependencyLemmas.{marked_sides}
use Rattle.sc_stagecut.proofs.reached.mark_parents.Goals as goal

pub returns : goal.returns
returns c =
    marked_sides c.args.script.now c.requires.sound c.args.follow c.args.node
    c.args.marks.now.items c.mark_read.new.marks.items c.mark_read-2.new.marks.items
    c.read_at.result c.read_at-2.result c.requires.same c.read_at.ensures c.read_at-2.ensures
    c.mark_read.ensures c.mark_read-2.ensures
