use Rattle.std.proofs.lemmas.Result.{on_ok_weaker}
use Rattle.sc_world.proofs.CodeTurns.{computes_advance, posts_advance, puts_advance, reads_advance}
use Rattle.sc_world.proofs.worlds.World.advance_plain.Goals as goal

pub returns-in-Reads-clause-advances : goal.returns-in-Reads-clause-advances
returns-in-Reads-clause-advances g c =
    on_ok_weaker c.read.result
    (λ reads. reads_advance g.W.Naming.work c.args.self.now c.read.new.self c.args.exec
    c.requires.alone reads c.is_world.ensures.desk)
    c.read.ensures.reads

pub returns-in_ok-compute-in-Computes-clause-advances :
    goal.returns-in_ok-compute-in-Computes-clause-advances
returns-in_ok-compute-in-Computes-clause-advances g c =
    computes_advance g.W.Naming.work c.args.self.now c.compute.new.self c.args.exec
    c.in_ok-compute-in-Computes.field-0 c.requires.alone
    c.in_ok-compute-in-Computes.ensures.computes c.is_world.ensures.desk

pub returns-in_ok-put-in-Puts-clause-advances : goal.returns-in_ok-put-in-Puts-clause-advances
returns-in_ok-put-in-Puts-clause-advances g c =
    puts_advance g.W.Naming.work c.args.self.now c.put.new.self c.args.exec
    c.in_ok-put-in-Puts.field-0 c.requires.alone c.in_ok-put-in-Puts.ensures.puts
    c.is_world.ensures.desk

pub returns-in_ok-post-in-Reports-clause-advances :
    goal.returns-in_ok-post-in-Reports-clause-advances
returns-in_ok-post-in-Reports-clause-advances g c =
    posts_advance g.W.Naming.work c.args.self.now c.post.new.self c.args.exec
    c.in_ok-post-in-Reports.field-0 c.is_world.ensures.core c.is_world.ensures.sound
    c.requires.alone c.in_ok-post-in-Reports.ensures.posts c.has_sound_desk.ensures
