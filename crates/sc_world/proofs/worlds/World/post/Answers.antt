use Rattle.std.proofs.Common.{subst, sym, ◌∙◌}
use Rattle.sc_world.specs.Runs.{IsWorld}
use Rattle.sc_world.specs.Steps.{Posts}
use Rattle.sc_world.specs.WorldData.{WorldData, world_data}
use Rattle.sc_task.specs.Attempts.{reported}
use Rattle.sc_world.proofs.CodeKeeps.{gone_there, held_again, posts_keep, posts_received}
use Rattle.sc_world.proofs.CodeSteps.{posts_in}
use Rattle.sc_world.proofs.worlds.World.post.Goals as goal

pub received-receipt-requires : goal.received-receipt-requires
received-receipt-requires g c =
    let w = world_data c.self.inside.desk c.self.inside.stores.items c.self.inside.held.items in
    posts_received g.W.Naming.work w c.args.exec c.report_among-report.result c.in-Ok.posted
    c.post.new.self c.self.invariant c.report_among-report.ensures.held c.is_true.ensures
    c.in-Ok.ensures.posted

pub invariant_of-self : goal.invariant_of-self
invariant_of-self g c =
    let w = world_data c.self.inside.desk c.self.inside.stores.items c.self.inside.held.items in
    posts_keep g.W.Naming.work w c.args.exec c.report_among-report.result.task
    c.report_among-report.result.finding c.post.new.self c.received-receipt.result
    c.report_among-report.new.held.items c.self.invariant c.report_among-report.ensures.held
    (rw c.received-receipt.ensures at c.in-Ok.ensures.posted) c.report_among-report.ensures.gone
    c.is_sound.ensures

pub hold_among-requires : goal.hold_among-requires
hold_among-requires g c =
    record {
      there = gone_there c.self.inside.held.items c.report_among-report.new.held.items c.args.exec
          (reported c.report_among-report.result.task c.report_among-report.result.finding)
          c.report_among-report.ensures.held c.report_among-report.ensures.gone;
    }

pub invariant_of-self-in-Err : goal.invariant_of-self-in-Err
invariant_of-self-in-Err g c =
    let w = world_data c.self.inside.desk c.self.inside.stores.items c.self.inside.held.items in
    subst (λ x. IsWorld g.W.Naming.work x)
    (sym (held_again w c.args.exec c.post.new.self c.report_among-report.new.held.items
    c.hold_among.new.held.items c.report_among-report.result c.in-Err.failed.value
    c.in-Err.ensures.refused c.report_among-report.ensures.held
    c.report_among-report.ensures.gone c.in-Err.ensures.back c.hold_among.ensures))
    c.self.invariant

pub returns-in-Ok-clause-posts : goal.returns-in-Ok-clause-posts
returns-in-Ok-clause-posts g c =
    let w = world_data c.self.inside.desk c.self.inside.stores.items c.self.inside.held.items in
    subst (λ (x : WorldData). Posts g.W.Naming.work x c.args.exec c.received-receipt.result.answer
    (world_data c.post.new.self c.self.inside.stores.items
    c.report_among-report.new.held.items)) c.self.view_is
    (posts_in g.W.Naming.work w c.args.exec c.report_among-report.result.task
    c.report_among-report.result.finding c.post.new.self c.received-receipt.result
    c.report_among-report.new.held.items c.report_among-report.ensures.held
    (rw c.received-receipt.ensures at c.in-Ok.ensures.posted) c.report_among-report.ensures.gone)

pub returns-in-Err-clause-refused : goal.returns-in-Err-clause-refused
returns-in-Err-clause-refused g c =
    let w = world_data c.self.inside.desk c.self.inside.stores.items c.self.inside.held.items in
    held_again w c.args.exec c.post.new.self c.report_among-report.new.held.items
    c.hold_among.new.held.items c.report_among-report.result c.in-Err.failed.value
    c.in-Err.ensures.refused c.report_among-report.ensures.held
    c.report_among-report.ensures.gone c.in-Err.ensures.back c.hold_among.ensures
    ∙ c.self.view_is
