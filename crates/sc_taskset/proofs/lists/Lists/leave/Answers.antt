use Rattle.std.proofs.Common.{subst}
use Rattle.sc_taskset.specs.Lists.{HasLeft}
use Rattle.sc_taskset.proofs.LeaveLemmas.{have_left}
use Rattle.sc_taskset.proofs.lists.Lists.leave.Goals as goal

pub returns : goal.returns
returns c =
    have_left c.args.self.now c.take_unless.new.self c.take_unless-2.new.self
    c.take_unless-3.new.self c.args.place c.args.before c.args.row c.finisher.result
    c.finisher.ensures c.take_unless.ensures
    (subst (λ x. HasLeft c.take_unless.new.self c.take_unless-2.new.self x c.args.place c.args.row)
    c.exec_of.ensures c.take_unless-2.ensures)
    (subst (λ x. HasLeft c.take_unless-2.new.self c.take_unless-3.new.self x c.args.place
    c.args.row)
    c.exec_of-2.ensures c.take_unless-3.ensures)
