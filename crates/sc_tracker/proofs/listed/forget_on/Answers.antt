use Rattle.std.proofs.Common.{None, ap, length, ◌∙◌}
use Rattle.sc_ids.proofs.ChangeLemmas.{length_change_at}
use Rattle.sc_tracker.proofs.WholeLists.{lost_listed}
use Rattle.sc_tracker.proofs.listed.forget_on.Goals as goal

pub returns-clause-listed : goal.returns-clause-listed
returns-clause-listed g c =
    rw (c.forget_listed.ensures.outputs, c.set_first.ensures)
    (lost_listed c.args.shuffles.now.items c.args.lists.now c.args.exec c.requires.listed)

pub returns-clause-many : goal.returns-clause-many
returns-clause-many g c =
    ap (λ l. length l.firsts) c.set_first.ensures
    ∙ length_change_at c.args.lists.now.firsts c.args.exec (λ _. None)
