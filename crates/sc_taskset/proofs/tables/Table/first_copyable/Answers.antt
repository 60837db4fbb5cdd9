use Rattle.std.proofs.Common.{ap, subst, sym, ◌+◌, ◌≤◌, ◌∙◌, length, count_by}
use Rattle.std.specs.List.{find}
use Rattle.sc_taskset.specs.Looks.{words_for}
use Rattle.sc_taskset.specs.Marks.{AreMarked, MarksFit, is_single_row}
use Rattle.sc_taskset.specs.Paces.{slow_at}
use Rattle.sc_taskset.specs.Tables.{is_copyable_row}
use Rattle.sc_taskset.proofs.tables.Table.first_copyable.Goals as goal

pub copyable_in-requires-clause-marked : goal.copyable_in-requires-clause-marked
copyable_in-requires-clause-marked g c =
    subst (AreMarked c.self.inside.marks) (sym c.deref.ensures.value) c.self.invariant.marked

pub copyable_in-requires-clause-fit : goal.copyable_in-requires-clause-fit
copyable_in-requires-clause-fit g c =
    subst (λ rows. MarksFit c.self.inside.marks (length rows)) (sym c.deref.ensures.value)
    c.self.invariant.fit

pub returns-clause-first : goal.returns-clause-first
returns-clause-first g c =
    rw (← c.self.view_is)
    (c.copyable_in.ensures.first
    ∙ ap (find (is_copyable_row (slow_at c.args.pace) c.args.exec)) c.deref.ensures.value)

pub returns-clause-looked : goal.returns-clause-looked
returns-clause-looked g c =
    rw (← c.self.view_is)
    (subst (λ rows. c.copyable_in.new.steps
    ≤ c.args.steps.now + words_for (length rows) + count_by is_single_row rows)
    c.deref.ensures.value c.copyable_in.ensures.looked)
