use Rattle.std.proofs.Common.{sym, ap, ◌∙◌, slice_get}
use Rattle.std.proofs.lemmas.List.Folds.{find_at}
use Rattle.sc_taskset.specs.Marks.{is_pending_row}
use Rattle.sc_taskset.proofs.tables.Table.first_pending.Goals as goal

pub returns : goal.returns
returns c =
    let rows = c.self.inside.rows.items in
    rw (← c.self.view_is)
    (c.row_at.ensures ∙ ap (λ xs. slice_get xs c.self.inside.pending) c.deref.ensures.value
    ∙ ap (slice_get rows) c.self.invariant.first ∙ sym (find_at is_pending_row rows))
