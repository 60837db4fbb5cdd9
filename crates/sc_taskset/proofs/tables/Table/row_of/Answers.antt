use Rattle.std.proofs.Common.{sym, ap, ◌∙◌, slice_get}
use Rattle.std.specs.List.{position_or_len}
use Rattle.std.proofs.lemmas.List.Folds.{find_at}
use Rattle.sc_taskset.specs.Rows.{is_row_of}
use Rattle.sc_taskset.proofs.tables.Table.row_of.Goals as goal

pub returns : goal.returns
returns c =
    let q = is_row_of c.args.partition in
    let rows = c.self.inside.rows.items in
    rw (← c.self.view_is)
    (c.row_at.ensures ∙ ap (λ xs. slice_get xs c.place_of.result) c.deref.ensures.value
    ∙ ap (slice_get rows) (c.place_of.ensures
    ∙ ap (position_or_len q) (sym c.self.view_is))
    ∙ sym (find_at q rows))
