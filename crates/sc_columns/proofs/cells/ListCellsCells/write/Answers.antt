use Rattle.std.proofs.Common.{◌<◌, arith, get_or, length, sym}
use Rattle.std.proofs.lemmas.List.{length-map}
use Rattle.std.proofs.lemmas.Option.{slice_get-get_or}
use Rattle.sc_value.specs.declared.texts.Span.{Span}
use Rattle.sc_columns.specs.Columns.{group_at}
use Rattle.sc_columns.proofs.PrintLemmas.{list_written, printed-list, writes-text}
use Rattle.sc_columns.proofs.cells.ListCellsCells.write.Goals as goal

pub returns : goal.returns
returns g c =
    let items = g.C.Cells.rows c.args.self.items in
    let spans = c.args.self.spans.now in
    let i = c.args.i in
    let none : Span = record { from = 0; to = 0 } in
    let within : c.args.i < length c.args.self.spans.now =
    omega (arith, c.requires, length-map spans (group_at items)) in
    let m1 = c.extend_from_slice.new.self.items in
    let m2 = c.write_items.new.out.items in
    writes-text c.extend_from_slice-2.result c.args.out.now.items _ _ _
    (sym (printed-list items spans i (get_or spans i none)
    (sym (slice_get-get_or spans i none within))))
    (list_written c.extend_from_slice-2.result c.args.out.now.items m1 m2 _ _
    c.in_ok-extend_from_slice.ensures.items c.in_ok-write_items.ensures
    c.extend_from_slice-2.ensures.items)
