use Rattle.std.proofs.Common.{arith, sym}
use Rattle.sc_value.specs.Datum.{pair}
use Rattle.sc_value.proofs.PrintingLemmas.{kept_behind, kept_more}
use Rattle.sc_columns.proofs.ListLemmas.{length-zip_with}
use Rattle.sc_columns.proofs.PrintLemmas.{pair_written, printed-pair, refused, writes-text}
use Rattle.sc_columns.proofs.cells.PairCellsCells.write.Goals as goal

pub write-requires : goal.write-requires
write-requires g c =
    let first = g.A.Cells.rows c.args.self.first in
    let second = g.B.Cells.rows c.args.self.second in
    omega (arith, c.requires, length-zip_with pair first second)

pub write-requires-2 : goal.write-requires-2
write-requires-2 g c =
    let first = g.A.Cells.rows c.args.self.first in
    let second = g.B.Cells.rows c.args.self.second in
    omega (arith, c.requires, length-zip_with pair first second)

pub returns-in_err-write : goal.returns-in_err-write
returns-in_err-write g c =
    let old = c.args.out.now.items in
    let m1 = c.extend_from_slice.new.self.items in
    refused _ c.from_residual-in_err-write.result old _ _
    c.from_residual-in_err-write.ensures.1
    (kept_more old m1 _ (kept_behind old _ m1 c.in_ok-extend_from_slice.ensures.items)
    c.in_err-write.ensures)

pub returns-in_err-write-2 : goal.returns-in_err-write-2
returns-in_err-write-2 g c =
    let old = c.args.out.now.items in
    let m1 = c.extend_from_slice.new.self.items in
    let m2 = c.write.new.out.items in
    let m3 = c.extend_from_slice-2.new.self.items in
    refused _ c.from_residual-in_err-write-2.result old _ _
    c.from_residual-in_err-write-2.ensures.1
    (kept_more old m3 _
    (kept_more old m2 m3
    (kept_more old m1 m2
    (kept_behind old _ m1 c.in_ok-extend_from_slice.ensures.items)
    (kept_behind m1 _ m2 c.in_ok-write.ensures.bytes))
    (kept_behind m2 _ m3 c.in_ok-extend_from_slice-2.ensures.items))
    c.in_err-write-2.ensures)

pub returns : goal.returns
returns g c =
    let first = g.A.Cells.rows c.args.self.first in
    let second = g.B.Cells.rows c.args.self.second in
    let i = c.args.i in
    let m1 = c.extend_from_slice.new.self.items in
    let m2 = c.write.new.out.items in
    let m3 = c.extend_from_slice-2.new.self.items in
    let m4 = c.write-2.new.out.items in
    writes-text c.extend_from_slice-3.result c.args.out.now.items _ _ _
    (sym (printed-pair first second i c.requires))
    (pair_written c.extend_from_slice-3.result c.args.out.now.items m1 m2 m3 m4 _ _ _
    c.in_ok-extend_from_slice.ensures.items c.in_ok-write.ensures
    c.in_ok-extend_from_slice-2.ensures.items c.in_ok-write-2.ensures
    c.extend_from_slice-3.ensures.items)
