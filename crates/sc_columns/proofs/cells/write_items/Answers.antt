use Rattle.std.proofs.Common.{◌≡◌, ◌-◌, ◌<◌, ap, arith, drop, length, List, subst, ℕ}
use Rattle.std.proofs.lemmas.List.{length-drop}
use Rattle.std.specs.List.{slice_range}
use Rattle.sc_value.specs.Datum.{items_of}
use Rattle.sc_value.specs.Printing.{printed_items}
use Rattle.sc_value.proofs.PrintingLemmas.{kept_behind, kept_more}
use Rattle.sc_columns.specs.Prints.{IsWritten}
use Rattle.sc_columns.proofs.ListLemmas.{there}
use Rattle.sc_columns.proofs.PrintLemmas.{items_written, refused, written-there}
use Rattle.sc_columns.proofs.RangeLemmas.{take_same}
use Rattle.sc_columns.proofs.cells.write_items.Goals as goal

pub returns-in_err-write_separator : goal.returns-in_err-write_separator
returns-in_err-write_separator g c =
    let old = c.args.out.now.items in
    let before = c.loop-k.out.items in
    refused _ c.from_residual.result old _ _ c.from_residual.ensures.1
    (kept_more old before _ (kept_behind old _ before c.loop-k.invariant.bytes)
    c.in_err-write_separator.ensures)

pub returns-in_err-write : goal.returns-in_err-write
returns-in_err-write g c =
    let old = c.args.out.now.items in
    let before = c.loop-k.out.items in
    let between = c.write_separator.new.out.items in
    refused _ c.from_residual-in_err-write.result old _ _
    c.from_residual-in_err-write.ensures.1
    (kept_more old between _
    (kept_more old before between (kept_behind old _ before c.loop-k.invariant.bytes)
    (kept_behind before _ between c.in_ok-write_separator.ensures.bytes))
    c.in_err-write.ensures)

pub loop-k-preserved : goal.loop-k-preserved
loop-k-preserved g c =
    let rows = g.C.Cells.rows c.args.items in
    let k = c.loop-k.k in
    let within : c.loop-k.k < length (g.C.Cells.rows c.args.items) = omega arith in
    let d = there rows k within in
    let before = c.loop-k.out.items in
    let between = c.write_separator.new.out.items in
    let after = c.write.new.out.items in
    items_written rows c.args.span.from k d.0 c.loop-k.auto.k d.1 c.args.out.now.items before
    between after
    c.loop-k.invariant c.in_ok-write_separator.ensures
    (written-there rows k d.0 between after d.1 c.in_ok-write.ensures)

pub returns : goal.returns
returns g c =
    let rows = g.C.Cells.rows c.args.items in
    let from = c.args.span.from in
    let to = c.args.span.to in
    let k = c.loop-k.k in
    let same : slice_range (g.C.Cells.rows c.args.items) c.args.span.from c.loop-k.k
    ≡ slice_range (g.C.Cells.rows c.args.items) c.args.span.from c.args.span.to =
    take_same (k - from) (to - from) (drop from rows) (omega (arith, length-drop from rows)) in
    let P : List ℕ → Type 0 = IsWritten c.args.out.now.items c.loop-k.out.items in
    subst P (ap (λ ds. printed_items (items_of ds)) same) c.loop-k.invariant
