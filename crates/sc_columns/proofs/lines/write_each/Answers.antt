use Rattle.std.proofs.Common.{◌<◌, arith, length}
use Rattle.sc_value.proofs.PrintingLemmas.{kept_behind, kept_more}
use Rattle.sc_columns.proofs.ListLemmas.{there}
use Rattle.sc_columns.proofs.PrintLemmas.{line_written, written-there}
use Rattle.sc_columns.proofs.lines.write_each.Goals as goal

pub returns-in_err-write-clause-kept : goal.returns-in_err-write-clause-kept
returns-in_err-write-clause-kept g c =
    let old = c.args.out.now.items in
    let before = c.loop-i.out.items in
    kept_more old before _ (kept_behind old _ before c.loop-i.invariant)
    c.in_err-write.ensures

pub loop-i-preserved : goal.loop-i-preserved
loop-i-preserved g c =
    let rows = g.C.Cells.rows c.args.rows in
    let before = c.loop-i.out.items in
    let after = c.write.new.out.items in
    let within : c.loop-i.i < length (g.C.Cells.rows c.args.rows) = omega arith in
    let d = there rows c.loop-i.i within in
    let written = written-there rows c.loop-i.i d.0 before after d.1 c.in_ok-write.ensures in
    line_written rows c.loop-i.i d.0 c.args.out.now.items before after c.push.new.self.items
    d.1 c.loop-i.invariant written.bytes c.in_ok-push.ensures.items
