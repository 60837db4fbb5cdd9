use Rattle.std.proofs.Common.{◌<◌, length, arith}
use Rattle.sc_batch.specs.Items.{list_in}
use Rattle.sc_batch.proofs.ChoiceLemmas.{merged-first, merged-second}
use Rattle.sc_batch.proofs.merges.merge.Goals as goal
use Rattle.sc_batch.proofs.merges.merge.Goals.{then-marks-i+else-from_yes-len+in_ok-push, else-marks-i+else-from_no-len+in_ok-push-2}

pub loop-i-preserved : goal.loop-i-preserved
loop-i-preserved g c =
    let marks = c.args.marks.now in
    let ays = list_in c.args.yes in
    let nos = list_in c.args.no in
    let within : c.loop-i.i < length c.args.marks.now = omega arith in
    elim c.if-marks-i.branch [
      | then-marks-i+else-from_yes-len+in_ok-push w ↦
          rw (w.from_yes-is, w.from_no-is, w.items-is)
          (merged-first marks ays c.args.yes_end nos c.args.no_end c.args.end c.loop-i.items.items
          c.loop-i.i c.loop-i.from_yes c.loop-i.from_no c.loop-i.invariant w.at.result
          w.push.new.self.items within w.if-marks-i.true w.at.ensures w.in_ok-push.ensures.items)
      | else-marks-i+else-from_no-len+in_ok-push-2 w ↦
          rw (w.from_yes-is, w.from_no-is, w.items-is)
          (merged-second marks ays c.args.yes_end nos c.args.no_end c.args.end c.loop-i.items.items
          c.loop-i.i c.loop-i.from_yes c.loop-i.from_no c.loop-i.invariant w.at-else-marks-i.result
          w.push-else-marks-i.new.self.items within w.if-marks-i.false w.at-else-marks-i.ensures
          w.in_ok-push-2.ensures.items)
    ]
