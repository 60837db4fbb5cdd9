use Rattle.std.proofs.Common.{◌<◌, length, arith}
use Rattle.sc_value.specs.Views.{datum_of}
use Rattle.sc_batch.proofs.ChoiceLemmas.{merged-first, merged-second}
use Rattle.sc_batch.proofs.choices.choose_rows.Goals as goal
use Rattle.sc_batch.proofs.choices.choose_rows.Goals.{then-marks-i+else-from_yes-len+in_ok-row+in_ok-push, else-marks-i+else-from_no-len+in_ok-row-2+in_ok-push-2}

pub loop-i-preserved : goal.loop-i-preserved
loop-i-preserved c =
    let marks = c.args.marks.now in
    let ays = c.args.yes.now in
    let nos = c.args.no.now in
    let within : c.loop-i.i < length c.args.marks.now = omega arith in
    elim c.if-marks-i.branch [
      | then-marks-i+else-from_yes-len+in_ok-row+in_ok-push w ↦
          rw (w.from_yes-is, w.from_no-is, w.out-is)
          (merged-first marks ays.rows ays.raise nos.rows nos.raise c.args.end c.loop-i.out
          c.loop-i.i
          c.loop-i.from_yes c.loop-i.from_no c.loop-i.invariant (datum_of w.in_ok-row.field-0)
          w.push.new.self within w.if-marks-i.true w.in_ok-row.ensures w.in_ok-push.ensures)
      | else-marks-i+else-from_no-len+in_ok-row-2+in_ok-push-2 w ↦
          rw (w.from_yes-is, w.from_no-is, w.out-is)
          (merged-second marks ays.rows ays.raise nos.rows nos.raise c.args.end c.loop-i.out
          c.loop-i.i
          c.loop-i.from_yes c.loop-i.from_no c.loop-i.invariant (datum_of w.in_ok-row-2.field-0)
          w.push-else-marks-i.new.self within w.if-marks-i.false w.in_ok-row-2.ensures
          w.in_ok-push-2.ensures)
    ]
