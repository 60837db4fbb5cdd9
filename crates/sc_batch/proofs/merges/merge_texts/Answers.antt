use Rattle.std.proofs.Common.{◌<◌, ◌∙◌, ap, length, arith, ◌++◌, ◌∷◌, []}
use Rattle.sc_batch.specs.Texts.{texts_in}
use Rattle.sc_batch.proofs.ChoiceLemmas.{merged-first, merged-second}
use Rattle.sc_batch.proofs.merges.merge_texts.Goals as goal
use Rattle.sc_batch.proofs.merges.merge_texts.Goals.{then-marks-i+else-from_yes-len+in_ok-push, else-marks-i+else-from_no-len+in_ok-push-2}

pub loop-i-preserved : goal.loop-i-preserved
loop-i-preserved c =
    let marks = c.args.marks.now in
    let ays = texts_in c.args.yes in
    let nos = texts_in c.args.no in
    let out = c.loop-i.out in
    let within : c.loop-i.i < length c.args.marks.now = omega arith in
    elim c.if-marks-i.branch [
      | then-marks-i+else-from_yes-len+in_ok-push w ↦
          rw (w.from_yes-is, w.from_no-is, w.out-is) (record {
            are = merged-first marks ays c.args.yes_end nos c.args.no_end c.args.end out.texts
                c.loop-i.i
                c.loop-i.from_yes c.loop-i.from_no c.loop-i.invariant.are w.at.result.now
                w.push.new.self.texts within w.if-marks-i.true w.at.ensures
                (w.in_ok-push.ensures.texts
                ∙ ap (λ o. out.texts ++ (o ++ w.at.result.now) ∷ []) c.loop-i.invariant.none_open);
            none_open = w.in_ok-push.ensures.open_text;
          })
      | else-marks-i+else-from_no-len+in_ok-push-2 w ↦
          rw (w.from_yes-is, w.from_no-is, w.out-is) (record {
            are = merged-second marks ays c.args.yes_end nos c.args.no_end c.args.end out.texts
                c.loop-i.i
                c.loop-i.from_yes c.loop-i.from_no c.loop-i.invariant.are
                w.at-else-marks-i.result.now
                w.push-else-marks-i.new.self.texts within w.if-marks-i.false
                w.at-else-marks-i.ensures
                (w.in_ok-push-2.ensures.texts
                ∙ ap (λ o. out.texts ++ (o ++ w.at-else-marks-i.result.now) ∷ [])
                c.loop-i.invariant.none_open);
            none_open = w.in_ok-push-2.ensures.open_text;
          })
    ]
