use Rattle.std.proofs.Common.{◌∙◌, ap, sym, length, ◌<◌, arith, replicate}
use Rattle.sc_value.proofs.KeptLemmas.{kept_yes, kept_no, kept_all}
use Rattle.std.proofs.lemmas.List.{get_or-replicate, length-replicate, replicate_more}
use Rattle.sc_columns.proofs.filters.marked_before.Goals as goal
use Rattle.sc_columns.proofs.filters.marked_before.Goals.{then-marks-i, else-marks-i}

pub loop-i-preserved : goal.loop-i-preserved
loop-i-preserved c =
    let m : c.loop-i.i < length c.args.marks.now = omega arith in
    elim c.if-marks-i.branch [
      | then-marks-i w ↦ record {
        few = (let few = c.loop-i.invariant.few in omega (arith, w.count-is));
        kept = λ x. kept_yes c.args.marks.now (replicate c.args.end x) (replicate c.loop-i.count x)
            (replicate c.if-marks-i.count x) _ c.loop-i.i x m
            (omega (arith, length-replicate c.args.end x)) w.if-marks-i.true
            (sym (get_or-replicate c.args.end c.loop-i.i x x (omega arith)))
            (ap (λ n. replicate n x) w.count-is ∙ sym (replicate_more c.loop-i.count x))
            (c.loop-i.invariant.kept x);
      }
      | else-marks-i w ↦ record {
        few = (let few = c.loop-i.invariant.few in omega (arith, w.count-is));
        kept = λ x. kept_no c.args.marks.now (replicate c.args.end x) (replicate c.loop-i.count x)
            (replicate c.if-marks-i.count x) _ c.loop-i.i m
            (omega (arith, length-replicate c.args.end x)) w.if-marks-i.false
            (ap (λ n. replicate n x) w.count-is) (c.loop-i.invariant.kept x);
      }
    ]

pub returns : goal.returns
returns c = λ x. kept_all c.args.marks.now (replicate c.args.end x) (replicate c.loop-i.count x) _
    c.loop-i.i
    (omega (arith, length-replicate c.args.end x)) (c.loop-i.invariant.kept x)
