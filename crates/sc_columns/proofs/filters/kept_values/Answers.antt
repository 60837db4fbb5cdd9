use Rattle.std.proofs.Common.{◌∙◌, ap, length, map, ◌<◌, arith}
use Rattle.std.proofs.lemmas.List.{length-map, map_push}
use Rattle.sc_value.specs.Views.{datum_of}
use Rattle.sc_value.proofs.KeptLemmas.{kept_yes, kept_no, kept_all}
use Rattle.sc_columns.proofs.MarkLemmas.{get_or-mapped}
use Rattle.sc_columns.proofs.filters.kept_values.Goals as goal
use Rattle.sc_columns.proofs.filters.kept_values.Goals.{then-marks-i+in_ok-copy+in_ok-push, else-marks-i}

pub loop-i-preserved : goal.loop-i-preserved
loop-i-preserved c =
    let rows = map datum_of c.args.values.now in
    let m : c.loop-i.i < length c.args.marks.now = omega arith in
    let n : c.loop-i.i < length (map datum_of c.args.values.now) =
    omega (arith, length-map c.args.values.now datum_of) in
    elim c.if-marks-i.branch [
      | then-marks-i+in_ok-copy+in_ok-push w ↦
          kept_yes c.args.marks.now rows (map datum_of c.loop-i.out.items)
          (map datum_of c.if-marks-i.out.items) _ c.loop-i.i (datum_of w.in_ok-copy.field-0) m n
          w.if-marks-i.true
          (get_or-mapped datum_of c.args.values.now c.loop-i.i w.index-values-i.result
          (datum_of w.in_ok-copy.field-0) (omega arith) w.index-values-i.is w.in_ok-copy.ensures)
          (ap (λ v. map datum_of v.items) w.out-is ∙ ap (map datum_of) w.in_ok-push.ensures.items
          ∙ map_push datum_of c.loop-i.out.items w.in_ok-copy.field-0)
          c.loop-i.invariant
      | else-marks-i w ↦
          kept_no c.args.marks.now rows (map datum_of c.loop-i.out.items)
          (map datum_of c.if-marks-i.out.items) _ c.loop-i.i m n
          w.if-marks-i.false (ap (λ v. map datum_of v.items) w.out-is) c.loop-i.invariant
    ]

pub returns : goal.returns
returns c = kept_all c.args.marks.now (map datum_of c.args.values.now)
    (map datum_of c.loop-i.out.items) _ c.loop-i.i
    (omega (arith, length-map c.args.values.now datum_of)) c.loop-i.invariant
