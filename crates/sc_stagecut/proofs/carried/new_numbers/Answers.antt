use Rattle.std.proofs.Common.{◌∙◌, Global, Vec, ap, sym}
use Rattle.sc_stagecut.specs.declared.carried.Numbered.{Numbered}
use Rattle.sc_stagecut.specs.Carrying.{new_number}
use Rattle.sc_stagecut.proofs.ListLemmas.{filter_map-more_given, filter_map-more_none}
use Rattle.sc_stagecut.proofs.carried.new_numbers.Goals as goal
use Rattle.sc_stagecut.proofs.carried.new_numbers.Goals.{in-Some+in_ok-push, in_default}

pub loop-stage-preserved : goal.loop-stage-preserved
loop-stage-preserved c =
    let give = new_number c.args.next in
    let so_far = c.loop-stage.invariant in
    elim c.match-new_number.branch [
      | in-Some+in_ok-push w ↦ filter_map-more_given give c.args.stages.now c.loop-stage.stage-index
          c.stage-item.result w.in-Some.number c.loop-stage.numbers.items
          c.match-new_number.numbers.items c.loop-stage-test.true c.stage-item.is so_far
          (sym c.new_number.ensures ∙ w.in-Some.is)
          (ap (λ (v : Vec Numbered Global). v.items) w.numbers-is ∙ w.in_ok-push.ensures.items)
      | in_default w ↦ rw w.numbers-is (filter_map-more_none give c.args.stages.now
          c.loop-stage.stage-index c.stage-item.result c.loop-stage.numbers.items
          c.loop-stage-test.true c.stage-item.is so_far
          (sym c.new_number.ensures ∙ w.in_default.is))
    ]
