use Rattle.std.proofs.Common.{◌∙◌, ap, sym}
use Rattle.sc_lineage.specs.Keyed.{met}
use Rattle.sc_combine.proofs.MeetLemmas.{crossed_is, left_level, right_level}
use Rattle.sc_combine.proofs.meeting.meet.Goals as goal

pub crossed-requires : goal.crossed-requires
crossed-requires c = record {
  left_level = left_level c.args.left.now c.args.right.now c.in_ok-sides.sides
      c.in_ok-sides.ensures;
  right_level = right_level c.args.left.now c.args.right.now c.in_ok-sides.sides
      c.in_ok-sides.ensures;
}

pub returns-in_ok-rows-in-Join : goal.returns-in_ok-rows-in-Join
returns-in_ok-rows-in-Join c =
    c.in_ok-rows-in-Join.ensures.are
    ∙ crossed_is c.args.left.now c.args.right.now c.in_ok-sides.sides c.in_ok-sides.ensures
    ∙ ap (λ kind. met kind c.args.left.now c.args.right.now) (sym c.in-Join.is)
