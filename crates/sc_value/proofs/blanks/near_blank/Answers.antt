use Rattle.std.proofs.lemmas.Simd.{length-chunk}
use Rattle.sc_value.proofs.BlankLemmas.{near_blank_is}
use Rattle.sc_value.proofs.blanks.near_blank.Goals as goal
use lib.Lanes.{chunk}

pub returns : goal.returns
returns c =
    near_blank_is (chunk c.args.at 16 c.args.text.now) _
    (length-chunk c.args.at 16 c.args.text.now c.requires) c.lowest_lane.ensures
